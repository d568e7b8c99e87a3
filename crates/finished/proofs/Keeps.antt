-- Every accepted command keeps the invariant. Assumes nothing.
use mathlib.Core.Path.{◌≡◌, refl, sym, ap, ◌∙◌, subst}
use mathlib.Core.Logic.{◌≢◌}
use Prim.Native.Nat.{ℕ, ◌≤◌}
use native.Mathlib.Omega.{arith}
use mathlib.Core.Bool.{Bool, true, false, ◌||◌, false≢true}
use mathlib.Core.List.{List, [], ◌∷◌, ◌++◌, map}
use lib.ListN.{length, get_or}
use lib.Dec.{eqb, ltb}
use lib.Ieee.{Float}
use Rattle.decide.specs.declared.family.Family.{Family}
use Rattle.mode.specs.Word.{geometry_after}
use Rattle.decide.specs.Stack.{popped, relit}
use Rattle.layout.specs.Layout.{matrix_at}
use Rattle.matrix.specs.Math.{laid}
use Rattle.triangle.specs.Run.{settings}
use Rattle.triangle.specs.Slot.{held, corners, both, culls, swaps}
use Rattle.vertex.specs.Vertices.{vertices_at}
use Rattle.vertex.proofs.Believe.{length-vertices}
use Rattle.stage.specs.declared.State.{State}
use Rattle.stage.specs.declared.Lights.{Lights}
use Rattle.stage.specs.declared.settings.Microcode.{Microcode}
use Rattle.stage.specs.Plan.{keep, grow, Edits, does, pick, untouched}
use Rattle.stage.specs.Sound.{state_sound}
use Rattle.stage.specs.With.{with_combined}
use Rattle.stage.specs.Matrices.{edits1, edits2, turned, combine, viewport_entry, geometry_plan}
use Rattle.stage.specs.Lights.{texture_plan, fog_plan, number_plan, light_plan, ambient_plan, slot_plan, light_in, lookat_plan, axis_in, switched, microcode_plan}
use Rattle.stage.specs.Draw.{edits89, mark, triangle, run_edit, row_of}
use Rattle.stage.proofs.Judged.{and_right}
use Rattle.sequence.specs.Sequence.{Command, matrix, force, pop, viewport, geometry, texture, fog, number, light, lookat, microcode, load, cull, explain, depth, modify, draw, ink, Book, load_of, plan}
use Rattle.sequence.proofs.Turn.{edit, enter}
use Rattle.sequence.proofs.Accepts.{Accepted, Held, on-does, on_then, on-unless, on-pick, on-combine, on-matrix, on-force, on-pop, on-viewport, on-load, on-modify, on-cull, on-explain, on-depth, on-ink, on-draw}
use Rattle.finished.specs.Shown.{entries_of, Triangle}
use Rattle.finished.specs.Settings.{Settings, Space, with_space, product_of, defined_as, deep, Lamps, with_lamps, turned_to, lamp_to}
use Rattle.finished.specs.Bench.{Bench, no_corner, moved, sets, combines, turns, pops, with_triangle, turned_as, given, draws, act}
use Rattle.finished.proofs.Lists.{pick_true, pick-false}
use Rattle.finished.proofs.Running.{Extended, extended}
use Rattle.finished.proofs.Standing.{Standing, slots-unloaded}
use Rattle.finished.proofs.Drawn.{three-marked, mark-length, with_marks, triangle-drawn}
use Rattle.finished.proofs.Settled.{LightsAt}
use Rattle.sequence.proofs.Counted.{counted-then}
use Rattle.finished.proofs.Ties.{Parts, parts_of, space_of, settings_of, Ties, Inv, matrix-held, matrix-appended, viewport-held, viewport-appended}
use Rattle.finished.proofs.Loading.{load-keeps}
use Rattle.finished.proofs.Modified.{modify-keeps}

-- a matrix command changes no slot, no light and no lookat axis, and the matrices as the bench changes them
turned-parts : (push loads projection : Bool) (s : State) (m : List (List Float)) → parts_of (turned push loads projection s m) ≡ parts_of s
unfolding turned pick
turned-parts push loads true s m = refl
turned-parts push loads false s m = refl

turned-settings : (push loads projection : Bool) (s : State) (m : List (List Float)) → settings_of (turned push loads projection s m) ≡ with_space (settings_of s) (turned_to push loads projection m (space_of s))
unfolding turned turned_to pick
turned-settings push loads true s m = refl
turned-settings push loads false s m = refl

-- a slot that was loaded since opening has the mark
held-mark : (slots : ℕ) (marks : List Bool) (i : ℕ) → held slots marks i ≡ true → get_or marks i false ≡ true
unfolding held
held-mark slots marks i e = and_right (ltb i slots) (get_or marks i false) e

module _ (F : ℕ → Family) (limit : State → ℕ) (seats : ℕ) (few : seats ≤ 256) (k : Book) (inside : limit k.state ≤ seats) (g : Bench) (J : Inv seats k g) where
  -- the family in force, and how many slots a command may name
  abbrev f : Family
  f = F k.state.microcode

  abbrev slots : ℕ
  slots = limit k.state

  -- the bench, its settings read in the state
  abbrev h : Bench
  h = moved g (settings_of k.state) g.values

  I : Inv seats k h
  I = record { count = J.count; settings = refl; ties = J.ties }

  -- what an accepted command owes
  abbrev pub Keeps : Command → List ℕ → State → Edits → Type 0
  Keeps c vs t e = Inv seats (enter t e k) (act F c h)

  -- the invariant, over the parts of a state
  abbrev TiesOf : Parts → Type 0
  TiesOf x = Ties seats (entries_of k) k.rows.used k.drawing.indices.used k.drawing.runs.used x h.values h.slots h.triangles

  -- no table changes, and nothing of the state that is tied to values, slots and triangles
  rests : (t : State) (s : Settings) → parts_of t ≡ parts_of k.state → settings_of t ≡ s → Inv seats (enter t untouched k) (sets s h)
  rests t s e q = record { count = counted-then k k.state untouched I.count; settings = q; ties = subst TiesOf (sym e) I.ties }

  -- no table changes, and other lights l are set
  relights : (t : State) (l : Lights)
      → parts_of t ≡ record { columns = (parts_of k.state).columns; lights = l; lookat = k.state.lookat; unit = k.state.unit }
      → (l.folded ≡ true → l.changed ≡ false → LightsAt k.lights.used l h.values.lights) → Inv seats (enter t untouched k) (sets (settings_of t) h)
  relights t l e new =
      let c = I.ties.current in
      let x : Parts = record { columns = (parts_of k.state).columns; lights = l; lookat = k.state.lookat; unit = k.state.unit } in
      let T : TiesOf x =
      record {
        current = record {
          some-matrix = c.some-matrix;
          matrix = c.matrix;
          some-viewport = c.some-viewport;
          viewport = c.viewport;
          scale = c.scale;
          lights = new;
          lookat = c.lookat;
          mark = c.mark;
          unit = c.unit;
        };
        standing = I.ties.standing;
      } in
      record { count = counted-then k k.state untouched I.count; settings = refl; ties = subst TiesOf (sym e) T }

  -- ---- matrices

  -- m becomes the combined matrix of a state whose matrices are x
  combined-keeps : (c : Command) (s' : State) (x : Space) (m : List Float) → parts_of s' ≡ parts_of k.state → settings_of s' ≡ with_space (settings_of k.state) x
      → act F c h ≡ combines x m h → Accepted (Keeps c) (combine s' k.matrices m)
  combined-keeps c s' x m e q a =
      let z : settings_of (with_combined s' m true) ≡ with_space (settings_of k.state) (defined_as x true) = ap (λ (s : Settings). with_space s (defined_as s.space true)) q in
      on-combine (Keeps c) s' k.matrices m
      (λ y. rw a (record { count = counted-then k k.state (edits1 keep) I.count; settings = z; ties = matrix-held (subst TiesOf (sym e) I.ties) m y }))
      (λ y _. rw a (record { count = counted-then k k.state (edits1 (grow (m ∷ []))) I.count; settings = z; ties = matrix-appended (subst TiesOf (sym e) I.ties) m y }))

  -- the same, where m is the product
  product-keeps : (c : Command) (s' : State) (x : Space) → parts_of s' ≡ parts_of k.state → settings_of s' ≡ with_space (settings_of k.state) x
      → act F c h ≡ combines x (product_of x) h → Accepted (Keeps c) (combine s' k.matrices (product_of (space_of s')))
  product-keeps c s' x e q a =
      let y : product_of (space_of s') ≡ product_of x = ap (λ (s : Settings). product_of s.space) q in
      combined-keeps c s' x (product_of (space_of s')) e q (a ∙ ap (λ (m : List Float). combines x m h) (sym y))

  keeps-matrix : (flags : ℕ) (bytes : List ℕ) (at : ℕ) → Accepted (Keeps (matrix flags bytes at)) (plan F limit (matrix flags bytes at) k)
  unfolding plan act turns
  keeps-matrix flags bytes at =
      on-matrix (Keeps (matrix flags bytes at)) k.state k.matrices bytes at f flags
      (λ _ s' q.
      product-keeps (matrix flags bytes at) s' _ (ap parts_of q ∙ turned-parts _ _ _ k.state (matrix_at bytes at)) (ap settings_of q ∙ turned-settings _ _ _ k.state (matrix_at bytes at)) refl)

  keeps-force : (bytes : List ℕ) (at : ℕ) → Accepted (Keeps (force bytes at)) (plan F limit (force bytes at) k)
  unfolding plan act
  keeps-force bytes at =
      on-force (Keeps (force bytes at)) k.state k.matrices bytes at
      (λ _. combined-keeps (force bytes at) k.state (space_of k.state) (laid (matrix_at bytes at)) refl refl refl)

  keeps-pop : (count : ℕ) → Accepted (Keeps (pop count)) (plan F limit (pop count) k)
  unfolding plan act pops
  keeps-pop count =
      let d : ℕ = popped count k.state.depth in
      let x : Space = deep (space_of k.state) d in
      on-pop (Keeps (pop count)) k.state k.matrices count
      (λ q. rw (pick_true (eqb d k.state.depth) h (combines x (product_of x) h) q) (rests k.state (settings_of k.state) refl refl))
      (λ q s' z. product-keeps (pop count) s' x (ap parts_of z) (ap settings_of z) (pick-false (eqb d k.state.depth) h (combines x (product_of x) h) q))

  keeps-viewport : (bytes : List ℕ) (at : ℕ) → Accepted (Keeps (viewport bytes at)) (plan F limit (viewport bytes at) k)
  unfolding plan act
  keeps-viewport bytes at =
      on-viewport (Keeps (viewport bytes at)) k.state k.viewports bytes at
      (λ _ q. record { count = counted-then k k.state (edits2 keep) I.count; settings = refl; ties = viewport-held I.ties (viewport_entry bytes at) q })
      (λ _ q _. record { count = counted-then k k.state (edits2 (grow (viewport_entry bytes at ∷ []))) I.count; settings = refl; ties = viewport-appended I.ties (viewport_entry bytes at) q })

  -- ---- settings

  keeps-geometry : (off on : ℕ) → Accepted (Keeps (geometry off on)) (plan F limit (geometry off on) k)
  unfolding plan act geometry_plan
  keeps-geometry off on =
      on-unless (Keeps (geometry off on)) (state_sound k.state) 10 [] _
      (λ _.
      on_then (Keeps (geometry off on)) _ _ _
      (λ t q.
      subst (λ (s : Settings). Inv seats (enter t untouched k) (sets s h)) (ap settings_of q)
      (relights t _ (ap parts_of q)
      (λ z c. I.ties.current.lights z (or_left k.state.lights.changed (relit f k.state.geometry (geometry_after off on k.state.geometry)) c)))))
    where
      or_left : (a b : Bool) → a || b ≡ false → a ≡ false
      or_left true b e = absurd (false≢true (sym e))
      or_left false b e = refl

  -- lights that are marked changed
  marked-keeps : (c : Command) (t : State) (l : Lights)
      → parts_of t ≡ record { columns = (parts_of k.state).columns; lights = l; lookat = k.state.lookat; unit = k.state.unit } → l.changed ≡ true
      → act F c h ≡ sets (settings_of t) h → Accepted (Keeps c) (does [] t untouched)
  marked-keeps c t l e m a = on-does (Keeps c) [] t untouched (rw a (relights t l e (λ _ q. absurd (false≢true (sym q ∙ m)))))

  keeps-number : (bytes : ℕ) → Accepted (Keeps (number bytes)) (plan F limit (number bytes) k)
  unfolding plan act number_plan
  keeps-number bytes = on-unless (Keeps (number bytes)) (state_sound k.state) 10 [] _ (λ _. marked-keeps (number bytes) _ _ refl refl refl)

  keeps-light : (slot : ℕ) (bytes : List ℕ) (at : ℕ) → Accepted (Keeps (light slot bytes at)) (plan F limit (light slot bytes at) k)
  unfolding plan act light_plan ambient_plan slot_plan light_in lamp_to
  keeps-light slot bytes at =
      on-unless Q (state_sound k.state) 10 [] _
      (λ _.
      on-pick Q (eqb slot k.state.lights.number) _ _ (λ q. on-unless Q _ 7 _ _ (λ _. marked-keeps (light slot bytes at) _ _ refl refl (ap set-lamps (pick_true _ _ _ q))))
      (λ q. on-unless Q _ 7 _ _ (λ _. marked-keeps (light slot bytes at) _ _ refl refl (ap set-lamps (pick-false _ _ _ q)))))
    where
      set-lamps : Lamps → Bench
      set-lamps l = sets (with_lamps (settings_of k.state) l) h

      Q : List ℕ → State → Edits → Type 0
      Q = Keeps (light slot bytes at)

  keeps-lookat : (slot : ℕ) (bytes : List ℕ) (at : ℕ) → Accepted (Keeps (lookat slot bytes at)) (plan F limit (lookat slot bytes at) k)
  unfolding plan act lookat_plan axis_in
  keeps-lookat slot bytes at =
      on-unless Q (state_sound k.state) 10 [] _
      (λ _.
      on-unless Q _ 7 _ _
      (λ _.
      on-does Q _ _ _
      (record { count = counted-then k k.state untouched I.count; settings = refl; ties = record { current = I.ties.current; standing = I.ties.standing } })))
    where
      Q : List ℕ → State → Edits → Type 0
      Q = Keeps (lookat slot bytes at)

  keeps-microcode : (to : Microcode) → Accepted (Keeps (microcode to)) (plan F limit (microcode to) k)
  unfolding plan act microcode_plan switched
  keeps-microcode to =
      on-unless (Keeps (microcode to)) (state_sound k.state) 10 [] _
      (λ _.
      on-does (Keeps (microcode to)) _ _ _
      (record { count = counted-then k k.state untouched I.count; settings = refl; ties = record { current = I.ties.current; standing = slots-unloaded I.ties.standing 256 few } }))

  -- ---- load and modify

  keeps-load : (first count : ℕ) (bytes : List ℕ) (at : ℕ) → Accepted (Keeps (load first count bytes at)) (plan F limit (load first count bytes at) k)
  unfolding plan act
  keeps-load first count bytes at =
      on-load (Keeps (load first count bytes at)) f slots k.state (load_of k) first count bytes at
      (λ q _ _. load-keeps f seats k h I (vertices_at bytes at count) first (rw (length-vertices bytes at count) (omega (arith, q, inside))))

  keeps-modify : (slot attribute value : ℕ) → Accepted (Keeps (modify slot attribute value)) (plan F limit (modify slot attribute value) k)
  unfolding plan act
  keeps-modify slot attribute value =
      on-modify (Keeps (modify slot attribute value)) slots k.state k.scales k.rows slot attribute value
      (λ c a below lo _ _. rw a (modify-keeps slots seats k h I slot c (omega (arith, below, inside)) lo))

  -- ---- draw

  module _ (a b c material mode colour prim : ℕ) where
    abbrev asked : List ℕ
    asked = material ∷ mode ∷ colour ∷ prim ∷ []

    abbrev six : List ℕ
    six = settings asked (culls f k.state.geometry) k.state.microcode

    -- the marks of the three slots
    abbrev marks : List Bool
    marks = mark k.state.drawn (a ∷ b ∷ c ∷ [])

    -- what stands after a triangle of the slots x, y, z
    abbrev Drew : List (List ℕ) → List (List ℕ) → Triangle → Type 0
    Drew is rs t =
        Standing seats (entries_of k) k.rows.used (k.drawing.indices.used ++ is) rs (with_marks (parts_of k.state).columns marks) h.slots (h.triangles ++ t ∷ [])

    drawn-keeps : Held slots k.state.ever (a ∷ b ∷ c ∷ []) → Extended k.drawing.runs.used (edit (run_edit k.drawing.runs.used (length k.drawing.indices.used) six) k.drawing.runs.used) (length k.drawing.indices.used) six
        → (s : Bool) → swaps f k.state.geometry ≡ s
        → Drew (map (λ (r : ℕ). r ∷ []) (corners s (row_of k.state a) (row_of k.state b) (row_of k.state c)))
        (edit (run_edit k.drawing.runs.used (length k.drawing.indices.used) six) k.drawing.runs.used)
        (record { corners = turned_as s (get_or h.slots a no_corner) (get_or h.slots b no_corner) (get_or h.slots c no_corner); settings = six })
    unfolding pick
    drawn-keeps known X s e = go s
      where
        S : Standing seats (entries_of k) k.rows.used k.drawing.indices.used k.drawing.runs.used (parts_of k.state).columns h.slots h.triangles
        S = I.ties.standing

        ea : get_or k.state.ever a false ≡ true
        ea = held-mark slots k.state.ever a known.0

        eb : get_or k.state.ever b false ≡ true
        eb = held-mark slots k.state.ever b known.1.0

        ec : get_or k.state.ever c false ≡ true
        ec = held-mark slots k.state.ever c known.1.1.0

        long : seats ≤ length marks
        long = rw (mark-length k.state.drawn (a ∷ b ∷ c ∷ [])) S.full.drawn

        apart : (l : ℕ) → get_or marks l false ≡ false → (l ≢ a) × (l ≢ b) × (l ≢ c) × (get_or k.state.drawn l false ≡ false)
        apart = three-marked seats k.state.drawn a b c S.full.drawn (S.within a ea) (S.within b eb) (S.within c ec)

        go : (s : Bool)
            → Drew (map (λ (r : ℕ). r ∷ []) (corners s (row_of k.state a) (row_of k.state b) (row_of k.state c)))
            (edit (run_edit k.drawing.runs.used (length k.drawing.indices.used) six) k.drawing.runs.used)
            (record { corners = turned_as s (get_or h.slots a no_corner) (get_or h.slots b no_corner) (get_or h.slots c no_corner); settings = six })
        go true = triangle-drawn S c b a ec eb ea six _ X marks long (λ l z. let u = apart l z in (u.2, u.1, u.0, u.3))
        go false = triangle-drawn S a b c ea eb ec six _ X marks long apart

    keeps-draw : Accepted (Keeps (draw a b c material mode colour prim)) (plan F limit (draw a b c material mode colour prim) k)
    unfolding plan act draws
    keeps-draw =
        on-draw (Keeps (draw a b c material mode colour prim)) f slots k.state k.drawing.indices k.drawing.runs a b c asked
        (λ q. rw (pick_true (both f k.state.geometry) h _ q) (rests k.state (settings_of k.state) refl refl))
        (λ q held _ z _.
        rw (pick-false (both f k.state.geometry) h (with_triangle h (given f h a b c asked)) q)
        (record {
          count = counted-then k k.state (edits89 (grow (triangle f k.state a b c)) (run_edit k.drawing.runs.used (length k.drawing.indices.used) six)) I.count;
          settings = refl;
          ties = record {
            current = I.ties.current;
            standing = drawn-keeps held (extended k.drawing.runs.used (length k.drawing.indices.used) six refl I.ties.standing.tiled I.ties.standing.whole z) (swaps f k.state.geometry) refl;
          };
        }))

  -- ---- every command

  pub keeps : (c : Command) → Accepted (Keeps c) (plan F limit c k)
  unfolding plan act texture_plan fog_plan
  keeps (matrix flags bytes at) = keeps-matrix flags bytes at
  keeps (force bytes at) = keeps-force bytes at
  keeps (pop count) = keeps-pop count
  keeps (viewport bytes at) = keeps-viewport bytes at
  keeps (geometry off on) = keeps-geometry off on
  keeps (texture tile level on sc tc) =
      on-unless (Keeps (texture tile level on sc tc)) (state_sound k.state) 10 [] _ (λ _. on_then (Keeps (texture tile level on sc tc)) _ _ _ (λ t q. rests t _ (ap parts_of q) (ap settings_of q)))
  keeps (fog multiplier offset) =
      on-unless (Keeps (fog multiplier offset)) (state_sound k.state) 10 [] _ (λ _. on_then (Keeps (fog multiplier offset)) _ _ _ (λ t q. rests t _ (ap parts_of q) (ap settings_of q)))
  keeps (number bytes) = keeps-number bytes
  keeps (light slot bytes at) = keeps-light slot bytes at
  keeps (lookat slot bytes at) = keeps-lookat slot bytes at
  keeps (microcode to) = keeps-microcode to
  keeps (load first count bytes at) = keeps-load first count bytes at
  keeps (cull first last) = on-cull (Keeps (cull first last)) slots k.state first last (λ _ _ _. rests k.state (settings_of k.state) refl refl)
  keeps (explain first last) = on-explain (Keeps (explain first last)) slots k.state first last (λ _ _ _. rests k.state (settings_of k.state) refl refl)
  keeps (depth slot threshold) = on-depth (Keeps (depth slot threshold)) slots k.state slot threshold (λ _ _. rests k.state (settings_of k.state) refl refl)
  keeps (modify slot attribute value) = keeps-modify slot attribute value
  keeps (draw a b c material mode colour prim) = keeps-draw a b c material mode colour prim
  keeps (ink colour) = on-ink (Keeps (ink colour)) k.state k.rows k.drawing.indices colour (λ _. rests k.state (settings_of k.state) refl refl)
