-- Modify keeps the invariant. Assumes nothing.
use mathlib.Core.Path.{◌≡◌, refl, sym, ap, ◌∙◌, subst}
use mathlib.Core.Logic.{◌≢◌}
use Prim.Native.Nat.{ℕ, ◌+◌, ◌-◌, ◌<◌}
use native.Mathlib.Omega.{arith}
use mathlib.Core.Bool.{Bool, true, false, not, ◌&&◌, ◌||◌, false≢true}
use mathlib.Core.List.{List, [], ◌∷◌}
use lib.ListN.{length, get_or, set, length-append}
use lib.Seq.{get_or-append_seam, set-get_or}
use lib.Dec.{eqb}
use lib.Ieee.{Float}
use borrow.Author.Tests.{eqb-false, ne_eqb}
use Rattle.areas.specs.Widths.{s_float, t_float}
use Rattle.decide.specs.Append.{final}
use Rattle.std.specs.Prelude.{Some}
use Rattle.change.specs.declared.Change.{Change}
use Rattle.change.specs.declared.Change.TheVariants.{Colour, Texture, Screen, Depth}
use Rattle.change.specs.declared.judge.Moved.{Moved}
use Rattle.change.specs.Decoded.{floats_after, unit_entry, appends}
use Rattle.stage.specs.Modify.{moved, edits37, scale_edit, row_after, row_edit, row_change, changed}
use Rattle.stage.specs.Plan.{Row, Edit, keep, grow, pick}
use Rattle.sequence.specs.Sequence.{Book}
use Rattle.sequence.proofs.Turn.{edit, enter}
use Rattle.finished.specs.Shown.{Entries, entries_of, shown, shown_by, row_word, no_row}
use Rattle.finished.specs.Bench.{Bench, no_corner, textured, changed_by, scaled, modifies}
use Rattle.finished.proofs.Lists.{final-snoc, set-true}
use Rattle.finished.proofs.Growing.{InUse, Sound, Grown}
use Rattle.finished.proofs.Standing.{Standing, tables-grow, row-filled, row-changed}
use Rattle.finished.proofs.Settled.{longer-if}
use Rattle.sequence.proofs.Counted.{counted-then}
use Rattle.sequence.proofs.Placed.{word_after, reads-word_after}
use Rattle.finished.proofs.Ties.{parts_of, CurrentIn, Inv, grown-same}

-- ---- a row with the change made in it

module _ (t : Entries) (u : ℕ) where
  -- a change that needs the unit scale entry finds it at u - 1
  abbrev UnitAt : Change → Type 0
  UnitAt c = scaled c ≡ true → (u - 1 < length t.scales) × (get_or t.scales (u - 1) [] ≡ unit_entry)

  -- the corner of the words after a change is the corner with the change made
  by_place : (c : Change) (x : List Float) (g : ℕ → ℕ) → UnitAt c → shown_by t (floats_after c x) (word_after c (u - 1) g) ≡ changed_by c (shown_by t x g)
  unfolding shown_by changed_by floats_after pick
  by_place (Colour w) x g h = refl
  by_place (Texture y z) x g h = ap (textured (shown_by t x g) (set (set x s_float y) t_float z)) (h refl).1
  by_place (Screen y z) x g h = refl
  by_place (Depth z own) x g h = refl

  -- and their table numbers are in use
  in-use-then : (c : Change) (g : ℕ → ℕ) → UnitAt c → InUse t g → InUse t (word_after c (u - 1) g)
  in-use-then (Colour w) g h S = record { matrix = S.matrix; viewport = S.viewport; scale = S.scale; lights = omega arith; fog = omega arith; lookat = S.lookat }
  in-use-then (Texture y z) g h S = record { matrix = S.matrix; viewport = S.viewport; scale = (h refl).0; lights = S.lights; fog = S.fog; lookat = λ n. absurd (n refl) }
  in-use-then (Screen y z) g h S = record { matrix = S.matrix; viewport = S.viewport; scale = S.scale; lights = S.lights; fog = S.fog; lookat = S.lookat }
  in-use-then (Depth z own) g h S = record { matrix = S.matrix; viewport = S.viewport; scale = S.scale; lights = S.lights; fog = S.fog; lookat = S.lookat }

  -- the row with the change made shows the corner with the change made, and is sound
  change-shown : (c : Change) (r : Row) → UnitAt c → Sound t r → shown t (row_after c u r) ≡ changed_by c (shown t r)
  unfolding shown
  change-shown c r h s =
      let W = reads-word_after c (u - 1) r.words s.wide in
      let e : shown t (row_after c u r) ≡ shown_by t (floats_after c r.floats) (word_after c (u - 1) (row_word r)) =
      λ i. shown_by t (floats_after c r.floats) (λ j. W.at j i) in
      e ∙ by_place c r.floats (row_word r) h

  change-sound : (c : Change) (r : Row) → UnitAt c → Sound t r → Sound t (row_after c u r)
  change-sound c r h s =
      let W = reads-word_after c (u - 1) r.words s.wide in
      let e : row_word (row_after c u r) ≡ word_after c (u - 1) (row_word r) = λ i j. W.at j i in
      record { wide = W.wide; in_use = subst (InUse t) (sym e) (in-use-then c (row_word r) h s.in_use) }

-- ---- the unit scale entry

-- the bench appends it where the stage does
appends-same : (c : Change) (u : ℕ) → scaled c && not (not (eqb u 0)) ≡ appends c u
unfolding appends
appends-same (Colour w) u = refl
appends-same (Texture x y) u = not-not (eqb u 0)
  where
    not-not : (b : Bool) → not (not b) ≡ b
    not-not true = refl
    not-not false = refl
appends-same (Screen x y) u = refl
appends-same (Depth z own) u = refl

-- a change that needs the entry and does not append it finds it there
there-already : (c : Change) (u : ℕ) → scaled c ≡ true → appends c u ≡ false → u ≢ 0
unfolding appends
there-already (Colour w) u e n = absurd (false≢true e)
there-already (Texture x y) u e n = eqb-false u 0 n
there-already (Screen x y) u e n = absurd (false≢true e)
there-already (Depth z own) u e n = absurd (false≢true e)

or_no : (b : Bool) → b || false ≡ b
or_no true = refl
or_no false = refl

-- it is marked as appended then, where it was or where the change needs it
marked-then : (c : Change) (u n : ℕ) → not (eqb u 0) || scaled c ≡ not (eqb (pick (appends c u) (n + 1) u) 0)
unfolding appends pick
marked-then (Colour w) u n = or_no (not (eqb u 0))
marked-then (Texture x y) u n = go (eqb u 0) refl
  where
    go : (b : Bool) → eqb u 0 ≡ b → not b || true ≡ not (eqb (pick b (n + 1) u) 0)
    go true e = rw (ne_eqb (n + 1) 0 (λ z. omega (arith, z)))
    go false e = rw e
marked-then (Screen x y) u n = or_no (not (eqb u 0))
marked-then (Depth z own) u n = or_no (not (eqb u 0))

-- the place of the entry after a change: u before, n scales before
module _ (c : Change) (u n : ℕ) (ss : List (List Float)) (ne : length ss ≡ n) (old : u ≢ 0 → (u - 1 < length ss) × (get_or ss (u - 1) [] ≡ unit_entry)) where
  abbrev then : ℕ
  then = pick (appends c u) (n + 1) u

  abbrev scales-then : List (List Float)
  scales-then = edit (pick (appends c u) (grow (unit_entry ∷ [])) keep) ss

  unit_then : then ≢ 0 → (then - 1 < length scales-then) × (get_or scales-then (then - 1) [] ≡ unit_entry)
  unfolding pick
  unit_then = go (appends c u)
    where
      go : (b : Bool) → let v = pick b (n + 1) u in let l = edit (pick b (grow (unit_entry ∷ [])) keep) ss in v ≢ 0 → (v - 1 < length l) × (get_or l (v - 1) [] ≡ unit_entry)
      go true z =
          let q : n + 1 - 1 ≡ length ss = omega (arith, ne) in
          (omega (arith, length-append ss (unit_entry ∷ [])), rw q (get_or-append_seam ss unit_entry [] []))
      go false z = old z

  -- a change that needs it has it
  needs-unit : scaled c ≡ true → then ≢ 0
  unfolding pick
  needs-unit e = go (appends c u) refl
    where
      go : (b : Bool) → appends c u ≡ b → pick b (n + 1) u ≢ 0
      go true q z = omega (arith, z)
      go false q z = there-already c u e q z

  last_then : final scales-then ≡ pick (appends c u) unit_entry (final ss)
  unfolding pick
  last_then = go (appends c u)
    where
      go : (b : Bool) → final (edit (pick b (grow (unit_entry ∷ [])) keep) ss) ≡ pick b unit_entry (final ss)
      go true = final-snoc ss unit_entry
      go false = refl

-- ---- the command

module _ (limit seats : ℕ) (k : Book) (h : Bench) (I : Inv seats k h) (slot : ℕ) (c : Change) (inside : slot < seats) (lo : get_or k.state.loaded slot false ≡ true) where
  abbrev m : Moved
  m = moved c k.state slot

  -- the row of the slot, before and after
  abbrev i : ℕ
  i = get_or k.state.row slot 0

  abbrev r : Row
  r = get_or k.rows.used i no_row

  ev : get_or k.state.ever slot false ≡ true
  ev = I.ties.standing.live slot lo

  -- tables 1 to 6 then
  abbrev t : Entries
  t =
      record {
        matrices = k.matrices.used;
        viewports = k.viewports.used;
        scales = edit (scale_edit c k.state) k.scales.used;
        lights = k.lights.used;
        lookats = k.lookats.used;
        fogs = k.fogs.used;
      }

  tables : Grown (entries_of k) t
  tables =
      let g = grown-same (entries_of k) in
      record { matrices = g.matrices; viewports = g.viewports; scales = longer-if _ _ k.scales.used; lights = g.lights; lookats = g.lookats; fogs = g.fogs }

  stands : Standing seats t k.rows.used k.drawing.indices.used k.drawing.runs.used (parts_of k.state).columns h.slots h.triangles
  stands = tables-grow I.ties.standing tables

  -- the unit entry then
  unit-at : UnitAt t m.unit c
  unfolding moved pick
  unit-at e =
      let u = I.ties.current.unit in
      unit_then c k.state.unit k.state.counts.scales k.scales.used I.count.scales u (needs-unit c k.state.unit k.state.counts.scales k.scales.used I.count.scales u e)

  -- the row with the change made
  abbrev r' : Row
  r' = row_after c m.unit r

  sound-then : Sound t r'
  sound-then = change-sound t m.unit c r unit-at (stands.sound i (stands.below slot ev))

  shown-then : shown t r' ≡ changed_by c (get_or h.slots slot no_corner)
  shown-then =
      change-shown t m.unit c r unit-at (stands.sound i (stands.below slot ev)) ∙ ap (changed_by c) (stands.held slot ev)

  -- what holds then of slots, rows and triangles
  abbrev Then : Edit Row → ℕ → Type 0
  Then e n =
      Standing seats t (edit e k.rows.used) k.drawing.indices.used k.drawing.runs.used
      (record { row = set k.state.row slot n; ever = k.state.ever; loaded = k.state.loaded; drawn = set k.state.drawn slot false })
      (set h.slots slot (changed_by c (get_or h.slots slot no_corner))) h.triangles

  standing-then : Then (row_change c m k.state k.rows slot) m.row
  unfolding moved pick
  standing-then = go (get_or k.state.drawn slot false) refl
    where
      go : (b : Bool) → get_or k.state.drawn slot false ≡ b → Then (row_edit b i r') (pick b k.state.counts.rows i)
      go true q =
          rw (shown-then, set-true k.state.ever slot ev, set-true k.state.loaded slot lo, I.count.rows) at (row-filled stands slot r' inside sound-then)
      go false q =
          let z : set k.state.drawn slot false ≡ k.state.drawn = ap (set k.state.drawn slot) (sym q) ∙ set-get_or k.state.drawn slot false in
          rw (set-get_or k.state.row slot 0, z) (rw shown-then at (row-changed stands slot r' lo q sound-then))

  -- the values that the bench holds then
  current-then : CurrentIn t (parts_of (changed c m k.state slot)) (modifies (Some c) slot h).values
  unfolding moved changed modifies pick
  current-then =
      let o = I.ties.current in
      let a : scaled c && not h.values.unit ≡ appends c k.state.unit = ap (λ (b : Bool). scaled c && not b) o.mark ∙ appends-same c k.state.unit in
      record {
        some-matrix = o.some-matrix;
        matrix = o.matrix;
        some-viewport = o.some-viewport;
        viewport = o.viewport;
        scale = rw (a, o.scale) (sym (last_then c k.state.unit k.state.counts.scales k.scales.used I.count.scales o.unit));
        lights = o.lights;
        lookat = o.lookat;
        mark = ap (λ (b : Bool). b || scaled c) o.mark ∙ marked-then c k.state.unit k.state.counts.scales;
        unit = unit_then c k.state.unit k.state.counts.scales k.scales.used I.count.scales o.unit;
      }

  -- THE INVARIANT AFTER A MODIFY
  pub modify-keeps : Inv seats (enter (changed c m k.state slot) (edits37 (scale_edit c k.state) (row_change c m k.state k.rows slot)) k) (modifies (Some c) slot h)
  unfolding changed modifies
  modify-keeps =
      record {
        settings = I.settings;
        count = counted-then k k.state (edits37 (scale_edit c k.state) (row_change c m k.state k.rows slot)) I.count;
        ties = record { current = current-then; standing = standing-then };
      }
