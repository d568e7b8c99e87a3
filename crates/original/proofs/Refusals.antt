-- Where the stage refuses with 2, 3, 4 or 5 the original refuses too, with the same values; no other refusal is the original's. Assumes nothing.
use mathlib.Core.Path.{◌≡◌, refl, sym, ap, ap₂, ◌∙◌}
use Prim.Native.Nat.{ℕ, zero, suc, ◌+◌, ◌-◌, ◌≤◌, ◌<◌}
use native.Mathlib.Omega.{arith}
use mathlib.Core.Bool.{Bool, true, false, not, ◌&&◌, ◌||◌, false≢true}
use mathlib.Core.List.{List, [], ◌∷◌, map}
use mathlib.Core.Option.{Option, none, some}
use lib.ListN.{length, get_or}
use lib.Bits.{bit_and}
use lib.Dec.{leb, ltb}
use lib.Ieee.{Float}
use borrow.Author.Tests.{ltb-true, ltb-false, le-leb, lt-leb}
use Rattle.decide.specs.Judge.{Lent, fits}
use Rattle.change.specs.declared.Change.{Change}
use Rattle.std.specs.Prelude.{Option as Option', Some, None}
use Rattle.change.specs.Decoded.{decoded}
use Rattle.triangle.specs.Slot.{held, culls}
use Rattle.stage.specs.declared.State.{State}
use Rattle.stage.specs.Modify.{moved, scale_edit, row_change, asking, change_plan, modify_plan}
use Rattle.stage.specs.Plan.{Table, Edit, keep, grow, Edits, Plan, refuse, does, unless, pick, lent, judge, appended, appending, untouched, telling}
use Rattle.stage.specs.Sound.{state_sound}
use Rattle.stage.specs.Matrices.{combine, matrix_stores, matrix_plan, force_stores, force_plan, pop_plan, viewing, viewport_plan, geometry_plan}
use Rattle.stage.specs.Lights.{texture_plan, fog_plan, number_plan, light_plan, ambient_plan, slot_plan, lookat_plan, microcode_plan}
use Rattle.decide.specs.Family.{f3dex2}
use Rattle.triangle.specs.Run.{settings}
use Rattle.vertex.specs.Vertices.{vertices_at}
use Rattle.stage.specs.Load.{settled, load_edits, load_lent, load_plan}
use Rattle.stage.specs.Draw.{slots_from, judge_codes, cull_plan, depth_plan, judge_ever, triangle, run_edit, draw_plan}
use Rattle.sequence.specs.Sequence.{Command, matrix, force, pop, viewport, geometry, texture, fog, number, light, lookat, microcode, load, cull, explain, depth, modify, draw, ink, Book, load_of, plan}
use Rattle.original.specs.Drawing.{common, cull_display_list, branch_z, known, modify_vertex}
use Rattle.original.specs.Walk.{World, execute, yes_no}
use Rattle.original.specs.Relation.{Offsets, is_some, Same}
use Rattle.original.specs.Domain.{stage, ours, Beside}
use Rattle.original.proofs.Tests.{there}
use Rattle.original.proofs.Modifies.{mark-at, is_known, known_is}

-- Q holds of the refusal, if the plan is one
unfoldable pub Refused : (ℕ → List ℕ → Type 0) → Plan → Type 0
Refused Q (refuse n vs) = Q n vs
Refused Q (does vs t e) = Unit {0}

module _ (Q : ℕ → List ℕ → Type 0) where
  re-does : (vs : List ℕ) (t : State) (e : Edits) → Refused Q (does vs t e)
  unfolding Refused
  re-does vs t e = tt

  re-unless : (b : Bool) (n : ℕ) (vs : List ℕ) (p : Plan) → (b ≡ false → Q n vs) → (b ≡ true → Refused Q p) → Refused Q (unless b (refuse n vs) p)
  unfolding unless Refused
  re-unless true n vs p f g = g refl
  re-unless false n vs p f g = f refl

  re-pick : (b : Bool) (p q : Plan) → Refused Q p → Refused Q q → Refused Q (pick b p q)
  unfolding pick
  re-pick true p q f g = f
  re-pick false p q f g = g

  re-judge : (n : ℕ) (ls : List Lent) (p : Plan) → ((vs : List ℕ) → Q n vs) → Refused Q p → Refused Q (judge n ls p)
  re-judge n [] p f g = g
  re-judge n (t ∷ ts) p f g = re-unless (fits t) n (t.number ∷ []) (judge n ts p) (λ _. f (t.number ∷ [])) (λ _. re-judge n ts p f g)

  re-appending : (k : ℕ) (t : Table (List Float)) (m : List Float) (p : Edit (List Float) → Plan) → ((vs : List ℕ) → Q 9 vs) → ((e : Edit (List Float)) → Refused Q (p e)) → Refused Q (appending k t m p)
  unfolding appending
  re-appending k t m p f g = re-judge 9 (lent k t (appended t m) ∷ []) (p (appended t m)) f (g (appended t m))

  re-combine : (s : State) (t : Table (List Float)) (m : List Float) → ((vs : List ℕ) → Q 9 vs) → Refused Q (combine s t m)
  unfolding combine
  re-combine s t m f = re-appending 1 t m _ f (λ e. re-does _ _ _)

  re-telling : (ws : List ℕ) (p : Plan) → Refused Q p → Refused Q (telling ws p)
  unfolding telling Refused
  re-telling ws (refuse m vs) h = h
  re-telling ws (does vs t e) h = tt

  re-ever : (slots : ℕ) (s : State) (is : List ℕ) (p : Plan) → ((vs : List ℕ) → Q 6 vs) → Refused Q p → Refused Q (judge_ever slots s is p)
  re-ever slots s [] p f g = g
  re-ever slots s (i ∷ is) p f g = re-unless (held slots s.ever i) 6 (i ∷ []) _ (λ _. f (i ∷ [])) (λ _. re-ever slots s is p f g)

-- at most, and not above
leb-not : (a b : ℕ) → leb a b ≡ not (ltb b a)
leb-not a b = go (ltb b a) refl
  where
    go : (t : Bool) → ltb b a ≡ t → leb a b ≡ not t
    go true e = lt-leb a b (ltb-true b a e)
    go false e = le-leb a b (ltb-false b a e)

opposite : (a b : Bool) → not a || not b ≡ not (a && b)
opposite true b = refl
opposite false b = refl

-- one of three tests holds
either-last : (a b c : Bool) → c ≡ true → a || (b || c) ≡ true
either-last true b c e = refl
either-last false true c e = refl
either-last false false c e = e

either_first : (a b c : Bool) → a || b ≡ true → a || (b || c) ≡ true
either_first true b c e = refl
either_first false true c e = refl
either_first false false c e = absurd (false≢true e)

-- ---- the two tests and modify

module _ {o : Offsets} {k : Book} {w : World} (N : Same o k w) where
  loaded-is : (i : ℕ) → get_or w.rsp.slots.loaded i false ≡ get_or k.state.loaded i false
  loaded-is i = ap (λ (l : List Bool). get_or l i false) (sym N.held.slots.loaded)

  -- an option under a cleared mark
  absent : {A : Type 0} (l : List (Option A)) (i : ℕ) → get_or (map is_some l) i false ≡ false → get_or l i none ≡ none
  absent {A} l i h = go (get_or l i none) refl
    where
      go : (x : Option A) → get_or l i none ≡ x → get_or l i none ≡ none
      go none e = e
      go (some y) e = absurd (false≢true (sym h ∙ mark-at l i ∙ ap is_some e))

  -- a slot that is not held is over the last, or not loaded
  unheld : (slot : ℕ) → leb 256 slot || not (get_or w.rsp.slots.loaded slot false) ≡ not (ltb slot 256 && get_or k.state.loaded slot false)
  unheld slot = rw (leb-not 256 slot, loaded-is slot) (opposite (ltb slot 256) (get_or k.state.loaded slot false))

  -- what is owed of a command
  abbrev Too : Command → ℕ → List ℕ → Type 0
  Too c n vs = 2 ≤ n → n ≤ 5 → Beside n vs (execute c w)

  -- a number that is not one of the four
  not-one : (c : Command) (n : ℕ) → 5 < n → (vs : List ℕ) → Too c n vs
  not-one c n h vs a b = absurd (omega arith)

  abbrev Q : ℕ → ℕ → ℕ → ℕ → List ℕ → Type 0
  Q n i code m vs = Beside m vs (yes_no w (common w.rsp.slots n i code))

  refused-map : (A B : ℕ → List ℕ → Type 0) → ((n : ℕ) (vs : List ℕ) → A n vs → B n vs) → (p : Plan) → Refused A p → Refused B p
  unfolding Refused
  refused-map A B f (refuse n vs) h = f n vs h
  refused-map A B f (does vs t e) h = h

  -- the slots in turn: the first that is not loaded, or has no code
  codes-refused : (n i code : ℕ) (vs : List ℕ) → Refused (Q n i code) (judge_codes k.state (slots_from i n) (does vs k.state untouched))
  unfolding common
  codes-refused zero i code vs = re-does _ _ _ _
  codes-refused (suc n) i code vs =
      re-unless (Q (suc n) i code) (get_or k.state.loaded i false) 3 (i ∷ []) _
      (λ e. rw (loaded-is i ∙ e) (refl, refl))
      (λ e.
      re-unless (Q (suc n) i code) (get_or k.state.coded i false) 4 (i ∷ []) _
      (λ f. rw (loaded-is i ∙ e, absent w.rsp.slots.clip_codes i (ap (λ (l : List Bool). get_or l i false) (sym N.held.slots.coded) ∙ f)) (refl, refl))
      (λ f.
      let t = there w.rsp.slots.clip_codes i (ap (λ (l : List Bool). get_or l i false) (sym N.held.slots.coded) ∙ f) in
      refused-map (Q n (i + 1) (bit_and code t.value)) (Q (suc n) i code) (λ m us h. rw (loaded-is i ∙ e, t.is) h) _ (codes-refused n (i + 1) (bit_and code t.value) vs)))

  cull-refused : (first last : ℕ) → Refused (Too (cull first last)) (stage (cull first last) k)
  unfolding plan cull_plan execute cull_display_list
  cull-refused first last =
      re-unless _ (state_sound k.state) 10 [] _ (λ _. not-one (cull first last) 10 (omega arith) [])
      (λ _.
      re-unless _ (leb first last && ltb last 256) 2 (first ∷ last ∷ []) _
      (λ e _ _. rw (outside e) (refl, refl))
      (λ e. refused-map _ _ (λ n vs h _ _. rw (inside e) h) _ (codes-refused (last + 1 - first) first 0x0f _)))
    where
      not-not : (a : Bool) → not (not a) ≡ a
      not-not true = refl
      not-not false = refl

      same : ltb last first || leb 256 last ≡ not (leb first last && ltb last 256)
      same = ap₂ (λ (a b : Bool). a || b) (sym (ap not (leb-not first last) ∙ not-not (ltb last first))) (leb-not 256 last) ∙ opposite (leb first last) (ltb last 256)

      outside : leb first last && ltb last 256 ≡ false → ltb last first || leb 256 last ≡ true
      outside e = same ∙ ap not e

      inside : leb first last && ltb last 256 ≡ true → ltb last first || leb 256 last ≡ false
      inside e = same ∙ ap not e

  depth-refused : (slot threshold : ℕ) → Refused (Too (depth slot threshold)) (stage (depth slot threshold) k)
  unfolding plan depth_plan execute branch_z held
  depth-refused slot threshold =
      re-unless _ (state_sound k.state) 10 [] _ (λ _. not-one (depth slot threshold) 10 (omega arith) [])
      (λ _.
      re-unless _ (ltb slot 256 && get_or k.state.loaded slot false) 3 (slot ∷ []) _ (λ e _ _. rw (unheld slot ∙ ap not e) (refl, refl))
      (λ e.
      re-unless _ (get_or k.state.deep slot false) 4 (slot ∷ []) _
      (λ f _ _. rw (unheld slot ∙ ap not e, absent w.rsp.slots.screen_z slot (ap (λ (l : List Bool). get_or l slot false) (sym N.held.slots.deep) ∙ f)) (refl, refl))
      (λ _. re-does _ _ _ _)))

  -- no change is asked for; or one is, of a slot that is not held
  asked-refused : (slot attribute value : ℕ) (a : Option' Change) → decoded attribute value ≡ a → Refused (Too (modify slot attribute value)) (asking a slot attribute (change_plan 256 k.state k.scales k.rows slot attribute))
  unfolding execute modify_vertex asking change_plan Refused
  asked-refused slot attribute value None e = λ _ _. rw (either-last (leb 256 slot) (not (get_or w.rsp.slots.loaded slot false)) (not (known attribute)) (ap not (known_is attribute value ∙ ap is_known e))) (refl, refl)
  asked-refused slot attribute value (Some x) e =
      re-unless _ (ltb slot 256 && get_or k.state.loaded slot false) 5 (slot ∷ attribute ∷ []) _
      (λ f _ _. rw (either_first (leb 256 slot) (not (get_or w.rsp.slots.loaded slot false)) (not (known attribute)) (unheld slot ∙ ap not f)) (refl, refl))
      (λ _.
      re-unless _ (ltb (get_or k.state.row slot 0) k.state.counts.rows) 10 [] _ (λ _. not-one (modify slot attribute value) 10 (omega arith) [])
      (λ _.
      re-judge _ 8 (lent 3 k.scales keep ∷ lent 7 k.rows keep ∷ []) _ (not-one (modify slot attribute value) 8 (omega arith))
      (re-judge _ 9 (lent 3 k.scales (scale_edit x k.state) ∷ lent 7 k.rows (row_change x (moved x k.state slot) k.state k.rows slot) ∷ []) _ (not-one (modify slot attribute value) 9 (omega arith)) tt)))

  modify-refused : (slot attribute value : ℕ) → Refused (Too (modify slot attribute value)) (stage (modify slot attribute value) k)
  unfolding plan modify_plan
  modify-refused slot attribute value =
      re-unless _ (state_sound k.state) 10 [] _ (λ _. not-one (modify slot attribute value) 10 (omega arith) []) (λ _. asked-refused slot attribute value (decoded attribute value) refl)

  -- ---- the others are never refused with one of the four

  data-refused : (c : Command) (n : ℕ) (b : Bool) (p : Plan) → Refused (Too c) p → Refused (Too c) (unless b (refuse 7 (n ∷ [])) p)
  data-refused c n b p h = re-unless _ b 7 (n ∷ []) p (λ _. not-one c 7 (omega arith) (n ∷ [])) (λ _. h)

  sound-refused : (c : Command) (p : Plan) → Refused (Too c) p → Refused (Too c) (unless (state_sound k.state) (refuse 10 []) p)
  sound-refused c p h = re-unless _ (state_sound k.state) 10 [] p (λ _. not-one c 10 (omega arith) []) (λ _. h)

  short-refused : (c : Command) (ls : List Lent) (p : Plan) → Refused (Too c) p → Refused (Too c) (judge 8 ls p)
  short-refused c ls p h = re-judge _ 8 ls p (not-one c 8 (omega arith)) h

  quiet : (c : Command) (vs : List ℕ) (t : State) (e : Edits) → Refused (Too c) (does vs t e)
  quiet c vs t e = re-does _ vs t e

  -- WHERE THE STAGE REFUSES WITH 2, 3, 4 OR 5, THE ORIGINAL REFUSES TOO, WITH THE SAME VALUES
  pub refused-too : (c : Command) → ours c ≡ false → Refused (Too c) (stage c k)
  unfolding plan matrix_plan matrix_stores force_plan force_stores pop_plan viewport_plan viewing geometry_plan texture_plan fog_plan number_plan light_plan ambient_plan slot_plan lookat_plan microcode_plan load_plan draw_plan
  refused-too (matrix flags bytes at) q =
      let c : Command = matrix flags bytes at in
      re-telling _ _ _ (sound-refused c _ (data-refused c _ _ _ (short-refused c (lent 1 k.matrices keep ∷ []) _ (re-combine _ _ _ _ (not-one c 9 (omega arith))))))
  refused-too (force bytes at) q =
      let c : Command = force bytes at in
      re-telling _ _ _ (sound-refused c _ (data-refused c _ _ _ (short-refused c (lent 1 k.matrices keep ∷ []) _ (re-combine _ _ _ _ (not-one c 9 (omega arith))))))
  refused-too (pop count) q =
      let c : Command = pop count in
      sound-refused c _ (short-refused c (lent 1 k.matrices keep ∷ []) _ (re-pick _ _ _ _ (quiet c _ _ _) (re-combine _ _ _ _ (not-one c 9 (omega arith)))))
  refused-too (viewport bytes at) q =
      let c : Command = viewport bytes at in
      sound-refused c _ (data-refused c _ _ _ (short-refused c (lent 2 k.viewports keep ∷ []) _ (re-appending _ _ _ _ _ (not-one c 9 (omega arith)) (λ e. quiet c _ _ _))))
  refused-too (geometry off on) q = sound-refused (geometry off on) _ (quiet (geometry off on) _ _ _)
  refused-too (texture tile level on sc tc) q = sound-refused (texture tile level on sc tc) _ (quiet (texture tile level on sc tc) _ _ _)
  refused-too (fog multiplier offset) q = sound-refused (fog multiplier offset) _ (quiet (fog multiplier offset) _ _ _)
  refused-too (number bytes) q = sound-refused (number bytes) _ (quiet (number bytes) _ _ _)
  refused-too (light slot bytes at) q =
      let c : Command = light slot bytes at in
      sound-refused c _ (re-pick _ _ _ _ (data-refused c _ _ _ (quiet c _ _ _)) (data-refused c _ _ _ (quiet c _ _ _)))
  refused-too (lookat slot bytes at) q = let c : Command = lookat slot bytes at in sound-refused c _ (data-refused c _ _ _ (quiet c _ _ _))
  refused-too (microcode to) q = sound-refused (microcode to) _ (quiet (microcode to) _ _ _)
  refused-too (load first count bytes at) q =
      let c : Command = load first count bytes at in
      sound-refused c _
      (re-unless _ (leb count 256 && leb (first + count) 256) 1 (count ∷ first ∷ []) _ (λ _ a _. absurd (omega arith))
      (λ _. data-refused c _ _ _ (short-refused c (load_lent (load_of k) untouched) _ (re-judge _ 9 (load_lent (load_of k) (load_edits (settled f3dex2 k.state k.matrices.used k.scales.used k.fogs.used) k.state (vertices_at bytes at count))) _ (not-one c 9 (omega arith)) (quiet c _ _ _)))))
  refused-too (cull first last) q = cull-refused first last
  refused-too (explain first last) q = absurd (false≢true (sym q))
  refused-too (depth slot threshold) q = depth-refused slot threshold
  refused-too (modify slot attribute value) q = modify-refused slot attribute value
  refused-too (draw a b c material mode colour prim) q =
      let d : Command = draw a b c material mode colour prim in
      sound-refused d _
      (re-pick _ _ _ _ (quiet d _ _ _)
      (re-ever _ 256 k.state (a ∷ b ∷ c ∷ []) _ (not-one d 6 (omega arith))
      (re-unless _ _ 10 [] _ (λ _. not-one d 10 (omega arith) [])
      (λ _. short-refused d (lent 8 k.drawing.indices keep ∷ lent 9 k.drawing.runs keep ∷ []) _ (re-unless _ _ 10 [] _ (λ _. not-one d 10 (omega arith) []) (λ _. re-judge _ 9 (lent 8 k.drawing.indices (grow (triangle f3dex2 k.state a b c)) ∷ lent 9 k.drawing.runs (run_edit k.drawing.runs.used (length k.drawing.indices.used) (settings (material ∷ mode ∷ colour ∷ prim ∷ []) (culls f3dex2 k.state.geometry) k.state.microcode)) ∷ []) _ (not-one d 9 (omega arith)) (quiet d _ _ _)))))))
  refused-too (ink colour) q = absurd (false≢true (sym q))
