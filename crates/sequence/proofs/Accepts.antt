-- What an accepted command has passed, and what it does: one law for each command, for every use. Assumes nothing.
use mathlib.Core.Path.{◌≡◌, refl}
use Prim.Native.Nat.{ℕ, ◌+◌, ◌*◌, ◌≤◌, ◌<◌}
use mathlib.Core.Bool.{Bool, true, false, ◌&&◌}
use mathlib.Core.List.{List, [], ◌∷◌}
use lib.ListN.{length, get_or}
use lib.Dec.{leb, ltb, eqb}
use lib.Ieee.{Float, eq}
use borrow.Author.Tests.{leb-true, ltb-true}
use Rattle.stage.proofs.Judged.{and_left, and_right}
use Rattle.areas.specs.Area.{matches}
use Rattle.decide.specs.Append.{final}
use Rattle.decide.specs.declared.family.Family.{Family}
use Rattle.decide.specs.Family.{flag}
use Rattle.decide.specs.Judge.{Lent, fits}
use Rattle.decide.specs.Stack.{popped}
use Rattle.matrix.specs.Math.{rows, laid, times}
use Rattle.layout.specs.Layout.{matrix_at, inexact_at}
use Rattle.change.specs.declared.Change.{Change}
use Rattle.std.specs.Prelude.{Option, Some, None}
use Rattle.change.specs.Decoded.{decoded}
use Rattle.stage.specs.Modify.{moved, edits37, asking, scale_edit, row_change, changed, change_plan, modify_plan, ink_plan}
use Rattle.triangle.specs.Run.{settings, closed}
use Rattle.reason.specs.Reason.{reason}
use Rattle.triangle.specs.Slot.{bit, held, both, culls}
use Rattle.vertex.specs.Vertices.{vertices_at}
use Rattle.stage.specs.declared.State.{State}
use Rattle.stage.specs.Plan.{Table, Edit, keep, grow, Row, Edits, Plan, refuse, does, unless, pick, lent, judge, needs, appended, appending, telling, untouched}
use Rattle.stage.specs.Sound.{state_sound, sound}
use Rattle.stage.specs.With.{with_combined, with_model, with_viewport, with_drawn}
use Rattle.stage.specs.Matrices.{edits1, edits2, model_top, combine, turned, matrix_stores, matrix_plan, force_stores, force_plan, pop_plan, viewport_entry, viewing, viewport_plan}
use Rattle.stage.specs.Load.{LoadTables, settled, settled_state, shared_by, load_edits, load_lent, load_plan}
use Rattle.stage.specs.Rows.{fill_slots}
use Rattle.stage.specs.Draw.{edits89, judge_codes, slots_to, codes_of, culled, cull_plan, explain_plan, near, depth_plan, judge_ever, placed, mark, triangle, run_edit, draw_plan}

-- Q holds of what the plan does, if it is accepted
unfoldable pub Accepted : (List ℕ → State → Edits → Type 0) → Plan → Type 0
Accepted Q (refuse n vs) = Unit {0}
Accepted Q (does vs t e) = Q vs t e

-- each of some tables has room for what it is to hold
abbrev pub Fit : List Lent → Type 0
Fit [] = Unit {0}
Fit (t ∷ ts) = (t.used + t.more ≤ t.room) × Fit ts

-- each of some slots is one of so many and has the mark
abbrev pub Held : ℕ → List Bool → List ℕ → Type 0
Held slots marks [] = Unit {0}
Held slots marks (i ∷ is) = (held slots marks i ≡ true) × Held slots marks is

-- each of some slots is loaded and has a clip code
abbrev pub Coded : State → List ℕ → Type 0
Coded s [] = Unit {0}
Coded s (i ∷ is) = (get_or s.loaded i false ≡ true) × (get_or s.coded i false ≡ true) × Coded s is

module _ (Q : List ℕ → State → Edits → Type 0) where
  pub on-does : (vs : List ℕ) (t : State) (e : Edits) → Q vs t e → Accepted Q (does vs t e)
  unfolding Accepted
  on-does vs t e h = h

  -- the new state under a name
  pub on_then : (vs : List ℕ) (t : State) (e : Edits) → ((u : State) → u ≡ t → Q vs u e) → Accepted Q (does vs t e)
  unfolding Accepted
  on_then vs t e h = h t refl

  pub on-unless : (b : Bool) (n : ℕ) (vs : List ℕ) (p : Plan) → (b ≡ true → Accepted Q p) → Accepted Q (unless b (refuse n vs) p)
  unfolding unless Accepted
  on-unless true n vs p h = h refl
  on-unless false n vs p h = tt

  pub on-pick : (b : Bool) (p q : Plan) → (b ≡ true → Accepted Q p) → (b ≡ false → Accepted Q q) → Accepted Q (pick b p q)
  unfolding pick
  on-pick true p q h k = h refl
  on-pick false p q h k = k refl

  pub on-judge : (n : ℕ) (ls : List Lent) (p : Plan) → (Fit ls → Accepted Q p) → Accepted Q (judge n ls p)
  on-judge n [] p h = h tt
  on-judge n (t ∷ ts) p h = on-unless (fits t) n (t.number ∷ []) (judge n ts p) (λ e. on-judge n ts p (λ k. h (leb-true _ _ e, k)))

  pub on-codes : (s : State) (is : List ℕ) (p : Plan) → (Coded s is → Accepted Q p) → Accepted Q (judge_codes s is p)
  on-codes s [] p h = h tt
  on-codes s (i ∷ is) p h =
      on-unless (get_or s.loaded i false) 3 (i ∷ []) _
      (λ a. on-unless (get_or s.coded i false) 4 (i ∷ []) (judge_codes s is p) (λ b. on-codes s is p (λ k. h (a, b, k))))

  pub on-ever : (slots : ℕ) (s : State) (is : List ℕ) (p : Plan) → (Held slots s.ever is → Accepted Q p) → Accepted Q (judge_ever slots s is p)
  on-ever slots s [] p h = h tt
  on-ever slots s (i ∷ is) p h = on-unless (held slots s.ever i) 6 (i ∷ []) (judge_ever slots s is p) (λ e. on-ever slots s is p (λ k. h (e, k)))

  pub on-asking : (a : Option Change) (slot attribute : ℕ) (p : Change → Plan) → ((c : Change) → a ≡ Some c → Accepted Q (p c)) → Accepted Q (asking a slot attribute p)
  unfolding asking Accepted
  on-asking None slot attribute p h = tt
  on-asking (Some c) slot attribute p h = h c refl

  -- an entry appended unless the last one equals it
  pub on-appending : (k : ℕ) (t : Table (List Float)) (m : List Float) (p : Edit (List Float) → Plan)
      → (matches eq (final t.used) m ≡ true → Accepted Q (p keep))
      → (matches eq (final t.used) m ≡ false → length t.used + 1 ≤ t.room → Accepted Q (p (grow (m ∷ []))))
      → Accepted Q (appending k t m p)
  unfolding appending appended pick
  on-appending k t m p same new = go (matches eq (final t.used) m) refl
    where
      go : (b : Bool) → matches eq (final t.used) m ≡ b → Accepted Q (judge 9 (lent k t (pick b keep (grow (m ∷ []))) ∷ []) (p (pick b keep (grow (m ∷ [])))))
      go true e = on-judge 9 (lent k t keep ∷ []) (p keep) (λ _. same e)
      go false e = on-judge 9 (lent k t (grow (m ∷ [])) ∷ []) (p (grow (m ∷ []))) (λ h. new e h.0)

  -- m becomes the combined matrix
  pub on-combine : (s : State) (t : Table (List Float)) (m : List Float)
      → (matches eq (final t.used) m ≡ true → Q [] (with_combined s m true) (edits1 keep))
      → (matches eq (final t.used) m ≡ false → length t.used + 1 ≤ t.room → Q [] (with_combined s m true) (edits1 (grow (m ∷ []))))
      → Accepted Q (combine s t m)
  unfolding combine
  on-combine s t m same new = on-appending 1 t m _ (λ e. on-does _ _ _ (same e)) (λ e k. on-does _ _ _ (new e k))

  -- a number told: Q is asked of it, whatever the plan tells by itself
  pub on-telling : (ws : List ℕ) (p : Plan) → Accepted (λ _ t e. Q ws t e) p → Accepted Q (telling ws p)
  unfolding telling Accepted
  on-telling ws (refuse m vs) h = tt
  on-telling ws (does vs t e) h = h

  -- 64 bytes, and an area for table 1
  on-reading : (s : State) (t : Table (List Float)) (bytes : List ℕ) (at : ℕ) (p : Plan) → (at + 64 ≤ length bytes → Accepted Q p)
      → Accepted Q (sound s (needs 64 at bytes (judge 8 (lent 1 t keep ∷ []) p)))
  on-reading s t bytes at p h =
      on-unless (state_sound s) 10 [] _
      (λ _. on-unless (leb (at + 64) (length bytes)) 7 _ _ (λ n. on-judge 8 (lent 1 t keep ∷ []) _ (λ _. h (leb-true _ _ n))))

  pub on-pop : (s : State) (t : Table (List Float)) (count : ℕ)
      → (eqb (popped count s.depth) s.depth ≡ true → Q [] s untouched)
      → (
      eqb (popped count s.depth) s.depth ≡ false
      → (s' : State) → s' ≡ with_model s (popped count s.depth) s.stack → Accepted Q (combine s' t (laid (times (model_top s') (rows s'.projection 0))))
      )
      → Accepted Q (pop_plan s t count)
  unfolding pop_plan
  on-pop s t count idle deep =
      on-unless (state_sound s) 10 [] _ (λ _. on-judge 8 (lent 1 t keep ∷ []) _ (λ _. on-pick _ _ _ (λ e. on-does _ _ _ (idle e)) (λ e. deep e _ refl)))

  pub on-viewport : (s : State) (t : Table (List Float)) (bytes : List ℕ) (at : ℕ)
      → (at + 16 ≤ length bytes → matches eq (final t.used) (viewport_entry bytes at) ≡ true → Q [] (with_viewport s (viewport_entry bytes at)) (edits2 keep))
      → (
      at + 16 ≤ length bytes
      → matches eq (final t.used) (viewport_entry bytes at) ≡ false
      → length t.used + 1 ≤ t.room → Q [] (with_viewport s (viewport_entry bytes at)) (edits2 (grow (viewport_entry bytes at ∷ [])))
      )
      → Accepted Q (viewport_plan s t bytes at)
  unfolding viewport_plan viewing
  on-viewport s t bytes at same new =
      on-unless (state_sound s) 10 [] _
      (λ _.
      on-unless (leb (at + 16) (length bytes)) 7 _ _
      (λ n.
      on-judge 8 (lent 2 t keep ∷ []) _
      (λ _. on-appending 2 t (viewport_entry bytes at) _ (λ e. on-does _ _ _ (same (leb-true _ _ n) e)) (λ e k. on-does _ _ _ (new (leb-true _ _ n) e k)))))

  pub on-load : (f : Family) (slots : ℕ) (s : State) (t : LoadTables) (first count : ℕ) (bytes : List ℕ) (at : ℕ)
      → let d = settled f s t.matrices.used t.scales.used t.fogs.used in
      let vs = vertices_at bytes at count in
      (
      first + count ≤ slots
      → at + 16 * count ≤ length bytes
      → Fit (load_lent t (load_edits d s vs))
      → Q (pick s.defined 0 1 ∷ []) (fill_slots (settled_state d s) (rows d.combined 0) (shared_by d s) first s.counts.rows vs) (load_edits d s vs)
      )
      → Accepted Q (load_plan f slots s t first count bytes at)
  unfolding load_plan
  on-load f slots s t first count bytes at h =
      on-unless (state_sound s) 10 [] _
      (λ _.
      on-unless (leb count slots && leb (first + count) slots) 1 _ _
      (λ e.
      on-unless (leb (at + 16 * count) (length bytes)) 7 _ _
      (λ n. on-judge 8 (load_lent t untouched) _ (λ _. on-judge 9 (load_lent t (load_edits (settled f s t.matrices.used t.scales.used t.fogs.used) s (vertices_at bytes at count))) _ (λ k. on-does _ _ _ (h (leb-true _ _ (and_right (leb count slots) (leb (first + count) slots) e)) (leb-true _ _ n) k))))))

  -- the slot is loaded, its row is in use, and tables 3 and 7 have room
  pub on-modify : (slots : ℕ) (s : State) (scales : Table (List Float)) (rows : Table Row) (slot attribute value : ℕ)
      → (
      (c : Change)
      → decoded attribute value ≡ Some c
      → slot < slots
      → get_or s.loaded slot false ≡ true
      → get_or s.row slot 0 < s.counts.rows
      → let m = moved c s slot in
      Fit (lent 3 scales (scale_edit c s) ∷ lent 7 rows (row_change c m s rows slot) ∷ [])
      → Q [] (changed c m s slot) (edits37 (scale_edit c s) (row_change c m s rows slot))
      )
      → Accepted Q (modify_plan slots s scales rows slot attribute value)
  unfolding modify_plan change_plan
  on-modify slots s scales rows slot attribute value h =
      on-unless (state_sound s) 10 [] _
      (λ _.
      on-asking (decoded attribute value) slot attribute _
      (λ c a.
      on-unless (ltb slot slots && get_or s.loaded slot false) 5 _ _
      (λ e.
      on-unless (ltb (get_or s.row slot 0) s.counts.rows) 10 [] _
      (λ b.
      on-judge 8 (lent 3 scales keep ∷ lent 7 rows keep ∷ []) _
      (λ _.
      on-judge 9 (lent 3 scales (scale_edit c s) ∷ lent 7 rows (row_change c (moved c s slot) s rows slot) ∷ []) _
      (λ k. on-does _ _ _ (h c a (ltb-true _ _ (and_left (ltb slot slots) (get_or s.loaded slot false) e)) (and_right (ltb slot slots) (get_or s.loaded slot false) e) (ltb-true _ _ b) k)))))))

  pub on-cull : (slots : ℕ) (s : State) (first last : ℕ)
      → (first ≤ last → last < slots → Coded s (slots_to first last) → Q (bit (culled (codes_of s (slots_to first last))) ∷ []) s untouched)
      → Accepted Q (cull_plan slots s first last)
  unfolding cull_plan
  on-cull slots s first last h =
      on-unless (state_sound s) 10 [] _
      (λ _.
      on-unless (leb first last && ltb last slots) 2 _ _
      (λ e.
      on-codes s (slots_to first last) _
      (λ k. on-does _ _ _ (h (leb-true _ _ (and_left (leb first last) (ltb last slots) e)) (ltb-true _ _ (and_right (leb first last) (ltb last slots) e)) k))))

  pub on-depth : (slots : ℕ) (s : State) (slot threshold : ℕ)
      → (held slots s.loaded slot ≡ true → get_or s.deep slot false ≡ true → Q (bit (near s slot threshold) ∷ []) s untouched)
      → Accepted Q (depth_plan slots s slot threshold)
  unfolding depth_plan
  on-depth slots s slot threshold h =
      on-unless (state_sound s) 10 [] _
      (λ _. on-unless (held slots s.loaded slot) 3 _ _ (λ a. on-unless (get_or s.deep slot false) 4 _ _ (λ b. on-does _ _ _ (h a b))))

  pub on-ink : (s : State) (rows : Table Row) (indices : Table (List ℕ)) (colour : ℕ) → ((vs : List ℕ) → Q vs s untouched) → Accepted Q (ink_plan s rows indices colour)
  unfolding ink_plan
  on-ink s rows indices colour h = on-unless (state_sound s) 10 [] _ (λ _. on-judge 8 (lent 7 rows keep ∷ lent 8 indices keep ∷ []) _ (λ _. on-does _ _ _ (h _)))

  -- both sides culled: nothing. Else the slots were loaded at some time, their rows are in use, the last run is closed, and there is room
  pub on-draw : (f : Family) (slots : ℕ) (s : State) (t u : Table (List ℕ)) (a b c : ℕ) (asked : List ℕ)
      → (both f s.geometry ≡ true → Q [] s untouched)
      → let e = grow (triangle f s a b c) in
      let r = run_edit u.used (length t.used) (settings asked (culls f s.geometry) s.microcode) in
      (
      both f s.geometry ≡ false
      → Held slots s.ever (a ∷ b ∷ c ∷ [])
      → placed s (a ∷ b ∷ c ∷ []) ≡ true
      → closed 0 u.used (length t.used) ≡ true
      → Fit (lent 8 t e ∷ lent 9 u r ∷ [])
      → Q [] (with_drawn s (mark s.drawn (a ∷ b ∷ c ∷ []))) (edits89 e r)
      )
      → Accepted Q (draw_plan f slots s t u a b c asked)
  unfolding draw_plan
  on-draw f slots s t u a b c asked none some =
      on-unless (state_sound s) 10 [] _
      (λ _.
      on-pick (both f s.geometry) _ _ (λ e. on-does _ _ _ (none e))
      (λ n.
      on-ever slots s (a ∷ b ∷ c ∷ []) _
      (λ h.
      on-unless (placed s (a ∷ b ∷ c ∷ [])) 10 [] _
      (λ p.
      on-judge 8 (lent 8 t keep ∷ lent 9 u keep ∷ []) _
      (λ _.
      on-unless (closed 0 u.used (length t.used)) 10 [] _
      (λ q.
      on-judge 9 (lent 8 t (grow (triangle f s a b c)) ∷ lent 9 u (run_edit u.used (length t.used) (settings asked (culls f s.geometry) s.microcode)) ∷ []) _
      (λ k. on-does _ _ _ (some n h p q k))))))))

-- the two that tell how many entries are not exact: what they store is accepted as before, and Q is asked of that number
module _ (Q : List ℕ → State → Edits → Type 0) (s : State) (t : Table (List Float)) (bytes : List ℕ) (at : ℕ) where
  abbrev Told : List ℕ → State → Edits → Type 0
  Told _ u e = Q (inexact_at bytes at ∷ []) u e

  pub on-matrix : (f : Family) (flags : ℕ)
      → (at + 64 ≤ length bytes → (s' : State) → s' ≡ turned (flag f.push flags) (flag f.load flags) (flag f.projection flags) s (matrix_at bytes at) → Accepted Told (combine s' t (laid (times (model_top s') (rows s'.projection 0)))))
      → Accepted Q (matrix_plan f s t flags bytes at)
  unfolding matrix_plan matrix_stores
  on-matrix f flags h = on-telling Q (inexact_at bytes at ∷ []) _ (on-reading Told s t bytes at _ (λ n. h n _ refl))

  pub on-force : (at + 64 ≤ length bytes → Accepted Told (combine s t (laid (matrix_at bytes at)))) → Accepted Q (force_plan s t bytes at)
  unfolding force_plan force_stores
  on-force h = on-telling Q (inexact_at bytes at ∷ []) _ (on-reading Told s t bytes at _ h)

-- the explainer: the test is accepted as before, and Q is asked of the reason
module _ (Q : List ℕ → State → Edits → Type 0) (slots : ℕ) (s : State) (first last : ℕ) where
  abbrev Reasoned : List ℕ → State → Edits → Type 0
  Reasoned _ u e = Q (reason first (codes_of s (slots_to first last))) u e

  pub on-explain : (first ≤ last → last < slots → Coded s (slots_to first last) → Q (reason first (codes_of s (slots_to first last))) s untouched) → Accepted Q (explain_plan slots s first last)
  unfolding explain_plan
  on-explain h = on-telling Q (reason first (codes_of s (slots_to first last))) _ (on-cull Reasoned slots s first last h)
