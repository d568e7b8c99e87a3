-- The plan of a modify is what its judge's verdict stands for. Assumes nothing.
use mathlib.Core.Path.{◌≡◌, refl, sym, ap, ◌∙◌}
use Prim.Native.Nat.{ℕ, ◌+◌, ◌-◌, ◌*◌, ◌%◌, ◌≤◌, ◌<◌}
use native.Mathlib.Nat.{add-zero}
use native.Mathlib.Omega.{arith}
use mathlib.Core.Bool.{Bool, true, false, false≢true, ◌&&◌, and-true, and-false}
use mathlib.Core.List.{List, [], ◌∷◌}
use lib.ListN.{length, get_or, set}
use lib.Dec.{ltb}
use lib.Ieee.{Float, nan}
use borrow.Author.Tests.{lt-ltb, le-ltb, ltb-true, ltb-false}
use Rattle.std.specs.Prelude.{Option, Some, None, Ok, Err}
use Rattle.areas.specs.Widths.{scale_width, float_width, word_width}
use Rattle.areas.specs.Area.{part, write}
use Rattle.areas.proofs.Tables.{length-entries}
use Rattle.change.specs.declared.Change.{Change}
use Rattle.change.specs.declared.judge.Slot.{Slot}
use Rattle.change.specs.declared.judge.Tables.{Tables}
use Rattle.change.specs.declared.judge.Moved.{Moved}
use Rattle.change.specs.declared.judge.Refusal.{Refusal}
use Rattle.change.specs.declared.judge.Refusal.TheVariants.{NoRow, Short, Full}
use Rattle.change.specs.declared.judge.Refusal.TheVariants as refusal
use Rattle.change.specs.Decoded.{decoded, floats_after, words_after, depth_after, unit_entry, appends}
use Rattle.change.specs.Steps.{Verdict, comes_to, roomy, change_judged, remade}
use Rattle.change.proofs.Accepted.{goes, through, lies, left_alone, carried-out}
use Rattle.stage.specs.declared.State.{State}
use Rattle.stage.specs.declared.Answer.{Answer}
use Rattle.stage.specs.declared.Answer.TheVariants.{Done, BadState}
use Rattle.stage.specs.Answers.{number, values}
use Rattle.stage.specs.Plan.{Table, Edit, keep, grow, patch, Row, Plan, refuse, does, unless, pick, more, table, outcome, carry, row_table}
use Rattle.stage.specs.Sound.{state_sound}
use Rattle.stage.specs.With.{with_counts, with_unit, with_row, with_drawn, with_z}
use Rattle.stage.specs.Modify.{areas37, edits37, asking, scale_edit, row_edit, row_change, moved, changed, change_plan, modify_plan}
use Rattle.stage.specs.Steps.{modify_answer, slot_looked, tables_looked, counts_to}
use Rattle.stage.proofs.Cascade.{refused, passed}
use Rattle.stage.proofs.RowEntries.{length-rows, row_at}

-- one entry appended, or none, as a count has it
grown : {E : Type 0} (b : Bool) (n : ℕ) (x : E) (e : Edit E) → more e ≡ 0 → n + more (pick b (grow (x ∷ [])) e) ≡ pick b (n + 1) n
unfolding pick
grown true n x e h = refl
grown false n x e h = rw (h, add-zero)

-- the count tells whether one is appended
tells : (b : Bool) (n : ℕ) → ltb n (pick b (n + 1) n) ≡ b
unfolding pick
tells true n = lt-ltb n (n + 1) (omega arith)
tells false n = le-ltb n n (omega arith)

-- the plan that a verdict stands for
abbrev pub planned : State → Table Row → ℕ → ℕ → Verdict → Plan
planned s rows slot attribute (Err r) = refuse (number (modify_answer slot attribute r)) (values (modify_answer slot attribute r))
planned s rows slot attribute (Ok (c, m)) = does [] (changed c m s slot) (edits37 (scale_edit c s) (row_change c m s rows slot))

-- a test of the judge is the same test of the plan
step : (s : State) (rows : Table Row) (slot attribute : ℕ) (a b : Bool) (r : Refusal) (v : Verdict) (p : Plan) → a ≡ b → p ≡ planned s rows slot attribute v
    → unless b (refuse (number (modify_answer slot attribute r)) (values (modify_answer slot attribute r))) p ≡ planned s rows slot attribute (unless a (Err r) v)
unfolding unless
step s rows slot attribute a b r v p e h = rw e (by b)
  where
    by : (b : Bool) → unless b (refuse (number (modify_answer slot attribute r)) (values (modify_answer slot attribute r))) p ≡ planned s rows slot attribute (unless b (Err r) v)
    by true = h
    by false = refl

-- what the numbers of an accepted change come to in the state's counts and in the areas, by whether an entry is appended to table 3 and to table 7
settled : (a d : Bool) (i : ℕ) (r : Row) (s t : State) (l f : List Float) (w : List ℕ)
    → let n3 = s.counts.scales in
    let n7 = s.counts.rows in
    let m : Moved = record { row = pick d n7 i; rows = pick d (n7 + 1) n7; scales = pick a (n3 + 1) n3; unit = 0 } in
    outcome (record { state = with_counts t (counts_to m s.counts); answer = Done }) (pick a (write scale_width n3 (unit_entry ∷ []) l) l, write float_width m.row (r.floats ∷ []) f, write word_width m.row (r.words ∷ []) w)
    ≡ carry areas37 (does [] t (edits37 (pick a (grow (unit_entry ∷ [])) keep) (row_edit d i r))) s (l, f, w)
unfolding pick carry
settled true true i r s t l f w = refl
settled true false i r s t l f w = refl
settled false true i r s t l f w = refl
settled false false i r s t l f w = refl

-- a slot that there is stands in the columns at its own number
pub mod-slot : (slot : ℕ) → slot < 256 → slot % 256 ≡ slot
mod-slot slot h = omega arith

-- the verdict x on what the code looks at: the columns where the slot's number leads within them, and a mark that tells of no slot beyond
pub looked : (s : State) (slot : ℕ) (k j : Option Change) (t u : Tables) (b : Bool) (v x : Verdict) → k ≡ j → t ≡ u → (slot < 256 → b ≡ get_or s.loaded slot false)
    → v ≡ change_judged k (record { loaded = b && ltb slot 256; drawn = get_or s.drawn (slot % 256) false; row = get_or s.row (slot % 256) 0 }) t → v ≡ x → change_judged j (slot_looked 256 s slot) u ≡ x
unfolding change_judged unless
looked s slot k j t u b v x ek et eb e d = by (ltb slot 256) refl ∙ sym e ∙ d
  where
    beyond : (j : Option Change) → change_judged j (record { loaded = false; drawn = get_or s.drawn slot false; row = get_or s.row slot 0 }) u ≡ change_judged j (record { loaded = false; drawn = get_or s.drawn (slot % 256) false; row = get_or s.row (slot % 256) 0 }) u
    beyond None = refl
    beyond (Some c) = refl

    by : (q : Bool) → ltb slot 256 ≡ q
        → change_judged j (slot_looked 256 s slot) u ≡ change_judged k (record { loaded = b && ltb slot 256; drawn = get_or s.drawn (slot % 256) false; row = get_or s.row (slot % 256) 0 }) t
    by true h =
        let i : slot < 256 = ltb-true slot 256 h in
        rw (h, eb i, mod-slot slot i, ek, et, and-true)
    by false h = rw (h, ek, et, and-false) (beyond j)

-- the judge's verdict on a change asked for, and what is planned once the state is sound
abbrev pub verdict : ℕ → State → List Float → List Float → List ℕ → ℕ → Option Change → Verdict
verdict slots s l f w slot k = change_judged k (slot_looked slots s slot) (tables_looked s (table scale_width s.counts.scales l) (row_table s.counts.rows f w))

abbrev pub plan : ℕ → State → List Float → List Float → List ℕ → ℕ → ℕ → Option Change → Plan
plan slots s l f w slot attribute k = asking k slot attribute (change_plan slots s (table scale_width s.counts.scales l) (row_table s.counts.rows f w) slot attribute)

-- the row that an accepted change writes stands at the slot's row or behind it, and lies in both areas
pub written : (slots : ℕ) (s : State) (l f : List Float) (w : List ℕ) (slot : ℕ) (k : Option Change) (c : Change) (m : Moved) → verdict slots s l f w slot k ≡ Ok (c, m)
    → (get_or s.row slot 0 ≤ m.row) × (m.row * float_width + float_width ≤ length f) × (m.row * word_width + word_width ≤ length w)
written slots s l f w slot k c m e = lies k (slot_looked slots s slot) _ c m f w refl e

module _ (slots : ℕ) (s : State) (l f : List Float) (w : List ℕ) (slot attribute : ℕ) where
  -- THE PLAN OF A MODIFY IS WHAT THE VERDICT STANDS FOR
  pub verdict-plan : (k : Option Change) → plan slots s l f w slot attribute k ≡ planned s (row_table s.counts.rows f w) slot attribute (verdict slots s l f w slot k)
  unfolding asking change_plan change_judged roomy comes_to moved
  verdict-plan None = refl
  verdict-plan (Some c) =
      let n7 = s.counts.rows in
      let go = step s (row_table n7 f w) slot attribute in
      go _ _ refusal.Unknown _ _ refl
      (go _ _ NoRow _ _ refl
      (go _ _ (Short 3) _ _ (rw (length-entries, add-zero))
      (go _ _ (Short 7) _ _ (rw (length-rows n7 f w, add-zero))
      (go _ _ (Full 3) _ _ (rw (length-entries, grown (appends c s.unit) s.counts.scales unit_entry keep refl))
      (go _ _ (Full 7) _ _ (rw (length-rows n7 f w, grown (get_or s.drawn slot false) n7 _ (patch (get_or s.row slot 0) _) refl)) refl)))))

  -- a slot that there is not is refused, whatever is asked
  pub no_slot : (k : Option Change) → slots ≤ slot → verdict slots s l f w slot k ≡ Err refusal.Unknown
  unfolding change_judged unless
  no_slot None h = refl
  no_slot (Some c) h = rw (le-ltb slot slots h)

  -- so an accepted change is of a slot that there is
  pub there-is : (k : Option Change) (c : Change) (m : Moved) → verdict slots s l f w slot k ≡ Ok (c, m) → slot < slots
  there-is k c m e = by (ltb slot slots) refl
    where
      by : (b : Bool) → ltb slot slots ≡ b → slot < slots
      by true h = ltb-true slot slots h
      by false h = absurd (false≢true (ap goes (sym (no_slot k (ltb-false slot slots h)) ∙ e)))

  -- a refusal of the judge is what the plan comes to
  pub refused-by : (k : Option Change) (r : Refusal) → verdict slots s l f w slot k ≡ Err r
      → outcome (record { state = s; answer = modify_answer slot attribute r }) (l, f, w) ≡ carry areas37 (plan slots s l f w slot attribute k) s (l, f, w)
  unfolding carry
  refused-by k r e = rw (verdict-plan k, e)

  module _ (k : Option Change) (c : Change) (m : Moved) (e : verdict slots s l f w slot k ≡ Ok (c, m)) where
    -- an accepted change: the state t and the areas x, y and z are those of the plan, where the leaves have left them so
    pub accepted : (t : State) (x y : List Float) (z : List ℕ)
        → x ≡ pick (ltb s.counts.scales m.scales) (write scale_width s.counts.scales (unit_entry ∷ []) l) l
        → y ≡ write float_width m.row (floats_after c (part f (get_or s.row slot 0 * float_width) float_width) ∷ []) f
        → z ≡ write word_width m.row (words_after c (m.unit - 1) (part w (get_or s.row slot 0 * word_width) word_width) ∷ []) w
        → t ≡ with_counts (changed c m s slot) (counts_to m s.counts)
        → outcome (record { state = t; answer = Done }) (x, y, z) ≡ carry areas37 (plan slots s l f w slot attribute k) s (l, f, w)
    unfolding comes_to
    accepted t x y z ex ey ez et =
        let h = through k _ _ c m e in
        rw (
          verdict-plan k,
          e,
          et,
          ex,
          ey,
          ez,
          h.comes,
          tells (appends c s.unit) s.counts.scales,
          row_at s.counts.rows f w (get_or s.row slot 0) h.row,
        )
        (settled (appends c s.unit) (get_or s.drawn slot false) (get_or s.row slot 0) _ s _ l f w)

-- three columns put back as they were
pub same-state : (s g : State) (d : List Bool) (r : List ℕ) (z : List Float) → g ≡ s → d ≡ s.drawn → r ≡ s.row → z ≡ s.z → with_z (with_row (with_drawn g d) r) z ≡ s
same-state s g d r z eg ed er ez = rw (eg, ed, er, ez)

-- the state of an accepted change, where the code has set its numbers and put back three columns
pub changed-state : (c : Change) (m : Moved) (s g : State) (slot i : ℕ) (b : Bool) (v : Float) (d : List Bool) (r : List ℕ) (z : List Float) → i ≡ slot
    → g ≡ with_counts (with_unit s m.unit) (counts_to m s.counts) → d ≡ set s.drawn i false → r ≡ set s.row i m.row → z ≡ set s.z i v
    → v ≡ depth_after c b (get_or s.z i nan) → b ≡ get_or s.deep slot false
    → with_z (with_row (with_drawn g d) r) z ≡ with_counts (changed c m s slot) (counts_to m s.counts)
unfolding changed
changed-state c m s g slot i b v d r z ei eg ed er ez ev eb = rw (eg, ed, er, ez, ev, eb, ei)

-- ---- the ways out of a modify: the state t, the answer a and the areas x, y and z are those of the plan
module _ (slots : ℕ) (s : State) (l f : List Float) (w : List ℕ) (slot attribute value : ℕ) (t : State) (a : Answer) (x y : List Float) (z : List ℕ) where
  abbrev Way : Type 0
  Way =
      outcome (record { state = t; answer = a }) (x, y, z)
      ≡ carry areas37 (modify_plan slots s (table scale_width s.counts.scales l) (row_table s.counts.rows f w) slot attribute value) s (l, f, w)

  pub way-unsound : state_sound s ≡ false → t ≡ s → a ≡ BadState → x ≡ l → y ≡ f → z ≡ w → Way
  unfolding modify_plan
  way-unsound h et ea ex ey ez = rw (et, ea, ex, ey, ez) (refused areas37 _ _ _ _ BadState h)

  -- the leaf's own areas: as they were where it refuses, and where it accepts what its verdict makes of them
  module _ (v : Verdict) (i : Slot) (u : Tables) (x' y' : List Float) (z' : List ℕ) (q : (x', y', z') ≡ remade v i u (l, f, w)) (ex : x ≡ x') (ey : y ≡ y') (ez : z ≡ z') where
    pub way-refused : (r : Refusal) → state_sound s ≡ true → verdict slots s l f w slot (decoded attribute value) ≡ Err r → v ≡ Err r
        → t ≡ s → a ≡ modify_answer slot attribute r → Way
    unfolding modify_plan
    way-refused r h e ev et ea =
        let k = left_alone v i u l f w x' y' z' r ev q in
        rw (et, ea, ex, ey, ez, k.0, k.1.0, k.1.1) (passed areas37 _ _ _ _ _ _ _ h (refused-by slots s l f w slot attribute _ r e))

    pub way-accepted : (c : Change) (m : Moved) → state_sound s ≡ true → verdict slots s l f w slot (decoded attribute value) ≡ Ok (c, m) → v ≡ Ok (c, m)
        → i.row ≡ get_or s.row slot 0 → u.scales ≡ s.counts.scales → t ≡ with_counts (changed c m s slot) (counts_to m s.counts) → a ≡ Done → Way
    unfolding modify_plan
    way-accepted c m h e ev ei eu et ea =
        let k = carried-out v i u l f w x' y' z' c m ev q in
        rw ea
        (passed areas37 _ _ _ _ _ _ _ h
        (accepted slots s l f w slot attribute _ c m e t x y z (ex ∙ k.0 ∙ rw eu) (ey ∙ k.1.0 ∙ rw ei) (ez ∙ k.1.1 ∙ rw ei) et))
