-- What modify leaves: laws of its meaning, for every input, refused ones included. Assumes nothing.
use mathlib.Core.Path.{◌≡◌, refl, sym, subst, ◌∙◌}
use Prim.Native.Nat.{ℕ, ◌-◌, ◌*◌, ◌≤◌, ◌<◌}
use native.Mathlib.Omega.{arith}
use mathlib.Core.Bool.{Bool, true, false, false≢true}
use mathlib.Core.List.{List, [], ◌∷◌}
use mathlib.Core.Logic.{◌≢◌}
use lib.ListN.{length, get_or, take, drop}
use lib.Seq.{take-take, set-get_or, get_or-set_other}
use lib.Dec.{eqb, ltb}
use lib.Ieee.{Float}
use borrow.Author.Tests.{eqb-true, eqb-false, le-ltb, ne_eqb}
use Rattle.std.specs.Prelude.{Ok, Err}
use Rattle.areas.specs.Widths.{scale_width, float_width, word_width}
use Rattle.areas.specs.Area.{part, write}
use Rattle.change.specs.declared.Change.{Change}
use Rattle.change.specs.declared.Change.TheVariants.{Colour, Texture, Screen, Depth}
use Rattle.change.specs.declared.judge.Moved.{Moved}
use Rattle.change.specs.Decoded.{decoded, floats_after, words_after, unit_entry, appends}
use Rattle.change.specs.Steps.{Verdict, comes_to}
use Rattle.change.proofs.Accepted.{through}
use Rattle.change.proofs.Kept.{floats-kept, words-kept, position-kept}
use Rattle.change.proofs.Storing.{part-long, elsewhere, there}
use Rattle.stage.specs.declared.State.{State}
use Rattle.stage.specs.declared.Answer.TheVariants.{Done}
use Rattle.stage.specs.Plan.{unless, pick, table, Outcome, outcome, carry, row_table}
use Rattle.stage.specs.Sound.{state_sound}
use Rattle.stage.specs.With.{with_counts}
use Rattle.stage.specs.Modify.{areas37, changed, modify_plan}
use Rattle.stage.specs.Steps.{counts_to}
use Rattle.stage.proofs.Changes.{verdict, plan, refused-by, written, accepted}

-- the three areas: scales, and the two of the rows
abbrev Areas : Type 0
Areas = List Float × List Float × List ℕ

-- what a modify comes to
abbrev pub modified : ℕ → State → List Float → List Float → List ℕ → ℕ → ℕ → ℕ → Outcome Areas
modified slots s l f w slot attribute value =
    carry areas37 (modify_plan slots s (table scale_width s.counts.scales l) (row_table s.counts.rows f w) slot attribute value) s (l, f, w)

-- no change asks for the unit scale entry where it is there
there-is : (c : Change) (unit : ℕ) → unit ≢ 0 → appends c unit ≡ false
unfolding appends
there-is (Texture s t) unit d = ne_eqb unit 0 d
there-is (Colour w) unit d = refl
there-is (Screen x y) unit d = refl
there-is (Depth z own) unit d = refl

-- the first numbers of a row
row-part : {A : Type 0} (l : List A) (at n m : ℕ) → n ≤ m → take n (part l at m) ≡ part l at n
row-part l at n m h = take-take n m (drop at l) h

module _ (slots : ℕ) (s : State) (l f : List Float) (w : List ℕ) (slot attribute value : ℕ) where
  -- what holds where nothing is changed, and of every accepted change, holds of a modify
  by_cases : (P : Outcome Areas → Type 0) → ((n : ℕ) (vs : List ℕ) → P (record { state = s; number = n; values = vs; areas = (l, f, w) }))
      → (
      (c : Change) (m : Moved) → verdict slots s l f w slot (decoded attribute value) ≡ Ok (c, m)
      → P (outcome (record { state = with_counts (changed c m s slot) (counts_to m s.counts); answer = Done }) (
        pick (ltb s.counts.scales m.scales) (write scale_width s.counts.scales (unit_entry ∷ []) l) l,
        write float_width m.row (floats_after c (part f (get_or s.row slot 0 * float_width) float_width) ∷ []) f,
        write word_width m.row (words_after c (m.unit - 1) (part w (get_or s.row slot 0 * word_width) word_width) ∷ []) w,
      ))
      )
      → P (modified slots s l f w slot attribute value)
  unfolding modify_plan unless carry
  by_cases P same done = sounds (state_sound s) refl
    where
      judges : (v : Verdict) → verdict slots s l f w slot (decoded attribute value) ≡ v → P (carry areas37 (plan slots s l f w slot attribute (decoded attribute value)) s (l, f, w))
      judges (Err r) e = subst P (refused-by slots s l f w slot attribute _ r e) (same _ _)
      judges (Ok (c, m)) e = subst P (accepted slots s l f w slot attribute _ c m e _ _ _ _ refl refl refl refl) (done c m e)

      sounds : (b : Bool) → state_sound s ≡ b → P (modified slots s l f w slot attribute value)
      sounds false e = rw e (same 10 [])
      sounds true e = rw e (judges _ refl)

  module _ (c : Change) (m : Moved) (e : verdict slots s l f w slot (decoded attribute value) ≡ Ok (c, m)) where
    -- where the slot was drawn, its row is then the one behind all in use; else it is the one that it was
    moves : (get_or s.drawn slot false ≡ true) → m.row ≡ s.counts.rows
    unfolding comes_to pick
    moves d = rw ((through _ _ _ c m e).comes, d)

    rests : (get_or s.drawn slot false ≡ false) → (m.row ≡ get_or s.row slot 0) × (m.rows ≡ s.counts.rows)
    unfolding comes_to pick
    rests d = (rw ((through _ _ _ c m e).comes, d), rw ((through _ _ _ c m e).comes, d))

    -- a row in use that is written is the slot's own, and was not drawn
    own : (i : ℕ) → i < s.counts.rows → i ≡ m.row → (i ≡ get_or s.row slot 0) × (get_or s.drawn slot false ≡ false)
    own i h q = by (get_or s.drawn slot false) refl
      where
        by : (b : Bool) → get_or s.drawn slot false ≡ b → (i ≡ get_or s.row slot 0) × (get_or s.drawn slot false ≡ false)
        by true d = absurd (let z = moves d in omega arith)
        by false d = (q ∙ (rests d).0, d)

    -- the row that is written has all its numbers
    floats-long : length (floats_after c (part f (get_or s.row slot 0 * float_width) float_width)) ≡ float_width
    floats-long =
        let h = written slots s l f w slot _ c m e in
        floats-kept c _ ∙ part-long f (get_or s.row slot 0 * float_width) float_width (omega arith)

    words_long : length (words_after c (m.unit - 1) (part w (get_or s.row slot 0 * word_width) word_width)) ≡ word_width
    words_long =
        let h = written slots s l f w slot _ c m e in
        words-kept c _ _ ∙ part-long w (get_or s.row slot 0 * word_width) word_width (omega arith)

    -- its position is the one that was there
    position : (i : ℕ) → i < s.counts.rows → (b : Bool) → eqb i m.row ≡ b
        → part (write float_width m.row (floats_after c (part f (get_or s.row slot 0 * float_width) float_width) ∷ []) f) (i * float_width) 3 ≡ part f (i * float_width) 3
    position i h false q = elsewhere f _ float_width i m.row 3 floats-long (omega arith) (eqb-false i m.row q)
    position i h true q =
        let t : i ≡ m.row = eqb-true i m.row q in
        let k = written slots s l f w slot _ c m e in
        rw (
          t,
          there f (floats_after c (part f (get_or s.row slot 0 * float_width) float_width)) float_width m.row 3 floats-long (omega arith) k.1,
          position-kept c (part f (get_or s.row slot 0 * float_width) float_width),
          row-part f (get_or s.row slot 0 * float_width) 3 float_width (omega arith),
          ← (own i h t).0,
          t,
        )

  -- NO ROW'S POSITION IS EVER WRITTEN: x, y and z of every row in use stay
  pub positions-stay : (i : ℕ) → i < s.counts.rows → part (modified slots s l f w slot attribute value).areas.1 (i * float_width) 3 ≡ part f (i * float_width) 3
  positions-stay i h = by_cases (λ o. part o.areas.1 (i * float_width) 3 ≡ part f (i * float_width) 3) (λ n vs. refl) (λ c m e. position c m e i h _ refl)

  -- EVERY OTHER ROW STAYS, and the slot's own too where the slot was drawn since the row was made
  pub rows_stay : (i : ℕ) → i < s.counts.rows → (i ≡ get_or s.row slot 0 → get_or s.drawn slot false ≡ true)
      → let o = modified slots s l f w slot attribute value in
      (part o.areas.1 (i * float_width) float_width ≡ part f (i * float_width) float_width) × (part o.areas.2 (i * word_width) word_width ≡ part w (i * word_width) word_width)
  rows_stay i h d =
      by_cases (λ o. (part o.areas.1 (i * float_width) float_width ≡ part f (i * float_width) float_width) × (part o.areas.2 (i * word_width) word_width ≡ part w (i * word_width) word_width)) (λ n vs. (refl, refl))
      (λ c m e.
      let away : i ≢ m.row = λ q. let z = own c m e i h q in false≢true (sym z.1 ∙ d z.0) in
      (elsewhere f _ float_width i m.row float_width (floats-long c m e) (omega arith) away, elsewhere w _ word_width i m.row word_width (words_long c m e) (omega arith) away))

  -- A SLOT THAT WAS NOT DRAWN KEEPS ITS ROW, and no row is appended
  pub in_place : get_or s.drawn slot false ≡ false
      → let o = modified slots s l f w slot attribute value in
      (o.state.row ≡ s.row) × (o.state.counts.rows ≡ s.counts.rows)
  unfolding changed
  in_place d =
      by_cases (λ o. (o.state.row ≡ s.row) × (o.state.counts.rows ≡ s.counts.rows)) (λ n vs. (refl, refl))
      (λ c m e. (rw ((rests c m e d).0, set-get_or), (rests c m e d).1))

  -- NO OTHER SLOT MOVES
  pub others-rest : (k : ℕ) → k ≢ slot → get_or (modified slots s l f w slot attribute value).state.row k 0 ≡ get_or s.row k 0
  unfolding changed
  others-rest k d = by_cases (λ o. get_or o.state.row k 0 ≡ get_or s.row k 0) (λ n vs. refl) (λ c m e. get_or-set_other s.row slot k m.row 0 d)

  -- THE UNIT SCALE ENTRY IS APPENDED ONCE: where there is one, table 3 stays
  pub unit-once : s.unit ≢ 0
      → let o = modified slots s l f w slot attribute value in
      (o.areas.0 ≡ l) × (o.state.counts.scales ≡ s.counts.scales)
  unfolding comes_to pick
  unit-once d =
      by_cases (λ o. (o.areas.0 ≡ l) × (o.state.counts.scales ≡ s.counts.scales)) (λ n vs. (refl, refl))
      (λ c m e.
      let q : m.scales ≡ s.counts.scales = rw ((through _ _ _ c m e).comes, there-is c s.unit d) in
      (rw (q, le-ltb s.counts.scales s.counts.scales (omega arith)), q))
