-- What an accepted draw records, read off its meaning. Assumes nothing.
use mathlib.Core.Path.{◌≡◌, refl, sym, ◌∙◌}
use Prim.Native.Nat.{ℕ, zero, suc, ◌+◌, ◌≤◌, ◌<◌}
use native.Mathlib.Omega.{arith}
use mathlib.Core.Bool.{Bool, true, false, false≢true}
use mathlib.Core.List.{List, [], ◌∷◌}
use mathlib.Core.Logic.{◌⊎◌, inl, inr}
use lib.ListN.{length, get_or, set, length-set}
use lib.Seq.{get_or-set_same}
use Rattle.decide.specs.declared.family.Family.{Family}
use Rattle.triangle.specs.Run.{settings, same_run}
use Rattle.triangle.specs.Slot.{both, culls}
use Rattle.triangle.proofs.Slots.{held_below}
use Rattle.stage.specs.declared.State.{State}
use Rattle.stage.specs.Plan.{Table, grow, patch, Plan, refuse, does, unless, pick, counted, carry}
use Rattle.stage.specs.With.{with_drawn}
use Rattle.stage.specs.Draw.{edits89, areas89, mark, triangle, run_edit, draw_plan}

-- the number that a plan answers with: 0 is done
abbrev answers : Plan → ℕ
answers (refuse n vs) = n
answers (does vs s e) = 0

answers-is : (p : Plan) (s : State) (l : List ℕ × List ℕ) → (carry areas89 p s l).number ≡ answers p
unfolding carry
answers-is (refuse n vs) s l = refl
answers-is (does vs t e) s l = refl

-- a test of a plan that is accepted holds, and the plan is what follows
went : (b : Bool) (n : ℕ) (vs : List ℕ) (p : Plan) → answers (unless b (refuse (suc n) vs) p) ≡ 0 → (b ≡ true) × (unless b (refuse (suc n) vs) p ≡ p) × (answers p ≡ 0)
unfolding unless
went true n vs p e = (refl, refl, e)
went false n vs p e = absurd (omega (arith, e))

-- not both sides are culled
sided : (b : Bool) (x p : Plan) → b ≡ false → answers (pick b x p) ≡ 0 → (pick b x p ≡ p) × (answers p ≡ 0)
unfolding pick
sided true x p e h = absurd (false≢true (sym e))
sided false x p e h = (refl, h)

-- a mark that is set stays when another is set
keeps : (d : List Bool) (i j : ℕ) → get_or d i false ≡ true → get_or (set d j true) i false ≡ true
keeps [] i j e = e
keeps (x ∷ d) zero zero e = refl
keeps (x ∷ d) zero (suc j) e = e
keeps (x ∷ d) (suc i) zero e = e
keeps (x ∷ d) (suc i) (suc j) e = keeps d i j e

-- a run is appended, or none is
run-count : (g : Bool) (i w : ℕ) (e r : List ℕ) → (counted (pick g (patch i e) (grow (r ∷ []))) w ≡ w) ⊎ (counted (pick g (patch i e) (grow (r ∷ []))) w ≡ w + 1)
unfolding pick
run-count true i w e r = inl refl
run-count false i w e r = inr refl

-- what a draw that records a triangle does to the state
pub record Drew (s t : State) (a b c : ℕ) : Type 0 where
  -- three indices are appended
  pub indices : t.counts.indices ≡ s.counts.indices + 3
  -- all three slots count as drawn
  pub first : get_or t.drawn a false ≡ true
  pub second : get_or t.drawn b false ≡ true
  pub third : get_or t.drawn c false ≡ true
  -- the run count grows by 0 or 1
  pub runs : (t.counts.runs ≡ s.counts.runs) ⊎ (t.counts.runs ≡ s.counts.runs + 1)

module _ (f : Family) (slots : ℕ) (s : State) (t u : Table (List ℕ)) (a b c : ℕ) (asked : List ℕ) where
  -- an accepted draw with not both sides culled is planned as a recorded triangle, of slots that there are
  accepted-plan : answers (draw_plan f slots s t u a b c asked) ≡ 0 → both f s.geometry ≡ false
      → (draw_plan f slots s t u a b c asked
      ≡ does [] (with_drawn s (mark s.drawn (a ∷ b ∷ c ∷ []))) (edits89 (grow (triangle f s a b c)) (run_edit u.used (length t.used) (settings asked (culls f s.geometry) s.microcode))))
      × (a < slots) × (b < slots) × (c < slots)
  unfolding draw_plan
  accepted-plan h n =
      let e0 = went _ _ _ _ h in
      let k = sided _ _ _ n e0.2 in
      let e1 = went _ _ _ _ k.1 in
      let e2 = went _ _ _ _ e1.2 in
      let e3 = went _ _ _ _ e2.2 in
      let e4 = went _ _ _ _ e3.2 in
      let e5 = went _ _ _ _ e4.2 in
      let e6 = went _ _ _ _ e5.2 in
      let e7 = went _ _ _ _ e6.2 in
      let e8 = went _ _ _ _ e7.2 in
      let e9 = went _ _ _ _ e8.2 in (
        e0.1 ∙ k.0 ∙ e1.1 ∙ e2.1 ∙ e3.1 ∙ e4.1 ∙ e5.1 ∙ e6.1 ∙ e7.1 ∙ e8.1 ∙ e9.1,
        held_below slots s.ever a e1.0,
        held_below slots s.ever b e2.0,
        held_below slots s.ever c e3.0,
      )

  -- WHAT AN ACCEPTED DRAW RECORDS: where not both sides are culled and the answer is 0, three indices are appended, all three slots count as
  -- drawn, and the run count grows by 0 or 1
  pub accepted-draw : (l : List ℕ × List ℕ) → slots ≤ length s.drawn → both f s.geometry ≡ false
      → (carry areas89 (draw_plan f slots s t u a b c asked) s l).number ≡ 0
      → Drew s (carry areas89 (draw_plan f slots s t u a b c asked) s l).state a b c
  unfolding carry run_edit
  accepted-draw l few n h =
      let d = s.drawn in
      let e = accepted-plan (sym (answers-is (draw_plan f slots s t u a b c asked) s l) ∙ h) n in
      let la : a < length d = omega (arith, e.1) in
      let lb : b < length (set d a true) = rw length-set (omega (arith, e.2)) in
      let lc : c < length (set (set d a true) b true) = rw (length-set, length-set) (omega (arith, e.3)) in
      rw e.0
      (record {
        indices = refl;
        first = keeps (set (set d a true) b true) a c (keeps (set d a true) a b (get_or-set_same d a true false la));
        second = keeps (set (set d a true) b true) b c (get_or-set_same (set d a true) b true false lb);
        third = get_or-set_same (set (set d a true) b true) c true false lc;
        runs = run-count (same_run 0 u.used _) _ s.counts.runs _ _;
      })
