-- What a state that is judged sound gives. Assumes nothing.
use mathlib.Core.Path.{◌≡◌, refl}
use Prim.Native.Nat.{ℕ, zero, suc, ◌≤◌}
use mathlib.Core.List.{List, [], ◌∷◌}
use lib.ListN.{get_or}
use mathlib.Core.Bool.{Bool, true, false, ◌&&◌, false≢true, and_assoc}
use borrow.Author.Tests.{leb-true}
use Rattle.areas.specs.Widths.{most}
use Rattle.stage.specs.declared.State.{State}
use Rattle.stage.specs.Sound.{state_sound}
use Rattle.numbers.specs.Choice.{all}

-- each of some tests that all hold
every : (bs : List Bool) → all bs ≡ true → (i : ℕ) → get_or bs i true ≡ true
unfolding all
every [] h i = refl
every (true ∷ bs) h zero = refl
every (true ∷ bs) h (suc i) = every bs h i
every (false ∷ bs) h i = absurd (false≢true h)

-- the ranges of the state's own numbers
pub record Ranges (s : State) : Type 0 where
  pub low : 1 ≤ s.depth
  pub high : s.depth ≤ 32
  pub lights : s.lights.number ≤ 7
  pub matrix : 1 ≤ s.counts.matrices
  pub matrices : s.counts.matrices ≤ most
  pub viewport : 1 ≤ s.counts.viewports
  pub viewports : s.counts.viewports ≤ most
  pub scales : s.counts.scales ≤ most
  pub folded : s.counts.lights ≤ most
  pub lookats : s.counts.lookats ≤ most
  pub fogs : s.counts.fogs ≤ most
  pub rows : s.counts.rows ≤ most
  pub indices : s.counts.indices ≤ most
  pub runs : s.counts.runs ≤ most

pub ranges : (s : State) → state_sound s ≡ true → Ranges s
unfolding state_sound
ranges s h =
    let t = every _ h in
    record {
      low = leb-true _ _ (t 1);
      high = leb-true _ _ (t 2);
      lights = leb-true _ _ (t 3);
      matrix = leb-true _ _ (t 4);
      matrices = leb-true _ _ (t 5);
      viewport = leb-true _ _ (t 6);
      viewports = leb-true _ _ (t 7);
      scales = leb-true _ _ (t 8);
      folded = leb-true _ _ (t 9);
      lookats = leb-true _ _ (t 10);
      fogs = leb-true _ _ (t 11);
      rows = leb-true _ _ (t 12);
      indices = leb-true _ _ (t 13);
      runs = leb-true _ _ (t 14);
    }

-- tests joined from the left, as the code joins them
-- five tests, of which the last stands for those of the counts
pub joined : (a b c d : Bool) (bs : List Bool) → a && b && c && d && all bs ≡ all (a ∷ b ∷ c ∷ d ∷ bs)
unfolding all
joined a b c d bs = simp and_assoc

-- the first of two tests that both hold
pub and_left : (a b : Bool) → a && b ≡ true → a ≡ true
and_left true b e = refl
and_left false b e = absurd (false≢true e)

-- the second
pub and_right : (a b : Bool) → a && b ≡ true → b ≡ true
and_right true b e = e
and_right false b e = absurd (false≢true e)
