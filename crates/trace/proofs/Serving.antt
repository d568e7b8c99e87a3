-- Lengths that pass the tests are within the bounds. Assumes nothing.
use mathlib.Core.Path.{◌≡◌, refl}
use Prim.Native.Nat.{ℕ, zero, suc}
use mathlib.Core.Bool.{Bool, true, false, false≢true}
use mathlib.Core.List.{List, [], ◌∷◌}
use lib.ListN.{get_or}
use borrow.Author.Tests.{leb-true}
use Rattle.numbers.specs.Choice.{all}
use Rattle.trace.specs.declared.rooms.Lengths.{Lengths}
use Rattle.trace.specs.Header.{Within, within_tests}

-- each of some tests that all hold
every : (bs : List Bool) → all bs ≡ true → (i : ℕ) → get_or bs i true ≡ true
unfolding all
every [] h i = refl
every (true ∷ bs) h zero = refl
every (true ∷ bs) h (suc i) = every bs h i
every (false ∷ bs) h i = absurd (false≢true h)

pub within : (l : Lengths) → all (within_tests l) ≡ true → Within l
within l h =
    let t = every _ h in
    record {
      matrices = leb-true _ _ (t 0);
      viewports = leb-true _ _ (t 1);
      scales = leb-true _ _ (t 2);
      lights = leb-true _ _ (t 3);
      lookats = leb-true _ _ (t 4);
      fogs = leb-true _ _ (t 5);
      floats = leb-true _ _ (t 6);
      words = leb-true _ _ (t 7);
      indices = leb-true _ _ (t 8);
      runs = leb-true _ _ (t 9);
    }
