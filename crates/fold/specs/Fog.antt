-- The place of a fog pair in its table. Definitions only.
use Rattle.std.specs.Prelude.{ℕ, zero, suc, List, [], ◌∷◌, ℤ}
use Rattle.numbers.specs.Choice.{pick}
use Rattle.areas.specs.Area.{matches, eqbℤ}

-- the place of the first entry equal to e, or the number of entries where none is
unfoldable pub find : List (List ℤ) → List ℤ → ℕ
find [] e = zero
find (x ∷ es) e = pick (matches eqbℤ x e) zero (suc (find es e))
