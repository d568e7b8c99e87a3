-- A direction brought from the eye's space into the object's. Definitions only.
use Rattle.std.specs.Prelude.{ℕ, ◌+◌, List, [], ◌∷◌, Float}
use Rattle.matrix.specs.Math.{at, prod, col_times}
use Rattle.numbers.specs.Length.{length_of, inverse}

-- three numbers of a flat list from place i on
abbrev pub three : List Float → ℕ → List Float
three f i = at f i ∷ at f (i + 1) ∷ at f (i + 2) ∷ []

-- M times v on the upper 3 by 3, times 1 / length, or times 0 where the length is not above 0
unfoldable pub folded : List (List Float) → List Float → List Float
folded m v =
    let o = col_times m v in
    let i = inverse (length_of (at o 0) (at o 1) (at o 2)) in
    prod (at o 0) i ∷ prod (at o 1) i ∷ prod (at o 2) i ∷ []
