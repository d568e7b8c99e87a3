-- The entries of table 4 for the lights in force. Definitions only.
use Rattle.std.specs.Prelude.{ℕ, zero, suc, ◌*◌, List, [], ◌∷◌, ◌++◌, Float}
use Rattle.matrix.specs.Math
use Rattle.fold.specs.Direction.{three, folded}

-- the entry of light k, of directions ds and colours cs, three numbers a light: the direction folded, then the colour
unfoldable pub light_entry : List (List Float) → List Float → List Float → ℕ → List Float
light_entry m ds cs k = folded m (three ds (3 * k)) ++ three cs (3 * k)

-- the entry of the ambient colour: direction 0, then the colour
abbrev pub ambient_entry : List Float → List Float
ambient_entry ambient = Math.zero ∷ Math.zero ∷ Math.zero ∷ three ambient 0

-- the entries of lights 0 to n - 1
unfoldable pub directional : List (List Float) → List Float → List Float → ℕ → List (List Float)
directional m ds cs zero = []
directional m ds cs (suc n) = directional m ds cs n ++ light_entry m ds cs n ∷ []

-- the entries of n lights, and the ambient colour's last
unfoldable pub light_entries : List (List Float) → List Float → List Float → List Float → ℕ → List (List Float)
light_entries m ds cs ambient n = directional m ds cs n ++ ambient_entry ambient ∷ []
