-- The library's test of each of four floats and that of the definition are one. Assumes nothing.
use mathlib.Core.Path.{◌≡◌}
use mathlib.Core.Bool.{and-true, and_assoc}
use mathlib.Core.List.{List, [], ◌∷◌}
use native.Mathlib.Omega.{arith}
use lib.ListN.{length}
use lib.Ieee.{Float}
use lib.Ieee.Scale.{finite}
use Rattle.std.specs.List.{list_all}
use Rattle.matrix.specs.Clip.{all_finite}

-- whether each of four is
pub all-four : (p : List Float) → length p ≡ 4 → list_all finite p ≡ all_finite p
all-four (x ∷ y ∷ z ∷ w ∷ []) h = simp (and-true, and_assoc)
all-four [] h = absurd (omega arith)
all-four (x ∷ []) h = absurd (omega arith)
all-four (x ∷ y ∷ []) h = absurd (omega arith)
all-four (x ∷ y ∷ z ∷ []) h = absurd (omega arith)
all-four (x ∷ y ∷ z ∷ w ∷ v ∷ p) h = absurd (omega arith)
