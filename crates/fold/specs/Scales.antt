-- The entry of table 3 for the texture scales. Definitions only.
use Rattle.std.specs.Prelude.{ℕ, Bool, ◌&&◌, List, [], ◌∷◌, ltb, pos, Float, length, take}
use Rattle.std.specs.Float.{binary32}
use Rattle.std.specs.Float.Ieee.{eq}
use Rattle.areas.specs.Area.{matches}
use Rattle.numbers.specs.Ratio.{of_ratio}
use Rattle.decide.specs.Append.{final}

-- the coordinate pair, then the texgen pair, one rounding each
abbrev pub scale_entry : ℕ → ℕ → List Float
scale_entry sc tc =
    of_ratio binary32 (pos sc) 2097152
    ∷ of_ratio binary32 (pos tc) 2097152
    ∷ of_ratio binary32 (pos sc) 65536
    ∷ of_ratio binary32 (pos tc) 65536
    ∷ []

-- there is a last entry, and its first pair equals that of e by float comparison
unfoldable pub same_scale : List (List Float) → List Float → Bool
same_scale es e = ltb 0 (length es) && matches eq (take 2 (final es)) (take 2 e)
