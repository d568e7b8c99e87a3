-- What the arguments of a record mean. Definitions only.
use Rattle.std.specs.Prelude.{ℕ, ◌+◌, ◌*◌, List, [], ◌∷◌, Float}
pub use Rattle.input.specs.Words.{word_at}
use Rattle.std.specs.Float.{binary32, binary64}
use Rattle.std.specs.Float.Ieee.{of_bits}

-- words 0 and 1, the low one first
abbrev pub long_at : List ℕ → ℕ
long_at s = word_at s 0 + word_at s 1 * 4294967296

-- the f32 whose bits are word k
unfoldable pub float_at : List ℕ → ℕ → Float
float_at s k = of_bits binary32 (word_at s k)

-- the f64 whose bits are words 0 and 1
unfoldable pub double_at : List ℕ → Float
double_at s = of_bits binary64 (long_at s)

-- the four f32 from word k on
abbrev pub row_at : List ℕ → ℕ → List Float
row_at s k = float_at s k ∷ float_at s (k + 1) ∷ float_at s (k + 2) ∷ float_at s (k + 3) ∷ []

-- the sixteen f32 from word k on, row by row
abbrev pub matrix_at : List ℕ → ℕ → List (List Float)
matrix_at s k = row_at s k ∷ row_at s (k + 4) ∷ row_at s (k + 8) ∷ row_at s (k + 12) ∷ []
