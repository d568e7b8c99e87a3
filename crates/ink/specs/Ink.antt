-- The ink of a row, and how many indices have a given one. Definitions only.
use Rattle.std.specs.Prelude.{ℕ, ◌+◌, Bool, ◌&&◌, List, [], ◌∷◌, length, get_or, eqb, ltb}
use Rattle.numbers.specs.Choice.{pick}
use Rattle.areas.specs.Widths.{colour_word, lights_word}

-- the row has the ink asked: its light count is 0, since a lit row's colour word is a packed normal, and its colour word is the one asked
abbrev pub has_ink : ℕ → List ℕ → Bool
has_ink colour words = eqb (get_or words lights_word 0) 0 && eqb (get_or words colour_word 0) colour

-- the index i is that of a row in use that has the ink
abbrev pub ink_at : ℕ → List (List ℕ) → ℕ → Bool
ink_at colour rows i = ltb i (length rows) && has_ink colour (get_or rows i [])

-- how many of the index entries are of rows that have the ink
unfoldable pub ink_of : ℕ → List (List ℕ) → List (List ℕ) → ℕ
ink_of colour rows [] = 0
ink_of colour rows (e ∷ es) = pick (ink_at colour rows (get_or e 0 0)) 1 0 + ink_of colour rows es
