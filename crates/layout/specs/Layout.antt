-- What gbi.h lays out in bytes: each as a definition on the bytes s from place i on. Definitions only.
use Rattle.std.specs.Prelude.{ℕ, zero, suc, ◌+◌, ◌*◌, Bool, List, [], ◌∷◌, get_or, ℤ, pos, Float}
use Rattle.std.specs.Float.{binary32}
use Rattle.numbers.specs.Choice.{pick}
use Rattle.numbers.specs.Ratio.{signed, of_ratio}
use Rattle.numbers.specs.Ratio as ratio
use Rattle.numbers.specs.declared.entry.Entry.{Entry}
use Rattle.layout.specs.declared.records.Vertex.{Vertex}
use Rattle.layout.specs.declared.records.Viewport.{Viewport}
use Rattle.layout.specs.declared.records.Light.{Light}

-- the byte at i
abbrev pub byte_at : List ℕ → ℕ → ℕ
byte_at s i = get_or s i 0

-- the 16 bits at i, high byte first
abbrev pub half_at : List ℕ → ℕ → ℕ
half_at s i = byte_at s i * 256 + byte_at s (i + 1)

-- the four bytes at i, the first lowest
abbrev pub word_at : List ℕ → ℕ → ℕ
word_at s i = byte_at s i + byte_at s (i + 1) * 256 + byte_at s (i + 2) * 65536 + byte_at s (i + 3) * 16777216

-- the 16 bits at i, read with their sign
abbrev pub signed_at : List ℕ → ℕ → ℤ
signed_at s i = signed 16 (half_at s i)

-- the signed half at i divided by d, rounded once
abbrev pub ratio_at : List ℕ → ℕ → ℕ → Float
ratio_at s i d = of_ratio binary32 (signed_at s i) d

-- entry k of a matrix: sixteen signed whole parts, then sixteen fractions
unfoldable pub entry_at : List ℕ → ℕ → ℕ → Float
entry_at s i k = ratio.entry (signed_at s (i + 2 * k)) (half_at s (i + 32 + 2 * k))

-- entries k to k + 3
unfoldable pub row_at : List ℕ → ℕ → ℕ → List Float
unfolding entry_at
row_at s i k = entry_at s i k ∷ entry_at s i (k + 1) ∷ entry_at s i (k + 2) ∷ entry_at s i (k + 3) ∷ []

-- a matrix, row by row: 64 bytes
unfoldable pub matrix_at : List ℕ → ℕ → List (List Float)
unfolding row_at
matrix_at s i = row_at s i 0 ∷ row_at s i 4 ∷ row_at s i 8 ∷ row_at s i 12 ∷ []

-- entry k is exact: its f32 is the value that its whole part and its fraction make
unfoldable pub exact_at : List ℕ → ℕ → ℕ → Bool
exact_at s i k = ratio.exact (signed_at s (i + 2 * k)) (half_at s (i + 32 + 2 * k))

-- entry k with its mark
unfoldable pub marked_at : List ℕ → ℕ → ℕ → Entry
unfolding entry_at exact_at
marked_at s i k = record { value = entry_at s i k; exact = exact_at s i k }

-- entries k to k + 3 with their marks
unfoldable pub entries_at : List ℕ → ℕ → ℕ → List Entry
unfolding marked_at
entries_at s i k = marked_at s i k ∷ marked_at s i (k + 1) ∷ marked_at s i (k + 2) ∷ marked_at s i (k + 3) ∷ []

-- how many of the n marks b 0, b 1, .. say no
unfoldable pub noes : (ℕ → Bool) → ℕ → ℕ
noes b zero = 0
noes b (suc n) = noes b n + pick (b n) 0 1

-- how many of a matrix's sixteen entries are not exact
unfoldable pub inexact_at : List ℕ → ℕ → ℕ
inexact_at s i = noes (exact_at s i) 16

-- a vertex, 16 bytes: position at 0, 2, 4; s and t at 8 and 10; the colour word at 12
unfoldable pub vertex_at : List ℕ → ℕ → Vertex
vertex_at s i =
    record {
      pos = ratio_at s i 1 ∷ ratio_at s (i + 2) 1 ∷ ratio_at s (i + 4) 1 ∷ [];
      st = ratio_at s (i + 8) 1 ∷ ratio_at s (i + 10) 1 ∷ [];
      colour = word_at s (i + 12);
    }

-- x and y divided by 4, z by 1024
unfoldable pub triple_at : List ℕ → ℕ → List Float
triple_at s i = ratio_at s i 4 ∷ ratio_at s (i + 2) 4 ∷ ratio_at s (i + 4) 1024 ∷ []

-- a viewport, 16 bytes: four scales, then four translations, of each the fourth ignored
unfoldable pub viewport_at : List ℕ → ℕ → Viewport
unfolding triple_at
viewport_at s i = record { scale = triple_at s i; translation = triple_at s (i + 8) }

-- a colour: three bytes, each divided by 255
unfoldable pub colour_at : List ℕ → ℕ → List Float
colour_at s i = of_ratio binary32 (pos (byte_at s i)) 255 ∷ of_ratio binary32 (pos (byte_at s (i + 1))) 255 ∷ of_ratio binary32 (pos (byte_at s (i + 2))) 255 ∷ []

-- a signed byte divided by 127
abbrev pub axis_at : List ℕ → ℕ → Float
axis_at s i = of_ratio binary32 (signed 8 (byte_at s i)) 127

-- a direction: three signed bytes, each divided by 127
unfoldable pub direction_at : List ℕ → ℕ → List Float
direction_at s i = axis_at s i ∷ axis_at s (i + 1) ∷ axis_at s (i + 2) ∷ []

-- a light, 11 bytes: its colour at 0 to 2, its direction at 8 to 10
unfoldable pub light_at : List ℕ → ℕ → Light
unfolding direction_at colour_at
light_at s i = record { direction = direction_at s (i + 8); colour = colour_at s i }
