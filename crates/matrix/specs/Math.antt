-- Matrices as lists of rows, and their products. Definitions only. Sums go from left to right, each operation rounded once to an f32.
use Rattle.std.specs.Prelude.{ℕ, ◌+◌, List, [], ◌∷◌, ◌++◌, get_or, Float}
use Rattle.std.specs.Float.{nan, binary32}
use Rattle.std.specs.Float.Ieee.{add, mul}
pub use Rattle.numbers.specs.Length.{zero, one}

-- number i of a row, and row i, and number j of row i of a matrix
abbrev pub at : List Float → ℕ → Float
at v i = get_or v i nan

abbrev pub row : List (List Float) → ℕ → List Float
row m i = get_or m i []

abbrev pub cell : List (List Float) → ℕ → ℕ → Float
cell m i j = at (row m i) j

-- the identity
abbrev pub identity : List (List Float)
identity =
    (one ∷ zero ∷ zero ∷ zero ∷ [])
    ∷ (zero ∷ one ∷ zero ∷ zero ∷ [])
    ∷ (zero ∷ zero ∷ one ∷ zero ∷ [])
    ∷ (zero ∷ zero ∷ zero ∷ one ∷ [])
    ∷ []

-- a product, and a sum, of f32
abbrev pub prod : Float → Float → Float
prod x y = mul binary32 x y

abbrev pub plus : Float → Float → Float
plus x y = add binary32 x y

-- number c of the row v times m: terms k = 0, 1, 2, 3
abbrev pub column : List Float → List (List Float) → ℕ → Float
column v m c =
    plus (plus (plus (prod (at v 0) (cell m 0 c)) (prod (at v 1) (cell m 1 c))) (prod (at v 2) (cell m 2 c))) (prod (at v 3) (cell m 3 c))

-- the row v times m
unfoldable pub row_times : List Float → List (List Float) → List Float
row_times v m = column v m 0 ∷ column v m 1 ∷ column v m 2 ∷ column v m 3 ∷ []

-- number i of the upper 3 by 3 of m times the column v: terms k = 0, 1, 2
abbrev pub dot : List (List Float) → List Float → ℕ → Float
dot m v i = plus (plus (prod (cell m i 0) (at v 0)) (prod (cell m i 1) (at v 1))) (prod (cell m i 2) (at v 2))

-- the upper 3 by 3 of m times the column v
unfoldable pub col_times : List (List Float) → List Float → List Float
col_times m v = dot m v 0 ∷ dot m v 1 ∷ dot m v 2 ∷ []

-- a times b: each row of a through b
unfoldable pub times : List (List Float) → List (List Float) → List (List Float)
unfolding row_times
times a b = row_times (row a 0) b ∷ row_times (row a 1) b ∷ row_times (row a 2) b ∷ row_times (row a 3) b ∷ []

-- four numbers of a flat list from place i on
abbrev pub four : List Float → ℕ → List Float
four f i = at f i ∷ at f (i + 1) ∷ at f (i + 2) ∷ at f (i + 3) ∷ []

-- the matrix whose sixteen numbers stand row by row in a flat list from place i on
unfoldable pub rows : List Float → ℕ → List (List Float)
rows f i = four f i ∷ four f (i + 4) ∷ four f (i + 8) ∷ four f (i + 12) ∷ []

-- the sixteen numbers of a matrix, row by row
unfoldable pub laid : List (List Float) → List Float
laid m = four (row m 0) 0 ++ four (row m 1) 0 ++ four (row m 2) 0 ++ four (row m 3) 0
