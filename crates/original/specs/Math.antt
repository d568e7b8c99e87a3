-- math.rs of the original, function by function; lines are those of the Rust at dbd8d8c9d8. Names as there, `-` for `_`. Definitions only.
-- Floats are IEEE 754's: each operation of an f32 is rounded once to binary32, in the order in which the Rust writes it.
use Rattle.std.specs.Prelude.{ℕ, false, List, [], ◌∷◌, get_or, pos, Float}
use Rattle.std.specs.Float.{nan, fin, binary32}
use Rattle.std.specs.Float.Ieee.{add, mul}

-- 0.0 and 1.0
abbrev pub f0 : Float
f0 = fin false 0 (pos 0)

abbrev pub f1 : Float
f1 = fin false 1 (pos 0)

-- a * b and a + b of two f32
abbrev pub mul32 : Float → Float → Float
mul32 a b = mul binary32 a b

abbrev pub add32 : Float → Float → Float
add32 a b = add binary32 a b

-- v[i] and m[i][j]
abbrev pub ix : List Float → ℕ → Float
ix v i = get_or v i nan

abbrev pub ix2 : List (List Float) → ℕ → ℕ → Float
ix2 m i j = ix (get_or m i []) j

-- Mat4, line 4: four rows of four
abbrev pub Mat4 : Type 0
Mat4 = List (List Float)

-- identity, lines 6 to 13
abbrev pub identity : Mat4
identity =
    (f1 ∷ f0 ∷ f0 ∷ f0 ∷ [])
    ∷ (f0 ∷ f1 ∷ f0 ∷ f0 ∷ [])
    ∷ (f0 ∷ f0 ∷ f1 ∷ f0 ∷ [])
    ∷ (f0 ∷ f0 ∷ f0 ∷ f1 ∷ [])
    ∷ []

-- mul_row_vec4, lines 17 to 23: the four turns of the loop
abbrev pub out4 : List Float → Mat4 → ℕ → Float
out4 v m c = add32 (add32 (add32 (mul32 (ix v 0) (ix2 m 0 c)) (mul32 (ix v 1) (ix2 m 1 c))) (mul32 (ix v 2) (ix2 m 2 c))) (mul32 (ix v 3) (ix2 m 3 c))

unfoldable pub mul_row_vec4 : List Float → Mat4 → List Float
mul_row_vec4 v m = out4 v m 0 ∷ out4 v m 1 ∷ out4 v m 2 ∷ out4 v m 3 ∷ []

-- mul_col_vec3, lines 33 to 39
abbrev pub out3 : Mat4 → List Float → ℕ → Float
out3 m v i = add32 (add32 (mul32 (ix2 m i 0) (ix v 0)) (mul32 (ix2 m i 1) (ix v 1))) (mul32 (ix2 m i 2) (ix v 2))

unfoldable pub mul_col_vec3 : Mat4 → List Float → List Float
mul_col_vec3 m v = out3 m v 0 ∷ out3 m v 1 ∷ out3 m v 2 ∷ []

-- mul4, lines 42 to 51: turn i of the outer loop is row i
abbrev pub out44 : Mat4 → Mat4 → ℕ → ℕ → Float
out44 a b i j = add32 (add32 (add32 (mul32 (ix2 a i 0) (ix2 b 0 j)) (mul32 (ix2 a i 1) (ix2 b 1 j))) (mul32 (ix2 a i 2) (ix2 b 2 j))) (mul32 (ix2 a i 3) (ix2 b 3 j))

abbrev pub out44row : Mat4 → Mat4 → ℕ → List Float
out44row a b i = out44 a b i 0 ∷ out44 a b i 1 ∷ out44 a b i 2 ∷ out44 a b i 3 ∷ []

unfoldable pub mul4 : Mat4 → Mat4 → Mat4
mul4 a b = out44row a b 0 ∷ out44row a b 1 ∷ out44row a b 2 ∷ out44row a b 3 ∷ []
