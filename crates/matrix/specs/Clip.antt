-- The clip code and the screen z of a position in clip space, x y z w. Definitions only.
use Rattle.std.specs.Prelude.{ℕ, ◌+◌, List, Bool, false, ◌&&◌, pos, Float, Option}
use Rattle.std.specs.Bool.{then_some}
use Rattle.std.specs.Float.{fin, binary64}
use Rattle.std.specs.Float.Ieee.{add, mul, div, neg, lt, ne}
use Rattle.std.specs.Float.Ieee.Scale.{finite}
use Rattle.numbers.specs.Choice.{pick}
use Rattle.matrix.specs.Math.{at, zero}

-- the bit of weight k, set if b
abbrev pub bit_of : Bool → ℕ → ℕ
bit_of b k = pick b k 0

-- x < -w, x > w, y < -w, y > w, z < -w, z > w
unfoldable pub bits_of : List Float → ℕ
bits_of p =
    bit_of (lt (at p 0) (neg (at p 3))) 1 + bit_of (lt (at p 3) (at p 0)) 2 + bit_of (lt (at p 1) (neg (at p 3))) 4 + bit_of (lt (at p 3) (at p 1)) 8
    + bit_of (lt (at p 2) (neg (at p 3))) 16 + bit_of (lt (at p 3) (at p 2)) 32

-- none of the four numbers is a NaN or an infinity
abbrev pub all_finite : List Float → Bool
all_finite p = finite (at p 0) && finite (at p 1) && finite (at p 2) && finite (at p 3)

-- no code where one of the four is not finite
unfoldable pub code_of : List Float → Option ℕ
unfolding bits_of
code_of p = then_some (all_finite p) (bits_of p)

-- (z / w * scale + translation) * 1024, each operation rounded once to an f64
unfoldable pub screen_of : List Float → Float → Float → Float
screen_of p scale translation = mul binary64 (add binary64 (mul binary64 (div binary64 (at p 2) (at p 3)) scale) translation) (fin false 1 (pos 10))

-- none without a code, for w = 0, or if it is not finite
unfoldable pub depth_of : List Float → Bool → Float → Float → Option Float
unfolding screen_of
depth_of p coded scale translation =
    then_some (coded && ne (at p 3) zero && finite (screen_of p scale translation)) (screen_of p scale translation)
