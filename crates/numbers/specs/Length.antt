-- The length of a direction, and what the direction is multiplied by. Definitions only.
use Rattle.std.specs.Prelude.{false, pos, Float}
use Rattle.std.specs.Float.{fin, binary32}
use Rattle.std.specs.Float.Ieee.{add, mul, div, lt}
use Rattle.numbers.specs.Choice.{pick}
use Rattle.numbers.specs.Sqrt.{sqrt}

-- the squares added left to right, each operation rounded once
abbrev pub squares : Float → Float → Float → Float
squares x y z = add binary32 (add binary32 (mul binary32 x x) (mul binary32 y y)) (mul binary32 z z)

-- the IEEE square root of the sum of squares
abbrev pub length_of : Float → Float → Float → Float
length_of x y z = sqrt binary32 (squares x y z)

-- +0
abbrev pub zero : Float
zero = fin false 0 (pos 0)

-- 1
abbrev pub one : Float
one = fin false 1 (pos 0)

-- 1 / l, or 0 where l is not above 0
abbrev pub inverse : Float → Float
inverse l = pick (lt zero l) (div binary32 one l) zero
