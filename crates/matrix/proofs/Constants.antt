-- The constants of the code, given by their bits, are the numbers that the definitions name. Assumes nothing.
use mathlib.Core.Path.{◌≡◌, refl}
use mathlib.Core.Bool.{false}
use lib.IntN.{pos}
use lib.Ieee.{fin, binary32, binary64, of_bits}
use Rattle.matrix.specs.Math.{zero, one}

-- 0 as an f32
pub zero32 : of_bits binary32 0 ≡ zero
unfolding of_bits
zero32 = refl

-- 1 as an f32
pub one32 : of_bits binary32 0x3f80_0000 ≡ one
unfolding of_bits
one32 = refl

-- 0 as an f64
pub zero64 : of_bits binary64 0 ≡ zero
unfolding of_bits
zero64 = refl

-- 1024 as an f64
pub k64 : of_bits binary64 0x4090_0000_0000_0000 ≡ fin false 1 (pos 10)
unfolding of_bits
k64 = refl
