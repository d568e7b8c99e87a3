-- A NaN has the bits of the one NaN. Assumes nothing.
use Rattle.std.proofs.Common.{◌≡◌, refl, true}
use lib.Ieee.{Float, Format, nan, inf, fin, is_nan, to_bits}

pub nan-bits : (f : Format) (x : Float) → true ≡ is_nan x → to_bits f nan ≡ to_bits f x
unfolding is_nan
nan-bits f nan e = refl
nan-bits f (inf s) e = cc
nan-bits f (fin s m k) e = cc
