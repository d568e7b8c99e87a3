-- The square root of IEEE 754 (5.4.1, squareRoot): the exact root, rounded once to the format, to nearest, ties to even. Definitions only.
-- The root of -0 is -0, that of any other negative number, an infinity included, is a NaN.
use Rattle.std.specs.Prelude.{ℕ, zero, suc, ◌+◌, ◌-◌, ◌*◌, ◌/◌, ◌^◌, true, false, nat_le, Float}
use Prim.Native.Nat.{compare}
use Rattle.std.specs.Float.{nan, inf, fin, Format}
use Rattle.std.specs.Float.Ieee.{prec, low, up, down, size, nearest, units}
use Rattle.numbers.specs.Choice.{pick}

-- r, or r + 1 where its square is still within n
unfoldable pub step : ℕ → ℕ → ℕ
step r n = pick (nat_le ((r + 1) * (r + 1)) n) (r + 1) r

-- The largest r with r * r ≤ n, for an n below 4 ^ d: one binary digit of the root for each two of n's. `Root` proves it.
unfoldable pub root : ℕ → ℕ → ℕ
unfolding step
root zero n = 0
root (suc d) n = step (2 * root d (n / 4)) n

-- The root of n to the nearest multiple of 2 ^ k, ties to even, counted in 2 ^ k: q is the whole part,
-- and the root of n lies above (q + 1/2) * 2 ^ k exactly where 4 * n lies above the square of (2 * q + 1) * 2 ^ k.
unfoldable pub root_by : ℕ → ℕ → ℕ
unfolding root
root_by k n =
    let q = root (size n) n / 2 ^ k in
    nearest q (compare (4 * n) ((2 * q + 1) * (2 * q + 1) * 4 ^ k))

-- The root of n squared units, in units of the format's smallest value, rounded to the format as `round` rounds a fraction:
-- of its whole part the format keeps the `prec` leading digits and drops k.
unfoldable pub rooted : Format → ℕ → Float
unfolding root_by units
rooted f n = let k = size (root (size n) n) - prec f in units f false (root_by k n) k

-- x is m * 2 ^ e. With the unit 2 ^ -low, it is m * 2 ^ e * 2 ^ (2 * low) squared units, a whole number.
unfoldable pub sqrt : Format → Float → Float
unfolding rooted
sqrt f nan = nan
sqrt f (inf true) = nan
sqrt f (inf false) = inf false
sqrt f (fin s zero e) = fin s zero e
sqrt f (fin true (suc m) e) = nan
sqrt f (fin false (suc m) e) = rooted f (suc m * up e * 2 ^ (2 * low f) / down e)
