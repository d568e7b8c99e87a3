-- Bits read with a sign; a fraction rounded once to a format; a matrix entry, and whether its rounding lost anything. Definitions only.
use Rattle.std.specs.Prelude.{◌≡◌, ℕ, ◌-◌, ◌*◌, ◌^◌, ◌<◌, Bool, true, false, ◌&&◌, ℤ, pos, negsuc, ◌+ℤ◌, ◌*ℤ◌, ◌==◌, nat_lt, unsigned_abs, Float}
use Rattle.std.specs.Bool.{beq}
use Rattle.std.specs.Float.{nan, inf, fin, Format, binary32}
use Rattle.std.specs.Float.Ieee.{up, down, round, minus}
use Rattle.numbers.specs.Choice.{pick}

-- w bits read as a number with a sign (two's complement): from 2 ^ (w - 1) on, 2 ^ w is taken off
abbrev pub signed : ℕ → ℕ → ℤ
signed w h = pick (nat_lt h (2 ^ (w - 1))) (pos h) (minus h (2 ^ w))

-- the number is below 0
abbrev pub below0 : ℤ → Bool
below0 (pos n) = false
below0 (negsuc n) = true

-- the fraction z / d, for a d above 0, rounded once to the format f, to nearest, ties to even
unfoldable pub of_ratio : Format → ℤ → ℕ → Float
unfolding round
of_ratio f z d = round f (below0 z) (unsigned_abs z) d

-- x is the fraction z / d: of its sign, and of its size
unfoldable pub is_ratio : Float → ℤ → ℕ → Bool
is_ratio nan z d = false
is_ratio (inf s) z d = false
is_ratio (fin s m e) z d = beq s (below0 z) && m * up e * d == unsigned_abs z * down e

-- 65536 * whole + fraction, the value of a matrix entry in parts of 65536
abbrev pub parts : ℤ → ℕ → ℤ
parts whole fraction = whole *ℤ pos 65536 +ℤ pos fraction

-- whole + fraction / 65536, rounded once to an f32
abbrev pub entry : ℤ → ℕ → Float
entry whole fraction = of_ratio binary32 (parts whole fraction) 65536

-- the matrix entry is not changed by its rounding
abbrev pub exact : ℤ → ℕ → Bool
exact whole fraction = is_ratio (entry whole fraction) (parts whole fraction) 65536

-- n has at most 24 significant binary digits: so many, with zeros behind them. An entry is exact where its value in parts of 65536 has (proofs/Believe.antt, exact-digits)
pub record Significant (n : ℕ) : Type 0 where
  pub digits : ℕ
  pub zeros : ℕ
  pub few : digits < 2 ^ 24
  pub is : n ≡ digits * 2 ^ zeros
