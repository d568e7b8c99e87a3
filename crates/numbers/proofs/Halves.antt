-- Bits read with a sign, at any width: what the definition gives on each side of the middle, and that `cast_signed` reads the same. Assumes nothing.
use Rattle.std.proofs.Common.{◌≡◌, ℕ, suc, ◌-◌, ◌^◌, ◌<◌, ◌≤◌, Bool, true, false, not, T, ltb, leb, ℤ, pos, negsuc, sym, ap, ◌∙◌, arith, lt→ltb, ltb→lt, nltb→le, pow_pos, Fits, to_z, of_z}
use Rattle.std.proofs.Math.Facts.{to_z_pos, to_z-neg, of_z-to_z}
use lib.Arith.{le→nltb, lt→nleb}
use lib.Ieee.{minus}
use lib.Ieee.Bits.{is_true, is_false, cond_no}
use mir.Syntax.{Width}
use mir.Val.{bits, hbits}
use mir.ValLaws.{bits-suc, pow-bits}
use Rattle.numbers.specs.Choice.{pick}
use Rattle.numbers.specs.Ratio.{signed}

-- below the middle the number stands for itself
pub signed_low : (w h : ℕ) → h < 2 ^ (w - 1) → signed w h ≡ pos h
unfolding pick
signed_low w h g = ap (λ (t : Bool). pick t (pos h) (minus h (2 ^ w))) (is_true (ltb h (2 ^ (w - 1))) (lt→ltb h (2 ^ (w - 1)) g))

-- from the middle on 2 ^ w is taken off
pub signed_high : (w h : ℕ) → 2 ^ (w - 1) ≤ h → h < 2 ^ w → signed w h ≡ negsuc (2 ^ w - suc h)
unfolding pick
signed_high w h g k =
    ap (λ (t : Bool). pick t (pos h) (minus h (2 ^ w))) (is_false (ltb h (2 ^ (w - 1))) (le→nltb h (2 ^ (w - 1)) g))
    ∙ cond_no (leb (2 ^ w) h) (pos (h - 2 ^ w)) (negsuc (2 ^ w - suc h)) (lt→nleb (2 ^ w) h k)

-- what `cast_signed` gives, as the caller is handed it
module _ (w : Width) (h : ℕ) (f : Fits w h) where
  middle : 2 ^ (bits w - 1) ≡ 2 ^ hbits w
  middle = ap (λ (n : ℕ). 2 ^ n) less
    where
      less : bits w - 1 ≡ hbits w
      less = omega (arith, bits-suc w)

  read-is : to_z w h ≡ signed (bits w) h
  read-is = go (ltb h (2 ^ hbits w)) (ltb→lt h (2 ^ hbits w)) (nltb→le h (2 ^ hbits w))
    where
      back : 2 ^ bits w - suc (2 ^ bits w - suc h) ≡ h
      back = omega (arith, f.fits)

      go : (t : Bool) → (T t → h < 2 ^ hbits w) → (T (not t) → 2 ^ hbits w ≤ h) → to_z w h ≡ signed (bits w) h
      go true y n = to_z_pos w (y tt) ∙ sym (signed_low (bits w) h (rw middle (y tt)))
      go false y n =
          ap (to_z w) (sym back)
          ∙ to_z-neg w (2 ^ bits w - suc h) (omega (arith, n tt, pow-bits w, pow_pos (hbits w)))
          ∙ sym (signed_high (bits w) h (rw middle (n tt)) f.fits)

  pub cast_is : {z : ℤ} → z ≡ to_z w h → to_z w (of_z w z) ≡ signed (bits w) h
  cast_is e = ap (λ (z : ℤ). to_z w (of_z w z)) e ∙ ap (to_z w) (of_z-to_z f) ∙ read-is
