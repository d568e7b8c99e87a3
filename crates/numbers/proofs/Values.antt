-- The values of a format: two that are the same number with the same sign are equal, and each is a short number of digits at some place. Assumes nothing.
use Rattle.std.proofs.Common.{◌≡◌, ℕ, zero, suc, ◌+◌, ◌-◌, ◌*◌, ◌/◌, ◌%◌, ◌^◌, ◌<◌, ◌≤◌, Bool, cond, ◌&&◌, T, eqb, ltb, leb, ℤ, pos, negsuc, sym, refl, ap, ◌∙◌, subst, le_of_eq, lt_of_lt_of_le, le_of_suc-le-suc, lt_irrefl, zero-lt-suc, mul_assoc, mul_comm, lt_of_mul-lt-mul_right, mul-lt-mul_of_pos_right, one-mul, lt_of_not-le, zero-mul, mul-one, mul_right_comm, ltb→lt, leb→le, pow_pos, pow-add}
use native.Mathlib.Nat.{eq_of_mul-eq-mul_right}
use lib.Pow.{pow-lt}
use lib.Ieee.{Float, nan, inf, fin, Format, prec, emax, low, up, down, size, hid, top, fits, of_bits, to_bits}
use lib.Ieee.Digits.{back}
use lib.Ieee.Fits.{down_pos, and_l, and_r}
use lib.Ieee.Bits.{of_bits-to_bits}
use lib.Ieee.Exact.{HasValue}
use lib.Ieee.Nearest.{div_same}

-- the bits of a magnitude of n units
abbrev bits_of : Format → Bool → ℕ → ℕ
bits_of f s n = cond s (top f) 0 + (size n - prec f) * hid f + n / 2 ^ (size n - prec f)

bits-by-value : (f : Format) (x : Float) (s : Bool) (a c : ℕ) → 0 < c → HasValue x s a c → to_bits f x ≡ bits_of f s (a * 2 ^ low f / c)
unfolding to_bits
bits-by-value f nan s a c C v = absurd v
bits-by-value f (inf t) s a c C v = absurd v
bits-by-value f (fin t m e) s a c C v =
    ap (λ (n : ℕ). bits_of f t n)
    (div_same (m * up e * 2 ^ low f) (down e) (a * 2 ^ low f) c (down_pos e) C
    (mul_right_comm (m * up e) (2 ^ low f) c ∙ ap (λ (n : ℕ). n * 2 ^ low f) v.1 ∙ mul_right_comm a (down e) (2 ^ low f)))
    ∙ ap (λ (b : Bool). bits_of f b (a * 2 ^ low f / c)) v.0

-- two values of the format with the same sign and the same size are equal
pub value-unique : (f : Format) (x y : Float) (s : Bool) (a c : ℕ) → 0 < c → T (fits f x) → T (fits f y) → HasValue x s a c → HasValue y s a c → x ≡ y
value-unique f x y s a c C p q v w =
    sym (of_bits-to_bits f x p) ∙ ap (of_bits f) (bits-by-value f x s a c C v ∙ sym (bits-by-value f y s a c C w)) ∙ of_bits-to_bits f y q

-- a value has one size
pub same_size : (x : Float) (s : Bool) (a b c : ℕ) → HasValue x s a c → HasValue x s b c → a ≡ b
same_size nan s a b c v w = absurd v
same_size (inf t) s a b c v w = absurd v
same_size (fin t m e) s a b c v w = eq_of_mul-eq-mul_right (down e) (down_pos e) a b (sym v.1 ∙ w.1)

-- the size of 0 is 0
pub no_size : (t s : Bool) (e : ℤ) (a c : ℕ) → HasValue (fin t zero e) s a c → a ≡ 0
no_size t s e a c v = eq_of_mul-eq-mul_right (down e) (down_pos e) a 0 (sym v.1 ∙ ap (λ (x : ℕ). x * c) (zero-mul (up e)) ∙ zero-mul c ∙ sym (zero-mul (down e)))

-- the value x, of the sign s and not 0: so many digits at such a place, counted in the format's smallest values
pub record Placed (f : Format) (x : Float) (s : Bool) : Type 0 where
  pub digits : ℕ
  pub power : ℕ
  pub some : 0 < digits
  pub few : digits < 2 ^ prec f
  pub within : digits * 2 ^ power < 2 ^ (low f + suc (emax f))
  pub value : HasValue x s (digits * 2 ^ power) (2 ^ low f)

pow_le_back : (a l : ℕ) → 2 ^ a ≤ 2 ^ l → a ≤ l
pow_le_back a l h = le_of_suc-le-suc (lt_of_not-le (λ (g : suc l ≤ a). lt_irrefl (2 ^ l) (lt_of_lt_of_le (pow-lt g) h)))

-- 2 ^ e is 2 ^ j smallest values
place : (l : ℕ) (e : ℤ) → down e ≤ 2 ^ l → (j : ℕ) × (up e * 2 ^ l ≡ 2 ^ j * down e)
place l (pos k) h = (k + l, sym (pow-add 2 k l) ∙ sym (mul-one (2 ^ (k + l))))
place l (negsuc k) h = (l - suc k, one-mul (2 ^ l) ∙ ap (λ (x : ℕ). 2 ^ x) (sym (back l (suc k) (pow_le_back (suc k) l h))) ∙ pow-add 2 (l - suc k) (suc k))

-- each value of the format that is not 0 has a place
pub placed : (f : Format) (s : Bool) (m : ℕ) (e : ℤ) → T (fits f (fin s (suc m) e)) → Placed f (fin s (suc m) e) s
unfolding fits
placed f s m e p =
    let l = low f in
    let A = eqb (suc m % 2) 1 in
    let B = ltb (suc m) (2 ^ prec f) in
    let D = leb (down e) (2 ^ l) in
    let E = ltb (suc m * up e) (2 ^ suc (emax f) * down e) in
    let pl = place l e (leb→le (down e) (2 ^ l) (and_r (A && B) D (and_l (A && B && D) E p))) in
    let j = pl.0 in
    let at : suc m * up e * 2 ^ l ≡ suc m * 2 ^ j * down e = mul_assoc (suc m) (up e) (2 ^ l) ∙ ap (λ (x : ℕ). suc m * x) pl.1 ∙ sym (mul_assoc (suc m) (2 ^ j) (down e)) in
    record {
      digits = suc m;
      power = j;
      some = zero-lt-suc m;
      few = ltb→lt (suc m) (2 ^ prec f) (and_r A B (and_l (A && B) D (and_l (A && B && D) E p)));
      within =
          lt_of_mul-lt-mul_right (down e)
          (subst (λ (x : ℕ). x < 2 ^ (l + suc (emax f)) * down e) at
          (lt_of_lt_of_le (mul-lt-mul_of_pos_right (ltb→lt (suc m * up e) (2 ^ suc (emax f) * down e) (and_r (A && B && D) E p)) (pow_pos l))
          (le_of_eq (mul_right_comm (2 ^ suc (emax f)) (down e) (2 ^ l) ∙ ap (λ (x : ℕ). x * down e) (mul_comm (2 ^ suc (emax f)) (2 ^ l) ∙ sym (pow-add 2 l (suc (emax f))))))));
      value = (refl, at);
    }
