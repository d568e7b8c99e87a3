-- What `sqrt_f32` tests on the way, by the value's bits. Assumes nothing.
use Rattle.std.proofs.Common.{◌≡◌, ℕ, zero, suc, ◌+◌, ◌-◌, ◌*◌, ◌/◌, ◌%◌, ◌^◌, ◌<◌, ◌≤◌, Bool, true, false, cond, not, T, eqb, leb, ◌⊎◌, sym, refl, ap, ◌∙◌, subst, inl, inr, true≢false, lt_irrefl, mod-eq_of_lt, mul-pos, arith, le→leb, nltb→le, pow_pos}
use mathlib.Core.Bool.{false≢true}
use lib.Arith.{le→nltb}
use lib.Ieee.{Float, nan, inf, fin, binary32, odd, fits, is_nan, nan_bits, of_fields, of_bits, to_bits, ne, div}
use lib.Ieee.Bits.{is_true, of_bits-to_bits, to_bits-lt, nan_bits_is, nan_bits_above}
use lib.Ieee.Compare.{differs_from_itself, nan_differs}
use lib.Ieee.Exact.{HasValue, odd_sign}
use Rattle.numbers.specs.Sqrt.{rooted, sqrt}
use Rattle.numbers.proofs.Values.{no_size}
use Rattle.numbers.proofs.Rooted.{of_bits_is, normal, subnormal, sqrt-odd}

-- ---- the test for a NaN
-- what differs from itself is a NaN
pub was-nan : (x : Float) → ne x x ≡ true → x ≡ nan
was-nan x e = differs_from_itself x (subst T (sym e) tt)

-- what does not is no NaN
pub no_nan : (x : Float) → ne x x ≡ false → T (not (is_nan x))
unfolding is_nan
no_nan nan e = absurd (true≢false (sym nan_differs ∙ e))
no_nan (inf s) e = tt
no_nan (fin s m k) e = tt

-- ---- which patterns are no NaN's
-- a pattern without a sign, up to the infinity's
pub low-no-nan : (n : ℕ) → n < 2147483648 → n ≤ 2139095040 → T (not (nan_bits binary32 n))
low-no-nan n h k = subst (λ (b : Bool). T (not b)) (sym (nan_bits_above binary32 n)) (le→nltb 2139095040 (n % 2147483648) (subst (λ (m : ℕ). m ≤ 2139095040) (sym (mod-eq_of_lt h)) k))

-- without a sign, a value that is no NaN has such a pattern
pub bits-low : (x : Float) → T (fits binary32 x) → T (not (is_nan x)) → to_bits binary32 x < 2147483648 → to_bits binary32 x ≤ 2139095040
bits-low x p n h =
    let b = to_bits binary32 x in
    subst (λ (m : ℕ). m ≤ 2139095040) (mod-eq_of_lt h)
    (nltb→le 2139095040 (b % 2147483648)
    (subst (λ (t : Bool). T (not t)) (ap is_nan (sym (of_bits-to_bits binary32 x p)) ∙ sym (nan_bits_is binary32 b) ∙ nan_bits_above binary32 b)
    n))

-- ---- by the bits of x
by_bits : (x : Float) (b : ℕ) → T (fits binary32 x) → to_bits binary32 x ≡ b → x ≡ of_bits binary32 b
by_bits x b p e = sym (of_bits-to_bits binary32 x p) ∙ ap (of_bits binary32) e

zero_or : (b : ℕ) → b < 4294967296 → b % 2147483648 ≡ 0 → (b ≡ 0) ⊎ (b ≡ 2147483648)
zero_or b h e = go (b / 2147483648) refl
  where
    go : (q : ℕ) → b / 2147483648 ≡ q → (b ≡ 0) ⊎ (b ≡ 2147483648)
    go zero k = inl (omega arith)
    go (suc q) k = inr (omega arith)

fixed : (x v : Float) → x ≡ v → v ≡ sqrt binary32 v → x ≡ sqrt binary32 x
fixed x v e k = subst (λ (y : Float). y ≡ sqrt binary32 y) (sym e) k

-- a NaN is its own root
pub root-of-nan : (x : Float) → x ≡ nan → x ≡ sqrt binary32 x
unfolding sqrt
root-of-nan x e = fixed x nan e refl

-- 0 is, with either sign
pub root-of-zero : (x : Float) → T (fits binary32 x) → to_bits binary32 x % 2147483648 ≡ 0 → x ≡ sqrt binary32 x
unfolding sqrt of_bits
root-of-zero x p e = elim (zero_or (to_bits binary32 x) (to_bits-lt binary32 x p) e) [
  | inl z ↦ fixed x (of_bits binary32 0) (by_bits x 0 p z) refl
  | inr z ↦ fixed x (of_bits binary32 2147483648) (by_bits x 2147483648 p z) refl
]

-- and +infinity
pub root-of-inf : (x : Float) → T (fits binary32 x) → to_bits binary32 x ≡ 2139095040 → x ≡ sqrt binary32 x
unfolding sqrt of_bits
root-of-inf x p e = fixed x (of_bits binary32 2139095040) (by_bits x 2139095040 p e) refl

-- ---- a number below 0
sqrt-neg : (x : Float) (a c : ℕ) → 0 < a → HasValue x true a c → sqrt binary32 x ≡ nan
unfolding sqrt
sqrt-neg nan a c A v = refl
sqrt-neg (inf s) a c A v = absurd v
sqrt-neg (fin s zero e) a c A v = absurd (lt_irrefl 0 (subst (λ (x : ℕ). 0 < x) (no_size s true e a c v) A))
sqrt-neg (fin true (suc m) e) a c A v = refl
sqrt-neg (fin false (suc m) e) a c A v = absurd (false≢true v.0)

sqrt-neg-odd : (q k : ℕ) → 0 < q → sqrt binary32 (odd 24 true q k 149) ≡ nan
sqrt-neg-odd q k h = sqrt-neg (odd 24 true q k 149) (q * 2 ^ k) (2 ^ 149) (mul-pos h (pow_pos k)) (odd_sign 24 true q k 149)

two-tests : (a b : Bool) (v : Float) → sqrt binary32 v ≡ nan → sqrt binary32 (cond a (cond b (inf true) nan) v) ≡ nan
unfolding sqrt
two-tests true true v h = refl
two-tests true false v h = refl
two-tests false b v h = h

neg-fields : (x t : ℕ) → 0 < x + t → sqrt binary32 (of_fields binary32 true x t) ≡ nan
unfolding of_fields
neg-fields zero t h = sqrt-neg-odd t 0 (omega arith)
neg-fields (suc x) t h = two-tests (eqb (suc x) 255) (eqb t 0) (odd 24 true (8388608 + t) x 149) (sqrt-neg-odd (8388608 + t) x (omega arith))

-- what has a sign and is not 0 has a NaN for its root
pub root-of-negative : (x : Float) → T (fits binary32 x) → 2147483648 < to_bits binary32 x → div binary32 (of_bits binary32 0) (of_bits binary32 0) ≡ sqrt binary32 x
unfolding div of_bits
root-of-negative x p h =
    let b = to_bits binary32 x in
    let hi : b < 4294967296 = to_bits-lt binary32 x p in
    sym
    (ap (sqrt binary32) (sym (of_bits-to_bits binary32 x p) ∙ of_bits_is b ∙ ap (λ (s : Bool). of_fields binary32 s (b % 2147483648 / 8388608) (b % 8388608)) (is_true (leb 2147483648 b) (le→leb 2147483648 b (omega arith))))
    ∙ neg-fields (b % 2147483648 / 8388608) (b % 8388608) (omega arith))

-- ---- a number above 0
-- the root of a number below the normal ones, by its bits
pub root-small : (x : Float) → T (fits binary32 x) → 0 < to_bits binary32 x → to_bits binary32 x < 8388608 → sqrt binary32 x ≡ rooted binary32 (to_bits binary32 x * 2 ^ 149)
root-small x p h k = ap (sqrt binary32) (sym (of_bits-to_bits binary32 x p) ∙ subnormal (to_bits binary32 x) k) ∙ sqrt-odd (to_bits binary32 x) 0 h

split : (b : ℕ) → 8388608 ≤ b → b ≡ (b / 8388608 - 1) * 8388608 + (b % 8388608 + 8388608)
split b h = omega arith

-- the root of a normal number, by its digits and its exponent
pub root-normal : (x : Float) → T (fits binary32 x) → 8388608 ≤ to_bits binary32 x → to_bits binary32 x < 2139095040
    → sqrt binary32 x ≡ rooted binary32 ((to_bits binary32 x % 8388608 + 8388608) * 2 ^ (to_bits binary32 x / 8388608 + 148))
root-normal x p h k =
    let b = to_bits binary32 x in
    ap (sqrt binary32) (sym (of_bits-to_bits binary32 x p) ∙ ap (of_bits binary32) (split b h) ∙ normal (b / 8388608 - 1) (b % 8388608 + 8388608) (omega arith) (omega arith) (omega arith))
    ∙ sqrt-odd (b % 8388608 + 8388608) (b / 8388608 - 1) (omega arith)
    ∙ ap (λ (x : ℕ). rooted binary32 ((b % 8388608 + 8388608) * 2 ^ x)) (field b h)
  where
    field : (b : ℕ) → 8388608 ≤ b → b / 8388608 - 1 + 149 ≡ b / 8388608 + 148
    field b h = omega arith
