-- `rooted` and `sqrt` at binary32, by the bits of the number and of its root. Assumes nothing.
use Rattle.std.proofs.Common.{◌≡◌, ℕ, zero, suc, ◌+◌, ◌-◌, ◌*◌, ◌/◌, ◌%◌, ◌^◌, ◌<◌, ◌≤◌, Bool, true, false, cond, T, eqb, ltb, leb, sym, refl, ap, ◌∙◌, subst, true≢false, le_trans, le_refl, lt_of_lt_of_le, lt_of_le_of_lt, le_of_lt, lt_irrefl, mul-le-mul_right, mod-eq_of_lt, mul_assoc, mul-le-mul, mul-lt-mul_of_pos_right, mul-pos, lt_of_not-le, mul_right_comm, not-le_of_lt, arith, eqb→eq, lt→ltb, leb→le, pow_pos, pow_mono, pow-add, shl_lt}
use native.Mathlib.Nat.{div-eq_of_eq-mul_left}
use lib.Dec.{not_T}
use lib.Ieee.{Float, nan, inf, fin, binary32, up, down, size, odd, units, fits, of_fields, of_bits}
use lib.Ieee.Bits.{is_false, cond_no, of_bits-fits}
use lib.Ieee.Digits.{size-lt, size-le}
use lib.Ieee.Fits.{down_pos, odd-fits}
use lib.Ieee.Exact.{HasValue, odd_sign, units_val}
use Rattle.numbers.specs.Sqrt.{root, root_by, rooted, sqrt}
use Rattle.numbers.proofs.Root.{Result, root_is, sq-le, shifted-low, shifted-high, root_by-shift, four}
use Rattle.numbers.proofs.Values.{value-unique, no_size}

-- ---- patterns without a sign
-- a pattern by its sign, its exponent's field and its digits
pub of_bits_is : (b : ℕ) → of_bits binary32 b ≡ of_fields binary32 (leb 2147483648 b) (b % 2147483648 / 8388608) (b % 8388608)
unfolding of_bits
of_bits_is b = refl

unsigned : (b : ℕ) → b < 2147483648 → of_bits binary32 b ≡ of_fields binary32 false (b / 8388608) (b % 8388608)
unsigned b h =
    of_bits_is b
    ∙ ap (λ (s : Bool). of_fields binary32 s (b % 2147483648 / 8388608) (b % 8388608)) (is_false (leb 2147483648 b) (not_T (leb 2147483648 b) (λ (u : T (leb 2147483648 b)). not-le_of_lt h (leb→le 2147483648 b u))))
    ∙ ap (λ (x : ℕ). of_fields binary32 false (x / 8388608) (b % 8388608)) (mod-eq_of_lt h)

at_field : (x t : ℕ) → suc x < 255 → of_fields binary32 false (suc x) t ≡ odd 24 false (8388608 + t) x 149
unfolding of_fields
at_field x t h = cond_no (eqb (suc x) 255) (cond (eqb t 0) (inf false) nan) (odd 24 false (8388608 + t) x 149) (not_T (eqb (suc x) 255) (λ (u : T (eqb (suc x) 255)). differ (eqb→eq (suc x) 255 u)))
  where
    differ : suc x ≡ 255 → ⊥
    differ e = omega arith

at_none : (t : ℕ) → of_fields binary32 false 0 t ≡ odd 24 false t 0 149
unfolding of_fields
at_none t = refl

-- the pattern of a number of 24 digits
pub normal : (k q : ℕ) → k < 254 → 8388608 ≤ q → q < 16777216 → of_bits binary32 (k * 8388608 + q) ≡ odd 24 false q k 149
normal k q h l g =
    unsigned (k * 8388608 + q) (omega arith)
    ∙ ap (λ (x : ℕ). of_fields binary32 false x ((k * 8388608 + q) % 8388608)) (field k q l g)
    ∙ at_field k ((k * 8388608 + q) % 8388608) (omega arith)
    ∙ ap (λ (x : ℕ). odd 24 false x k 149) (digits k q l g)
  where
    field : (k q : ℕ) → 8388608 ≤ q → q < 16777216 → (k * 8388608 + q) / 8388608 ≡ suc k
    field k q l g = omega arith

    digits : (k q : ℕ) → 8388608 ≤ q → q < 16777216 → 8388608 + (k * 8388608 + q) % 8388608 ≡ q
    digits k q l g = omega arith

-- the pattern of a number of fewer digits
pub subnormal : (b : ℕ) → b < 8388608 → of_bits binary32 b ≡ odd 24 false b 0 149
subnormal b h =
    unsigned b (omega arith)
    ∙ ap (λ (x : ℕ). of_fields binary32 false x (b % 8388608)) (none b h)
    ∙ at_none (b % 8388608)
    ∙ ap (λ (x : ℕ). odd 24 false x 0 149) (mod-eq_of_lt h)
  where
    none : (b : ℕ) → b < 8388608 → b / 8388608 ≡ 0
    none b h = omega arith

-- ---- q * 2 ^ k units, for a q of 24 digits
-- it is below the infinity
pub in-range : (q k : ℕ) → q < 16777216 → k < 254 → q * 2 ^ k < 2 ^ 277
in-range q k g h = lt_of_lt_of_le (shl_lt 24 k g) (pow_mono (top k h))
  where
    top : (k : ℕ) → k < 254 → 24 + k ≤ 277
    top k h = omega arith

units-is : (q k : ℕ) → q * 2 ^ k < 2 ^ 277 → units binary32 false q k ≡ odd 25 false q k 149
unfolding units
units-is q k h = go (ltb (q * 2 ^ k) (2 ^ 277)) (lt→ltb (q * 2 ^ k) (2 ^ 277) h)
  where
    go : (b : Bool) → T b → cond b (odd 25 false q k 149) (inf false) ≡ odd 25 false q k 149
    go true t = refl
    go false t = absurd t

-- its pattern: k in the exponent's field, to which the highest digit of q adds one
pub written : (k q : ℕ) → k < 254 → 8388608 ≤ q → q < 16777216 → of_bits binary32 (k * 8388608 + q) ≡ units binary32 false q k
written k q h l g =
    let r = in-range q k g h in
    value-unique binary32 (of_bits binary32 (k * 8388608 + q)) (units binary32 false q k) false (q * 2 ^ k) (2 ^ 149) (pow_pos 149)
    (of_bits-fits binary32 (k * 8388608 + q))
    (subst (λ (v : Float). T (fits binary32 v)) (sym (units-is q k r)) (odd-fits binary32 25 false q k (omega arith) (le_of_lt g) r))
    (subst (λ (v : Float). HasValue v false (q * 2 ^ k) (2 ^ 149)) (sym (normal k q h l g)) (odd_sign 24 false q k 149))
    (units_val binary32 false q k r)

-- ---- the root of m * 4 ^ k, for an m of 47 or 48 digits
size_is : (v k : ℕ) → 2 ^ 23 * 2 ^ k ≤ v → v < 2 ^ 24 * 2 ^ k → size v - 24 ≡ k
size_is v k lo hi = join (size v) k
    (size-le v (24 + k) (subst (λ (x : ℕ). v < x) (sym (pow-add 2 24 k)) hi))
    (lt_of_not-le (λ (g : size v ≤ 23 + k). not-le_of_lt (lt_of_lt_of_le (size-lt v) (pow_mono g)) (subst (λ (x : ℕ). x ≤ v) (sym (pow-add 2 23 k)) lo)))
  where
    join : (z k : ℕ) → z ≤ 24 + k → 23 + k < z → z - 24 ≡ k
    join z k a b = omega arith

-- its root is that of m, counted in 2 ^ k units
pub rooted-at : (m k : ℕ) → 2 ^ 46 ≤ m → m < 2 ^ 48 → rooted binary32 (m * 4 ^ k) ≡ units binary32 false (root_by 0 m) k
unfolding rooted
rooted-at m k lo hi =
    let n = m * 4 ^ k in
    let w = root (size m) m in
    let v = root (size n) n in
    let p = root_is m in
    let q = root_is n in
    let w-lo : 8388608 ≤ w = sq-le 8388608 w (lt_of_le_of_lt lo p.1) in
    let w-hi : w ≤ 16777215 = sq-le w 16777215 (lt_of_le_of_lt p.0 hi) in
    ap (λ (z : ℕ). units binary32 false (root_by z n) z)
    (size_is v k (le_trans (mul-le-mul_right (2 ^ k) w-lo) (shifted-low m k w v p q)) (lt_of_lt_of_le (shifted-high m k w v p q) (mul-le-mul_right (2 ^ k) (omega arith))))
    ∙ ap (λ (z : ℕ). units binary32 false z k) (root_by-shift k m)

-- ---- the root of a number above 0, by its value
cut : (s : ℕ) (d a t : ℕ) → 0 < d → s * t ≡ a * d → s * (t * t) / d ≡ a * t
cut s d a t D e = div-eq_of_eq-mul_left D (sym (mul_assoc s t t) ∙ ap (λ (x : ℕ). x * t) e ∙ mul_right_comm a d t)

-- the root of a units of 2 ^ -149, which are a * 2 ^ 149 squared units
pub sqrt-value : (x : Float) (a : ℕ) → 0 < a → HasValue x false a (2 ^ 149) → sqrt binary32 x ≡ rooted binary32 (a * 2 ^ 149)
unfolding sqrt
sqrt-value nan a A v = absurd v
sqrt-value (inf s) a A v = absurd v
sqrt-value (fin s zero e) a A v = absurd (lt_irrefl 0 (subst (λ (x : ℕ). 0 < x) (no_size s false e a (2 ^ 149) v) A))
sqrt-value (fin true (suc m) e) a A v = absurd (true≢false v.0)
sqrt-value (fin false (suc m) e) a A v = ap (rooted binary32) (cut (suc m * up e) (down e) a (2 ^ 149) (down_pos e) v.1)

-- the root of q * 2 ^ k units
pub sqrt-odd : (q k : ℕ) → 0 < q → sqrt binary32 (odd 24 false q k 149) ≡ rooted binary32 (q * 2 ^ (k + 149))
sqrt-odd q k h =
    sqrt-value (odd 24 false q k 149) (q * 2 ^ k) (mul-pos h (pow_pos k)) (odd_sign 24 false q k 149)
    ∙ ap (rooted binary32) (mul_assoc q (2 ^ k) (2 ^ 149) ∙ ap (λ (x : ℕ). q * x) (sym (pow-add 2 k 149)))

-- ---- the bits of the root
root-bits : (m k r : ℕ) → 2 ^ 46 ≤ m → m < 2 ^ 48 → k < 254 → r ≡ root_by 0 m → 8388608 ≤ r → r < 16777216 → of_bits binary32 (k * 8388608 + r) ≡ rooted binary32 (m * 4 ^ k)
root-bits m k r lo hi h e l g = written k r h l g ∙ ap (λ (x : ℕ). units binary32 false x k) e ∙ sym (rooted-at m k lo hi)

-- a power of four split off a power of two
pub shift : (d s k p : ℕ) → s + (k + k) ≡ p → d * 2 ^ s * 4 ^ k ≡ d * 2 ^ p
shift d s k p e =
    mul_assoc d (2 ^ s) (4 ^ k)
    ∙ ap (λ (x : ℕ). d * x) (ap (λ (x : ℕ). 2 ^ s * x) (four k ∙ sym (pow-add 2 k k)) ∙ sym (pow-add 2 s (k + k)) ∙ ap (λ (x : ℕ). 2 ^ x) e)

-- 24 digits at a place that a binary32 can have
abbrev pub Bounds : ℕ → ℕ → Type 0
Bounds digits power = ((8388608 ≤ digits) × (digits < 16777216)) × ((126 ≤ power) × (power ≤ 402))

-- The root of d * 2 ^ p squared units, where p is s and an even number: s is 23 or 24, u is 2 ^ s / 2 ^ 16, and r the root of d * u * 2 ^ 16.
pub root-at : (s u d p r : ℕ) → u * 65536 ≡ 2 ^ s → (23 ≤ s) × (s ≤ 24) → s + ((p - s) / 2 + (p - s) / 2) ≡ p → Bounds d p → Result (d * u) r
    → (of_bits binary32 ((p - s) / 2 * 8388608 + r) ≡ rooted binary32 (d * 2 ^ p)) × ((p - s) / 2 * 8388608 + r < 2139095040)
root-at s u d p r e t o b g =
    let k = (p - s) / 2 in
    let m-is : d * u * 65536 ≡ d * 2 ^ s = mul_assoc d u 65536 ∙ ap (λ (x : ℕ). d * x) e in
    let least : 2 ^ 46 ≤ d * 2 ^ s = mul-le-mul b.0.0 (pow_mono t.0) in
    let most : d * 2 ^ s < 2 ^ 48 = lt_of_lt_of_le (mul-lt-mul_of_pos_right b.0.1 (pow_pos s)) (mul-le-mul (le_refl 16777216) (pow_mono t.1)) in (
      root-bits (d * 2 ^ s) k r least most (omega arith) (g.0 ∙ ap (root_by 0) m-is) g.1.0 g.1.1 ∙ ap (rooted binary32) (shift d s k p o),
      omega arith,
    )
