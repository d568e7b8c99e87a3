-- The number of squared units whose root `sqrt` takes, as a number of 47 or 48 digits times a power of four, and its root in steps of a power of two. Assumes nothing.
use Rattle.std.proofs.Common.{◌≡◌, ℕ, suc, ◌+◌, ◌-◌, ◌*◌, ◌/◌, ◌%◌, ◌^◌, ◌<◌, ◌≤◌, sym, refl, ap, ◌∙◌, subst, le_trans, lt_trans, le_of_eq, lt_of_lt_of_le, le_of_suc-le-suc, lt_of_le_of_lt, mul-le-mul_right, mul_assoc, mul-le-mul, lt_of_mul-lt-mul_right, mul-lt-mul_of_pos_right, lt_of_not-le, not-le_of_lt, arith, pow_mono, pow-add, shl_lt}
use native.Mathlib.Nat.{mul-mul-mul_comm, pow-succ'}
use lib.Ieee.{size}
use lib.Ieee.Digits.{size-lt, size-le, size_reaches}
use Rattle.numbers.proofs.Root.{square, sq-lt, square-shift, four-pos}
use Rattle.numbers.proofs.Rooted.{shift}

-- n is m * 4 ^ k, with an m of 47 or 48 digits, of which at most the first 24 are not 0
pub record Scaled (n : ℕ) : Type 0 where
  pub m : ℕ
  pub k : ℕ
  pub is : n ≡ m * 4 ^ k
  pub least : 2 ^ 46 ≤ m
  pub most : m ≤ 16777215 * 16777216
  pub range : k < 254

-- ---- a number of at most 24 digits, moved up to 24
module _ (q : ℕ) (some : 0 < q) (few : q < 2 ^ 24) where
  abbrev z : ℕ
  z = size q

  z-some : 0 < z
  z-some = lt_of_not-le (λ (g : z ≤ 0). not-le_of_lt (lt_of_lt_of_le (size-lt q) (pow_mono g)) some)

  z-few : z ≤ 24
  z-few = size-le q 24 few

  -- q has z digits
  leads : 2 ^ (z - 1) ≤ q
  leads = size_reaches q (z - 1) (omega (arith, z-some))

  abbrev d : ℕ
  d = q * 2 ^ (24 - z)

  d-least : 2 ^ 23 ≤ d
  d-least = le_trans (le_of_eq (ap (λ (x : ℕ). 2 ^ x) at ∙ pow-add 2 (z - 1) (24 - z))) (mul-le-mul_right (2 ^ (24 - z)) leads)
    where
      at : 23 ≡ z - 1 + (24 - z)
      at = omega (arith, z-some, z-few)

  d-most : d < 2 ^ 24
  d-most = subst (λ (x : ℕ). d < 2 ^ x) at (shl_lt z (24 - z) (size-lt q))
    where
      at : z + (24 - z) ≡ 24
      at = omega (arith, z-few)

  d-is : (j : ℕ) → d * 2 ^ (j + (125 + z)) ≡ q * 2 ^ j * 2 ^ 149
  d-is j =
      mul_assoc q (2 ^ (24 - z)) (2 ^ (j + (125 + z)))
      ∙ ap (λ (x : ℕ). q * x) (sym (pow-add 2 (24 - z) (j + (125 + z))) ∙ ap (λ (x : ℕ). 2 ^ x) at ∙ pow-add 2 j 149)
      ∙ sym (mul_assoc q (2 ^ j) (2 ^ 149))
    where
      at : 24 - z + (j + (125 + z)) ≡ j + 149
      at = omega (arith, z-few)

  range-of : (j : ℕ) → q * 2 ^ j < 2 ^ 277 → j + z ≤ 277
  range-of j h = fits (lt_of_not-le (λ (g : 277 ≤ z - 1 + j). not-le_of_lt h (le_trans (pow_mono g) (le_trans (le_of_eq (pow-add 2 (z - 1) j)) (mul-le-mul_right (2 ^ j) leads)))))
    where
      fits : z - 1 + j < 277 → j + z ≤ 277
      fits g = omega (arith, z-some)

  -- the squared units of a value: an even power of two is split off, so that 47 or 48 digits are left
  pub scaled : (j : ℕ) → q * 2 ^ j < 2 ^ 277 → Scaled (q * 2 ^ j * 2 ^ 149)
  scaled j h =
      let p = j + (125 + z) in
      let s = 24 - p % 2 in
      let k = (p - s) / 2 in
      let s-least : 23 ≤ s = omega arith in
      let s-most : s ≤ 24 = omega arith in
      let split : s + (k + k) ≡ p = omega (arith, z-some) in
      let d-few : d ≤ 16777215 = omega (arith, d-most) in
      record {
        m = d * 2 ^ s;
        k = k;
        is = sym (d-is j) ∙ sym (shift d s k p split);
        least = mul-le-mul d-least (pow_mono s-least);
        most = mul-le-mul d-few (pow_mono s-most);
        range = omega (arith, range-of j h);
      }

-- ---- a root counted in steps of 2 ^ k
-- the bracket of m is that of m * 4 ^ k, in steps of 2 ^ k
pub scaled-lower : (c k : ℕ) {m n : ℕ} → n ≡ m * 4 ^ k → square c < m → square (c * 2 ^ k) < n
scaled-lower c k {m} e g = rw (e, ← square-shift c k) (mul-lt-mul_of_pos_right g (four-pos k))

-- and so for its upper side
pub scaled-upper : (c k : ℕ) {m n : ℕ} → n ≡ m * 4 ^ k → m < square c → n < square (c * 2 ^ k)
scaled-upper c k {m} e g = rw (e, ← square-shift c k) (mul-lt-mul_of_pos_right g (four-pos k))

-- the root is at least 2 ^ 23 steps of one size and below 2 ^ 24 of the other: the second size is no less than the first
pub step-le : (n k r j : ℕ) → square (2 ^ 23 * 2 ^ k) ≤ n → r < 2 ^ 24 → 4 * n < square ((2 * r + 1) * 2 ^ j) → k ≤ j
step-le n k r j lo few hi = le_of_suc-le-suc (lt_of_not-le (λ (g : suc j ≤ k). not-le_of_lt low (le_trans (mul-le-mul_right (2 ^ j) wide) (double g))))
  where
    low : 2 * (2 ^ 23 * 2 ^ k) < (2 * r + 1) * 2 ^ j
    low = sq-lt (2 * (2 ^ 23 * 2 ^ k)) ((2 * r + 1) * 2 ^ j) (lt_of_le_of_lt (le_trans (le_of_eq (mul-mul-mul_comm 2 (2 ^ 23 * 2 ^ k) 2 (2 ^ 23 * 2 ^ k))) (mul-le-mul (le_of_eq {m = 4} refl) lo)) hi)

    wide : 2 * r + 1 ≤ 2 ^ 25
    wide = omega arith

    double : suc j ≤ k → 2 ^ 25 * 2 ^ j ≤ 2 * (2 ^ 23 * 2 ^ k)
    double g = le_trans (le_of_eq (mul_assoc (2 ^ 24) 2 (2 ^ j) ∙ ap (λ (x : ℕ). 2 ^ 24 * x) (sym (pow-succ' 2 j)))) (le_trans (mul-le-mul (le_of_eq {m = 2 ^ 24} refl) (pow_mono g)) (le_of_eq (mul_assoc 2 (2 ^ 23) (2 ^ k))))

-- r - 1/2 steps are below the root, and q + 1/2 above it
pub steps-le : (n k r q : ℕ) → square ((2 * r - 1) * 2 ^ k) < n → n < square ((2 * q + 1) * 2 ^ k) → r ≤ q
steps-le n k r q lo hi = below (lt_of_mul-lt-mul_right (2 ^ k) (sq-lt ((2 * r - 1) * 2 ^ k) ((2 * q + 1) * 2 ^ k) (lt_trans lo hi)))
  where
    below : 2 * r - 1 < 2 * q + 1 → r ≤ q
    below h = omega arith
