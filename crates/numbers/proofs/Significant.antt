-- The whole numbers n of which an f32 holds n / 65536, those of at most 24 significant binary digits, and matrix entries of which it is known. Assumes nothing.
use Rattle.std.proofs.Common.{◌≡◌, ℕ, zero, suc, ◌+◌, ◌-◌, ◌*◌, ◌^◌, ◌<◌, ◌≤◌, Bool, true, false, not, T, ltb, ◌⊎◌, ℤ, pos, negsuc, nat_abs, sym, refl, ap, ◌∙◌, subst, inl, inr, le_trans, le_of_eq, lt_of_lt_of_le, lt_of_le_of_lt, mul_assoc, mul-one, mul_left_comm, arith, lit<, lit≤, ltb→lt, nltb→le, pow_pos, pow_mono, pow-add, shl_lt, w16, SFits}
use native.Mathlib.Nat.{eq_of_mul-eq-mul_right, pow-succ'}
use lib.Ieee.{Float, nan, inf, fin, binary32, round, fits}
use lib.Ieee.Digits.{back}
use lib.Ieee.Exact.{HasValue, round_exact}
use Rattle.numbers.specs.Ratio.{parts, Significant}
use Rattle.numbers.proofs.Quotients.{rescale, down_le}
use Rattle.numbers.proofs.Values.{placed, no_size, same_size}
use Rattle.numbers.proofs.Parts.{parts-neg}

-- an f32 holds a number of at most 24 significant binary digits divided by 65536
pub significant-held : (s : Bool) (n : ℕ) → n < 2 ^ 32 → Significant n → HasValue (round binary32 s n 65536) s n 65536
significant-held s n h d =
    let q = d.digits in
    let z = d.zeros in
    let moved : n * 2 ^ 133 ≡ q * 2 ^ (z + 133) = ap (λ (x : ℕ). x * 2 ^ 133) d.is ∙ mul_assoc q (2 ^ z) (2 ^ 133) ∙ ap (λ (x : ℕ). q * x) (sym (pow-add 2 z 133)) in
    round_exact binary32 s n 65536 q (z + 133) (lit< tt) d.few
    (subst (λ (x : ℕ). x < 2 ^ 277) moved (lt_of_lt_of_le (shl_lt 32 133 h) (pow_mono {i = 165} {j = 277} (lit≤ tt))))
    (sym (mul_assoc n (2 ^ 133) 65536) ∙ ap (λ (x : ℕ). x * 65536) moved)

-- q digits at the place k are n at the place 133
at_place : (n q k : ℕ) → q < 2 ^ 24 → n * 2 ^ 133 ≡ q * 2 ^ k → (133 ≤ k) ⊎ (k ≤ 133) → Significant n
at_place n q k few e (inl h) =
    record {
      digits = q;
      zeros = k - 133;
      few = few;
      is = eq_of_mul-eq-mul_right (2 ^ 133) (pow_pos 133) n (q * 2 ^ (k - 133)) (e ∙ ap (λ (x : ℕ). q * 2 ^ x) (sym (back k 133 h)) ∙ ap (λ (x : ℕ). q * x) (pow-add 2 (k - 133) 133) ∙ sym (mul_assoc q (2 ^ (k - 133)) (2 ^ 133)));
    }
at_place n q k few e (inr h) =
    let more : n * 2 ^ (133 - k) ≡ q =
    eq_of_mul-eq-mul_right (2 ^ k) (pow_pos k) (n * 2 ^ (133 - k)) q (mul_assoc n (2 ^ (133 - k)) (2 ^ k) ∙ ap (λ (x : ℕ). n * x) (sym (pow-add 2 (133 - k) k)) ∙ ap (λ (x : ℕ). n * 2 ^ x) (back 133 k h) ∙ e) in
    record { digits = n; zeros = 0; few = lt_of_le_of_lt (le_trans (down_le n (2 ^ (133 - k)) (pow_pos (133 - k))) (le_of_eq more)) few; is = sym (mul-one n) }

-- and only such
pub held-significant : (x : Float) (s : Bool) (n : ℕ) → T (fits binary32 x) → HasValue x s n 65536 → Significant n
held-significant nan s n p v = absurd v
held-significant (inf t) s n p v = absurd v
held-significant (fin t zero e) s n p v = record { digits = 0; zeros = 0; few = lit< tt; is = no_size t s e n 65536 v }
held-significant (fin t (suc m) e) s n p v =
    let l = placed binary32 t m e p in
    let w = l.digits * 2 ^ l.power in
    let same : n * 2 ^ 133 ≡ w =
    same_size (fin t (suc m) e) t (n * 2 ^ 133) w (2 ^ 149)
    (rescale (fin t (suc m) e) t n 65536 (n * 2 ^ 133) (2 ^ 149) (lit< tt) (mul_assoc n (2 ^ 133) 65536) (refl, v.1)) l.value in
    at_place n l.digits l.power l.few same (go l.power (ltb l.power 133) (ltb→lt l.power 133) (nltb→le l.power 133))
  where
    go : (k : ℕ) (b : Bool) → (T b → k < 133) → (T (not b) → 133 ≤ k) → (133 ≤ k) ⊎ (k ≤ 133)
    go k true y z = inr (omega (arith, y tt))
    go k false y z = inl (z tt)

-- ---- matrix entries

-- a whole number and k parts of 256 have 8 zeros behind at most 24 digits
pub parts-by-256 : (whole : ℤ) (k : ℕ) → SFits w16 whole → k < 256 → Significant (nat_abs (parts whole (k * 256)))
parts-by-256 (pos n) k h l = record { digits = n * 256 + k; zeros = 8; few = omega (arith, h.sfits); is = omega arith }
parts-by-256 (negsuc n) k h l =
    subst (λ (z : ℤ). Significant (nat_abs z)) (sym (parts-neg n (k * 256) (omega arith)))
    (record { digits = n * 256 + 256 - k; zeros = 8; few = omega (arith, h.sfits); is = omega arith })

-- an odd fraction makes an odd number
odd-of : (whole : ℤ) (k : ℕ) → 2 * k + 1 < 65536 → (j : ℕ) × (nat_abs (parts whole (2 * k + 1)) ≡ 2 * j + 1)
odd-of (pos n) k h = (n * 32768 + k, omega arith)
odd-of (negsuc n) k h = (n * 32768 + 32767 - k, ap nat_abs (parts-neg n (2 * k + 1) h) ∙ is)
  where
    is : suc (n * 65536 + 65535 - (2 * k + 1)) ≡ 2 * (n * 32768 + 32767 - k) + 1
    is = omega arith

-- which has no zero behind, and so 25 significant digits from 2 ^ 24 on
odd-many : (j : ℕ) → 2 ^ 24 ≤ 2 * j + 1 → (q z : ℕ) → q < 2 ^ 24 → 2 * j + 1 ≡ q * 2 ^ z → ⊥
odd-many j h q zero l e = omega (arith, mul-one q)
odd-many j h q (suc z) l e = even (q * 2 ^ z) (e ∙ ap (λ (x : ℕ). q * x) (pow-succ' 2 z) ∙ mul_left_comm q 2 (2 ^ z))
  where
    even : (y : ℕ) → 2 * j + 1 ≡ 2 * y → ⊥
    even y e = omega arith

pub odd-not : (whole : ℤ) (k : ℕ) → 2 * k + 1 < 65536 → 2 ^ 24 ≤ nat_abs (parts whole (2 * k + 1)) → Significant (nat_abs (parts whole (2 * k + 1))) → ⊥
odd-not whole k h l d =
    let o = odd-of whole k h in
    odd-many o.0 (subst (λ (n : ℕ). 2 ^ 24 ≤ n) o.1 l) d.digits d.zeros d.few (sym o.1 ∙ d.is)
