-- Signs as equal, and what rounding loses of a number divided by 65536: in an f64 nothing, in an f32 nothing below 2 ^ 24 and at most 256 parts below 2 ^ 32. Assumes nothing.
use Rattle.std.proofs.Common.{◌≡◌, ℕ, ◌+◌, ◌-◌, ◌*◌, ◌/◌, ◌%◌, ◌^◌, ◌<◌, ◌≤◌, Bool, true, false, not, T, ltb, ◌↔◌, sym, refl, ap, ◌∙◌, subst, le_trans, le_of_eq, lt_of_lt_of_le, mul-le-mul_right, mod-lt, mul_assoc, suc-mul, mul_comm, mul-pos, lt_of_not-le, div-add-mod', not-le_of_lt, mul-div_cancel, arith, lit<, lit≤, ltb→lt, nltb→le, pow_pos, pow_mono, pow-add, shl_lt}
use Prim.Native.Nat.{compare}
use mathlib.Core.Bool.{beq}
use lib.Ieee.{binary32, binary64, size, round}
use lib.Ieee.Digits.{size-le, size-lt, back}
use lib.Ieee.Fits.{nearest-le}
use lib.Ieee.Exact.{HasValue, round_exact}
use lib.Ieee.Nearest.{closest, closest_same, nearest-ge}
use lib.Ieee.Order.{drop}
use lib.Ieee.Scale.{grid, overflow}
use Rattle.numbers.proofs.Quotients.{rescale, round_val, under_top}

-- a sign is equal to itself
own : (s : Bool) → beq s s ≡ true
own true = refl
own false = refl

-- two signs compare as equal exactly where they are
pub signs : (s t : Bool) → T (beq s t) ↔ (s ≡ t)
signs s t = (forth s t, λ e. subst (λ (u : Bool). T (beq s u)) e (subst T (sym (own s)) tt))
  where
    forth : (s t : Bool) → T (beq s t) → s ≡ t
    forth true true h = refl
    forth true false h = absurd h
    forth false true h = absurd h
    forth false false h = refl

-- an f64 holds each number of 32 bits divided by 65536
pub wide-exact : (s : Bool) (n : ℕ) → n < 2 ^ 32 → HasValue (round binary64 s n 65536) s n 65536
wide-exact s n h =
    round_exact binary64 s n 65536 n 1058 (lit< tt) (lt_of_lt_of_le h (lit≤ tt))
    (lt_of_lt_of_le (shl_lt 32 1058 h) (pow_mono {i = 1090} {j = 2098} (lit≤ tt)))
    (sym (mul_assoc n (2 ^ 1058) 65536))

-- an f32 holds each number of 24 bits divided by 65536
pub narrow_exact : (s : Bool) (n : ℕ) → n < 2 ^ 24 → HasValue (round binary32 s n 65536) s n 65536
narrow_exact s n h =
    round_exact binary32 s n 65536 n 133 (lit< tt) h
    (lt_of_lt_of_le (shl_lt 24 133 h) (pow_mono {i = 157} {j = 277} (lit≤ tt)))
    (sym (mul_assoc n (2 ^ 133) 65536))

-- ---- an f32 near a number of 32 bits divided by 65536
-- what n / 65536 rounds to, in parts of 65536, and that it is near
pub record Near (s : Bool) (n : ℕ) : Type 0 where
  pub parts : ℕ
  pub value : HasValue (round binary32 s n 65536) s parts 65536
  pub most : parts ≤ n + 256
  pub least : n ≤ parts + 256

-- n in steps of d, to the nearest, is off by a step at most
stepped : (n d : ℕ) → 0 < d → (closest n d * d ≤ n + d) × (n ≤ closest n d * d + d)
stepped n d D =
    let q = n / d in
    let o = compare (n % d * 2) d in
    let up : closest n d * d ≤ q * d + d = le_trans (mul-le-mul_right d (nearest-le q o)) (le_of_eq (suc-mul q d)) in
    (above (q * d) (n % d) (closest n d * d) (div-add-mod' n d) up, below (q * d) (n % d) (closest n d * d) (div-add-mod' n d) (mod-lt n D) (mul-le-mul_right d (nearest-ge q o)))
  where
    above : (f r c : ℕ) → f + r ≡ n → c ≤ f + d → c ≤ n + d
    above f r c e h = omega arith

    below : (f r c : ℕ) → f + r ≡ n → r < d → f ≤ c → n ≤ c + d
    below f r c e h g = omega arith

-- a part of 65536 is 2 ^ 133 smallest values
places : (j : ℕ) → 2 ^ j * 2 ^ 149 ≡ 2 ^ (j + 133) * 65536
places j = let e : j + 149 ≡ j + 133 + 16 = omega arith in sym (pow-add 2 j 149) ∙ ap (λ (i : ℕ). 2 ^ i) e ∙ pow-add 2 (j + 133) 16

-- n is near where its j lowest binary digits are dropped
near-at : (s : Bool) (n j : ℕ) → drop 24 (n * 2 ^ 149) 65536 ≡ j + 133 → j ≤ 8 → grid binary32 n 65536 < overflow binary32 → Near s n
near-at s n j e J O =
    let k = j + 133 in
    let w = n * 2 ^ 149 in
    let q = closest n (2 ^ j) in
    let b = stepped n (2 ^ j) (pow_pos j) in
    let x : w * 2 ^ j ≡ n * (65536 * 2 ^ k) = mul_assoc n (2 ^ 149) (2 ^ j) ∙ ap (λ (z : ℕ). n * z) (mul_comm (2 ^ 149) (2 ^ j) ∙ places j ∙ mul_comm (2 ^ k) 65536) in
    let g : grid binary32 n 65536 ≡ q * 2 ^ k =
    ap (λ (z : ℕ). closest w (65536 * 2 ^ z) * 2 ^ z) e ∙ ap (λ (z : ℕ). z * 2 ^ k) (closest_same w (65536 * 2 ^ k) n (2 ^ j) (mul-pos (lit< tt) (pow_pos k)) (pow_pos j) x) in
    let y : q * 2 ^ j * 2 ^ 149 ≡ q * 2 ^ k * 65536 = mul_assoc q (2 ^ j) (2 ^ 149) ∙ ap (λ (z : ℕ). q * z) (places j) ∙ sym (mul_assoc q (2 ^ k) 65536) in
    record {
      parts = q * 2 ^ j;
      value = rescale (round binary32 s n 65536) s (q * 2 ^ k) (2 ^ 149) (q * 2 ^ j) 65536 (pow_pos 149) y (subst (λ (z : ℕ). HasValue (round binary32 s n 65536) s z (2 ^ 149)) g (round_val binary32 s n 65536 O));
      most = omega (arith, b.0, pow_mono J);
      least = omega (arith, b.1, pow_mono J);
    }

-- it is near with 25 to 32 binary digits, of which at most 8 are dropped
near-large : (s : Bool) (n : ℕ) → 2 ^ 24 ≤ n → n < 2 ^ 32 → Near s n
near-large s n l h =
    let w = n * 2 ^ 149 / 65536 in
    let e : w ≡ n * 2 ^ 133 = ap (λ (x : ℕ). x / 65536) (sym (mul_assoc n (2 ^ 133) 65536)) ∙ mul-div_cancel (n * 2 ^ 133) (lit< tt) in
    let top : w < 2 ^ 165 = subst (λ (x : ℕ). x < 2 ^ 165) (sym e) (shl_lt 32 133 h) in
    let low : 157 < size w = lt_of_not-le (λ (g : size w ≤ 157). not-le_of_lt (lt_of_lt_of_le (size-lt w) (pow_mono g)) (subst (λ (x : ℕ). 2 ^ 157 ≤ x) (sym e) (mul-le-mul_right (2 ^ 133) l))) in
    near-at s n (size w - 24 - 133) (sym (back (size w - 24) 133 (many (size w) low))) (few (size w) (size-le w 165 top)) (under_top n 65536 (lt_of_lt_of_le top (pow_mono {i = 165} {j = 181} (lit≤ tt))))
  where
    many : (z : ℕ) → 157 < z → 133 ≤ z - 24
    many z h = omega arith

    few : (z : ℕ) → z ≤ 165 → z - 24 - 133 ≤ 8
    few z h = omega arith

-- each number of at most 32 bits is near
pub near : (s : Bool) (n : ℕ) → n < 2 ^ 32 → Near s n
near s n h = go (ltb n (2 ^ 24)) (ltb→lt n (2 ^ 24)) (nltb→le n (2 ^ 24))
  where
    go : (b : Bool) → (T b → n < 2 ^ 24) → (T (not b) → 2 ^ 24 ≤ n) → Near s n
    go true y z = record { parts = n; value = narrow_exact s n (y tt); most = omega arith; least = omega arith }
    go false y z = near-large s n (z tt) h
