-- A number below the normal ones, moved up to 24 digits by `root_of_small`'s loop. Assumes nothing.
use Rattle.std.proofs.Common.{◌≡◌, ℕ, suc, ◌-◌, ◌*◌, ◌^◌, ◌<◌, ◌≤◌, sym, refl, ap, ◌∙◌, lt_of_le_of_lt, mul_assoc, lt_of_not-le, not-le_of_lt, arith, pow_mono}
use native.Mathlib.Nat.{pow-succ'}

-- `digits` at the place `power` are the bits, as they were before they were moved up
pub record Moved (bits digits power : ℕ) : Type 0 where
  pub value : digits * 2 ^ power ≡ bits * 2 ^ 149
  pub least : 2 ^ (149 - power) ≤ digits
  pub most : digits < 16777216
  pub low : 126 ≤ power
  pub high : power ≤ 149

-- before the first turn
pub begin : (bits : ℕ) → 0 < bits → bits < 8388608 → Moved bits bits 149
begin bits h k = record { value = refl; least = h; most = omega arith; low = omega arith; high = omega arith }

-- 2 ^ (149 - power) is below 2 ^ 23, so 149 - power is below 23
room : (digits power : ℕ) → 2 ^ (149 - power) ≤ digits → digits < 8388608 → 149 - power < 23
room digits power h k = lt_of_not-le (λ (g : 23 ≤ 149 - power). not-le_of_lt (lt_of_le_of_lt h k) (pow_mono g))

-- a turn moves the digits up by one
pub turn : (bits digits power : ℕ) → Moved bits digits power → digits < 8388608 → Moved bits (digits * 2) (power - 1)
turn bits digits power s k =
    let r = room digits power s.least k in
    record {
      value = mul_assoc digits 2 (2 ^ (power - 1)) ∙ ap (λ (x : ℕ). digits * x) (sym (pow-succ' 2 (power - 1)) ∙ ap (λ (x : ℕ). 2 ^ x) (pred power s.low)) ∙ s.value;
      least = omega (arith, s.least, pow-succ' 2 (149 - power), ap (λ (x : ℕ). 2 ^ x) (one power s.low s.high));
      most = omega arith;
      low = omega arith;
      high = omega arith;
    }
  where
    pred : (p : ℕ) → 126 ≤ p → suc (p - 1) ≡ p
    pred p h = omega arith

    one : (p : ℕ) → 126 ≤ p → p ≤ 149 → 149 - (p - 1) ≡ suc (149 - p)
    one p h k = omega arith
