-- A number that is none of the first. Assumes nothing.
use mathlib.Core.Path.{◌≡◌}
use Prim.Native.Nat.{ℕ, ◌+◌, ◌≤◌}
use native.Mathlib.Omega.{arith}

-- one number more that it is not
pub past : {x k : ℕ} → k ≤ x → (x ≡ k → ⊥) → k + 1 ≤ x
past h n = omega arith
