-- `areas::place` meets its contract: a product of two numbers of 32 bits fits 64. Assumes nothing.
use Prim.Native.Nat.{◌≤◌}
use native.Mathlib.Nat.{mul-le-mul}
use native.Mathlib.Omega.{arith}
use Rattle.areas.proofs.place.Goals as goal

pub overflow_mul-result : goal.overflow_mul-result
overflow_mul-result c =
    let k : c.args.k ≤ 4294967295 = omega arith in
    let w : c.args.width ≤ 4294967295 = omega arith in
    omega (arith, mul-le-mul k w)
