-- The first slot that is not outside a plane, slot by slot. Assumes nothing.
use mathlib.Core.Path.{◌≡◌, refl}
use Prim.Native.Nat.{ℕ, zero, suc, ◌+◌, ◌-◌, ◌≤◌, ◌<◌}
use native.Mathlib.Omega.{arith}
use mathlib.Core.List.{[], ◌∷◌}
use Rattle.std.specs.List.{range_with_len}
use Rattle.reason.specs.Reason.{slots_from, slots_to}

pub slots_next : (i last : ℕ) → i ≤ last → slots_to i last ≡ i ∷ slots_to (i + 1) last
slots_next i last h =
    let e : last + 1 - i ≡ suc (last + 1 - (i + 1)) = omega arith in
    rw e

pub slots-none : (i last : ℕ) → last < i → slots_to i last ≡ []
slots-none i last h = let e : last + 1 - i ≡ 0 = omega arith in rw e

-- slots in order are numbers in order
pub slots_are : (i n : ℕ) → slots_from i n ≡ range_with_len i n
slots_are i zero = refl
slots_are i (suc n) = rw (slots_are (i + 1) n)
