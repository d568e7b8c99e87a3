-- A number with a sign that one call answers and the next is handed: the machine reads it back from its bits. Assumes nothing.
use mathlib.Core.Path.{◌≡◌, ◌∙◌}
use Prim.Native.Nat.{◌^◌, ◌<◌}
use lib.IntN.{ℤ}
use lib.Signed.{mag}
use mir.Syntax.{Width}
use mir.Val.{hbits, to_z, of_z}
use mir.ValLaws.{to_z-of_z}

-- what a callee is handed is the number that was answered: w holds it
pub handed : (w : Width) {x z : ℤ} → mag x < 2 ^ hbits w → x ≡ z → to_z w (of_z w x) ≡ z
handed w {x} k e = to_z-of_z w x (record { sfits = k }) ∙ e
