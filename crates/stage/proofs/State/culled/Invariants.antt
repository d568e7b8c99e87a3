use mathlib.Core.Path.{◌≡◌}
use Prim.Native.Nat.{◌<◌}
use Rattle.stage.proofs.Culling.{rest}
use Rattle.stage.specs.declared.State.{State}
use Rattle.stage.proofs.State.culled.Given as goal

abbrev pub invariant-loop-i : goal.invariant-loop-i
invariant-loop-i l = (l.last < 256) × ((s : State) → s.loaded ≡ l.loaded → s.coded ≡ l.coded → s.code ≡ l.code → rest s l.last 0x0f l.first ≡ rest s l.last l.common l.i)
