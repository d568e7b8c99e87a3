-- `fold::lights::fold_lights` meets its contract. After k turns the entries of the first k lights are written. Assumes nothing.
use Prim.Native.Nat.{◌≤◌}
use Rattle.fold.proofs.Laid.{Lit}
use Rattle.fold.proofs.lights.fold_lights.Given as goal

abbrev pub invariant-loop-k : goal.invariant-loop-k
invariant-loop-k l = Lit l.m l.directions l.colours l.used l.initial.lights l.lights l.k × (l.k ≤ l.number)
