-- `numbers::sqrt::nearest_root` meets its contract. Assumes nothing.
use Rattle.numbers.proofs.Turns.{Turn}
use Rattle.numbers.proofs.sqrt.nearest_root.Given as goal

abbrev pub invariant-loop : goal.invariant-loop
invariant-loop l = Turn l.a l.root l.rest l.left l.counter
