-- `numbers::sqrt::root_of_small` meets its contract. Assumes nothing.
use Rattle.numbers.proofs.Small.{Moved}
use Rattle.numbers.proofs.sqrt.root_of_small.Given as goal

abbrev pub invariant-loop-digits : goal.invariant-loop-digits
invariant-loop-digits l = Moved l.bits l.digits l.power

abbrev pub decreases-loop-digits : goal.decreases-loop-digits
decreases-loop-digits l = l.power
