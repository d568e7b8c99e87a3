-- `trace::header::served` meets its contract. Assumes nothing.
use mathlib.Core.Bool.{and_assoc, and-true}
use Rattle.numbers.specs.Choice.{all}
use Rattle.trace.proofs.header.served.Goals as goal

pub returns : goal.returns
unfolding all
returns c = simp (and_assoc, and-true)
