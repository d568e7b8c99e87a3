-- `matrix::clip::bit` meets its contract. Assumes nothing.
use native.Mathlib.Omega.{arith}
use Rattle.numbers.specs.Choice.{pick}
use Rattle.matrix.proofs.clip.bit.Goals as goal

pub returns-then-b : goal.returns-then-b
unfolding pick
returns-then-b c = (rw c.if-b.true, omega arith)

pub returns-else-b : goal.returns-else-b
unfolding pick
returns-else-b c = (rw c.if-b.false, omega arith)
