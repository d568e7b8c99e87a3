-- `numbers::length::inverse_length` meets its contract. Assumes nothing.
use Rattle.std.proofs.Common.{true, false}
use lib.Ieee.{of_bits}
use Rattle.numbers.specs.Choice.{pick}
use Rattle.numbers.proofs.Inverse.{by-test}
use Rattle.numbers.proofs.length.inverse_length.Goals as goal

pub returns-then-l : goal.returns-then-l
unfolding of_bits pick
returns-then-l c = by-test c.length-l.result _ true c.length-l.ensures c.if-l.true

pub returns-else-l : goal.returns-else-l
unfolding of_bits pick
returns-else-l c = by-test c.length-l.result _ false c.length-l.ensures c.if-l.false
