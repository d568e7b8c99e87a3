-- `change::remake::append_unit` meets its contract. Assumes nothing.
use lib.Ieee.{of_bits}
use borrow.Author.Tests.{lt-ltb}
use Rattle.numbers.specs.Choice.{pick}
use Rattle.areas.proofs.Tables.{write-one}
use Rattle.change.proofs.remake.append_unit.Goals as goal

pub returns-then-used-then : goal.returns-then-used-then
unfolding of_bits pick
returns-then-used-then c = rw (lt-ltb _ _ c.if-used-then.true, c.put.ensures, c.place.ensures, write-one)
