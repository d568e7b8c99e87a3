-- `change::remake::move_row` meets its contract. Assumes nothing.
use Rattle.change.proofs.Storing.{own-place}
use Rattle.change.proofs.remake.move_row.Goals as goal

pub returns-else-from-to : goal.returns-else-from-to
returns-else-from-to g c = own-place _ _ _ _ c.requires c.if-from-to.false
