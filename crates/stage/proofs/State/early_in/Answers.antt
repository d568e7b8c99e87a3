-- `stage::State::early_in` meets its contract. Assumes nothing.
use Rattle.std.proofs.Common.{not, ap}
use Rattle.std.proofs.lemmas.Result.{err_from_is_err_and}
use Rattle.stage.specs.Plan.{pick}
use Rattle.stage.specs.Steps.{early_in}
use Rattle.stage.proofs.Cascade.{fails, holds}
use Rattle.stage.proofs.State.early_in.Goals as goal

pub returns-in_err-reads : goal.returns-in_err-reads
unfolding early_in
returns-in_err-reads c = let p = err_from_is_err_and c.from_residual.result c.from_residual.ensures.1 in rw (p.1, p.2, ← c.in_err-reads.ensures)

pub returns-then-not-holds : goal.returns-then-not-holds
unfolding early_in pick
returns-then-not-holds c = rw (← c.in_ok-reads.ensures, fails c.holds.ensures (ap not c.if-not-holds.true))

pub returns : goal.returns
unfolding early_in pick
returns c = rw (← c.in_ok-reads.ensures, holds c.holds.ensures (ap not c.if-not-holds.false))
