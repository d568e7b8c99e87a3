use Rattle.triangle.proofs.Runs.{last_none, last_some}
use Rattle.triangle.proofs.run.last_run.Goals as goal

pub returns-then-used-runs : goal.returns-then-used-runs
returns-then-used-runs c = last_none _ _ _ c.if-used-runs.true

pub returns : goal.returns
returns c = last_some _ _ _ _ _ c.if-used-runs.false c.place.ensures c.run_at.ensures
