use Rattle.triangle.proofs.Runs.{six-match}
use Rattle.triangle.proofs.run.run_at.Goals as goal

pub returns : goal.returns
returns c = let e = c.eq.ensures in rw (c.eq.ensures, six-match c.settings_at.result c.args.q, c.settings_at.ensures)
