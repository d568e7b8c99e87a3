use Rattle.fold.proofs.Settling.{lights-more}
use Rattle.decide.proofs.Ends.{puts_none, puts-some}
use Rattle.std.proofs.Common.{not, ap}
use Rattle.fold.proofs.settle.lights_if.Goals as goal

pub returns-then-not-due : goal.returns-then-not-due
returns-then-not-due c = puts_none _ _ _ _ _ (ap not c.if-not-due.true)

pub returns : goal.returns
returns c = puts-some _ _ _ _ _ _ _ (ap not c.if-not-due.false) (lights-more _ _ _ _ _ _) c.fold_lights.ensures
