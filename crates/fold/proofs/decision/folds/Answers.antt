use Rattle.fold.specs.Decision.{refold}
use Rattle.areas.proofs.Sames.{pointwise-is}
use Rattle.fold.proofs.decision.folds.Goals as goal

pub returns : goal.returns
unfolding refold
returns c = rw (c.eq-same.ensures, pointwise-is)
