use Rattle.decide.proofs.Ends.{puts_none, put_one}
use Rattle.std.proofs.Common.{not, ap}
use Rattle.decide.proofs.append.put_if.Goals as goal

pub returns-then-not-need : goal.returns-then-not-need
returns-then-not-need g c = puts_none _ _ _ _ _ (ap not c.if-not-need.true)

pub returns : goal.returns
returns g c = put_one _ _ _ _ _ _ _ (ap not c.if-not-need.false) c.place.ensures c.put.ensures
