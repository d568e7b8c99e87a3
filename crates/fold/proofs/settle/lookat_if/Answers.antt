use mathlib.Core.Path.{◌∙◌}
use Rattle.decide.proofs.Ends.{puts_none, put_one}
use Rattle.std.proofs.Common.{not, ap}
use Rattle.fold.proofs.settle.lookat_if.Goals as goal

pub returns-then-not-due : goal.returns-then-not-due
returns-then-not-due c = puts_none _ _ _ _ _ (ap not c.if-not-due.true)

pub returns : goal.returns
returns c = put_one _ _ _ _ _ _ _ (ap not c.if-not-due.false) c.place.ensures (c.put.ensures ∙ rw c.lookat_entry-entry.ensures)
