use borrow.Author.Tests.{not-true, not-false}
use Rattle.std.proofs.Common.{not}
use Rattle.std.proofs.Common.{ap}
use mathlib.Core.Path.{sym}
use Rattle.stage.proofs.Cascade.{picked, left}
use Rattle.stage.proofs.load.lookat_then.Goals as goal

pub returns-then-not-due : goal.returns-then-not-due
returns-then-not-due c = sym (left _ _ _ (not-true _ (ap not c.if-not-due.true)))

pub returns : goal.returns
returns c = sym (picked _ _ _ (not-false _ (ap not c.if-not-due.false)))
