-- `triangle::verdict::ends` meets its contract. Assumes nothing.
use Rattle.std.proofs.Common.{rules}
use Rattle.triangle.specs.Steps.{closes}
use Rattle.triangle.proofs.verdict.ends.Goals as goal

pub returns-in-Some : goal.returns-in-Some
unfolding closes
returns-in-Some c = rw c.in-Some.is (search rules)

pub returns-in-None : goal.returns-in-None
unfolding closes
returns-in-None c = rw c.in-None.is
