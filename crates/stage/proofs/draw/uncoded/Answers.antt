use Rattle.stage.specs.Plan.{pick}
use Rattle.stage.proofs.draw.uncoded.Goals as goal

pub returns-then-loaded : goal.returns-then-loaded
unfolding pick
returns-then-loaded c = rw c.if-loaded.true

pub returns-else-loaded : goal.returns-else-loaded
unfolding pick
returns-else-loaded c = rw c.if-loaded.false
