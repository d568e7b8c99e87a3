use mathlib.Core.Path.{ap}
use mathlib.Core.List.{List}
use lib.Ieee.{Float}
use Rattle.stage.specs.Plan.{Outcome, carry, unless}
use Rattle.stage.specs.Opening.{opening_plan}
use Rattle.player.proofs.apply.unopened.Goals as goal

-- src/apply.rt:52:1
pub returns : goal.returns
unfolding carry opening_plan unless
returns c = ap (λ (o : Outcome (List Float × List Float)). o.state) c.opening.ensures
