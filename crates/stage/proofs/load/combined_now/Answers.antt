-- `stage::load::combined_now` meets its contract. Assumes nothing.
use Rattle.stage.specs.Plan.{pick}
use borrow.Author.Rules.{rules}
use Rattle.stage.proofs.load.combined_now.Goals as goal

pub returns-then-defined : goal.returns-then-defined
unfolding pick
returns-then-defined c = search rules

pub returns-else-defined : goal.returns-else-defined
unfolding pick
returns-else-defined c = rw c.if-defined.false c.product_of.ensures
