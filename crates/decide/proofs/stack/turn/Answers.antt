-- `decide::stack::turn` meets its contract. Assumes nothing.
use mathlib.Core.Path.{refl, ◌∙◌}
use Rattle.decide.proofs.Turning.{pushed-low}
use Rattle.numbers.specs.Choice.{pick}
use Rattle.decide.proofs.stack.turn.Goals as goal

pub returns-then-projecting : goal.returns-then-projecting
unfolding pick
returns-then-projecting c = rw c.if-projecting.true (refl, c.to_flat.ensures ∙ rw (c.made_of-made.ensures, c.from_flat.ensures), refl)

pub overflow_sub-d : goal.overflow_sub-d
overflow_sub-d c = pushed-low _ _ _ c.pushed_depth-d.ensures c.requires

pub returns : goal.returns
unfolding pick
returns c =
    rw c.if-projecting.false
    (c.pushed_depth-d.ensures, refl, c.put.ensures ∙ rw (c.to_flat-flat.ensures, c.made_of-made-2.ensures, c.top_at.ensures, c.pushed_depth-d.ensures))
