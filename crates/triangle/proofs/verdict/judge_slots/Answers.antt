use Rattle.std.proofs.Common.{arith}
use Rattle.std.proofs.lemmas.Grind.{common_steps}
use Rattle.triangle.specs.Steps.{draw_slots}
use Rattle.numbers.specs.Choice.{unless}
use Rattle.triangle.proofs.verdict.judge_slots.Goals as goal

pub returns-in_err-x : goal.returns-in_err-x
unfolding draw_slots
returns-in_err-x c = grind (arith, common_steps)

pub returns-in_err-y : goal.returns-in_err-y
unfolding draw_slots
returns-in_err-y c = grind (arith, common_steps)

pub returns-in_err-z : goal.returns-in_err-z
unfolding draw_slots
returns-in_err-z c = grind (arith, common_steps)

pub returns-then-not-x-t : goal.returns-then-not-x-t
unfolding draw_slots unless
returns-then-not-x-t c = grind (arith, common_steps)

pub returns : goal.returns
unfolding draw_slots unless
returns c = grind (arith, common_steps)
