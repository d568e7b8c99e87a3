use Rattle.std.proofs.Common.{arith}
use Rattle.std.proofs.lemmas.Grind.{common_steps}
use Rattle.triangle.specs.Steps.{draw_judged}
use Rattle.numbers.specs.Choice.{pick, unless}
use Rattle.triangle.proofs.Stages.{stages}
use Rattle.triangle.proofs.verdict.judge.Goals as goal

pub returns-then-not-sound : goal.returns-then-not-sound
unfolding draw_judged
returns-then-not-sound c = search stages

pub returns-then-both : goal.returns-then-both
unfolding draw_judged
returns-then-both c = search stages

pub returns-in_err-judge_slots : goal.returns-in_err-judge_slots
unfolding draw_judged unless pick
returns-in_err-judge_slots c = grind (arith, common_steps)

pub returns : goal.returns
unfolding draw_judged unless pick
returns c = grind (arith, common_steps)
