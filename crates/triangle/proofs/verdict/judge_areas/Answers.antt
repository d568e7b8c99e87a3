use Rattle.triangle.specs.Steps.{draw_areas}
use Rattle.triangle.proofs.Stages.{stages}
use Rattle.triangle.proofs.verdict.judge_areas.Goals as goal

pub returns-then-not-roomy : goal.returns-then-not-roomy
unfolding draw_areas
returns-then-not-roomy c = search stages

pub returns-then-not-roomy-2 : goal.returns-then-not-roomy-2
unfolding draw_areas
returns-then-not-roomy-2 c = search stages

pub returns : goal.returns
unfolding draw_areas
returns c = search stages
