use Rattle.triangle.proofs.Stages.{yes, grow-fits, run-grown, run-begun, stages}
use native.Mathlib.Omega.{arith}
use Rattle.triangle.specs.Steps.{draw_last, grows}
use Rattle.std.proofs.Common.{◌≡◌, false}
use Rattle.triangle.proofs.verdict.judge_last.Goals as goal
use Rattle.triangle.proofs.verdict.judge_last.Goals.{in-Some+else-run, in_default}

pub returns-then-not-ends : goal.returns-then-not-ends
unfolding draw_last
returns-then-not-ends c = search stages

pub returns-then-not-roomy : goal.returns-then-not-roomy
unfolding draw_last
returns-then-not-roomy c = search stages

pub overflow_add-result : goal.overflow_add-result
overflow_add-result c =
    let a = c.args in
    omega (arith, grow-fits a.last c.in-Some.run' a.t.indices a.t.indexlen c.in-Some.is (yes _ _ c.if-not-ends.false c.ends.ensures) (yes _ _ c.if-not-roomy.false c.roomy.ensures))

pub returns-then-run : goal.returns-then-run
unfolding draw_last
returns-then-run c = search (stages, run-grown)

pub returns-then-not-roomy-2 : goal.returns-then-not-roomy-2
unfolding draw_last
returns-then-not-roomy-2 c =
    let g : grows c.args.last ≡ false = elim c.match-last.branch [ in-Some+else-run w ↦ rw w.in-Some.is w.if-run.false | in_default w ↦ rw w.in_default.is ] in
    rw (run-begun c.args.rows c.args.t c.args.last g) (search stages)

pub returns : goal.returns
unfolding draw_last
returns c =
    let g : grows c.args.last ≡ false = elim c.match-last.branch [ in-Some+else-run w ↦ rw w.in-Some.is w.if-run.false | in_default w ↦ rw w.in_default.is ] in
    rw (run-begun c.args.rows c.args.t c.args.last g) (search stages)
