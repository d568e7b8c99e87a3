-- `stage::State::set_lookat` meets its contract. Assumes nothing.
use native.Mathlib.Omega.{arith}
use Rattle.stage.specs.Lights.{lookat_plan}
use Rattle.stage.proofs.Cascade.{reads-reached, reads-done, reads-refused}
use Rattle.stage.proofs.State.set_lookat.Goals as goal

pub overflow_add-at : goal.overflow_add-at
overflow_add-at c = omega (arith, reads-reached _ _ _ _ c.in-Ok.ensures)

pub direction-requires : goal.direction-requires
direction-requires c = omega (arith, reads-reached _ _ _ _ c.in-Ok.ensures)

pub returns-in-Err : goal.returns-in-Err
unfolding lookat_plan
returns-in-Err c = reads-refused _ _ _ _ _ _ c.in-Err.ensures

pub returns-in-Ok : goal.returns-in-Ok
unfolding lookat_plan
returns-in-Ok c = reads-done _ _ _ _ _ _ c.in-Ok.ensures (rw (c.with_axis-l.ensures, c.direction.ensures))
