-- `stage::State::opening` meets its contract: by which table has no room. Assumes nothing.
use Rattle.stage.proofs.Opens.{opening-refused, opening-done}
use Rattle.stage.proofs.State.opening.Goals as goal

pub returns-in-Err : goal.returns-in-Err
returns-in-Err c = let p = c.put_first.ensures in opening-refused _ _ _ _ _ (p.short, (p.matrices, p.viewports)) _ _ c.in-Err.is c.blank_state.ensures

pub returns-in-Ok : goal.returns-in-Ok
returns-in-Ok c = let p = c.put_first.ensures in opening-done _ _ _ _ _ (p.short, (p.matrices, p.viewports)) _ c.in-Ok.is c.opened_state.ensures
