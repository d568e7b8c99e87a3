-- `stage::State::set_viewport` meets its contract: each way out by what was answered before it. Assumes nothing.
use borrow.Author.Tests.{leb-true}
use Rattle.stage.proofs.Early.{early-clear}
use Rattle.stage.proofs.Ways.{viewport-refused, viewport-new, viewport-full}
use Rattle.stage.proofs.State.set_viewport.Goals as goal

pub viewport_at-entry-requires : goal.viewport_at-entry-requires
viewport_at-entry-requires c = leb-true _ _ (early-clear _ 2 _ _ _ _ _ _ _ c.room_of-room.ensures c.in-Ok.ensures).reach

pub returns-in-Err : goal.returns-in-Err
returns-in-Err c = viewport-refused _ _ _ _ _ _ c.room_of-room.ensures c.in-Err.ensures

pub returns-in-None : goal.returns-in-None
returns-in-None c = viewport-full _ _ _ _ (early-clear _ 2 _ _ _ _ _ _ _ c.room_of-room.ensures c.in-Ok.ensures) _ _ _ c.viewport_at-entry.ensures c.append.ensures c.in-None.is

pub returns-in-Some : goal.returns-in-Some
returns-in-Some c = viewport-new _ _ _ _ (early-clear _ 2 _ _ _ _ _ _ _ c.room_of-room.ensures c.in-Ok.ensures) _ _ _ c.viewport_at-entry.ensures c.append.ensures _ c.in-Some.is
