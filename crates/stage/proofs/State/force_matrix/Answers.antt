-- `stage::State::force_matrix` meets its contract: each way out by what was answered before it. Assumes nothing.
use borrow.Author.Tests.{leb-true}
use Rattle.stage.proofs.Early.{early-clear}
use Rattle.stage.proofs.Ways.{force-refused, force-new, force-full}
use Rattle.stage.proofs.State.force_matrix.Goals as goal

pub matrix-requires : goal.matrix-requires
matrix-requires c = leb-true _ _ (early-clear _ 1 _ _ _ _ _ _ _ c.room_of-room.ensures c.in-Ok.ensures).reach

pub inexact-inexact-requires : goal.inexact-inexact-requires
inexact-inexact-requires c = leb-true _ _ (early-clear _ 1 _ _ _ _ _ _ _ c.room_of-room.ensures c.in-Ok.ensures).reach

pub returns-in-Err : goal.returns-in-Err
returns-in-Err c = force-refused _ _ _ _ _ _ c.room_of-room.ensures c.in-Err.ensures

pub returns-in-None : goal.returns-in-None
returns-in-None c = force-full _ _ _ _ (early-clear _ 1 _ _ _ _ _ _ _ c.room_of-room.ensures c.in-Ok.ensures) _ _ _ _ c.matrix.ensures c.to_flat-m.ensures c.append.ensures c.in-None.is

pub returns-in-Some : goal.returns-in-Some
returns-in-Some c =
    force-new _ _ _ _ (early-clear _ 1 _ _ _ _ _ _ _ c.room_of-room.ensures c.in-Ok.ensures) _ _ _ _ c.matrix.ensures c.to_flat-m.ensures c.append.ensures _
    c.inexact-inexact.ensures _ c.in-Some.is
