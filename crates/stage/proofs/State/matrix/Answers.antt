-- `stage::State::matrix` meets its contract: each way out by what was answered before it. Assumes nothing.
use borrow.Author.Tests.{leb-true}
use Rattle.areas.specs.Widths.{matrix_width}
use Rattle.stage.proofs.Early.{Clear, early-clear, in-range}
use Rattle.stage.proofs.Ways.{matrix-refused, matrix-new, matrix-full, came_from}
use Rattle.stage.proofs.State.matrix.Goals as goal
use Rattle.stage.proofs.State.matrix.Goals.{in-Err, in-Ok+in-None, in-Ok+in-Some}

pub matrix-m-requires : goal.matrix-m-requires
matrix-m-requires c = leb-true _ _ (early-clear _ 1 _ _ _ _ _ _ _ c.room_of-room.ensures c.in-Ok.ensures).reach

pub inexact-inexact-requires : goal.inexact-inexact-requires
inexact-inexact-requires c = leb-true _ _ (early-clear _ 1 _ _ _ _ _ _ _ c.room_of-room.ensures c.in-Ok.ensures).reach

pub take-t-requires : goal.take-t-requires
take-t-requires c =
    let clear : let a = c.args in Clear a.self matrix_width a.self.counts.matrices 64 a.at a.«data».now a.matrices.now = early-clear _ 1 _ _ _ _ _ _ _ c.room_of-room.ensures c.in-Ok.ensures in
    let r = in-range clear in
    (r.low, r.high)

pub returns : goal.returns
returns c =
    let f = c.family_of-family.ensures in
    elim c.match-early_in.branch [
      | in-Err w ↦ came_from _ _ _ _ _ _ _ _ _ w.self-is w.matrices-is w.answer-is w.stack-is (matrix-refused _ _ _ _ _ _ _ c.room_of-room.ensures w.in-Err.ensures)
      | in-Ok+in-None w ↦ came_from _ _ _ _ _ _ _ _ _ w.self-is w.matrices-is w.answer-is w.stack-is
          (matrix-full _ _ _ _ _ (early-clear _ 1 _ _ _ _ _ _ _ c.room_of-room.ensures w.in-Ok.ensures) _ _ _ _ _ _ _ _ f w.matrix-m.ensures w.take-t.ensures.depth w.take-t.ensures.projection w.take-t.ensures.stack w.take-t.ensures.product w.append.ensures w.in-None.is)
      | in-Ok+in-Some w ↦ came_from _ _ _ _ _ _ _ _ _ w.self-is w.matrices-is w.answer-is w.stack-is
          (matrix-new _ _ _ _ _ (early-clear _ 1 _ _ _ _ _ _ _ c.room_of-room.ensures w.in-Ok.ensures) _ _ _ _ _ _ _ _ f w.matrix-m.ensures w.take-t.ensures.depth w.take-t.ensures.projection w.take-t.ensures.stack w.take-t.ensures.product w.append.ensures
          _ w.inexact-inexact.ensures _ w.in-Some.is)
    ]
