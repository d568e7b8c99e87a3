-- `stage::State::pop_matrix` meets its contract: each way out by what was answered before it. Assumes nothing.
use mathlib.Core.List.{[]}
use borrow.Author.Tests.{eq-eqb, ne_eqb}
use Rattle.areas.specs.Widths.{matrix_width}
use Rattle.decide.proofs.Turning.{popped-in}
use Rattle.stage.proofs.Early.{Clear, early-clear, in-range}
use Rattle.stage.proofs.Ways.{pop-refused, pop-none, pop-new, pop-full}
use Rattle.stage.proofs.State.pop_matrix.Goals as goal

pub top_at-requires : goal.top_at-requires
top_at-requires c =
    let clear : let a = c.args in Clear a.self matrix_width a.self.counts.matrices 0 0 [] a.matrices.now = early-clear _ 1 _ _ _ _ _ _ _ c.room_of-room.ensures c.in-Ok.ensures in
    let r = in-range clear in
    popped-in _ _ _ c.popped_depth-d.ensures (r.low, r.high)

pub returns-in-Err : goal.returns-in-Err
returns-in-Err c = pop-refused _ _ _ _ _ c.room_of-room.ensures c.in-Err.ensures

pub returns-then-d-self : goal.returns-then-d-self
returns-then-d-self c =
    let clear : let a = c.args in Clear a.self matrix_width a.self.counts.matrices 0 0 [] a.matrices.now = early-clear _ 1 _ _ _ _ _ _ _ c.room_of-room.ensures c.in-Ok.ensures in
    pop-none _ _ _ clear _ c.popped_depth-d.ensures (eq-eqb _ _ c.if-d-self.true)

pub returns-in-None : goal.returns-in-None
returns-in-None c =
    let clear : let a = c.args in Clear a.self matrix_width a.self.counts.matrices 0 0 [] a.matrices.now = early-clear _ 1 _ _ _ _ _ _ _ c.room_of-room.ensures c.in-Ok.ensures in
    pop-full _ _ _ clear _ c.popped_depth-d.ensures (ne_eqb _ _ c.if-d-self.false) _ _ _ _ c.top_at.ensures c.product_of-product.ensures c.append.ensures c.in-None.is

pub returns-in-Some : goal.returns-in-Some
returns-in-Some c =
    let clear : let a = c.args in Clear a.self matrix_width a.self.counts.matrices 0 0 [] a.matrices.now = early-clear _ 1 _ _ _ _ _ _ _ c.room_of-room.ensures c.in-Ok.ensures in
    pop-new _ _ _ clear _ c.popped_depth-d.ensures (ne_eqb _ _ c.if-d-self.false) _ _ _ _ c.top_at.ensures c.product_of-product.ensures c.append.ensures _ c.in-Some.is
