-- `trace::script::call_at` meets its contract. Assumes nothing.
use mathlib.Core.Path.{◌≡◌, sym, ◌∙◌}
use borrow.Author.Rules.{rules}
use Rattle.std.specs.Prelude.{Ok, Err}
use Rattle.trace.proofs.Reading.{known}
use Rattle.trace.proofs.script.call_at.Goals as goal

pub returns-in_err-op-clause-value : goal.returns-in_err-op-clause-value
returns-in_err-op-clause-value c =
    let e = c.in_err-op.field-0.0 in
    let h : c.from_residual.result ≡ Err e = search rules in
    h ∙ known c.args.s.now c.args.at (Err e) (sym c.in_err-op.was ∙ c.try_from.ensures)

pub returns-clause-value : goal.returns-clause-value
returns-clause-value c =
    let a = c.args in
    (rw c.shape.ensures at c.call_of.ensures.value) ∙ known a.s.now a.at (Ok c.in_ok-op.op) (sym c.in_ok-op.was ∙ c.try_from.ensures)
