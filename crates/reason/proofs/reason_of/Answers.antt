-- `reason::reason_of` meets its contract. Assumes nothing.
use Rattle.std.proofs.Common.{sym, ◌∙◌}
use Rattle.reason.proofs.Finding.{is-left, is_right, is-bottom, is-top, is_none}
use Rattle.reason.proofs.reason_of.Goals as goal

pub returns-in_default : goal.returns-in_default
returns-in_default c =
    let a = c.args in
    rw (← c.min-end.ensures)
    (is-left a.code.now a.first c.min-end.result (sym c.first_inside.ensures ∙ c.in_default.is))

pub returns-in_default-first_inside : goal.returns-in_default-first_inside
returns-in_default-first_inside c =
    let a = c.args in
    rw (← c.min-end.ensures)
    (is_right a.code.now a.first c.min-end.result _ (sym c.first_inside.ensures ∙ c.in-Some.is)
    (sym c.first_inside-2.ensures ∙ c.in_default-first_inside.is))

pub returns-in_default-first_inside-2 : goal.returns-in_default-first_inside-2
returns-in_default-first_inside-2 c =
    let a = c.args in
    rw (← c.min-end.ensures)
    (is-bottom a.code.now a.first c.min-end.result _ (sym c.first_inside.ensures ∙ c.in-Some.is)
    _ (sym c.first_inside-2.ensures ∙ c.in-Some-first_inside.is)
    (sym c.first_inside-3.ensures ∙ c.in_default-first_inside-2.is))

pub returns-in_default-first_inside-3 : goal.returns-in_default-first_inside-3
returns-in_default-first_inside-3 c =
    let a = c.args in
    rw (← c.min-end.ensures)
    (is-top a.code.now a.first c.min-end.result _ (sym c.first_inside.ensures ∙ c.in-Some.is)
    _ (sym c.first_inside-2.ensures ∙ c.in-Some-first_inside.is)
    _ (sym c.first_inside-3.ensures ∙ c.in-Some-first_inside-2.is)
    (sym c.first_inside-4.ensures ∙ c.in_default-first_inside-3.is))

pub returns : goal.returns
returns c =
    let a = c.args in
    rw (← c.min-end.ensures)
    (is_none a.code.now a.first c.min-end.result _ (sym c.first_inside.ensures ∙ c.in-Some.is)
    _ (sym c.first_inside-2.ensures ∙ c.in-Some-first_inside.is)
    _ (sym c.first_inside-3.ensures ∙ c.in-Some-first_inside-2.is)
    _ (sym c.first_inside-4.ensures ∙ c.in-Some-first_inside-3.is))
