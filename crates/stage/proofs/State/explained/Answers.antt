-- `stage::State::explained` meets its contract. Assumes nothing.
use mathlib.Core.Path.{◌∙◌}
use borrow.Enum.Refused.{opened}
use Rattle.stage.proofs.Explaining.{reason-told, refusal-stands}
use Rattle.stage.proofs.State.explained.Goals as goal

pub returns-in-Told : goal.returns-in-Told
returns-in-Told c =
    let a = c.args in
    reason-told a.self a.first a.last c.culled-test.result c.culled-test.ensures c.in-Told.in-Told-own.keys1 c.from.result c.from.ensures.0 (c.from.ensures.1 ∙ c.reason_of.ensures)

pub returns : goal.returns
returns c =
    let a = c.args in
    refusal-stands a.self a.first a.last c.culled-test.result c.culled-test.ensures (opened c.in_default.in_default-own.keys2)
