-- `reason::first_inside` meets its contract. Assumes nothing.
use Rattle.std.proofs.Common.{rules, tests, ◌-◌, ◌∙◌, refl, not, get_or, sym}
use Rattle.std.proofs.lemmas.Iterator.{YieldsList-from_range}
use Rattle.std.proofs.lemmas.Iterator.Adapters.{option_map_id}
use Rattle.std.proofs.lemmas.Iterator.Search.{find_from_yields_List}
use Rattle.decide.specs.Family.{flag}
use Rattle.reason.proofs.Walking.{slots_are}
use Rattle.reason.proofs.first_inside.Goals as goal

pub returns : goal.returns
returns c =
    let a = c.args in
    rw (slots_are a.first (a.end - a.first))
    (sym (option_map_id c.find.result)
    ∙ find_from_yields_List (λ i. not (flag a.v (get_or a.code.now i 0))) _ _ c.find.result c.find.ensures.ran (YieldsList-from_range a.first a.end (a.end - a.first) refl refl) (λ x b q k. search (rules, tests)))
