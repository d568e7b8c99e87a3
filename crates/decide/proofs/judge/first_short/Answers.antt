-- `decide::judge::first_short` meets its contract. Assumes nothing.
use Rattle.std.proofs.Common.{rules, tests}
use Rattle.std.proofs.lemmas.Iterator.{YieldsList-from_slice}
use Rattle.std.proofs.lemmas.Iterator.Search.{find_from_yields_List}
use Rattle.decide.specs.Steps.{short_of}
use Rattle.decide.proofs.Shorts.{first_read}
use Rattle.decide.proofs.judge.first_short.Goals as goal

pub returns : goal.returns
returns c =
    first_read (λ x. x.now) c.args.tables.now c.find.result c.map.result _ (λ x n q. search (rules, tests)) c.map.ensures.cases
    (find_from_yields_List short_of _ _ c.find.result c.find.ensures.ran (YieldsList-from_slice c.args.tables.now c.iter.ensures.rest) (λ x b q k. search (rules, tests)))
