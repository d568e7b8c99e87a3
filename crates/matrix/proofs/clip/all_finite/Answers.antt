-- `matrix::clip::all_finite` meets its contract. Assumes nothing.
use Rattle.std.proofs.Common.{rules, tests, length, ◌≡◌}
use mathlib.Core.Path.{◌∙◌}
use lib.Ieee.Scale.{finite}
use Rattle.std.proofs.lemmas.Iterator.{YieldsList-from_slice}
use Rattle.std.proofs.lemmas.Iterator.Search.{all_from_yields_List}
use Rattle.matrix.proofs.Finite.{all-four}
use Rattle.matrix.proofs.clip.all_finite.Goals as goal

pub returns : goal.returns
returns c =
    let each = all_from_yields_List finite _ _ c.all.result c.all.ensures.ran (YieldsList-from_slice c.args.p cc) (λ x b q k. search (rules, tests)) in
    let four : length c.args.p ≡ 4 = search rules in
    each ∙ all-four c.args.p four
