use Rattle.std.proofs.lemmas.Iterator.{first_from_Range}
use Rattle.std.proofs.Common.{[], ◌∷◌, rules, tests}
use Rattle.areas.specs.Widths.{fog_width}
use Rattle.fold.proofs.Passed.{Here, Other, told, place-is}
use Rattle.fold.proofs.fog.fog_place.Goals as goal

pub returns : goal.returns
returns c =
    let l = c.args.fogs.now in
    let e = c.args.multiplier ∷ c.args.offset ∷ [] in
    let n = c.args.used in
    let found = first_from_Range _ _ _ _ (Here fog_width n l e) (Other fog_width n l e) c.find.ensures.ran
    (λ x q k. let h = told fog_width n l e in search (rules, tests, h))
    (λ x q k. let h = told fog_width n l e in (search rules, search (rules, tests, h))) in
    rw c.unwrap_or.ensures (place-is fog_width n l e c.find.result found)
