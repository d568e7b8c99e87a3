-- `dump::hash::of` meets its contract. Assumes nothing.
use Rattle.std.proofs.Common.{rules, ◌≡◌, ◌∙◌}
use Rattle.std.specs.List.{fold}
use Rattle.dump.specs.Hash.{rolled}
use Rattle.dump.proofs.Rolling.{roll-fold}
use Rattle.dump.proofs.hash.of.Goals as goal

pub returns : goal.returns
returns g c =
    let chain : c.fold.result ≡ fold (λ h x. rolled h (g.T.Word.word x)) 0 c.args.xs.now = search rules in
    chain ∙ roll-fold g.T.Word.word 0 c.args.xs.now
