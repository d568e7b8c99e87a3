use Rattle.std.proofs.Common.{rules}
use Rattle.fold.proofs.Lasting.{scale-is}
use Rattle.fold.proofs.scales.scale_is.Goals as goal

pub returns : goal.returns
returns c = scale-is c.args.used c.args.scales.now c.args.entry _ _ _ c.checked_sub-last.ensures c.is_some_and.ensures (λ k p. search rules)
