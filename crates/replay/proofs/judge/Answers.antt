-- `replay::judge` meets its contract. Assumes nothing.
use Rattle.std.proofs.Common.{arith, sym, ◌∙◌}
use Rattle.trace.proofs.Serving.{within}
use Rattle.replay.proofs.judge.Goals as goal

pub replay-requires : goal.replay-requires
replay-requires p c = (omega arith, (omega arith, (within _ (sym c.served.ensures ∙ c.if-not-served.false), c.lengths_of-own.ensures)))
