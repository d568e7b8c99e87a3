-- `player::act::with_count` meets its contract. Assumes nothing.
use mathlib.Core.Path.{ap}
use Rattle.player.specs.Acts.{count_list, counts_of}
use Rattle.trace.proofs.Lending.{past}
use Rattle.player.proofs.Acting.{no_table}
use Rattle.player.proofs.act.with_count.Goals as goal

pub returns-in_default : goal.returns-in_default
returns-in_default c = ap counts_of (no_table c.args.table c.args.n (count_list c.args.c) (λ h. past (past (past (past (past (past (past (past (past (h) c.in_default.in_default-own.rest.0.0.0.0.0.0.0.0.1) c.in_default.in_default-own.rest.0.0.0.0.0.0.0.1) c.in_default.in_default-own.rest.0.0.0.0.0.0.1) c.in_default.in_default-own.rest.0.0.0.0.0.1) c.in_default.in_default-own.rest.0.0.0.0.1) c.in_default.in_default-own.rest.0.0.0.1) c.in_default.in_default-own.rest.0.0.1) c.in_default.in_default-own.rest.0.1) c.in_default.in_default-own.rest.1))
