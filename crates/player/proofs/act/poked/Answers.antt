-- `player::act::poked` meets its contract. Assumes nothing.
use Prim.Native.Nat.{zero-le}
use Rattle.player.specs.Acts.{poked_state}
use Rattle.trace.proofs.Lending.{past}
use Rattle.player.proofs.Acting.{no_field}
use Rattle.player.proofs.act.poked.Goals as goal

pub returns-in_default : goal.returns-in_default
unfolding poked_state
returns-in_default c =
    no_field c.args.s c.args.index c.args.value _
    (past (past (past (past (past (zero-le) c.in_default.in_default-own.rest.0.0.0.0.0.1) c.in_default.in_default-own.rest.0.0.0.0.1) c.in_default.in_default-own.rest.0.0.0.1) c.in_default.in_default-own.rest.0.0.1) c.in_default.in_default-own.rest.0.1) c.in_default.in_default-own.rest.1
