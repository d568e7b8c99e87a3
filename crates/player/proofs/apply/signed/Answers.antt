-- `player::apply::signed` meets its contract. Assumes nothing.
use mir.Syntax.{w16}
use Rattle.layout.proofs.Signed.{handed}
use Rattle.player.proofs.apply.signed.Goals as goal

pub returns : goal.returns
returns c = rw (handed w16 c.signed_half.type_inv c.signed_half.ensures, c.half.ensures)
