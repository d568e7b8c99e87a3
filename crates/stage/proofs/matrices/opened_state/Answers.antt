use lib.Ieee.{of_bits}
use Rattle.matrix.specs.Math.{laid}
use Rattle.areas.specs.Area.{put}
use Rattle.stage.specs.Opening.{blank, opened}
use Rattle.stage.proofs.matrices.opened_state.Goals as goal

pub returns : goal.returns
unfolding opened blank put laid of_bits
returns c = rw (c.blank_state-s.ensures, c.put.ensures, c.to_flat-one.ensures, c.identity.ensures)
