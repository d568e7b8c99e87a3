-- `replay::replay` meets its contract. Assumes nothing.
use lib.Ieee.{of_bits}
use Rattle.player.specs.Ops.{held}
use Rattle.replay.proofs.Again.{dumps}
use Rattle.replay.proofs.replay.Goals as goal

pub finish-requires : goal.finish-requires
unfolding of_bits
finish-requires p c =
    dumps c.args.s.now c.args.own c.play-told.result.0 (held c.play-told.new.areas) c.requires.1.1.0 c.requires.1.1.1 c.play-told.ensures.after
