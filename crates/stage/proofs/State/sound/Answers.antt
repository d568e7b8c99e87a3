use lib.Dec.{leb}
use Rattle.stage.specs.Sound.{count_tests, state_sound}
use Rattle.stage.proofs.Judged.{joined}
use Rattle.stage.proofs.State.sound.Goals as goal

pub returns : goal.returns
unfolding state_sound
returns c = let s = c.args.self in rw c.sound_counts.ensures (joined s.opened (leb 1 s.depth) (leb s.depth 32) (leb s.lights.number 7) (count_tests s.counts))
