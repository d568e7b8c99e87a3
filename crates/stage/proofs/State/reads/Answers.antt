-- `stage::State::reads` meets its contract: each refusal by the tests passed before it. Assumes nothing.
use Rattle.std.proofs.Common.{not, ap}
use Rattle.stage.specs.Plan.{pick}
use Rattle.stage.specs.Steps.{reads}
use Rattle.stage.proofs.Cascade.{fails, holds}
use Rattle.stage.proofs.State.reads.Goals as goal

pub returns-then-not-sound : goal.returns-then-not-sound
unfolding reads pick
returns-then-not-sound c = rw (fails c.sound.ensures (ap not c.if-not-sound.true))

pub returns-then-not-reaches : goal.returns-then-not-reaches
unfolding reads pick
returns-then-not-reaches c = rw (holds c.sound.ensures (ap not c.if-not-sound.false), fails c.reaches.ensures (ap not c.if-not-reaches.true))

pub returns : goal.returns
unfolding reads pick
returns c = rw (holds c.sound.ensures (ap not c.if-not-sound.false), holds c.reaches.ensures (ap not c.if-not-reaches.false))
