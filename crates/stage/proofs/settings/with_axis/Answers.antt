use Rattle.stage.specs.Lights.{axis_in}
use Rattle.stage.proofs.settings.with_axis.Goals as goal

pub returns : goal.returns
unfolding axis_in
returns c = rw c.put_slot.ensures
