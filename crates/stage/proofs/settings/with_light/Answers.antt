use Rattle.stage.specs.Lights.{light_in}
use Rattle.stage.proofs.settings.with_light.Goals as goal

pub returns : goal.returns
unfolding light_in
returns c = rw (c.put_slot.ensures, c.put_slot-2.ensures)
