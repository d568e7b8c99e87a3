-- `stage::State::switch_microcode` meets its contract. Assumes nothing.
use mathlib.Core.Path.{sym, ◌∙◌}
use lib.Ieee.{of_bits}
use Rattle.stage.specs.Lights.{microcode_plan, switched}
use Rattle.stage.specs.declared.Answer.TheVariants.{BadState}
use Rattle.stage.specs.Plan.{nothing}
use Rattle.stage.proofs.Cascade.{done-sound, refused}
use Rattle.stage.proofs.State.switch_microcode.Goals as goal

pub returns-then-sound : goal.returns-then-sound
unfolding microcode_plan switched of_bits
returns-then-sound c = done-sound _ _ _ (sym c.sound.ensures ∙ c.if-sound.true) (rw c.from-n.ensures)

pub returns-else-sound : goal.returns-else-sound
unfolding microcode_plan
returns-else-sound c = refused nothing _ tt _ _ BadState (sym c.sound.ensures ∙ c.if-sound.false)
