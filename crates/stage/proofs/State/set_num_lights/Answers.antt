-- `stage::State::set_num_lights` meets its contract. Assumes nothing.
use mathlib.Core.Path.{sym, ◌∙◌}
use Rattle.stage.specs.Lights.{number_plan}
use Rattle.stage.specs.declared.Answer.TheVariants.{BadState}
use Rattle.stage.specs.Plan.{nothing}
use Rattle.stage.proofs.Cascade.{done-sound, refused}
use Rattle.stage.proofs.State.set_num_lights.Goals as goal

pub returns-then-sound : goal.returns-then-sound
unfolding number_plan
returns-then-sound c = done-sound _ _ _ (sym c.sound.ensures ∙ c.if-sound.true) (rw c.light_number-n.ensures)

pub returns-else-sound : goal.returns-else-sound
unfolding number_plan
returns-else-sound c = refused nothing _ tt _ _ BadState (sym c.sound.ensures ∙ c.if-sound.false)
