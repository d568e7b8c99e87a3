-- `stage::State::set_fog` meets its contract. Assumes nothing.
use mathlib.Core.Path.{sym, ◌∙◌}
use mir.Syntax.{w16}
use mir.ValLaws.{to_z-of_z}
use Rattle.stage.specs.Lights.{fog_plan}
use Rattle.stage.specs.declared.Answer.TheVariants.{BadState}
use Rattle.stage.specs.Plan.{nothing}
use Rattle.stage.proofs.Cascade.{done-sound, refused}
use Rattle.stage.proofs.State.set_fog.Goals as goal

pub returns-then-sound : goal.returns-then-sound
unfolding fog_plan
returns-then-sound c = done-sound _ _ _ (sym c.sound.ensures ∙ c.if-sound.true) (rw (to_z-of_z w16 _ c.ranges.multiplier, to_z-of_z w16 _ c.ranges.offset))

pub returns-else-sound : goal.returns-else-sound
unfolding fog_plan
returns-else-sound c = refused nothing _ tt _ _ BadState (sym c.sound.ensures ∙ c.if-sound.false)
