-- `stage::State::modify_geometry_mode` meets its contract. Assumes nothing.
use mathlib.Core.Path.{sym, ◌∙◌}
use Rattle.stage.specs.Matrices.{geometry_plan}
use Rattle.stage.specs.declared.Answer.TheVariants.{BadState}
use Rattle.stage.specs.Plan.{nothing}
use Rattle.stage.proofs.Cascade.{done-sound, refused}
use Rattle.stage.proofs.State.modify_geometry_mode.Goals as goal

pub returns-then-sound : goal.returns-then-sound
unfolding geometry_plan
returns-then-sound c = done-sound _ _ _ (sym c.sound.ensures ∙ c.if-sound.true) (rw (c.relights.ensures, c.geometry_after-new.ensures, c.family_of-family.ensures))

pub returns-else-sound : goal.returns-else-sound
unfolding geometry_plan
returns-else-sound c = refused nothing _ tt _ _ BadState (sym c.sound.ensures ∙ c.if-sound.false)
