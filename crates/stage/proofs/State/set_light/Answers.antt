-- `stage::State::set_light` meets its contract. Assumes nothing.
use mathlib.Core.Path.{◌≡◌}
use lib.Dec.{eqb}
use borrow.Author.Tests.{eq-eqb, ne_eqb}
use borrow.Author.Rules.{rules}
use Rattle.stage.specs.Plan.{pick}
use Rattle.stage.proofs.Lighting.{light-plan}
use Rattle.stage.proofs.Cascade.{picked, left, reads-reached, reads-done, reads-refused}
use Rattle.stage.proofs.State.set_light.Goals as goal
use Rattle.stage.proofs.State.set_light.Goals.{then-ambient, else-ambient, then-ambient-2, else-ambient-2}

pub colour-colour-requires : goal.colour-colour-requires
colour-colour-requires c =
    let need : c.if-ambient.need ≡ 3 = search rules in
    rw need at (reads-reached c.args.self c.if-ambient.need c.args.at c.args.«data».now c.in-Ok.ensures)

pub light-requires : goal.light-requires
light-requires c =
    let need : c.if-ambient.need ≡ 11 = search rules in
    rw need at (reads-reached c.args.self c.if-ambient.need c.args.at c.args.«data».now c.in-Ok.ensures)

pub returns-in-Err : goal.returns-in-Err
unfolding pick
returns-in-Err c =
    let need : c.if-ambient.need ≡ pick (eqb c.args.slot c.args.self.lights.number) 3 11 = search rules in
    rw (light-plan, ← need) (reads-refused _ _ _ _ _ _ c.in-Err.ensures)

pub returns-after-ambient-2 : goal.returns-after-ambient-2
unfolding pick
returns-after-ambient-2 c =
    let need : c.if-ambient.need ≡ pick (eqb c.args.slot c.args.self.lights.number) 3 11 = search rules in
    rw (light-plan, ← need)
    (reads-done _ _ _ _ _ _ c.in-Ok.ensures
    (elim c.if-ambient-2.branch [
      | then-ambient-2 v ↦ rw (v.l-is, picked _ _ _ (eq-eqb _ _ v.if-ambient-2.true), v.colour-colour.ensures)
      | else-ambient-2 v ↦ rw (v.l-is, left _ _ _ (ne_eqb _ _ v.if-ambient-2.false), v.with_light-l.ensures, v.light.ensures)
    ]))
