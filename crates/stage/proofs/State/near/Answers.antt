use Rattle.triangle.specs.Slot.{bit}
use Rattle.std.proofs.Common.{not}
use Rattle.std.proofs.Common.{ap}
use mathlib.Core.Path.{◌∙◌}
use Rattle.stage.proofs.Culling.{told, bit_from}
use mathlib.Core.Bool.{false}
use lib.Ieee.{nan}
use Rattle.stage.proofs.Cascade.{fails, holds, refused, passed}
use Rattle.stage.specs.declared.Answer.TheVariants.{BadState, NotLoaded, NoCode}
use Rattle.stage.specs.Plan.{nothing}
use Rattle.stage.specs.Draw.{near, depth_plan}
use Rattle.triangle.proofs.Slots.{held-read, held_reads}
use Rattle.stage.proofs.State.near.Goals as goal

pub returns-then-not-sound : goal.returns-then-not-sound
unfolding depth_plan
returns-then-not-sound c = refused nothing _ _ _ _ BadState (fails c.sound.ensures (ap not c.if-not-sound.true))

pub returns-then-not-slot-loaded : goal.returns-then-not-slot-loaded
unfolding depth_plan
returns-then-not-slot-loaded c =
    let a = c.args in
    passed nothing _ _ _ _ _ _ _ (holds c.sound.ensures (ap not c.if-not-sound.false))
    (refused nothing _ _ _ _ (NotLoaded a.slot) (fails (held-read 256 a.self.loaded a.slot) (ap not c.if-not-slot-loaded.true)))

pub returns-then-not-deep-i : goal.returns-then-not-deep-i
unfolding depth_plan
returns-then-not-deep-i c =
    let a = c.args in
    let h = holds (held-read 256 a.self.loaded a.slot) (ap not c.if-not-slot-loaded.false) in
    passed nothing _ _ _ _ _ _ _ (holds c.sound.ensures (ap not c.if-not-sound.false))
    (passed nothing _ _ _ _ _ _ _ h
    (refused nothing _ _ _ _ (NoCode a.slot) (fails (held_reads 256 a.self.loaded a.slot a.self.deep false h) (ap not c.if-not-deep-i.true))))

pub returns : goal.returns
unfolding depth_plan
returns c =
    let a = c.args in
    let h = holds (held-read 256 a.self.loaded a.slot) (ap not c.if-not-slot-loaded.false) in
    passed nothing _ _ _ _ _ _ _ (holds c.sound.ensures (ap not c.if-not-sound.false))
    (passed nothing _ _ _ _ _ _ _ h
    (passed nothing _ _ _ _ _ _ _ (holds (held_reads 256 a.self.loaded a.slot a.self.deep false h) (ap not c.if-not-deep-i.false))
    (told a.self _ (bit (near a.self a.slot a.threshold)) (c.from.ensures ∙ bit_from _ ∙ rw (c.wide_by_65536-most.ensures, held_reads 256 a.self.loaded a.slot a.self.z nan h)))))
