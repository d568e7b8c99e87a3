use native.Mathlib.Omega.{arith}
use mathlib.Core.Path.{refl, ◌∙◌}
use Rattle.std.proofs.Common.{not}
use Rattle.std.proofs.Common.{ap}
use borrow.Author.Tests.{not-true, not-false}
use Rattle.stage.proofs.Cascade.{fails, holds, refused, passed}
use Rattle.stage.proofs.Culling.{bit_from, rest, few, walk_more, walk-stops, walk_ends}
use Rattle.stage.specs.declared.Answer.TheVariants.{BadState, BadCull}
use Rattle.stage.specs.Plan.{nothing}
use Rattle.stage.specs.Draw.{cull_plan}
use Rattle.stage.proofs.State.culled.Goals as goal
use Rattle.stage.proofs.State.culled.Goals.{else-loop-i-test, then-loop-i-test+else-not-loaded-k+else-i-last}

pub returns-then-not-sound : goal.returns-then-not-sound
unfolding cull_plan
returns-then-not-sound c = refused nothing _ _ _ _ BadState (fails c.sound.ensures (ap not c.if-not-sound.true))

pub returns-then-not-first-last : goal.returns-then-not-first-last
unfolding cull_plan
returns-then-not-first-last c =
    let a = c.args in
    passed nothing _ _ _ _ _ _ _ (holds c.sound.ensures (ap not c.if-not-sound.false))
    (refused nothing _ _ _ _ (BadCull a.first a.last) (not-true _ (ap not c.if-not-first-last.true)))

pub loop-i-init : goal.loop-i-init
loop-i-init c = (few _ _ (not-false _ (ap not c.if-not-first-last.false)), λ s el ec eo. cc)

pub returns-then-not-loaded-k : goal.returns-then-not-loaded-k
unfolding cull_plan rest
returns-then-not-loaded-k c =
    passed nothing _ _ _ _ _ _ _ (holds c.sound.ensures (ap not c.if-not-sound.false))
    (passed nothing _ _ _ _ _ _ _ (not-false _ (ap not c.if-not-first-last.false))
    (walk-stops _ _ _ _ _ (c.loop-i.invariant.1 c.args.self refl refl refl) c.loop-i-test.true (not-true _ (ap not c.if-not-loaded-k.true)) _ c.uncoded.ensures))

pub loop-i-preserved : goal.loop-i-preserved
loop-i-preserved c =
    let v = c.loop-i.invariant in
    (v.0, λ s el ec eo. rw (← eo) (walk_more s _ _ _ _ (v.1 s el ec eo) c.loop-i-test.true (rw (el, ec) (not-false _ (ap not c.if-not-loaded-k.false)))))

pub returns : goal.returns
unfolding cull_plan rest
returns c =
    passed nothing _ _ _ _ _ _ _ (holds c.sound.ensures (ap not c.if-not-sound.false))
    (passed nothing _ _ _ _ _ _ _ (not-false _ (ap not c.if-not-first-last.false))
    (elim c.loop-i-test.branch [
      | else-loop-i-test w ↦ walk_ends _ _ _ _ _ (c.loop-i.invariant.1 c.args.self refl refl refl) w.loop-i-test.false _ (c.from.ensures ∙ bit_from _ ∙ rw w.common-is)
      | then-loop-i-test+else-not-loaded-k+else-i-last w ↦ walk_ends _ _ _ _ _
          (walk_more _ _ _ _ _ (c.loop-i.invariant.1 c.args.self refl refl refl) w.loop-i-test.true (not-false _ (ap not w.if-not-loaded-k.false)))
          (omega arith) _ (c.from.ensures ∙ bit_from _ ∙ rw w.common-is)
    ]))
