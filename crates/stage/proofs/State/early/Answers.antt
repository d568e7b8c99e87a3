-- `stage::State::early` meets its contract: each answer by the tests passed before it. Assumes nothing.
use Rattle.std.proofs.Common.{not}
use mathlib.Core.Path.{◌≡◌, ap, ◌∙◌}
use mathlib.Core.Bool.{true, ◌&&◌}
use Prim.Native.Nat.{◌+◌, ◌*◌, ◌≤◌}
use native.Mathlib.Omega.{arith}
use lib.Dec.{leb}
use borrow.Author.Tests.{leb-true}
use Rattle.decide.specs.Steps.{first_short}
use Rattle.stage.specs.declared.load.More.{More}
use Rattle.stage.specs.Plan.{pick}
use Rattle.stage.specs.Sound.{state_sound}
use Rattle.stage.specs.Steps.{six_lent, no_more, early_answer}
use Rattle.stage.proofs.Judged.{and_left}
use Rattle.stage.proofs.Cascade.{fails, holds}
use Rattle.stage.proofs.State.early.Goals as goal

pub returns-then-not-sound : goal.returns-then-not-sound
unfolding early_answer pick
returns-then-not-sound c = rw (fails c.sound.ensures (ap not c.if-not-sound.true))

pub returns-then-not-slots_there : goal.returns-then-not-slots_there
unfolding early_answer pick
returns-then-not-slots_there c = rw ((let is-sound : state_sound c.args.self ≡ true = holds c.sound.ensures (ap not c.if-not-sound.false) in is-sound), fails c.slots_there.ensures (ap not c.if-not-slots_there.true))

pub overflow_mul-need : goal.overflow_mul-need
overflow_mul-need c = let h : c.args.count ≤ 256 = leb-true _ _ (and_left _ _ ((let has-slots : let a = c.args in (leb a.count 256 && leb (a.first + a.count) 256) ≡ true = holds c.slots_there.ensures (ap not c.if-not-slots_there.false) in has-slots))) in omega arith

pub returns-then-not-reaches : goal.returns-then-not-reaches
unfolding early_answer pick
returns-then-not-reaches c = rw ((let is-sound : state_sound c.args.self ≡ true = holds c.sound.ensures (ap not c.if-not-sound.false) in is-sound), (let has-slots : let a = c.args in (leb a.count 256 && leb (a.first + a.count) 256) ≡ true = holds c.slots_there.ensures (ap not c.if-not-slots_there.false) in has-slots), fails c.reaches.ensures (ap not c.if-not-reaches.true))

pub returns-in-Some : goal.returns-in-Some
unfolding early_answer pick
returns-in-Some c =
    rw (
      (let is-sound : state_sound c.args.self ≡ true = holds c.sound.ensures (ap not c.if-not-sound.false) in is-sound),
      (let has-slots : let a = c.args in (leb a.count 256 && leb (a.first + a.count) 256) ≡ true = holds c.slots_there.ensures (ap not c.if-not-slots_there.false) in has-slots),
      (let reaching : let a = c.args in leb (a.at + 16 * a.count) a.len ≡ true = holds c.reaches.ensures (ap not c.if-not-reaches.false) in reaching),
      ← (let shortest : let a = c.args in c.short_table.result ≡ first_short (six_lent a.self.counts no_more a.rooms) = let a = c.args in
          c.short_table.ensures ∙ ap (λ (m : More). first_short (six_lent a.self.counts m a.rooms)) c.no_more.ensures in shortest),
      c.in-Some.is,
    )

pub returns-in-None : goal.returns-in-None
unfolding early_answer pick
returns-in-None c =
    rw (
      (let is-sound : state_sound c.args.self ≡ true = holds c.sound.ensures (ap not c.if-not-sound.false) in is-sound),
      (let has-slots : let a = c.args in (leb a.count 256 && leb (a.first + a.count) 256) ≡ true = holds c.slots_there.ensures (ap not c.if-not-slots_there.false) in has-slots),
      (let reaching : let a = c.args in leb (a.at + 16 * a.count) a.len ≡ true = holds c.reaches.ensures (ap not c.if-not-reaches.false) in reaching),
      ← (let shortest : let a = c.args in c.short_table.result ≡ first_short (six_lent a.self.counts no_more a.rooms) = let a = c.args in
          c.short_table.ensures ∙ ap (λ (m : More). first_short (six_lent a.self.counts m a.rooms)) c.no_more.ensures in shortest),
      c.in-None.is,
    )
