-- `stage::State::modify_vertex` meets its contract. Assumes nothing.
use mathlib.Core.Path.{refl, sym, ◌∙◌}
use Prim.Native.Nat.{◌%◌}
use Rattle.change.specs.Decoded.{decoded}
use Rattle.stage.proofs.Judged.{ranges}
use Rattle.stage.proofs.Changes.{looked, there-is, mod-slot, same-state, changed-state, way-unsound, way-refused, way-accepted}
use Rattle.stage.proofs.State.modify_vertex.Goals as goal
use Rattle.stage.proofs.State.modify_vertex.Goals.{then-sound+in-Err, then-sound+in-Ok, else-sound}

pub remake-requires : goal.remake-requires
remake-requires c =
    let r = ranges _ (sym c.sound.ensures ∙ c.if-sound.true) in
    rw c.tables37-t.ensures ((r.scales, r.rows), (refl, refl))

pub returns : goal.returns
returns c =
    let a = c.args in
    let l = a.scales.now in
    let f = a.floats.now in
    let u = a.words.now in
    let there = c.mark_at-there.ensures in
    let deep = c.mark_at-deeply.ensures in
    elim c.if-sound.branch [
      | then-sound+in-Err w ↦
          let e = looked a.self a.slot _ (decoded a.attribute a.value) _ _ _ _ _ w.decode-asked.ensures w.tables37-t.ensures there w.remake.ensures.0 w.in-Err.is in
          way-refused 256 a.self l f u a.slot a.attribute a.value _ _ _ _ _ w.remake.result _ _ _ _ _ w.remake.ensures.1 w.scales-is w.floats-is w.words-is _ (sym c.sound.ensures ∙ w.if-sound.true) e w.in-Err.is (same-state a.self _ _ _ _ w.self-is w.drawn-is w.row-is w.z-is) (w.answer-is ∙ w.answer_of-answer.ensures)
      | then-sound+in-Ok w ↦
          let e = looked a.self a.slot _ (decoded a.attribute a.value) _ _ _ _ _ w.decode-asked.ensures w.tables37-t.ensures there w.remake.ensures.0 w.in-Ok.is in
          let h = there-is 256 a.self l f u a.slot a.attribute _ _ _ e in
          let k = mod-slot a.slot h in
          way-accepted 256 a.self l f u a.slot a.attribute a.value _ _ _ _ _ w.remake.result _ _ _ _ _ w.remake.ensures.1 w.scales-is w.floats-is w.words-is _ _ (sym c.sound.ensures ∙ w.if-sound.true) e w.in-Ok.is (rw k) (rw w.tables37-t.ensures) (changed-state _ _ a.self _ a.slot (a.slot % 256) _ _ _ _ _ k w.self-is w.drawn-is w.row-is w.z-is w.depth_after.ensures (deep h)) w.answer-is
      | else-sound w ↦ way-unsound 256 a.self l f u a.slot a.attribute a.value _ _ _ _ _ (sym c.sound.ensures ∙ w.if-sound.false) (same-state a.self _ _ _ _ w.self-is w.drawn-is w.row-is w.z-is) w.answer-is w.scales-is w.floats-is w.words-is
    ]
