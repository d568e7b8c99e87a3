-- `replay::play` meets its contract. What the ops are to come to is named: left to be found it costs most of this proof. Assumes nothing.
use Rattle.std.proofs.Common.{◌∙◌, ap, sym, arith}
use lib.ListN.{length}
use Rattle.stage.specs.declared.State.{State}
use Rattle.trace.specs.Header.{header_size}
use Rattle.trace.specs.Script.{Ahead}
use Rattle.player.specs.Ops.{held}
use Rattle.player.specs.Play.{port_of, play_from}
use Rattle.player.proofs.Playing.{left_behind, ended, cut}
use Rattle.replay.proofs.Again.{same_as_first}
use Rattle.replay.proofs.play.Goals as goal
use Rattle.replay.proofs.play.Goals.{else-loop-at-test, then-loop-at-test+in-Err}

pub loop-at-preserved : goal.loop-at-preserved
loop-at-preserved p c =
    let a = c.args in
    let s = a.s.now in
    let v = c.loop-at in
    let k = c.in-Ok in
    let n = c.step-g in
    let comes = play_from (length s) s (header_size s) a.own (port_of c.unopened-g.result.state (held a.areas.now)) in
    let h : Ahead v.at (length s) k.c = k.ensures.ahead in
    let left = left_behind s v.at v.lent (port_of v.g.state (held v.areas)) comes k.c n.result c.lent_after-lent.result (held n.new.areas) c.loop-at-test.true (sym k.ensures.value) h.past n.ensures.after c.lent_after-lent.ensures v.invariant.0 in
    (left, (h.inside, (omega (arith, h.past, v.invariant.1.1.0), same_as_first _ _ _ n.ensures.same v.invariant.1.1.1)))

pub returns-clause-after : goal.returns-clause-after
returns-clause-after p c =
    let a = c.args in
    let s = a.s.now in
    let v = c.loop-at in
    let here = port_of v.g.state (held v.areas) in
    let comes = play_from (length s) s (header_size s) a.own (port_of c.unopened-g.result.state (held a.areas.now)) in
    ◌∙◌
    {a = here}
    {b = comes}
    (elim c.loop-at-test.branch [
      | else-loop-at-test w ↦ ended s v.at v.lent here comes w.loop-at-test.false v.invariant.0
      | then-loop-at-test+in-Err w ↦ cut s v.at v.lent here comes _ w.loop-at-test.true (sym w.in-Err.ensures.value) v.invariant.0
    ])
    (ap (λ (g : State). play_from (length s) s (header_size s) a.own (port_of g (held a.areas.now))) c.unopened-g.ensures)
