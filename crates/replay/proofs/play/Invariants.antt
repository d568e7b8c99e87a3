use Rattle.std.proofs.Common.{length, ◌-◌, ◌≤◌}
use Rattle.trace.specs.Header.{header_size}
use Rattle.player.specs.Ops.{held, SameSlices}
use Rattle.player.specs.Play.{port_of, play_from}
use Rattle.player.proofs.Playing.{Left}
use Rattle.replay.proofs.play.Given as goal

abbrev pub invariant-loop-at : goal.invariant-loop-at
invariant-loop-at p l =
    let o = l.initial in
    Left l.s l.at l.lent (port_of l.g.state (held l.areas)) (play_from (length l.s) l.s (header_size l.s) o.lent (port_of o.g.state (held o.areas))) × ((l.at ≤ length l.s) × ((l.i ≤ l.at) × SameSlices l.areas o.areas))

abbrev pub decreases-loop-at : goal.decreases-loop-at
decreases-loop-at p l = length l.s - l.at
