-- `trace::act::write_at` meets its contract. Assumes nothing.
use mathlib.Core.Path.{sym}
use lib.Seq.{set_out}
use Rattle.numbers.specs.Choice.{pick}
use Rattle.areas.specs.Area.{put}
use Rattle.trace.proofs.act.write_at.Goals as goal
use Rattle.trace.proofs.act.write_at.Goals.{else-on-via-then-on+else-at-area, else-on-via-else-on}

pub returns-else-on : goal.returns-else-on
unfolding put pick
returns-else-on g c =
    elim c.else-on.branch [
      | else-on-via-then-on+else-at-area w ↦ rw w.if-on.true (sym (set_out c.args.area.now c.args.at c.args.value w.if-at-area.false))
      | else-on-via-else-on w ↦ rw w.if-on.false
    ]
