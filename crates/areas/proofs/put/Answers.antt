use Rattle.areas.proofs.Puts.{put-part}
use Rattle.areas.proofs.put.Goals as goal

pub returns : goal.returns
returns g c = put-part c.args.area.now c.args.at _ _ c.args.entry.now _ c.min-start.ensures c.min-wide.ensures c.copy_from_slice.ensures.after
