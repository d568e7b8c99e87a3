use Rattle.triangle.proofs.Runs.{put-eight}
use Rattle.triangle.proofs.run.put_run.Goals as goal

pub returns : goal.returns
returns c = put-eight c.args.runs.now c.args.at c.args.q.material c.args.q.mode c.args.q.fog c.args.q.depth c.args.q.cull c.args.q.unclipped c.args.start c.args.count
