use native.Mathlib.Numerals.{towards_suc}
use Rattle.areas.specs.Area.{put}
use Rattle.matrix.proofs.Constants.{zero32}
use Rattle.vertex.specs.Vertices.{floats_of}
use Rattle.vertex.proofs.store_floats.Goals as goal

pub returns : goal.returns
unfolding put floats_of
returns c = simp (zero32, towards_suc)
