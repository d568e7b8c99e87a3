use native.Mathlib.Numerals.{towards_suc}
use Rattle.areas.specs.Area.{put}
use Rattle.vertex.proofs.Believe.{add-nine}
use Rattle.vertex.specs.Vertices.{words_of}
use Rattle.vertex.proofs.store_words.Goals as goal

pub returns : goal.returns
unfolding put words_of
returns c = simp (towards_suc, add-nine)
