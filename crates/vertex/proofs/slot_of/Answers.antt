use Rattle.matrix.proofs.Constants.{one32}
use Rattle.vertex.specs.Vertices.{slot_of, slot_at, clip_of}
use Rattle.vertex.proofs.slot_of.Goals as goal

pub returns : goal.returns
unfolding slot_of slot_at clip_of
returns c = rw (c.screen_z-depth.ensures, c.is_some.ensures, c.clip_code-code.ensures, c.mul_row_vec4-p.ensures, one32)
