-- `matrix::clip::clip_code` meets its contract. Assumes nothing.
use Rattle.matrix.specs.Clip.{code_of}
use Rattle.matrix.proofs.clip.clip_code.Goals as goal

pub returns : goal.returns
unfolding code_of
returns c = rw (← c.all_finite.ensures, ← c.bits_of.ensures) c.then_some.ensures
