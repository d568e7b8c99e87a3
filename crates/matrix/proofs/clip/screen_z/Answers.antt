-- `matrix::clip::screen_z` meets its contract. Assumes nothing.
use Rattle.matrix.specs.Clip.{depth_of}
use Rattle.matrix.proofs.Constants.{zero32}
use Rattle.matrix.proofs.clip.screen_z.Goals as goal

pub returns : goal.returns
unfolding depth_of
returns c = rw (← c.screen-z.ensures, ← c.is_finite_f64.ensures, ← zero32) c.then_some.ensures
