-- `matrix::clip::screen` meets its contract. Assumes nothing.
use Rattle.matrix.specs.Clip.{screen_of}
use Rattle.matrix.proofs.Constants.{k64}
use Rattle.matrix.proofs.clip.screen.Goals as goal

pub returns : goal.returns
unfolding screen_of
returns c = rw (c.f64_from_f32-z.ensures, c.f64_from_f32-w.ensures, c.f64_from_f32-s.ensures, c.f64_from_f32-t.ensures, k64)
