-- `matrix::math::to_flat` meets its contract. Assumes nothing.
use Rattle.std.proofs.Common.{refl}
use Rattle.matrix.specs.Math.{laid}
use Rattle.matrix.proofs.math.to_flat.Goals as goal

pub returns : goal.returns
unfolding laid
returns c = refl
