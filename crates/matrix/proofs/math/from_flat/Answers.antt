-- `matrix::math::from_flat` meets its contract. Assumes nothing.
use Rattle.std.proofs.Common.{refl}
use Rattle.matrix.specs.Math.{rows}
use Rattle.matrix.proofs.math.from_flat.Goals as goal

pub returns : goal.returns
unfolding rows
returns c = refl
