-- `matrix::math::mul_row_vec4` meets its contract. Assumes nothing.
use mathlib.Core.List.{[], ◌∷◌}
use Rattle.matrix.specs.Math.{row_times}
use Rattle.matrix.proofs.math.mul_row_vec4.Goals as goal

pub returns : goal.returns
unfolding row_times
returns c = λ i. c.column_of.ensures i ∷ c.column_of-2.ensures i ∷ c.column_of-3.ensures i ∷ c.column_of-4.ensures i ∷ []
