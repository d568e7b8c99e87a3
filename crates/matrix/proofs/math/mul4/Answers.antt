-- `matrix::math::mul4` meets its contract. Assumes nothing.
use mathlib.Core.List.{[], ◌∷◌}
use Rattle.matrix.specs.Math.{times}
use Rattle.matrix.proofs.math.mul4.Goals as goal

pub returns : goal.returns
unfolding times
returns c = λ i. c.mul_row_vec4.ensures i ∷ c.mul_row_vec4-2.ensures i ∷ c.mul_row_vec4-3.ensures i ∷ c.mul_row_vec4-4.ensures i ∷ []
