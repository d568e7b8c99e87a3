-- `matrix::math::mul_col_vec3` meets its contract. Assumes nothing.
use mathlib.Core.List.{[], ◌∷◌}
use Rattle.matrix.specs.Math.{col_times}
use Rattle.matrix.proofs.math.mul_col_vec3.Goals as goal

pub returns : goal.returns
unfolding col_times
returns c = λ i. c.dot_of.ensures i ∷ c.dot_of-2.ensures i ∷ c.dot_of-3.ensures i ∷ []
