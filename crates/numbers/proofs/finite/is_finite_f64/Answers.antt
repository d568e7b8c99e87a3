-- `numbers::finite::is_finite_f64` meets its contract. Assumes nothing.
use lib.Ieee.{div, neg, of_bits}
use Rattle.numbers.proofs.Bounded.{both, one}
use Rattle.numbers.proofs.finite.is_finite_f64.Goals as goal

pub returns-then-x-top : goal.returns-then-x-top
unfolding div neg of_bits
returns-then-x-top c = both c.args.x c.if-x-top.true

pub returns-else-x-top : goal.returns-else-x-top
unfolding div neg of_bits
returns-else-x-top c = one c.args.x c.if-x-top.false
