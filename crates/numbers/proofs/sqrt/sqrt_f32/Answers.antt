-- `numbers::sqrt::sqrt_f32` meets its contract. Assumes nothing.
use Rattle.std.proofs.Common.{◌≡◌, ◌≤◌, ◌%◌, false, Float, ◌<◌, T, sym, ◌∙◌, subst, arith}
use lib.Ieee.{ne, binary32, fits, to_bits}
use Rattle.numbers.proofs.Ends.{was-nan, no_nan, low-no-nan, bits-low, root-of-nan, root-of-zero, root-of-inf, root-of-negative, root-small, root-normal}
use Rattle.numbers.proofs.sqrt.sqrt_f32.Goals as goal

-- past the four tests the bits are below those of the infinity
below : (x : Float) → T (fits binary32 x) → ne x x ≡ false → (to_bits binary32 x % 2147483648 ≡ 0 → ⊥) → to_bits binary32 x ≤ 2147483648
    → (to_bits binary32 x ≡ 2139095040 → ⊥) → to_bits binary32 x < 2139095040
below x holds number nonzero unsigned finite =
    let at_most : to_bits binary32 x < 2147483648 = omega (arith, unsigned, nonzero) in
    omega (arith, finite, bits-low x holds (no_nan x number) at_most)

pub returns-then-x : goal.returns-then-x
returns-then-x c = root-of-nan c.args.x (was-nan c.args.x c.if-x.true)

pub float_to_bits-bits : goal.float_to_bits-bits
float_to_bits-bits c = no_nan c.args.x c.if-x.false

pub returns-then-bits-eq0 : goal.returns-then-bits-eq0
returns-then-bits-eq0 c = root-of-zero c.args.x (subst T (sym c.well_formed.0.1) tt) (omega (arith, c.if-bits-eq0.true))

pub returns-then-bits-gt2147483648 : goal.returns-then-bits-gt2147483648
returns-then-bits-gt2147483648 c = root-of-negative c.args.x (subst T (sym c.well_formed.0.1) tt) c.if-bits-gt2147483648.true

pub returns-then-bits-eq2139095040 : goal.returns-then-bits-eq2139095040
returns-then-bits-eq2139095040 c = root-of-inf c.args.x (subst T (sym c.well_formed.0.1) tt) c.if-bits-eq2139095040.true

pub float_from_bits-result : goal.float_from_bits-result
float_from_bits-result c = low-no-nan c.root_of_small.result (omega arith) (omega arith)

pub root_of-requires : goal.root_of-requires
root_of-requires c = omega (arith, (below c.args.x (subst T (sym c.well_formed.0.1) tt) c.if-x.false c.if-bits-eq0.false c.if-bits-gt2147483648.false c.if-bits-eq2139095040.false))

pub float_from_bits-result-else-bits-lt8388608 : goal.float_from_bits-result-else-bits-lt8388608
float_from_bits-result-else-bits-lt8388608 c = low-no-nan c.root_of.result (omega arith) (omega arith)

pub returns-then-bits-lt8388608 : goal.returns-then-bits-lt8388608
returns-then-bits-lt8388608 c = c.root_of_small.ensures.0 ∙ sym (root-small c.args.x (subst T (sym c.well_formed.0.1) tt) (omega arith) c.if-bits-lt8388608.true)

pub returns-else-bits-lt8388608 : goal.returns-else-bits-lt8388608
returns-else-bits-lt8388608 c = c.root_of.ensures.0 ∙ sym (root-normal c.args.x (subst T (sym c.well_formed.0.1) tt) c.if-bits-lt8388608.false (below c.args.x (subst T (sym c.well_formed.0.1) tt) c.if-x.false c.if-bits-eq0.false c.if-bits-gt2147483648.false c.if-bits-eq2139095040.false))
