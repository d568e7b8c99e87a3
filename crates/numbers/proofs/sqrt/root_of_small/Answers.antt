-- `numbers::sqrt::root_of_small` meets its contract. Assumes nothing.
use Rattle.std.proofs.Common.{ap, ◌∙◌}
use lib.Ieee.{binary32}
use Rattle.numbers.specs.Sqrt.{rooted}
use Rattle.numbers.proofs.Small.{begin, turn}
use Rattle.numbers.proofs.sqrt.root_of_small.Goals as goal

pub loop-digits-init : goal.loop-digits-init
loop-digits-init c = begin c.args.bits c.requires.0 c.requires.1

pub loop-digits-preserved : goal.loop-digits-preserved
loop-digits-preserved c = turn c.args.bits c.loop-digits.digits c.loop-digits.power c.loop-digits.invariant c.loop-digits-test.true

pub returns : goal.returns
returns c = (c.root_of.ensures.0 ∙ ap (rooted binary32) c.loop-digits.invariant.value, c.root_of.ensures.1)
