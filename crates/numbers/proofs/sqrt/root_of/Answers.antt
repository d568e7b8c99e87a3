-- `numbers::sqrt::root_of` meets its contract. Assumes nothing.
use Rattle.std.proofs.Common.{refl, arith}
use Rattle.numbers.proofs.Rooted.{root-at}
use Rattle.numbers.proofs.sqrt.root_of.Goals as goal

pub returns-then-power-eq1 : goal.returns-then-power-eq1
returns-then-power-eq1 c = root-at 23 128 c.args.digits c.args.power c.nearest_root.result refl (omega arith) (omega arith) c.requires c.nearest_root.ensures

pub returns-else-power-eq1 : goal.returns-else-power-eq1
returns-else-power-eq1 c = root-at 24 256 c.args.digits c.args.power c.nearest_root-else-power-eq1.result refl (omega arith) (omega arith) c.requires c.nearest_root-else-power-eq1.ensures
