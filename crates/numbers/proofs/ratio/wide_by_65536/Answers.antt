-- `numbers::ratio::wide_by_65536` meets its contract. Assumes nothing.
use Rattle.std.proofs.Common.{pos, refl, w32}
use lib.Ieee.{binary64, of_bits}
use Rattle.numbers.proofs.Quotients.{div-unsigned}
use Rattle.numbers.proofs.ratio.wide_by_65536.Goals as goal

pub returns : goal.returns
unfolding of_bits
returns c = div-unsigned binary64 w32 c.args.x 0 (pos 16) 65536 c.ranges.x tt tt refl
