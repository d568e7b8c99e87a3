-- `numbers::ratio::by_67108864` meets its contract. Assumes nothing.
use Rattle.std.proofs.Common.{pos, lit≤}
use lib.Ieee.{of_bits}
use Rattle.numbers.proofs.Quotients.{div-shift}
use Rattle.numbers.proofs.ratio.by_67108864.Goals as goal

pub returns : goal.returns
unfolding of_bits
returns c = div-shift c.nearest_u32_to_f32.result (pos c.args.x) 26 c.nearest_u32_to_f32.ensures c.ranges.x.fits (lit≤ tt)
