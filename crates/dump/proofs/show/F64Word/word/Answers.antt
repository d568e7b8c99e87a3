-- The bits of an f64. Assumes nothing.
use Rattle.std.proofs.Common.{◌∙◌, sym}
use lib.Ieee.{binary64, to_bits}
use Rattle.dump.proofs.Nan.{nan-bits}
use Rattle.dump.proofs.show.F64Word.word.Goals as goal

pub returns-then-is_nan : goal.returns-then-is_nan
unfolding to_bits
returns-then-is_nan c = nan-bits binary64 c.args.self (sym c.if-is_nan.true ∙ c.is_nan.ensures.value)
