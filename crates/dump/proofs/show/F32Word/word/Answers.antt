-- The bits of an f32. Assumes nothing.
use Rattle.std.proofs.Common.{◌∙◌, sym}
use lib.Ieee.{binary32, to_bits}
use Rattle.dump.proofs.Nan.{nan-bits}
use Rattle.dump.proofs.show.F32Word.word.Goals as goal

pub returns-then-is_nan : goal.returns-then-is_nan
unfolding to_bits
returns-then-is_nan c = nan-bits binary32 c.args.self (sym c.if-is_nan.true ∙ c.is_nan.ensures.value)
