-- `matrix::clip::bits_of` meets its contract. Assumes nothing.
use Prim.Native.Nat.{◌+◌}
use Rattle.matrix.specs.Clip.{bits_of}
use Rattle.matrix.proofs.clip.bits_of.Goals as goal

pub returns : goal.returns
unfolding bits_of
returns c = λ i. c.bit.ensures.0 i + c.bit-2.ensures.0 i + c.bit-3.ensures.0 i + c.bit-4.ensures.0 i + c.bit-5.ensures.0 i + c.bit-6.ensures.0 i
