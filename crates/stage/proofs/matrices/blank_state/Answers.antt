use Rattle.stage.specs.Opening.{blank}
use lib.Ieee.{of_bits}
use Rattle.stage.proofs.matrices.blank_state.Goals as goal

pub returns : goal.returns
unfolding blank of_bits
returns c =
    let t = c.default.ensures in
    let n = c.default-2.ensures.1.1 in
    rw (t.0, t.1.0, t.1.1.0, t.1.1.1.0, t.1.1.1.1, n.0, n.1.0, n.1.1.0, n.1.1.1.0, n.1.1.1.1.0, n.1.1.1.1.1.0, n.1.1.1.1.1.1)
