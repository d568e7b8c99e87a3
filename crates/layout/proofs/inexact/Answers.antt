-- `layout::inexact` meets its contract. Assumes nothing.
use Rattle.layout.specs.Layout.{inexact_at}
use Rattle.layout.proofs.Counting.{noes-rows}
use Rattle.layout.proofs.inexact.Goals as goal

pub returns : goal.returns
unfolding inexact_at
returns c = noes-rows _ _ _ _ _ c.row_inexact.ensures.0 c.row_inexact-2.ensures.0 c.row_inexact-3.ensures.0 c.row_inexact-4.ensures.0
