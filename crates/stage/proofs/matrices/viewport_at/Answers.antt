-- `stage::matrices::viewport_at` meets its contract. Assumes nothing.
use mathlib.Core.Path.{ap, ◌∙◌}
use Rattle.stage.proofs.Ways.{six_of, six}
use Rattle.stage.proofs.matrices.viewport_at.Goals as goal

pub returns : goal.returns
returns c = ap six_of c.viewport-v.ensures ∙ six _ _
