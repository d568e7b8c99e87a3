use mathlib.Core.Path.{◌∙◌}
use Rattle.areas.proofs.Puts.{copy-part}
use Rattle.areas.proofs.copy.Goals as goal

pub returns : goal.returns
returns g c = c.copy_within.ensures.after ∙ copy-part _ _ _ _ c.requires
