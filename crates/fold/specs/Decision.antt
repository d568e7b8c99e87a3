-- Whether lights, or the lookat axes, are folded anew. Definitions only.
use Rattle.std.specs.Prelude.{Bool, not, ◌||◌, List, Float}
use Rattle.std.specs.Float.Ieee.{eq}
use Rattle.areas.specs.Area.{matches}

-- none are folded yet, or they are marked changed, or `top`, the model top that they were last folded with, compares unequal to `model`, that of the load
unfoldable pub refold : Bool → Bool → List Float → List Float → Bool
refold folded changed top model = not folded || changed || not (matches eq top model)
