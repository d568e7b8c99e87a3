-- The entry of table 5. Definitions only.
use Rattle.std.specs.Prelude.{List, ◌++◌, Float}
use Rattle.fold.specs.Direction.{three, folded}

-- the S axis folded, then the T axis folded, of six numbers
unfoldable pub lookat_entry : List (List Float) → List Float → List Float
lookat_entry m axes = folded m (three axes 0) ++ folded m (three axes 3)
