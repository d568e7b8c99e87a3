-- The rules of the lights and of slots of three numbers. Definitions only.
use Rattle.std.specs.Prelude.{ℕ, ◌*◌, ◌/◌, min, List, ltb, Float}
use Rattle.numbers.specs.Choice.{pick}
use Rattle.areas.specs.Area.{put}

-- the number of lights that so many bytes stand for: 24 a light, at most 7
abbrev pub light_number : ℕ → ℕ
light_number bytes = min (bytes / 24) 7

-- l, slots of three numbers end to end, with those of slot k replaced by v; a slot from n on stores nothing
unfoldable pub slotted : ℕ → List Float → ℕ → List Float → List Float
slotted n l k v = pick (ltb k n) (put l (3 * k) v) l
