-- The rules of the model stack, and when a geometry mode word relights. Definitions only.
use Rattle.std.specs.Prelude.{ℕ, ◌+◌, ◌-◌, max, Bool, not, ◌&&◌, List, ltb, Float}
use Rattle.std.specs.Bool.{beq}
use Rattle.numbers.specs.Choice.{pick}
use Rattle.matrix.specs.Math.{times}
use Rattle.decide.specs.declared.family.Family.{Family}
use Rattle.decide.specs.Family.{lit}

-- data, or data times what stood there
unfoldable pub made : Bool → List (List Float) → List (List Float) → List (List Float)
made load m old = pick load m (times m old)

-- the depth after a push, which is dropped at 32
unfoldable pub pushed : Bool → ℕ → ℕ
pushed push depth = pick (push && ltb depth 32) (depth + 1) depth

-- the depth after count pops, never below 1
unfoldable pub popped : ℕ → ℕ → ℕ
popped count depth = max 1 (depth - count)

-- the lighting bit differs
unfoldable pub relit : Family → ℕ → ℕ → Bool
relit f old new = not (beq (lit f old) (lit f new))
