-- The count of table 4 after lights are folded. Assumes nothing.
use mathlib.Core.Path.{◌≡◌}
use Prim.Native.Nat.{ℕ, ◌+◌}
use native.Mathlib.Omega.{arith}
use mathlib.Core.List.{List}
use lib.ListN.{length}
use lib.Ieee.{Float}
use Rattle.fold.specs.Lights.{light_entries}
use Rattle.fold.proofs.Believe.{length-lights}

pub lights-more : (m : List (List Float)) (ds cs ambient : List Float) (used n : ℕ) → used + n + 1 ≡ used + length (light_entries m ds cs ambient n)
lights-more m ds cs ambient used n = rw (length-lights m ds cs ambient n) (omega arith)
