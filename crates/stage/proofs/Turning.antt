-- A matrix taken as projection or as top of the stack: the state then. Assumes nothing.
use mathlib.Core.Path.{◌≡◌}
use Prim.Native.Nat.{ℕ, ◌+◌, ◌-◌, ◌*◌, ◌≤◌}
use native.Mathlib.Omega.{arith}
use mathlib.Core.Bool.{Bool, true, false}
use mathlib.Core.List.{List}
use lib.Dec.{leb}
use lib.Ieee.{Float}
use borrow.Author.Tests.{leb-true}
use Rattle.areas.specs.Area.{room, put}
use Rattle.areas.specs.Widths.{matrix_width}
use Rattle.matrix.specs.Math.{rows, laid}
use Rattle.decide.specs.Stack.{made, pushed}
use Rattle.stage.specs.declared.State.{State}
use Rattle.stage.specs.With.{with_model, with_projection}
use Rattle.stage.specs.Plan.{pick}
use Rattle.stage.specs.Matrices.{turned}

-- a matrix taken: its depth, projection and stack make the state
pub turned-is : (push load projecting : Bool) (s : State) (m : List (List Float)) (d : ℕ) (p k : List Float)
    → d ≡ pick projecting s.depth (pushed push s.depth)
    → p ≡ pick projecting (laid (made load m (rows s.projection 0))) s.projection
    → k ≡ pick projecting s.stack (put s.stack (matrix_width * (pushed push s.depth - 1)) (laid (made load m (rows s.stack (matrix_width * (s.depth - 1))))))
    → with_model (with_projection s p) d k ≡ turned push load projecting s m
unfolding turned pick
turned-is push load true s m d p k e f g = rw (e, f, g)
turned-is push load false s m d p k e f g = rw (e, f, g)

-- what refusal 8 lets through: the entries in use have room
pub in-room : (w n m len : ℕ) (r : Bool) → m ≡ room w len → r ≡ leb (n + 0) m → leb (n + 0) m ≡ true → n ≤ room w len
in-room w n m len r e h t = let k : n + 0 ≤ m = leb-true (n + 0) m t in rw (← e) (omega arith)
