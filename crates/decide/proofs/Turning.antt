-- A depth of the stack after a push, after a pop and after a matrix is taken: in its range. Assumes nothing.
use mathlib.Core.Path.{◌≡◌, refl, sym, subst}
use Prim.Native.Nat.{ℕ, ◌+◌, ◌≤◌, ◌<◌}
use native.Mathlib.Omega.{arith}
use mathlib.Core.Bool.{Bool, true, false, ◌&&◌, and-eq-true_iff}
use lib.Dec.{ltb}
use borrow.Author.Tests.{ltb-true}
use Rattle.numbers.specs.Choice.{pick}
use Rattle.decide.specs.Stack.{pushed, popped}
use Rattle.decide.specs.Steps.{Deep}

pushed-in : (push : Bool) (d : ℕ) → Deep d → Deep (pushed push d)
unfolding pushed pick
pushed-in push d h = go (push && ltb d 32) refl
  where
    go : (b : Bool) → push && ltb d 32 ≡ b → Deep (pick b (d + 1) d)
    go true e = let l : d < 32 = ltb-true d 32 ((and-eq-true_iff push (ltb d 32)).0 e).1 in omega arith
    go false e = h

pub pushed-low : (push : Bool) (d r : ℕ) → r ≡ pushed push d → Deep d → 1 ≤ r
pushed-low push d r e h = subst (λ (k : ℕ). 1 ≤ k) (sym e) (pushed-in push d h).0

-- the depth of a matrix taken, as the code says it
pub turned-in : (push projecting : Bool) (d r : ℕ) → r ≡ pick projecting d (pushed push d) → Deep d → Deep r
unfolding pick
turned-in push true d r e h = subst Deep (sym e) h
turned-in push false d r e h = subst Deep (sym e) (pushed-in push d h)

pub popped-in : (count d r : ℕ) → r ≡ popped count d → Deep d → Deep r
unfolding popped
popped-in count d r e h = omega arith
