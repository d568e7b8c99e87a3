-- Slots, by the tests that the code makes. Assumes nothing.
use mathlib.Core.Path.{◌≡◌, refl, sym, ◌∙◌}
use Prim.Native.Nat.{ℕ, ◌+◌, ◌≤◌}
use native.Mathlib.Omega.{arith}
use mathlib.Core.Bool.{Bool, true, false, ◌&&◌}
use mathlib.Core.List.{List}
use lib.Dec.{leb}
use lib.Ieee.{Float}
use borrow.Author.Tests.{le-leb, leb-true, le-ltb}
use Rattle.numbers.specs.Choice.{pick}
use Rattle.decide.specs.Lights.{slotted}

-- a slot above stores nothing
pub slot-above : (n k : ℕ) (l v : List Float) → n ≤ k → slotted n l k v ≡ l
unfolding slotted pick
slot-above n k l v h = rw (le-ltb k n h)

-- slots that end within n are no more than n
pub no_more_slots : (n first count : ℕ) → leb (first + count) n ≡ (leb count n && leb (first + count) n)
no_more_slots n first count = go _ _ refl refl
  where
    go : (a b : Bool) → leb count n ≡ a → leb (first + count) n ≡ b → b ≡ (a && b)
    go true b x y = refl
    go false false x y = refl
    go false true x y = let h : first + count ≤ n = leb-true _ _ y in sym (sym x ∙ le-leb count n (omega arith))
