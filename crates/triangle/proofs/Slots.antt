-- A mark read at the slot's number modulo the number of slots, as the code reads it. Assumes nothing.
use Prim.Native.Nat.{ℕ, ◌%◌, ◌<◌}
use native.Mathlib.Nat.{mod-eq_of_lt}
use mathlib.Core.Bool.{Bool, true, false, ◌&&◌, and-eq-true_iff}
use mathlib.Core.List.{List}
use mathlib.Core.Path.{◌≡◌, refl}
use lib.ListN.{get_or}
use lib.Dec.{ltb}
use borrow.Author.Tests.{ltb-true}
use Rattle.triangle.specs.Slot.{held}

-- a test is as another wherever a first one holds
and_same : (a b c : Bool) → (a ≡ true → b ≡ c) → a && b ≡ a && c
and_same true b c h = h refl
and_same false b c h = refl

module _ (n : ℕ) (marks : List Bool) (i : ℕ) where
  -- the mark as the code reads it
  pub held-read : ltb i n && get_or marks (i % n) false ≡ held n marks i
  unfolding held
  held-read = and_same (ltb i n) (get_or marks (i % n) false) (get_or marks i false) (λ h. rw (mod-eq_of_lt (ltb-true i n h)))

  -- a slot that has a mark is one of so many
  pub held_below : held n marks i ≡ true → i < n
  unfolding held
  held_below h = ltb-true i n ((and-eq-true_iff (ltb i n) (get_or marks i false)).0 h).0

  -- so its number modulo so many is its number
  pub held_place : held n marks i ≡ true → i % n ≡ i
  held_place h = mod-eq_of_lt (held_below h)

  -- and what the code reads of its columns is what stands at its number
  pub held_reads : {A : Type 0} (l : List A) (d : A) → held n marks i ≡ true → get_or l (i % n) d ≡ get_or l i d
  held_reads l d h = rw (held_place h)
