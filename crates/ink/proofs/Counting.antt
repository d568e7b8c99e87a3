-- The indices that have an ink, one by one. Assumes nothing.
use Prim.Native.Nat.{ℕ, zero, suc, ◌+◌, ◌*◌, ◌≤◌, ◌<◌}
use native.Mathlib.Omega.{arith}
use mathlib.Core.Bool.{Bool, true, false, cond}
use mathlib.Core.Path.{◌≡◌, refl}
use mathlib.Core.List.{List, [], ◌∷◌, ◌++◌}
use lib.ListN.{length, take}
use Rattle.std.specs.List.{filter}
use borrow.Author.Tests.{lt-ltb, le-ltb}
use Rattle.numbers.specs.Choice.{pick}
use Rattle.areas.specs.Widths.{index_width}
use Rattle.areas.specs.Area.{part, entries}
use Rattle.areas.proofs.Tables.{length-entries, entry-is}
use Rattle.ink.specs.Ink.{has_ink, ink_at, ink_of}

-- INDICES ONE BEHIND THE OTHER count as the sum
pub inks-sum : (colour : ℕ) (rows es fs : List (List ℕ)) → ink_of colour rows (es ++ fs) ≡ ink_of colour rows es + ink_of colour rows fs
unfolding ink_of
inks-sum colour rows [] fs = omega arith
inks-sum colour rows (e ∷ es) fs = rw (inks-sum colour rows es fs) (omega arith)

-- the indices that have the ink, kept one by one, are as many as are counted
pub inks-filtered : (colour : ℕ) (rows : List (List ℕ)) (n : ℕ) (l : List ℕ) → n * index_width ≤ length l → length (filter (ink_at colour rows) (take n l)) ≡ ink_of colour rows (entries index_width n l)
unfolding ink_of pick
inks-filtered colour rows zero l h = refl
inks-filtered colour rows (suc n) [] h = absurd (omega arith)
inks-filtered colour rows (suc n) (i ∷ l) h = one (ink_at colour rows i) (inks-filtered colour rows n l (omega arith))
  where
    one : (b : Bool) {k : ℕ} → length (filter (ink_at colour rows) (take n l)) ≡ k
        → length (cond b (i ∷ filter (ink_at colour rows) (take n l)) (filter (ink_at colour rows) (take n l))) ≡ pick b 1 0 + k
    one true e = omega arith
    one false e = omega arith

-- the ink test of an index, by whether it is that of a row in use
module _ (colour w n i : ℕ) (l : List ℕ) where
  pub ink-in : (b : Bool) (at : ℕ) → i < n → at ≡ i * w → b ≡ has_ink colour (part l at w) → b ≡ ink_at colour (entries w n l) i
  ink-in b at h e d = rw (length-entries w n l, lt-ltb i n h, entry-is w n i l h, ← e) d

  pub ink-out : n ≤ i → false ≡ ink_at colour (entries w n l) i
  ink-out h = rw (length-entries w n l, le-ltb i n h)
