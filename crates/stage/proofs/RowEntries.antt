-- Table 7 in its two areas: its rows, one by one, and its room. Assumes nothing.
use mathlib.Core.Path.{◌≡◌, refl, sym, ap, ◌∙◌}
use Prim.Native.Nat.{ℕ, zero, suc, ◌+◌, ◌*◌, ◌≤◌, ◌<◌}
use native.Mathlib.Omega.{arith}
use native.Mathlib.Nat.{not-suc-le-zero, le_of_suc-le-suc}
use mathlib.Core.Bool.{Bool, true}
use mathlib.Core.List.{List, [], ◌∷◌, map}
use lib.ListN.{length, get_or}
use lib.Dec.{leb}
use lib.Ieee.{Float}
use borrow.Author.Tests.{leb-true}
use Rattle.areas.specs.Widths.{float_width, word_width}
use Rattle.areas.specs.Area.{entries, part}
use Rattle.areas.proofs.Tables.{length-entries, entry-is}
use Rattle.change.specs.Steps.{row_room}
use Rattle.change.proofs.Accepted.{rows_in}
use Rattle.stage.specs.Plan.{rows_of, row_table, row_words}

-- entries of the same number make as many rows
length-rows_of : (fs : List (List Float)) (ws : List (List ℕ)) → length fs ≡ length ws → length (rows_of fs ws) ≡ length fs
length-rows_of [] ws e = refl
length-rows_of (f ∷ fs) [] e = absurd (let z : ◌≡◌ {A = ℕ} 0 1 = cc in omega arith)
length-rows_of (f ∷ fs) (w ∷ ws) e = ap suc (length-rows_of fs ws (cc))

-- their u32 numbers are those entries
words-rows_of : (fs : List (List Float)) (ws : List (List ℕ)) → length fs ≡ length ws → map row_words (rows_of fs ws) ≡ ws
words-rows_of [] [] e = refl
words-rows_of [] (w ∷ ws) e = absurd (let z : ◌≡◌ {A = ℕ} 0 1 = cc in omega arith)
words-rows_of (f ∷ fs) [] e = absurd (let z : ◌≡◌ {A = ℕ} 0 1 = cc in omega arith)
words-rows_of (f ∷ fs) (w ∷ ws) e = ap (λ (l : List (List ℕ)). w ∷ l) (words-rows_of fs ws (cc))

-- row i has entry i of each
at-rows_of : (fs : List (List Float)) (ws : List (List ℕ)) (i : ℕ) → i < length fs → i < length ws
    → get_or (rows_of fs ws) i (record { floats = []; words = [] }) ≡ record { floats = get_or fs i []; words = get_or ws i [] }
at-rows_of [] ws i h k = absurd (not-suc-le-zero h)
at-rows_of (f ∷ fs) [] i h k = absurd (not-suc-le-zero k)
at-rows_of (f ∷ fs) (w ∷ ws) zero h k = refl
at-rows_of (f ∷ fs) (w ∷ ws) (suc i) h k = at-rows_of fs ws i (le_of_suc-le-suc h) (le_of_suc-le-suc k)

module _ (n : ℕ) (f : List Float) (w : List ℕ) where
  -- as many rows are in use as the count says
  pub length-rows : length (row_table n f w).used ≡ n
  length-rows = length-rows_of (entries float_width n f) (entries word_width n w) (length-entries float_width n f ∙ sym (length-entries word_width n w)) ∙ length-entries float_width n f

  -- the u32 numbers of the rows in use
  pub words-of-rows : map row_words (row_table n f w).used ≡ entries word_width n w
  words-of-rows = words-rows_of (entries float_width n f) (entries word_width n w) (length-entries float_width n f ∙ sym (length-entries word_width n w))

  -- row i, read in the two areas
  pub row_at : (i : ℕ) → i < n → get_or (row_table n f w).used i (record { floats = []; words = [] }) ≡ record { floats = part f (i * float_width) float_width; words = part w (i * word_width) word_width }
  row_at i h =
      at-rows_of (entries float_width n f) (entries word_width n w) i (rw length-entries h) (rw length-entries h)
      ∙ rw (entry-is float_width n i f h, entry-is word_width n i w h)

  -- what the code finds of the table, by the room that it worked out, is what the judge asks
  pub rows-hold : (k m : ℕ) (r : Bool) → m ≡ row_room (length f) (length w) → r ≡ leb (n + k) m → r ≡ leb (length (row_table n f w).used + k) (row_table n f w).room
  rows-hold k m r e h = h ∙ rw (e, length-rows)

-- rows that refusal 8 lets through lie in both areas
pub rows-held : (k a b m : ℕ) → m ≡ row_room a b → leb (k + 0) m ≡ true → (k * float_width ≤ a) × (k * word_width ≤ b)
rows-held k a b m e t = let h : k + 0 ≤ m = leb-true (k + 0) m t in rows_in k a b m e (omega arith)
