-- The indices counted are the inked corners of the triangles that the bench gave. Assumes nothing.
use mathlib.Core.Path.{◌≡◌, refl, sym, ap, ◌∙◌}
use Prim.Native.Nat.{ℕ, zero, suc, ◌+◌, ◌*◌, ◌≤◌, ◌<◌}
use native.Mathlib.Omega.{arith}
use mathlib.Core.Bool.{Bool, false, ◌&&◌}
use mathlib.Core.List.{List, [], ◌∷◌, ◌++◌, map}
use lib.ListN.{length, get_or, take, drop, length-map, length-drop, get_or-map}
use lib.Dec.{eqb}
use lib.Ieee.{Float}
use borrow.Author.Tests.{lt-ltb, ne_eqb}
use Rattle.areas.specs.Area.{part}
use Rattle.areas.specs.Widths.{colour_word, light_word, lights_word}
use Rattle.ink.specs.Ink.{has_ink, ink_at, ink_of}
use Rattle.stage.specs.Plan.{Row, row_words}
use Rattle.finished.specs.Shown.{Corner, Triangle, Entries, row_word, shown_by, shown, no_row, named, corner_of, triangle_of}
use Rattle.finished.specs.Statement.{no_triangle}
use Rattle.finished.specs.Inked.{empty, inked_as, inked_in}
use Rattle.finished.proofs.Lists.{Longer}
use Rattle.finished.proofs.Growing.{Sound}
use Rattle.finished.proofs.Standing.{Columns, Standing}

-- a part that lies in the table is empty only where nothing was asked
empty-part : (l : List (List Float)) (at n : ℕ) → at + n ≤ length l → empty (part l at n) ≡ eqb n 0
empty-part l at zero h = refl
empty-part l at (suc n) h = some (drop at l) (rw length-drop (omega arith)) ∙ rw (ne_eqb (suc n) 0 (λ e. omega arith))
  where
    some : (m : List (List Float)) → suc n ≤ length m → empty (take (suc n) m) ≡ false
    some [] k = absurd (omega arith)
    some (x ∷ m) k = refl

module _ (t : Entries) (colour : ℕ) where
  -- a row's ink is that of the corner it shows
  row-ink : (r : Row) → Sound t r → has_ink colour r.words ≡ inked_as colour (shown t r)
  unfolding shown shown_by
  row-ink r s =
      ap (λ (b : Bool). b && eqb (row_word r colour_word) colour) (sym (empty-part t.lights (row_word r light_word) (row_word r lights_word) s.in_use.lights))

  -- an index of a row in use counts where the corner that it shows is inked
  index-ink : (rows : List Row) (indices : List (List ℕ)) (i : ℕ) → named indices i < length rows → Sound t (get_or rows (named indices i) no_row)
      → ink_at colour (map row_words rows) (named indices i) ≡ inked_as colour (corner_of t rows indices i)
  unfolding corner_of
  index-ink rows indices i h s =
      let n = named indices i in
      rw (length-map rows row_words, lt-ltb n (length rows) h, get_or-map row_words rows n no_row) (row-ink (get_or rows n no_row) s)

-- three indices for each triangle, one by one: they count as its three corners do
sum-ink : (colour : ℕ) (rows es : List (List ℕ)) (Ts : List Triangle) (corner : ℕ → Corner) → length es ≡ 3 * length Ts
    → ((i : ℕ) → i < length es → ink_at colour rows (named es i) ≡ inked_as colour (corner i))
    → ((n : ℕ) → n < length Ts → (get_or Ts n no_triangle).corners ≡ corner (3 * n) ∷ corner (3 * n + 1) ∷ corner (3 * n + 2) ∷ [])
    → ink_of colour rows es ≡ inked_in colour Ts
unfolding ink_of
sum-ink colour rows [] [] corner e f g = refl
sum-ink colour rows [] (T ∷ Ts) corner e f g = absurd (omega arith)
sum-ink colour rows (a ∷ es) [] corner e f g = absurd (omega arith)
sum-ink colour rows (a ∷ []) (T ∷ Ts) corner e f g = absurd (omega arith)
sum-ink colour rows (a ∷ b ∷ []) (T ∷ Ts) corner e f g = absurd (omega arith)
sum-ink colour rows (a ∷ b ∷ c ∷ es) (T ∷ Ts) corner e f g =
    let later : ℕ → Corner = λ i. corner (suc (suc (suc i))) in
    let next : (n k : ℕ) → 3 * suc n + k ≡ suc (suc (suc (3 * n + k))) = λ n k. omega arith in
    let first : (n : ℕ) → 3 * suc n ≡ suc (suc (suc (3 * n))) = λ n. omega arith in
    let I : ink_of colour rows es ≡ inked_in colour Ts =
    sum-ink colour rows es Ts later (omega arith) (λ i h. f (suc (suc (suc i))) (omega arith))
    (λ n h. g (suc n) (omega arith) ∙ rw (next n 1, next n 2, first n)) in
    rw (g 0 (omega arith), f 0 (omega arith), f 1 (omega arith), f 2 (omega arith), I) (omega arith)

-- triangles one behind the other count as the sum
inked-sum : (colour : ℕ) (Ts Us : List Triangle) → inked_in colour (Ts ++ Us) ≡ inked_in colour Ts + inked_in colour Us
inked-sum colour [] Us = omega arith
inked-sum colour (T ∷ Ts) Us = rw (inked-sum colour Ts Us) (omega arith)

-- where a list of triangles goes on, no fewer are counted
pub inked-longer : (colour : ℕ) {Ts Us : List Triangle} → Longer Ts Us → inked_in colour Ts ≤ inked_in colour Us
inked-longer colour {Ts} {Us} w = rw (w.is, inked-sum colour Ts w.more) (omega arith)

-- WHAT IS COUNTED over the rows and the indices is what the bench gave
pub standing-ink : {seats : ℕ} {t : Entries} {rows : List Row} {indices runs : List (List ℕ)} {s : Columns} {l : List Corner} {Ts : List Triangle} (colour : ℕ)
    → Standing seats t rows indices runs s l Ts → ink_of colour (map row_words rows) indices ≡ inked_in colour Ts
unfolding triangle_of
standing-ink {t = t} {rows = rows} {indices = indices} {Ts = Ts} colour S =
    sum-ink colour (map row_words rows) indices Ts (corner_of t rows indices) S.count
    (λ i h. index-ink t colour rows indices i (S.used i h) (S.sound (named indices i) (S.used i h)))
    (λ n h. ap (λ (T : Triangle). T.corners) (sym (S.given n h)))
