-- Laws by which a reader can trust the definitions: which bytes each of them reads, that a place is only where it starts, how long its answer is, and how large its numbers are. Assumes nothing.
use mathlib.Core.Path.{◌≡◌, refl, sym, ◌∙◌}
use mathlib.Core.Logic.{◌↔◌}
use mathlib.Core.Bool.{Bool, true, false, false≢true}
use mathlib.Core.List.{List, [], ◌∷◌, map}
use Prim.Native.Nat.{ℕ, ◌+◌, ◌*◌, ◌^◌, ◌≤◌, ◌<◌}
use native.Mathlib.Nat.{add_assoc, add-zero}
use native.Mathlib.Omega.{arith}
use lib.ListN.{length, drop}
use lib.Seq.{get_or-drop}
use lib.IntN.{ℤ, pos, nat_abs}
use lib.Ieee.{binary32}
use lib.Ieee.Exact.{HasValue}
use Rattle.numbers.specs.Ratio.{signed, below0, of_ratio, parts, Significant}
use Rattle.numbers.proofs.Believe.{half-fits, exact-means, exact-digits}
use Rattle.layout.specs.Layout.{byte_at, half_at, word_at, signed_at, entry_at, row_at, matrix_at, exact_at, inexact_at, vertex_at, triple_at, viewport_at, colour_at, direction_at, light_at}
use Rattle.layout.proofs.Counting.{noes-same, noes-most, noes-none, noes-all}

-- ---- which bytes are read

-- s and t hold the same bytes at the places from `from` on that are below `to`
pub record Agree (s t : List ℕ) (from to : ℕ) : Type 0 where
  pub same : (k : ℕ) → (from ≤ k) × (k < to) → byte_at s k ≡ byte_at t k

-- R reads the same of s and of t at each place whose n bytes lie from `from` on and below `to`
abbrev pub Reads : {B : Type 0} → (List ℕ → ℕ → B) → ℕ → List ℕ → List ℕ → ℕ → ℕ → Type 0
Reads R n s t from to = (i : ℕ) → (from ≤ i) × (i + n ≤ to) → R s i ≡ R t i

module _ {s t : List ℕ} {from to : ℕ} (a : Agree s t from to) where
  -- a half reads its two bytes alone
  pub half-reads : Reads half_at 2 s t from to
  half-reads i h = cc (a.same i (omega arith), a.same (i + 1) (omega arith))

  -- a colour word reads its four bytes alone
  pub word-reads : Reads word_at 4 s t from to
  word-reads i h = cc (a.same i (omega arith), a.same (i + 1) (omega arith), a.same (i + 2) (omega arith), a.same (i + 3) (omega arith))

  three-reads : {B : Type 0} (f : ℕ → B) → Reads (λ (l : List ℕ) (i : ℕ). f (byte_at l i) ∷ f (byte_at l (i + 1)) ∷ f (byte_at l (i + 2)) ∷ []) 3 s t from to
  three-reads f i h = cc (a.same i (omega arith), a.same (i + 1) (omega arith), a.same (i + 2) (omega arith))

  -- a colour reads its three bytes alone
  pub colour-reads : Reads colour_at 3 s t from to
  unfolding colour_at
  colour-reads = three-reads (λ n. of_ratio binary32 (pos n) 255)

  -- a direction reads its three bytes alone
  pub direction-reads : Reads direction_at 3 s t from to
  unfolding direction_at
  direction-reads = three-reads (λ n. of_ratio binary32 (signed 8 n) 127)

  -- a scale or a translation reads its six bytes alone
  pub triple-reads : Reads triple_at 6 s t from to
  unfolding triple_at
  triple-reads i h = cc (half-reads i (omega arith), half-reads (i + 2) (omega arith), half-reads (i + 4) (omega arith))

  entry-reads : (k : ℕ) → k < 16 → Reads (λ (l : List ℕ) (i : ℕ). entry_at l i k) 64 s t from to
  unfolding entry_at
  entry-reads k l i h = cc (half-reads (i + 2 * k) (omega arith), half-reads (i + 32 + 2 * k) (omega arith))

  row_reads : (k : ℕ) → k + 4 ≤ 16 → Reads (λ (l : List ℕ) (i : ℕ). row_at l i k) 64 s t from to
  unfolding row_at
  row_reads k l i h = cc (entry-reads k (omega arith) i h, entry-reads (k + 1) (omega arith) i h, entry-reads (k + 2) (omega arith) i h, entry-reads (k + 3) (omega arith) i h)

  -- a matrix reads its 64 bytes alone
  pub matrix-reads : Reads matrix_at 64 s t from to
  unfolding matrix_at
  matrix-reads i h = cc (row_reads 0 (omega arith) i h, row_reads 4 (omega arith) i h, row_reads 8 (omega arith) i h, row_reads 12 (omega arith) i h)

  exact-reads : (k : ℕ) → k < 16 → Reads (λ (l : List ℕ) (i : ℕ). exact_at l i k) 64 s t from to
  unfolding exact_at
  exact-reads k l i h = cc (half-reads (i + 2 * k) (omega arith), half-reads (i + 32 + 2 * k) (omega arith))

  -- so does the count of its entries that are not exact
  pub inexact-reads : Reads inexact_at 64 s t from to
  unfolding inexact_at
  inexact-reads i h = noes-same (exact_at s i) (exact_at t i) _ (λ k l. exact-reads k (omega (arith, l)) i h)

module _ {s t : List ℕ} (i : ℕ) where
  -- a vertex reads its 16 bytes but 6 and 7
  pub vertex-reads : Agree s t i (i + 6) → Agree s t (i + 8) (i + 16) → vertex_at s i ≡ vertex_at t i
  unfolding vertex_at
  vertex-reads a b =
      cc (
        half-reads a i (omega arith),
        half-reads a (i + 2) (omega arith),
        half-reads a (i + 4) (omega arith),
        half-reads b (i + 8) (omega arith),
        half-reads b (i + 10) (omega arith),
        word-reads b (i + 12) (omega arith),
      )

  -- a viewport reads its 16 bytes but 6, 7, 14 and 15
  pub viewport-reads : Agree s t i (i + 6) → Agree s t (i + 8) (i + 14) → viewport_at s i ≡ viewport_at t i
  unfolding viewport_at
  viewport-reads a b = cc (triple-reads a i (omega arith), triple-reads b (i + 8) (omega arith))

  -- a light reads its 11 bytes but 3 to 7
  pub light-reads : Agree s t i (i + 3) → Agree s t (i + 8) (i + 11) → light_at s i ≡ light_at t i
  unfolding light_at
  light-reads a b = cc (colour-reads a i (omega arith), direction-reads b (i + 8) (omega arith))

-- ---- places

-- what R reads at a place is what it reads at the start of the bytes from there on
abbrev pub Shifts : {B : Type 0} → (List ℕ → ℕ → B) → Type 0
Shifts R = (s : List ℕ) (i : ℕ) → R s i ≡ R (drop i s) 0

-- a byte of what is left is a byte of the whole, further on
ruleset further = (get_or-drop, add_assoc, add-zero)

half-further : (s : List ℕ) (i j k : ℕ) → j ≡ i + k → half_at s j ≡ half_at (drop i s) k
half-further s i j k e = rw e (simp further)

exact-shifts : (k : ℕ) → Shifts (λ (l : List ℕ) (i : ℕ). exact_at l i k)
unfolding exact_at
exact-shifts k s i = cc (half-further s i (i + 2 * k) (0 + 2 * k) (omega arith), half-further s i (i + 32 + 2 * k) (0 + 32 + 2 * k) (omega arith))

inexact-shifts : Shifts inexact_at
unfolding inexact_at
inexact-shifts s i = noes-same (exact_at s i) (exact_at (drop i s) 0) _ (λ k _. exact-shifts k s i)

-- so it is for each of them
pub shifts : Shifts byte_at × Shifts half_at × Shifts word_at
    × Shifts matrix_at × Shifts inexact_at × Shifts vertex_at × Shifts viewport_at
    × Shifts colour_at × Shifts direction_at × Shifts light_at
unfolding matrix_at vertex_at viewport_at light_at
shifts = (λ s i. simp further, λ s i. simp further, λ s i. simp further, λ s i. simp further, inexact-shifts, λ s i. simp further, λ s i. simp further, λ s i. simp further, λ s i. simp further, λ s i. simp further)

-- ---- entries that are not exact

module _ (s : List ℕ) (i : ℕ) where
  -- entry k in parts of 65536
  abbrev pub parts_at : ℕ → ℤ
  parts_at k = parts (signed_at s (i + 2 * k)) (half_at s (i + 32 + 2 * k))

  -- the f32 of entry k is the fraction that its bytes make
  abbrev pub IsFraction : ℕ → Type 0
  IsFraction k = HasValue (entry_at s i k) (below0 (parts_at k)) (nat_abs (parts_at k)) 65536

  exact-is : (k : ℕ) → (exact_at s i k ≡ true) ↔ IsFraction k
  unfolding exact_at entry_at
  exact-is k = exact-means (signed_at s (i + 2 * k)) (half_at s (i + 32 + 2 * k))

  -- ON WHOLE NUMBERS: entry k of bytes is exact exactly where it has, in parts of 65536, at most 24 significant binary digits
  pub exact-at : ((j : ℕ) → byte_at s j < 256) → (k : ℕ) → (exact_at s i k ≡ true) ↔ Significant (nat_abs (parts_at k))
  unfolding exact_at
  exact-at h k =
      exact-digits (signed_at s (i + 2 * k)) (half_at s (i + 32 + 2 * k)) (half-fits (half_at s (i + 2 * k)) (omega (arith, h (i + 2 * k), h (i + 2 * k + 1)))) (omega (arith, h (i + 32 + 2 * k), h (i + 32 + 2 * k + 1)))

  -- 0 IS TOLD exactly where each of the sixteen equals its fraction
  pub inexact-none : (inexact_at s i ≡ 0) ↔ ((k : ℕ) → k < 16 → IsFraction k)
  unfolding inexact_at
  inexact-none = (
    λ e k h. (exact-is k).0 ((noes-none (exact_at s i) _).0 e k h),
    λ f. (noes-none (exact_at s i) _).1 (λ k h. (exact-is k).1 (f k h)),
  )

  -- 16 IS TOLD exactly where none does
  pub inexact-all : (inexact_at s i ≡ 16) ↔ ((k : ℕ) → k < 16 → IsFraction k → ⊥)
  unfolding inexact_at
  inexact-all = (
    λ e k h v. false≢true (sym ((noes-all (exact_at s i) _).0 e k h) ∙ (exact-is k).1 v),
    λ f. (noes-all (exact_at s i) _).1 (λ k h. never (exact_at s i k) (λ e. f k h ((exact-is k).0 e))),
  )
    where
      never : (b : Bool) → (b ≡ true → ⊥) → b ≡ false
      never true n = absurd (n refl)
      never false n = refl

  -- at most sixteen
  pub inexact-most : inexact_at s i ≤ 16
  unfolding inexact_at
  inexact-most = noes-most (exact_at s i) 16

-- ---- lengths

module _ (s : List ℕ) (i : ℕ) where
  -- a matrix has four rows of four
  pub matrix-size : map length (matrix_at s i) ≡ 4 ∷ 4 ∷ 4 ∷ 4 ∷ []
  unfolding matrix_at
  matrix-size = refl

  -- a scale, a translation, a colour and a direction have three numbers
  pub three-sizes : (length (triple_at s i) ≡ 3) × (length (colour_at s i) ≡ 3) × (length (direction_at s i) ≡ 3)
  unfolding triple_at colour_at direction_at
  three-sizes = (refl, refl, refl)

  -- so have a viewport's two and a light's two
  pub pair-sizes : (length (viewport_at s i).scale ≡ 3) × (length (viewport_at s i).translation ≡ 3) × (length (light_at s i).direction ≡ 3) × (length (light_at s i).colour ≡ 3)
  unfolding viewport_at light_at
  pair-sizes = (refl, refl, refl, refl)

  -- a position has three numbers, texture coordinates are two
  pub vertex-sizes : (length (vertex_at s i).pos ≡ 3) × (length (vertex_at s i).st ≡ 2)
  unfolding vertex_at
  vertex-sizes = (refl, refl)

-- ---- sizes

-- of bytes, a half is below 65536 and a colour word below 2 ^ 32
pub within : (s : List ℕ) → ((k : ℕ) → byte_at s k < 256) → (i : ℕ) → (half_at s i < 65536) × (word_at s i < 2 ^ 32)
within s h i = omega (arith, h i, h (i + 1), h (i + 2), h (i + 3))
