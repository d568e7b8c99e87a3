-- What the definitions of specs/ are believed for: a matrix and its flat form hold the same numbers, a product goes cell by cell, a clip code is its six tests, and there
-- is no code and no screen z where there must be none. Assumes nothing.
use Prim.Native.Nat.{ℕ, zero, suc, ◌+◌, ◌*◌, ◌/◌, ◌%◌, ◌^◌, ◌<◌, ◌≤◌}
use mathlib.Core.Path.{◌≡◌, refl, ap, ◌∙◌}
use mathlib.Core.Bool.{Bool, true, false, ◌&&◌, and-false}
use mathlib.Core.List.{List, [], ◌∷◌}
use native.Mathlib.Omega.{arith}
use native.Mathlib.Nat.{add-zero, div-div-eq-div-mul, pow-succ', zero-div}
use native.Mathlib.Numerals.{towards_suc}
use lib.ListN.{length, get_or, take, drop}
use lib.Seq.{drop-cons, drop-drop, take-add, take_all}
use lib.IntN.{pos}
use lib.Ieee.{Float, binary32, nan, fin, lt, neg, ne}
use lib.Ieee.Scale.{finite}
use mir.Val.{Val}
use denote.Array.{Array, each}
use denote.Floats.{FloatOf}
use denote.Laws.{Is}
use denote.Shadow.{shadow}
use Rattle.std.specs.Prelude.{None, is_some}
use Rattle.std.specs.Bool.{then_some}
use Rattle.numbers.specs.Choice.{pick}
use Rattle.matrix.specs.Math
use Rattle.matrix.specs.Math.{at, row, cell, identity, column, row_times, times, four, rows, laid}
use Rattle.matrix.specs.Clip.{bit_of, bits_of, all_finite, code_of, screen_of, depth_of}

-- ---- four of a kind

-- what holds of 0, 1, 2 and 3 holds below 4
below-four : (P : ℕ → Type 0) → P 0 → P 1 → P 2 → P 3 → (i : ℕ) → i < 4 → P i
below-four P p q r s zero h = p
below-four P p q r s (suc zero) h = q
below-four P p q r s (suc (suc zero)) h = r
below-four P p q r s (suc (suc (suc zero))) h = s
below-four P p q r s (suc (suc (suc (suc i)))) h = absurd (omega arith)

-- element i of a list of four that a function gives is what it gives for i
numbered : {A : Type 0} (f : ℕ → A) (d : A) (i : ℕ) → i < 4 → get_or (f 0 ∷ f 1 ∷ f 2 ∷ f 3 ∷ []) i d ≡ f i
numbered f d = below-four (λ i. get_or (f 0 ∷ f 1 ∷ f 2 ∷ f 3 ∷ []) i d ≡ f i) refl refl refl refl

-- the four elements from place i on, one by one or as a part
quad : {A : Type 0} (d : A) (l : List A) (i : ℕ) → i + 4 ≤ length l
    → get_or l i d ∷ get_or l (i + 1) d ∷ get_or l (i + 2) d ∷ get_or l (i + 3) d ∷ [] ≡ take 4 (drop i l)
quad d l i h =
    simp towards_suc
    (rw (drop-cons l i d (omega arith), drop-cons l (suc i) d (omega arith), drop-cons l (suc (suc i)) d (omega arith), drop-cons l (suc (suc (suc i))) d (omega arith)))

-- a list of four is its four elements
whole : {A : Type 0} (d : A) (l : List A) → length l ≡ 4 → get_or l 0 d ∷ get_or l 1 d ∷ get_or l 2 d ∷ get_or l 3 d ∷ [] ≡ l
whole d l h = quad d l 0 (omega arith) ∙ take_all 4 l (omega arith)

-- four tests together fail where one of them does
not-all : (f : ℕ → Bool) (k : ℕ) → k < 4 → f k ≡ false → (f 0 && f 1 && f 2 && f 3) ≡ false
not-all f =
    below-four (λ k. f k ≡ false → (f 0 && f 1 && f 2 && f 3) ≡ false)
    (λ e. rw e)
    (λ e. simp (e, and-false))
    (λ e. simp (e, and-false))
    (λ e. simp (e, and-false))

-- ---- matrices and flat lists

-- four rows of four numbers
pub record Square (m : List (List Float)) : Type 0 where
  pub count : length m ≡ 4
  pub width : (i : ℕ) → i < 4 → length (row m i) ≡ 4

-- the sixteen numbers of a matrix, taken row by row, are the matrix
pub rows-laid : (m : List (List Float)) → Square m → rows (laid m) 0 ≡ m
unfolding rows laid
rows-laid m s =
    let e : (i : ℕ) → i < 4 → four (row m i) 0 ≡ row m i = λ i h. whole nan (row m i) (s.width i h) in
    rw (e 0 (omega arith), e 1 (omega arith), e 2 (omega arith), e 3 (omega arith)) (whole [] m s.count)

-- a matrix taken from a flat list, laid row by row, is the sixteen numbers there
pub laid-rows : (f : List Float) (i : ℕ) → i + 16 ≤ length f → laid (rows f i) ≡ take 16 (drop i f)
unfolding rows laid
laid-rows f i h =
    let l = drop i f in
    rw (
      take-add 4 12 l,
      take-add 4 8 (drop 4 l),
      take-add 4 4 (drop 4 (drop 4 l)),
      drop-drop 4 4 l,
      drop-drop 4 8 l,
      drop-drop 4 i f,
      drop-drop 8 i f,
      drop-drop 12 i f,
      ← quad nan f i (omega arith),
      ← quad nan f (i + 4) (omega arith),
      ← quad nan f (i + 8) (omega arith),
      ← quad nan f (i + 12) (omega arith),
    )

-- sixteen numbers, whatever the matrix
pub length-laid : (m : List (List Float)) → length (laid m) ≡ 16
unfolding laid
length-laid m = refl

-- four lists of four are a square
pub square : (a b c d : List Float) → length a ≡ 4 → length b ≡ 4 → length c ≡ 4 → length d ≡ 4 → Square (a ∷ b ∷ c ∷ d ∷ [])
square a b c d p q r s = record { count = refl; width = below-four (λ i. length (row (a ∷ b ∷ c ∷ d ∷ []) i) ≡ 4) p q r s }

-- the identity is a square
pub identity-square : Square identity
identity-square = square _ _ _ _ refl refl refl refl

-- a product is a square, whatever the factors
pub times-square : (a b : List (List Float)) → Square (times a b)
unfolding times
times-square a b = square _ _ _ _ refl refl refl refl

-- a matrix taken from a flat list is a square, whatever the list
pub rows-square : (f : List Float) (i : ℕ) → Square (rows f i)
unfolding rows
rows-square f i = square _ _ _ _ refl refl refl refl

-- each row of an array of arrays of four has four numbers
held-width : (m : List (List Float)) (us : List Val) → shadow (each (List Float) (Array (FloatOf binary32) 4).own_val m us) → (i : ℕ) → i < length m → length (row m i) ≡ 4
held-width [] us s i h = absurd (omega arith)
held-width (r ∷ m) [] s i h = absurd s
held-width (r ∷ m) (u ∷ us) s zero h = s.0.1.0.1
held-width (r ∷ m) (u ∷ us) s (suc i) h = held-width m us s.1 i (omega arith)

-- a parameter [[f32; 4]; 4] is a square: `held-square _ _ c.good.0` where it is the first
pub held-square : (m : List (List Float)) (vs : List Val) → Is (Array (Array (FloatOf binary32) 4) 4) m vs → Square m
held-square m vs p =
    let e : length m ≡ 4 = p.1.0.1 in
    record { count = e; width = λ i h. held-width m p.0 p.1.1 i (omega arith) }

-- number j of a row through a matrix
pub at-row-times : (v : List Float) (m : List (List Float)) (j : ℕ) → j < 4 → at (row_times v m) j ≡ column v m j
unfolding row_times
at-row-times v m j h = numbered (column v m) nan j h

-- row i of a product is row i of the first factor through the second
pub row-times : (a b : List (List Float)) (i : ℕ) → i < 4 → row (times a b) i ≡ row_times (row a i) b
unfolding times
row-times a b i h = numbered (λ (k : ℕ). row_times (row a k) b) [] i h

-- number j of row i of a product
pub cell-times : (a b : List (List Float)) (i j : ℕ) → i < 4 → j < 4 → cell (times a b) i j ≡ column (row a i) b j
cell-times a b i j h k = rw (row-times a b i h) (at-row-times (row a i) b j k)

-- number j of row i of a matrix taken from a flat list
pub cell-rows : (f : List Float) (k i j : ℕ) → i < 4 → j < 4 → cell (rows f k) i j ≡ at f (k + 4 * i + j)
unfolding rows
cell-rows f k i j h l =
    simp add-zero at (ap (λ (v : List Float). at v j) (numbered (λ (n : ℕ). four f (k + 4 * n)) [] i h)) ∙ simp add-zero at (numbered (λ (n : ℕ). at f (k + 4 * i + n)) nan j l)

-- ---- the clip code

-- a list of tests as a number, the first test its lowest bit
abbrev pub weigh : List Bool → ℕ
weigh [] = 0
weigh (b ∷ bs) = bit_of b 1 + 2 * weigh bs

-- the six tests of a position
abbrev pub tests : List Float → List Bool
tests p =
    lt (at p 0) (neg (at p 3))
    ∷ lt (at p 3) (at p 0)
    ∷ lt (at p 1) (neg (at p 3))
    ∷ lt (at p 3) (at p 1)
    ∷ lt (at p 2) (neg (at p 3))
    ∷ lt (at p 3) (at p 2)
    ∷ []

-- a bit of weight k is k times the bit
bit-times : (b : Bool) (k : ℕ) → bit_of b k ≡ bit_of b 1 * k
unfolding pick
bit-times true k = omega arith
bit-times false k = omega arith

-- a bit is 0 or 1
bit-small : (b : Bool) → bit_of b 1 < 2
unfolding pick
bit-small true = omega arith
bit-small false = omega arith

-- n tests weigh less than 2 ^ n
pub weigh-small : (bs : List Bool) → weigh bs < 2 ^ length bs
weigh-small [] = omega arith
weigh-small (b ∷ bs) = rw (pow-succ' 2 (length bs)) (omega (arith, weigh-small bs, bit-small b))

-- bit k of the weight is 1 where test k holds, and 0 elsewhere and past the last
pub weigh-bit : (bs : List Bool) (k : ℕ) → weigh bs / 2 ^ k % 2 ≡ bit_of (get_or bs k false) 1
unfolding pick
weigh-bit [] k = rw (zero-div (2 ^ k))
weigh-bit (b ∷ bs) zero = omega (arith, bit-small b)
weigh-bit (b ∷ bs) (suc k) =
    let e : weigh (b ∷ bs) / 2 ≡ weigh bs = omega (arith, bit-small b) in
    rw (pow-succ' 2 k, ← div-div-eq-div-mul (weigh (b ∷ bs)) 2 (2 ^ k), e) (weigh-bit bs k)

-- the bits are the six tests
pub bits-weigh : (p : List Float) → bits_of p ≡ weigh (tests p)
unfolding bits_of
bits-weigh p = rw (bit-times _ 2, bit-times _ 4, bit-times _ 8, bit-times _ 16, bit-times _ 32) (omega arith)

-- there are six bits
pub bits_small : (p : List Float) → bits_of p < 64
bits_small p = rw bits-weigh (weigh-small (tests p))

-- bit k is 1 where test k holds, and 0 elsewhere
pub bits-test : (p : List Float) (k : ℕ) → bits_of p / 2 ^ k % 2 ≡ bit_of (get_or (tests p) k false) 1
bits-test p k = rw bits-weigh (weigh-bit (tests p) k)

-- ---- where there is a code, and a screen z

-- what a test lets through is there exactly where the test holds
let-through : {A : Type 0} (b : Bool) (x : A) → is_some (then_some b x) ≡ b
let-through true x = refl
let-through false x = refl

-- what is let through by a test that fails is not there
let-none : {A : Type 0} (b : Bool) (x : A) → b ≡ false → then_some b x ≡ None
let-none b x e = rw e

-- there is a code exactly where all four numbers are finite
pub code-some : (p : List Float) → is_some (code_of p) ≡ all_finite p
unfolding code_of
code-some p = let-through (all_finite p) (bits_of p)

-- no code where one number is not finite
pub no_code : (p : List Float) (k : ℕ) → k < 4 → finite (at p k) ≡ false → code_of p ≡ None
unfolding code_of
no_code p k h e = let-none (all_finite p) (bits_of p) (not-all (λ (i : ℕ). finite (at p i)) k h e)

-- no code where one number is a NaN
pub nan-no-code : (p : List Float) (k : ℕ) → k < 4 → at p k ≡ nan → code_of p ≡ None
nan-no-code p k h e = no_code p k h (ap finite e)

-- there is a screen z exactly where there is a code, w is not zero, and the screen z is finite
pub depth-some : (p : List Float) (coded : Bool) (scale translation : Float)
    → is_some (depth_of p coded scale translation) ≡ (coded && ne (at p 3) Math.zero && finite (screen_of p scale translation))
unfolding depth_of
depth-some p coded scale translation = let-through (coded && ne (at p 3) Math.zero && finite (screen_of p scale translation)) _

-- no screen z without a code
pub uncoded-no-depth : (p : List Float) (scale translation : Float) → depth_of p false scale translation ≡ None
unfolding depth_of
uncoded-no-depth p scale translation = refl

-- either zero equals 0
same-zero : (s : Bool) → ne (fin s 0 (pos 0)) Math.zero ≡ false
unfolding ne
same-zero true = refl
same-zero false = refl

-- no screen z where w is zero, of either sign
pub zero-no-depth : (p : List Float) (s coded : Bool) (scale translation : Float) → at p 3 ≡ fin s 0 (pos 0) → depth_of p coded scale translation ≡ None
unfolding depth_of
zero-no-depth p s coded scale translation e = let-none _ _ (simp (e, same-zero, and-false))
