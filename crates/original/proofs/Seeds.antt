-- Floats that compare equal and are not zero are the same, and so is a fraction of sixteen bits that equals zero: an entry that equals the first entry of its table is that entry. Assumes nothing.
use mathlib.Core.Path.{◌≡◌, refl, sym, ap, ◌∙◌}
use mathlib.Core.Logic.{◌⊎◌, inl, inr}
use Prim.Native.Nat.{ℕ, zero, suc, ◌+◌, ◌-◌, ◌*◌, ◌^◌, ◌≤◌, ◌<◌}
use native.Mathlib.Nat.{le_trans, le_of_lt, lt_of_le_of_lt, zero-lt-suc, zero-mul, mul-one, mul_assoc, mul-pos, mul-le-mul, eq_of_mul-eq-mul_right}
use native.Mathlib.Omega.{arith}
use mathlib.Core.Bool.{Bool, true, false, ◌&&◌, ◌||◌, beq, true≢false}
use mathlib.Core.List.{List, [], ◌∷◌, ◌++◌}
use lib.IntN.{ℤ, pos, negsuc, nat_abs}
use lib.Dec.{T, eqb, lit≤, lit<}
use lib.Pow.{pow-add, pow_pos, pow_mono}
use lib.Signed.{nat_abs-le}
use lib.Ieee.{Float, nan, inf, fin, binary32, up, down, level, eq, div, of_int, fits}
use lib.Ieee.Fits.{up_pos, down_pos, round-fits, div-fits}
use lib.Ieee.Exact.{HasValue, round_exact}
use borrow.Author.Tests.{eqb-true}
use Rattle.areas.specs.Area.{matches}
use Rattle.areas.specs.Widths.{viewport_width}
use Rattle.numbers.specs.Ratio.{below0, of_ratio}
use Rattle.numbers.proofs.Values.{value-unique}
use Rattle.numbers.proofs.Quotients.{round-fix}
use Rattle.layout.specs.Layout.{half_at, signed_at, ratio_at, triple_at}
use Rattle.stage.specs.Opening.{zeros}
use Rattle.original.specs.Math.{f0}
use Rattle.original.specs.Rsp.{half_screen}
use Rattle.original.proofs.Readers.{Bytes, half-below, signed_below}

-- ---- floats that compare equal

-- both tests pass
both : (a b : Bool) → a && b ≡ true → (a ≡ true) × (b ≡ true)
both true b e = (refl, e)
both false b e = absurd (true≢false (sym e))

-- one of the two tests passes
either : (a b : Bool) → a || b ≡ true → (a ≡ true) ⊎ (b ≡ true)
either true b e = inl refl
either false b e = inr e

-- two signs that compare equal are the same
same_sign : (s t : Bool) → beq s t ≡ true → s ≡ t
same_sign true true e = refl
same_sign true false e = absurd (true≢false (sym e))
same_sign false true e = absurd (true≢false (sym e))
same_sign false false e = refl

-- two signed sizes that compare equal are equal
level-size : (s t : Bool) (a b : ℕ) → level s a t b ≡ true → a ≡ b
level-size s t a b e = eqb-true a b (both (eqb a b) (beq s t || eqb a 0) e).0

-- and of one sign, where they are not 0
level-sign : (s t : Bool) (a b : ℕ) → 0 < a → level s a t b ≡ true → s ≡ t
level-sign s t a b h e = go (either (beq s t) (eqb a 0) (both (eqb a b) (beq s t || eqb a 0) e).1)
  where
    go : (beq s t ≡ true) ⊎ (eqb a 0 ≡ true) → s ≡ t
    go (inl z) = same_sign s t z
    go (inr z) = absurd (omega (arith, h, eqb-true a 0 z))

-- two floats of the format that compare equal, of which the first is not 0, are the same
pub eq-exact : (x y : Float) → T (fits binary32 x) → T (fits binary32 y) → eq x f0 ≡ false → eq x y ≡ true → x ≡ y
unfolding eq
eq-exact nan y p q n e = absurd (true≢false (sym e))
eq-exact (inf s) nan p q n e = absurd (true≢false (sym e))
eq-exact (inf s) (inf t) p q n e = ap inf (same_sign s t e)
eq-exact (inf s) (fin t k d) p q n e = absurd (true≢false (sym e))
eq-exact (fin s m g) nan p q n e = absurd (true≢false (sym e))
eq-exact (fin s m g) (inf t) p q n e = absurd (true≢false (sym e))
eq-exact (fin s zero g) (fin t k d) p q n e = absurd (true≢false (sym (none s) ∙ n))
  where
    none : (s : Bool) → level s (0 * up g * 1) false (0 * 1 * down g) ≡ true
    none true = rw (zero-mul (up g), zero-mul (down g))
    none false = rw (zero-mul (up g), zero-mul (down g))
eq-exact (fin s (suc m) g) (fin t k d) p q n e =
    let a = suc m * up g * down d in
    let b = k * up d * down g in
    value-unique binary32 (fin s (suc m) g) (fin t k d) s (k * up d) (down d) (down_pos d) p q
    (refl, level-size s t a b e)
    (sym (level-sign s t a b (mul-pos (mul-pos (zero-lt-suc m) (up_pos g)) (down_pos d)) e), refl)

-- ---- a fraction of sixteen bits

-- a fraction is a value of the format
ratio-fits : (z : ℤ) (d : ℕ) → T (fits binary32 (of_ratio binary32 z d))
unfolding of_ratio
ratio-fits z d = round-fits binary32 (below0 z) (nat_abs z) d

-- a whole number up to 65536, divided by a power of two up to 2 ^ 21, is held exactly
pub seed-value : (z : ℤ) (t : ℕ) → nat_abs z ≤ 65536 → t ≤ 21 → HasValue (of_ratio binary32 z (2 ^ t)) (below0 z) (nat_abs z) (2 ^ t)
unfolding of_ratio
seed-value z t h k =
    round_exact binary32 (below0 z) (nat_abs z) (2 ^ t) (nat_abs z) (149 - t) (pow_pos t) (lt_of_le_of_lt h (lit< tt))
    (lt_of_le_of_lt (mul-le-mul h (pow_mono (cut t))) (lit< tt))
    (ap (λ (n : ℕ). nat_abs z * n) (ap (λ (n : ℕ). 2 ^ n) (back t k) ∙ pow-add 2 (149 - t) t) ∙ sym (mul_assoc (nat_abs z) (2 ^ (149 - t)) (2 ^ t)))
  where
    cut : (t : ℕ) → 149 - t ≤ 149
    cut t = omega arith

    back : (t : ℕ) → t ≤ 21 → 149 ≡ 149 - t + t
    back t k = omega arith

-- what equals 0 has the size 0
size-zero : (x : Float) (s : Bool) (a c : ℕ) → 0 < c → HasValue x s a c → eq f0 x ≡ true → a ≡ 0
unfolding eq
size-zero nan s a c C v e = absurd v
size-zero (inf t) s a c C v e = absurd v
size-zero (fin t m g) s a c C v e =
    let q : 0 * 1 * down g ≡ m * up g * 1 = level-size false t (0 * 1 * down g) (m * up g * 1) e in
    let r : m * up g ≡ 0 = sym (mul-one (m * up g)) ∙ sym q ∙ zero-mul (down g) in
    eq_of_mul-eq-mul_right (down g) (down_pos g) a 0 (sym v.1 ∙ ap (λ (n : ℕ). n * c) r ∙ zero-mul c ∙ sym (zero-mul (down g)))

-- 0 divided by a whole number is 0
pub ratio-zero : (d : ℕ) → 0 < d → of_ratio binary32 (pos 0) d ≡ f0
unfolding of_ratio fits
ratio-zero d h = round-fix binary32 f0 false 0 d h tt (refl, zero-mul d)

-- only 0 has the size 0
no-abs : (z : ℤ) → nat_abs z ≡ 0 → z ≡ pos 0
no-abs (pos n) e = ap pos e
no-abs (negsuc n) e = absurd (omega (arith, e))

-- a fraction of sixteen bits that equals 0 is 0, and not -0
pub seed-zero : (z : ℤ) (t : ℕ) → nat_abs z ≤ 65536 → t ≤ 21 → eq f0 (of_ratio binary32 z (2 ^ t)) ≡ true → of_ratio binary32 z (2 ^ t) ≡ f0
seed-zero z t h k e =
    ap (λ (n : ℤ). of_ratio binary32 n (2 ^ t)) (no-abs z (size-zero (of_ratio binary32 z (2 ^ t)) (below0 z) (nat_abs z) (2 ^ t) (pow_pos t) (seed-value z t h k) e)) ∙ ratio-zero (2 ^ t) (pow_pos t)

-- a texture scale that equals 0 is of 0
pub seed-scale : (n : ℕ) → n < 65536 → eq f0 (of_ratio binary32 (pos n) 2097152) ≡ true → n ≡ 0
seed-scale n h e = size-zero (of_ratio binary32 (pos n) 2097152) false n 2097152 (lit< tt) (seed-value (pos n) 21 (le_of_lt h) (lit≤ tt)) e

-- a fraction that equals a value of the format that is not 0 is that value
pub ratio-back : (x : Float) → T (fits binary32 x) → eq x f0 ≡ false → (z : ℤ) (d : ℕ) → eq x (of_ratio binary32 z d) ≡ true → of_ratio binary32 z d ≡ x
ratio-back x p n z d e = sym (eq-exact x (of_ratio binary32 z d) p (ratio-fits z d) n e)

-- the third number of half a screen
abbrev pub depth : Float
depth = div binary32 (of_int binary32 (pos 511)) (fin false 1 (pos 10))

-- it is not 0
depth-not-zero : eq depth f0 ≡ false
unfolding eq div of_int
depth-not-zero = refl

-- a fraction that equals 160, 120 or 511 / 1024 is that number
pub seed-half : (z : ℤ) (d : ℕ)
    → (eq (fin false 5 (pos 5)) (of_ratio binary32 z d) ≡ true → of_ratio binary32 z d ≡ fin false 5 (pos 5))
    × (eq (fin false 15 (pos 3)) (of_ratio binary32 z d) ≡ true → of_ratio binary32 z d ≡ fin false 15 (pos 3))
    × (eq depth (of_ratio binary32 z d) ≡ true → of_ratio binary32 z d ≡ depth)
unfolding eq fits
seed-half z d = (
  ratio-back (fin false 5 (pos 5)) tt refl z d,
  ratio-back (fin false 15 (pos 3)) tt refl z d,
  ratio-back depth (div-fits binary32 (of_int binary32 (pos 511)) (fin false 1 (pos 10))) depth-not-zero z d,
)

-- ---- an entry of six numbers

-- an entry that equals another, number by number, is that one where this holds of each of its numbers
entry-back : (b : List ℕ) (at : ℕ) (x y z : Float)
    → ((i : ℕ) → eq x (ratio_at b i 4) ≡ true → ratio_at b i 4 ≡ x)
    → ((i : ℕ) → eq y (ratio_at b i 4) ≡ true → ratio_at b i 4 ≡ y)
    → ((i : ℕ) → eq z (ratio_at b i 1024) ≡ true → ratio_at b i 1024 ≡ z)
    → matches eq (x ∷ y ∷ z ∷ x ∷ y ∷ z ∷ []) (triple_at b at ++ triple_at b (at + 8)) ≡ true
    → triple_at b at ++ triple_at b (at + 8) ≡ x ∷ y ∷ z ∷ x ∷ y ∷ z ∷ []
unfolding matches triple_at
entry-back b at x y z X Y Z e =
    let q0 = both _ _ e in
    let q1 = both _ _ q0.1 in
    let q2 = both _ _ q1.1 in
    let q3 = both _ _ q2.1 in
    let q4 = both _ _ q3.1 in
    let q5 = both _ _ q4.1 in
    let e0 = X at q0.0 in
    let e1 = Y (at + 2) q1.0 in
    let e2 = Z (at + 4) q2.0 in
    let e3 = X (at + 8) q3.0 in
    let e4 = Y (at + 8 + 2) q4.0 in
    let e5 = Z (at + 8 + 4) q5.0 in
    λ i. e0 i ∷ e1 i ∷ e2 i ∷ e3 i ∷ e4 i ∷ e5 i ∷ []

-- sixteen bits with their sign are at most 65536 in size
half-small : (b : List ℕ) (i : ℕ) → Bytes b → nat_abs (signed_at b i) ≤ 65536
half-small b i hb = le_trans (nat_abs-le (signed_at b i) (signed_below 16 (half_at b i) refl (half-below b i hb))) (lit≤ tt)

-- a viewport that equals six zeros is six zeros
pub zeros-entry : (b : List ℕ) (at : ℕ) → Bytes b → matches eq (zeros viewport_width) (triple_at b at ++ triple_at b (at + 8)) ≡ true → triple_at b at ++ triple_at b (at + 8) ≡ zeros 6
zeros-entry b at hb e =
    entry-back b at f0 f0 f0
    (λ i. seed-zero (signed_at b i) 2 (half-small b i hb) (lit≤ tt))
    (λ i. seed-zero (signed_at b i) 2 (half-small b i hb) (lit≤ tt))
    (λ i. seed-zero (signed_at b i) 10 (half-small b i hb) (lit≤ tt))
    e

-- a viewport that equals half a screen twice is that
pub half-entry : (b : List ℕ) (at : ℕ) → matches eq (half_screen ++ half_screen) (triple_at b at ++ triple_at b (at + 8)) ≡ true → triple_at b at ++ triple_at b (at + 8) ≡ half_screen ++ half_screen
half-entry b at e =
    entry-back b at (fin false 5 (pos 5)) (fin false 15 (pos 3)) depth (λ i. (seed-half (signed_at b i) 4).0) (λ i. (seed-half (signed_at b i) 4).1) (λ i. (seed-half (signed_at b i) 1024).2) e
