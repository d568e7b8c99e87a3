-- The whole-number square root: `root` is the largest number whose square is within n, `root_by` the nearest, and what a power of four changes. Assumes nothing.
use Rattle.std.proofs.Common.{◌≡◌, ℕ, zero, suc, ◌+◌, ◌-◌, ◌*◌, ◌/◌, ◌%◌, ◌^◌, ◌<◌, ◌≤◌, Bool, true, false, not, T, eqb, leb, sym, refl, ap, ◌∙◌, subst, le_trans, le_of_eq, lt_of_lt_of_le, le_of_suc-le-suc, lt_of_le_of_lt, le_of_lt, mul-le-mul_right, zero-lt-suc, mul_assoc, mul_comm, div-lt_iff_lt-mul, add-mul, mul-le-mul, mul-lt-mul_of_pos_right, one-mul, pow-suc, lt_of_not-le, mul-one, mul-add, not-le_of_lt, div-mul-le_self, arith, eqb→eq, leb→le, pow_pos}
use Prim.Native.Nat.{compare, Ordering}
use native.Mathlib.Nat.{mul-mul-mul_comm, pow-succ', div-eq_of_lt-le}
use lib.Dec.{is_le, compare_is_eq, nleb→lt, eqb_refl}
use lib.Arith.{lt_of_le-ne}
use lib.Ieee.{size, nearest}
use lib.Ieee.Digits.{size-lt}
use Rattle.numbers.specs.Choice.{pick}
use Rattle.numbers.specs.Sqrt.{root, root_by}

-- ---- squares
-- a number times itself
abbrev pub square : ℕ → ℕ
square n = n * n

-- a square below the next one's
pub sq-le : (a b : ℕ) → a * a < (b + 1) * (b + 1) → a ≤ b
sq-le a b h = le_of_suc-le-suc (lt_of_not-le (λ (g : suc b ≤ a). not-le_of_lt h (mul-le-mul (le g) (le g))))
  where
    le : suc b ≤ a → b + 1 ≤ a
    le g = omega arith

-- the smaller square is that of the smaller number
pub sq-lt : (a b : ℕ) → a * a < b * b → a < b
sq-lt a b h = lt_of_not-le (λ (g : b ≤ a). not-le_of_lt h (mul-le-mul g g))

-- the square of an even number
pub even-square : (r : ℕ) → r * 2 * (r * 2) ≡ 4 * (r * r)
even-square r = mul-mul-mul_comm r 2 r 2 ∙ mul_comm (r * r) 4

-- the square of an odd number
pub odd-square : (r : ℕ) → (r * 2 + 1) * (r * 2 + 1) ≡ 4 * (r * r) + 4 * r + 1
odd-square r = simp (mul-add, add-mul) (omega (arith, even-square r))

-- the same, with the factor first
pub half-square : (r : ℕ) → (2 * r + 1) * (2 * r + 1) ≡ 4 * (r * r) + 4 * r + 1
half-square r = ap (λ (x : ℕ). (x + 1) * (x + 1)) (mul_comm 2 r) ∙ odd-square r

-- w is the whole part of the root of n
abbrev pub Floor : ℕ → ℕ → Type 0
Floor n w = (w * w ≤ n) × (n < (w + 1) * (w + 1))

double : (w : ℕ) → 2 * w * (2 * w) ≡ 4 * (w * w)
double w = mul-mul-mul_comm 2 w 2 w

next : (w : ℕ) → (2 * w + 1 + 1) * (2 * w + 1 + 1) ≡ 4 * ((w + 1) * (w + 1))
next w = ap (λ (x : ℕ). x * x) (two w) ∙ mul-mul-mul_comm 2 (w + 1) 2 (w + 1)
  where
    two : (w : ℕ) → 2 * w + 1 + 1 ≡ 2 * (w + 1)
    two w = omega arith

floor-step : (n w : ℕ) → Floor (n / 4) w → (b : Bool) → (T b → (2 * w + 1) * (2 * w + 1) ≤ n) → (T (not b) → n < (2 * w + 1) * (2 * w + 1)) → Floor n (pick b (2 * w + 1) (2 * w))
unfolding pick
floor-step n w ih true l g = (l tt, omega (arith, ih.1, next w))
floor-step n w ih false l g = (omega (arith, ih.0, double w), g tt)

-- `root` is the whole part of the root, where it takes digits enough
pub root-floor : (d n : ℕ) → n < 4 ^ d → Floor n (root d n)
unfolding root
root-floor zero n h = omega arith
root-floor (suc d) n h =
    let w = root d (n / 4) in
    let s = (2 * w + 1) * (2 * w + 1) in
    floor-step n w (root-floor d (n / 4) ((div-lt_iff_lt-mul (zero-lt-suc 3)).1 (subst (λ (x : ℕ). n < x) (pow-suc 4 d) h))) (leb s n) (leb→le s n) (nleb→lt s n)

-- a power of four is the square of a power of two
pub four : (k : ℕ) → 4 ^ k ≡ 2 ^ k * 2 ^ k
four zero = refl
four (suc k) = pow-succ' 4 k ∙ ap (λ (x : ℕ). 4 * x) (four k) ∙ sym (mul-mul-mul_comm 2 (2 ^ k) 2 (2 ^ k)) ∙ sym (ap (λ (x : ℕ). x * x) (pow-succ' 2 k))

-- the size of n is digits enough
pub root_is : (n : ℕ) → Floor n (root (size n) n)
root_is n = root-floor (size n) n (lt_of_lt_of_le (size-lt n) (subst (λ (x : ℕ). 2 ^ size n ≤ x) (sym (four (size n))) (le_trans (le_of_eq (sym (one-mul (2 ^ size n)))) (mul-le-mul_right (2 ^ size n) (pow_pos (size n))))))

-- ---- the root of m * 4 ^ k is that of m times 2 ^ k
-- a square times a power of four
pub square-shift : (w k : ℕ) → w * w * 4 ^ k ≡ w * 2 ^ k * (w * 2 ^ k)
square-shift w k = ap (λ (x : ℕ). w * w * x) (four k) ∙ mul-mul-mul_comm w w (2 ^ k) (2 ^ k)

-- a power of four is above 0
pub four-pos : (k : ℕ) → 0 < 4 ^ k
four-pos k = subst (λ (x : ℕ). 0 < x) (sym (four k)) (lt_of_lt_of_le (pow_pos k) (le_trans (le_of_eq (sym (one-mul (2 ^ k)))) (mul-le-mul_right (2 ^ k) (pow_pos k))))

-- with w for the root of m and v for that of m * 4 ^ k: v is at least w * 2 ^ k
pub shifted-low : (m k w v : ℕ) → Floor m w → Floor (m * 4 ^ k) v → w * 2 ^ k ≤ v
shifted-low m k w v p q =
    sq-le (w * 2 ^ k) v (lt_of_le_of_lt (subst (λ (x : ℕ). x ≤ m * 4 ^ k) (square-shift w k) (mul-le-mul_right (4 ^ k) p.0)) q.1)

-- and below (w + 1) * 2 ^ k
pub shifted-high : (m k w v : ℕ) → Floor m w → Floor (m * 4 ^ k) v → v < (w + 1) * 2 ^ k
shifted-high m k w v p q =
    sq-lt v ((w + 1) * 2 ^ k) (subst (λ (x : ℕ). v * v < x) (square-shift (w + 1) k) (lt_of_le_of_lt q.0 (mul-lt-mul_of_pos_right p.1 (four-pos k))))

-- so w is v without its last k digits
shifted-div : (m k w v : ℕ) → Floor m w → Floor (m * 4 ^ k) v → v / 2 ^ k ≡ w
shifted-div m k w v p q = div-eq_of_lt-le (2 ^ k) (shifted-low m k w v p q) (shifted-high m k w v p q)

-- ---- what `compare` says, and that a common factor changes nothing
abbrev Cmp : Ordering → ℕ → ℕ → Type 0
Cmp Ordering.lt a b = a < b
Cmp Ordering.eq a b = a ≡ b
Cmp Ordering.gt a b = b < a

cmp : (a b : ℕ) → Cmp (compare a b) a b
cmp a b = go (compare a b) (leb→le a b) (nleb→lt a b) (eqb→eq a b) (λ (e : a ≡ b). subst (λ (x : ℕ). T (eqb a x)) e (eqb_refl a))
  where
    go : (o : Ordering) → (T (is_le o) → a ≤ b) → (T (not (is_le o)) → b < a) → (T (compare_is_eq o) → a ≡ b) → (a ≡ b → T (compare_is_eq o)) → Cmp o a b
    go Ordering.lt h k e n = lt_of_le-ne (h tt) n
    go Ordering.eq h k e n = e tt
    go Ordering.gt h k e n = k tt

cmp-is : (o p : Ordering) (a b : ℕ) → Cmp o a b → Cmp p a b → o ≡ p
cmp-is Ordering.lt Ordering.lt a b h k = refl
cmp-is Ordering.lt Ordering.eq a b h k = absurd (omega arith)
cmp-is Ordering.lt Ordering.gt a b h k = absurd (omega arith)
cmp-is Ordering.eq Ordering.lt a b h k = absurd (omega arith)
cmp-is Ordering.eq Ordering.eq a b h k = refl
cmp-is Ordering.eq Ordering.gt a b h k = absurd (omega arith)
cmp-is Ordering.gt Ordering.lt a b h k = absurd (omega arith)
cmp-is Ordering.gt Ordering.eq a b h k = absurd (omega arith)
cmp-is Ordering.gt Ordering.gt a b h k = refl

cmp-scale : (o : Ordering) (a b c : ℕ) → 0 < c → Cmp o a b → Cmp o (a * c) (b * c)
cmp-scale Ordering.lt a b c C h = mul-lt-mul_of_pos_right h C
cmp-scale Ordering.eq a b c C h = ap (λ (x : ℕ). x * c) h
cmp-scale Ordering.gt a b c C h = mul-lt-mul_of_pos_right h C

compare-scale : (a b c : ℕ) → 0 < c → compare (a * c) (b * c) ≡ compare a b
compare-scale a b c C = cmp-is (compare (a * c) (b * c)) (compare a b) (a * c) (b * c) (cmp (a * c) (b * c)) (cmp-scale (compare a b) a b c C (cmp a b))

-- what `compare` says of a smaller number
pub compare-lt : (a b : ℕ) → a < b → compare a b ≡ Ordering.lt
compare-lt a b h = cmp-is (compare a b) Ordering.lt a b (cmp a b) h

-- and of a larger one
pub compare-gt : (a b : ℕ) → b < a → compare a b ≡ Ordering.gt
compare-gt a b h = cmp-is (compare a b) Ordering.gt a b (cmp a b) h

-- ---- so the rounding of the root of m * 4 ^ k is that of m
root_by-at : (k m w : ℕ) → Floor m w → root_by k (m * 4 ^ k) ≡ nearest w (compare (4 * m) ((2 * w + 1) * (2 * w + 1)))
unfolding root_by
root_by-at k m w p =
    let n = m * 4 ^ k in
    ap (λ (q : ℕ). nearest q (compare (4 * n) ((2 * q + 1) * (2 * q + 1) * 4 ^ k))) (shifted-div m k w (root (size n) n) p (root_is n))
    ∙ ap (λ (x : ℕ). nearest w (compare x ((2 * w + 1) * (2 * w + 1) * 4 ^ k))) (sym (mul_assoc 4 m (4 ^ k)))
    ∙ ap (λ (o : Ordering). nearest w o) (compare-scale (4 * m) ((2 * w + 1) * (2 * w + 1)) (4 ^ k) (four-pos k))

-- the root of m to the nearest whole number, by its whole part w
pub root_by-zero : (m w : ℕ) → Floor m w → root_by 0 m ≡ nearest w (compare (4 * m) ((2 * w + 1) * (2 * w + 1)))
root_by-zero m w p = ap (root_by 0) (sym (mul-one m)) ∙ root_by-at 0 m w p

-- in steps of 2 ^ k the root of m * 4 ^ k rounds as that of m does
pub root_by-shift : (k m : ℕ) → root_by k (m * 4 ^ k) ≡ root_by 0 m
root_by-shift k m = root_by-at k m (root (size m) m) (root_is m) ∙ sym (root_by-zero m (root (size m) m) (root_is m))

-- ---- the nearest
-- r is within a half of a step of the root of n, (r - 1/2) * 2 ^ k ≤ √n ≤ (r + 1/2) * 2 ^ k, with both sides doubled and squared
abbrev pub Near : ℕ → ℕ → ℕ → Type 0
Near k n r = ((2 * r - 1) * (2 * r - 1) * 4 ^ k ≤ 4 * n) × (4 * n ≤ (2 * r + 1) * (2 * r + 1) * 4 ^ k)

squares-le : (a b k : ℕ) → a ≤ b → a * a * 4 ^ k ≤ b * b * 4 ^ k
squares-le a b k h = mul-le-mul_right (4 ^ k) (mul-le-mul h h)

near_of : (o : Ordering) (k n q : ℕ) → 2 * q * (2 * q) * 4 ^ k ≤ 4 * n → 4 * n ≤ 2 * (q + 1) * (2 * (q + 1)) * 4 ^ k → Cmp o (4 * n) ((2 * q + 1) * (2 * q + 1) * 4 ^ k) → Near k n (nearest q o)
near_of Ordering.lt k n q lo hi c = (le_trans (squares-le (2 * q - 1) (2 * q) k (omega arith)) lo, le_of_lt c)
near_of Ordering.eq k n q lo hi c = even (q % 2) refl
  where
    even : (r : ℕ) → q % 2 ≡ r → Near k n (q + q % 2)
    even zero e = subst (λ (x : ℕ). Near k n x) (same q e) (le_trans (squares-le (2 * q - 1) (2 * q) k (omega arith)) lo, le_of_eq c)
      where
        same : (q : ℕ) → q % 2 ≡ 0 → q ≡ q + q % 2
        same q e = omega arith
    even (suc r) e = subst (λ (x : ℕ). Near k n x) (up q r e)
        (le_trans (squares-le (2 * (q + 1) - 1) (2 * q + 1) k (omega arith)) (le_of_eq (sym c)), le_trans (le_of_eq c) (squares-le (2 * q + 1) (2 * (q + 1) + 1) k (omega arith)))
      where
        up : (q r : ℕ) → q % 2 ≡ suc r → q + 1 ≡ q + q % 2
        up q r e = omega arith
near_of Ordering.gt k n q lo hi c = (le_trans (squares-le (2 * suc q - 1) (2 * q + 1) k (omega arith)) (le_of_lt c), le_trans hi (squares-le (2 * (q + 1)) (2 * suc q + 1) k (omega arith)))

quad : (a k : ℕ) → 2 * a * (2 * a) * 4 ^ k ≡ 4 * (a * 2 ^ k * (a * 2 ^ k))
quad a k = ap (λ (x : ℕ). x * 4 ^ k) (double a) ∙ mul_assoc 4 (a * a) (4 ^ k) ∙ ap (λ (x : ℕ). 4 * x) (square-shift a k)

-- what `root_by` gives is within a half of a step of the root
pub root_by-near : (k n : ℕ) → Near k n (root_by k n)
unfolding root_by
root_by-near k n =
    let w = root (size n) n in
    let q = w / 2 ^ k in
    let f = root_is n in
    let lo : q * 2 ^ k ≤ w = div-mul-le_self w (2 ^ k) in
    let hi : w < (q + 1) * 2 ^ k = (div-lt_iff_lt-mul (pow_pos k)).0 (omega arith) in
    near_of (compare (4 * n) ((2 * q + 1) * (2 * q + 1) * 4 ^ k)) k n q
    (le_trans (le_of_eq (quad q k)) (mul-le-mul (le_of_eq {m = 4} refl) (le_trans (mul-le-mul lo lo) f.0)))
    (le_trans (mul-le-mul (le_of_eq {m = 4} refl) (le_trans (le_of_lt f.1) (mul-le-mul (succ w ((q + 1) * 2 ^ k) hi) (succ w ((q + 1) * 2 ^ k) hi)))) (le_of_eq (sym (quad (q + 1) k))))
    (cmp (4 * n) ((2 * q + 1) * (2 * q + 1) * 4 ^ k))
  where
    succ : (w m : ℕ) → w < m → w + 1 ≤ m
    succ w m h = omega arith

-- ---- the root of 47 or 48 digits, of which at most the first 24 are not 0
-- r has 24 digits, and the root of m is nearer to it than a half, with both sides doubled and squared
pub record Rounded (m r : ℕ) : Type 0 where
  pub full : 2 ^ 23 ≤ r
  pub few : r < 2 ^ 24
  pub lower : square (2 * r - 1) < 4 * m
  pub upper : 4 * m < square (2 * r + 1)

-- a root halfway between two whole numbers would have an odd square
no_tie : (c m : ℕ) → (2 * c + 1) * (2 * c + 1) ≡ 4 * m → ⊥
no_tie c m e = omega (arith, half-square c)

-- the root of such an m to the nearest: the tie never arises, and the number of digits stays
pub rounded : (m : ℕ) → 2 ^ 46 ≤ m → m ≤ 16777215 * 16777216 → Rounded m (root_by 0 m)
rounded m lo hi =
    let r = root_by 0 m in
    let n = root_by-near 0 m in
    let a : (2 * r - 1) * (2 * r - 1) ≤ 4 * m = subst (λ (x : ℕ). x ≤ 4 * m) (mul-one ((2 * r - 1) * (2 * r - 1))) n.0 in
    let b : 4 * m ≤ (2 * r + 1) * (2 * r + 1) = subst (λ (x : ℕ). 4 * m ≤ x) (mul-one ((2 * r + 1) * (2 * r + 1))) n.1 in
    let full : 2 ^ 23 ≤ r = at_least r b in
    record {
      full = full;
      few = at_most r a;
      lower = lt_of_le-ne a (λ e. no_tie (r - 1) m (subst (λ (x : ℕ). x * x ≡ 4 * m) (less r full) e));
      upper = lt_of_le-ne b (λ e. no_tie r m (sym e));
    }
  where
    at_least : (r : ℕ) → 4 * m ≤ (2 * r + 1) * (2 * r + 1) → 2 ^ 23 ≤ r
    at_least r b = le_of_suc-le-suc (lt_of_not-le (λ (g : suc r ≤ 2 ^ 23). no (mul-le-mul (twice g) (twice g))))
      where
        twice : suc r ≤ 2 ^ 23 → 2 * r + 1 ≤ 16777215
        twice g = omega arith

        no : (2 * r + 1) * (2 * r + 1) ≤ 16777215 * 16777215 → ⊥
        no g = omega arith

    at_most : (r : ℕ) → (2 * r - 1) * (2 * r - 1) ≤ 4 * m → r < 2 ^ 24
    at_most r a = lt_of_not-le (λ (g : 2 ^ 24 ≤ r). no (mul-le-mul (twice g) (twice g)))
      where
        twice : 2 ^ 24 ≤ r → 33554431 ≤ 2 * r - 1
        twice g = omega arith

        no : 33554431 * 33554431 ≤ (2 * r - 1) * (2 * r - 1) → ⊥
        no g = omega arith

    less : (r : ℕ) → 2 ^ 23 ≤ r → 2 * r - 1 ≡ 2 * (r - 1) + 1
    less r g = omega arith

-- r is the root of a * 2 ^ 16 to the nearest, and has 24 digits
abbrev pub Result : ℕ → ℕ → Type 0
Result a r = (r ≡ root_by 0 (a * 65536)) × ((8388608 ≤ r) × (r < 16777216))

-- the root of a number of 31 or 32 digits, of which at most the first 24 are not 0, times 2 ^ 16
pub result : (a r : ℕ) → (1073741824 ≤ a) × (a ≤ 4294967040) → r ≡ root_by 0 (a * 65536) → Result a r
result a r b e = let d = rounded (a * 65536) (omega arith) (omega arith) in (e, subst (λ (x : ℕ). (8388608 ≤ x) × (x < 16777216)) (sym e) (d.full, d.few))
