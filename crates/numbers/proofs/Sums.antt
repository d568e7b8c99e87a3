-- Sums, differences and comparisons of finite values, by the fractions over one denominator that they are. Assumes nothing.
use Rattle.std.proofs.Common.{◌≡◌, ℕ, ◌+◌, ◌-◌, ◌*◌, ◌<◌, Bool, true, false, cond, not, ◌&&◌, ◌||◌, T, eqb, ltb, ℤ, nat_abs, sym, refl, ap, ◌∙◌, zero-lt-suc, mul_assoc, mul_comm, add-mul, lt_of_mul-lt-mul_right, mul-lt-mul_of_pos_right, mul-pos, zero-mul, mul-one, mul_right_comm, eqb→eq, ltb→lt, lt→ltb}
use native.Mathlib.Nat.{mul-sub, eq_of_mul-eq-mul_right}
use mathlib.Core.Bool.{beq}
use lib.Ieee.{Float, nan, inf, fin, Format, up, down, round, neg, sum, add, sub, level, eq}
use lib.Ieee.Fits.{down_pos, eq→eqb}
use lib.Ieee.Exact.{HasValue}
use lib.Ieee.Scale.{round_same}
use Rattle.numbers.specs.Ratio.{below0, is_ratio}

-- two tests that pass together are the same
pub same_test : (a b : Bool) → (T a → T b) → (T b → T a) → a ≡ b
same_test true true p q = refl
same_test true false p q = absurd (p tt)
same_test false true p q = absurd (q tt)
same_test false false p q = refl

-- ---- P / D is a / c, and Q / D is b / c
module _ (P Q D a b c : ℕ) (C : 0 < c) (D' : 0 < D) (p : P * c ≡ a * D) (q : Q * c ≡ b * D) where
  -- the one pair is in order where the other is
  less-same : ltb P Q ≡ ltb a b
  less-same = same_test (ltb P Q) (ltb a b)
      (λ t. lt→ltb a b (lt_of_mul-lt-mul_right D (rw (sym p, sym q) (mul-lt-mul_of_pos_right (ltb→lt P Q t) C))))
      (λ t. lt→ltb P Q (lt_of_mul-lt-mul_right c (rw (p, q) (mul-lt-mul_of_pos_right (ltb→lt a b t) D'))))

  -- and equal where the other is
  equal-same : eqb P Q ≡ eqb a b
  equal-same = same_test (eqb P Q) (eqb a b)
      (λ t. eq→eqb (eq_of_mul-eq-mul_right D D' a b (sym p ∙ ap (λ (x : ℕ). x * c) (eqb→eq P Q t) ∙ q)))
      (λ t. eq→eqb (eq_of_mul-eq-mul_right c C P Q (p ∙ ap (λ (x : ℕ). x * D) (eqb→eq a b t) ∙ sym q)))

  -- the sums are the same fraction
  plus-same : (P + Q) * c ≡ (a + b) * D
  plus-same = add-mul P Q c ∙ ap (λ (x : ℕ). x + Q * c) p ∙ ap (λ (x : ℕ). a * D + x) q ∙ sym (add-mul a b D)

  -- so are the differences
  minus-same : (P - Q) * c ≡ (a - b) * D
  minus-same =
      mul_comm (P - Q) c
      ∙ mul-sub c P Q
      ∙ ap (λ (x : ℕ). x - c * Q) (mul_comm c P ∙ p ∙ mul_comm a D)
      ∙ ap (λ (x : ℕ). D * a - x) (mul_comm c Q ∙ q ∙ mul_comm b D)
      ∙ sym (mul-sub D a b)
      ∙ mul_comm D (a - b)

-- a sum rounds by its two fractions alone
sum_same : (f : Format) (s t : Bool) (P Q D a b c : ℕ) → 0 < c → 0 < D → P * c ≡ a * D → Q * c ≡ b * D → sum f s P t Q D ≡ sum f s a t b c
unfolding sum
sum_same f s t P Q D a b c C D' p q =
    let both = round_same f s (P + Q) D (a + b) c D' C (plus-same P Q D a b c C D' p q) in
    let back = round_same f t (Q - P) D (b - a) c D' C (minus-same Q P D b a c C D' q p) in
    let forth = ap (λ (z : Bool). round f (s && z) (P - Q) D) (less-same Q P D b a c C D' q p) ∙ round_same f (s && ltb b a) (P - Q) D (a - b) c D' C (minus-same P Q D a b c C D' p q) in
    let less = less-same P Q D a b c C D' p q in
    λ i. cond (beq s t) (both i) (cond (less i) (back i) (forth i))

-- ---- two values over one denominator
-- the first over both of their own denominators
left : (m e d a c : ℕ) → m * c ≡ a * e → m * d * c ≡ a * (e * d)
left m e d a c v = mul_right_comm m d c ∙ ap (λ (x : ℕ). x * d) v ∙ mul_assoc a e d

-- the second over both
right : (n e d b c : ℕ) → n * c ≡ b * d → n * e * c ≡ b * (e * d)
right n e d b c v = left n d e b c v ∙ ap (λ (x : ℕ). b * x) (mul_comm d e)

-- their sum is that of the fractions, rounded once
pub add-value : (f : Format) (x y : Float) (s : Bool) (a : ℕ) (t : Bool) (b c : ℕ) → 0 < c → HasValue x s a c → HasValue y t b c → add f x y ≡ sum f s a t b c
unfolding add
add-value f nan y s a t b c C v w = absurd v
add-value f (inf u) y s a t b c C v w = absurd v
add-value f (fin u m e) nan s a t b c C v w = absurd w
add-value f (fin u m e) (inf z) s a t b c C v w = absurd w
add-value f (fin u m e) (fin z n d) s a t b c C v w =
    let P = m * up e * down d in
    let Q = n * up d * down e in
    let D = down e * down d in
    ap (λ (r : Bool). sum f r P z Q D) v.0
    ∙ ap (λ (r : Bool). sum f s P r Q D) w.0
    ∙ sum_same f s t P Q D a b c C (mul-pos (down_pos e) (down_pos d)) (left (m * up e) (down e) (down d) a c v.1) (right (n * up d) (down e) (down d) b c w.1)

-- a value with its sign turned keeps its size
neg_value : (x : Float) (s : Bool) (a c : ℕ) → HasValue x s a c → HasValue (neg x) (not s) a c
unfolding neg
neg_value nan s a c v = absurd v
neg_value (inf t) s a c v = absurd v
neg_value (fin t m e) s a c v = (ap not v.0, v.1)

-- so is their difference
pub sub-value : (f : Format) (x y : Float) (s : Bool) (a : ℕ) (t : Bool) (b c : ℕ) → 0 < c → HasValue x s a c → HasValue y t b c → sub f x y ≡ sum f s a (not t) b c
unfolding sub
sub-value f x y s a t b c C v w = add-value f x (neg y) s a (not t) b c C v (neg_value y t b c w)

-- they compare as the fractions do
pub eq-value : (x y : Float) (s : Bool) (a : ℕ) (t : Bool) (b c : ℕ) → 0 < c → HasValue x s a c → HasValue y t b c → eq x y ≡ level s a t b
unfolding eq
eq-value nan y s a t b c C v w = absurd v
eq-value (inf u) y s a t b c C v w = absurd v
eq-value (fin u m e) nan s a t b c C v w = absurd w
eq-value (fin u m e) (inf z) s a t b c C v w = absurd w
eq-value (fin u m e) (fin z n d) s a t b c C v w =
    let P = m * up e * down d in
    let Q = n * up d * down e in
    let D = down e * down d in
    let D' = mul-pos (down_pos e) (down_pos d) in
    let p = left (m * up e) (down e) (down d) a c v.1 in
    let same = equal-same P Q D a b c C D' p (right (n * up d) (down e) (down d) b c w.1) in
    let none = equal-same P 0 D a 0 c C D' p (zero-mul c ∙ sym (zero-mul D)) in
    λ i. same i && (beq (v.0 i) (w.0 i) || none i)

-- a value is the fraction z / c where its sign and its size are those of z
pub ratio-value : (x : Float) (s : Bool) (a c : ℕ) (z : ℤ) → HasValue x s a c → is_ratio x z c ≡ beq s (below0 z) && eqb a (nat_abs z)
unfolding is_ratio
ratio-value nan s a c z v = absurd v
ratio-value (inf t) s a c z v = absurd v
ratio-value (fin t m e) s a c z v =
    let n = nat_abs z in
    let same = ap (λ (x : ℕ). eqb x (n * down e)) v.1 ∙ equal-same (a * down e) (n * down e) (down e) a n 1 (zero-lt-suc 0) (down_pos e) (mul-one (a * down e)) (mul-one (n * down e)) in
    λ i. beq (v.0 i) (below0 z) && same i
