-- A matrix entry as the sum of its two halves, rounded once, and its mark as what the sum without the whole part leaves. Assumes nothing.
use Rattle.std.proofs.Common.{◌≡◌, ℕ, suc, ◌+◌, ◌-◌, ◌*◌, ◌^◌, ◌<◌, ◌≤◌, Bool, true, false, cond, not, ◌&&◌, T, eqb, ltb, ℤ, pos, negsuc, ◌+ℤ◌, ◌*ℤ◌, neg_ℤ, nat_abs, sym, refl, ap, ◌∙◌, subst, le_trans, lt_of_lt_of_le, mul-one, arith, lit<, lit≤, eqb→eq, ltb→lt, lt→ltb, nltb→le, w16, Fits, SFits, to_z, of_z}
use mathlib.Core.Bool.{and-true, and-false}
use lib.Dec.{not_T}
use lib.Signed.{nat_abs-le}
use lib.Ieee.{Float, binary32, round, sum, add, sub, eq}
use lib.Ieee.Bits.{is_true, is_false}
use lib.Ieee.Fits.{eq→eqb}
use lib.Ieee.Exact.{HasValue}
use lib.Ieee.Back.{round_whole}
use mir.ValLaws.{to_z-of_z}
use Rattle.numbers.specs.Ratio.{below0, of_ratio, is_ratio, parts, entry, exact}
use Rattle.numbers.proofs.Quotients.{rescale}
use Rattle.numbers.proofs.Sums.{same_test, add-value, sub-value, eq-value, ratio-value}
use Rattle.numbers.proofs.Losses.{narrow_exact, near}

-- ---- the two halves as one number
-- a whole part below 0, in parts of 65536
times : (n : ℕ) → negsuc n *ℤ pos 65536 ≡ negsuc (n * 65536 + 65535)
times n = ap (λ (k : ℕ). neg_ℤ (pos k)) (next n)
  where
    next : (n : ℕ) → suc n * 65536 ≡ suc (n * 65536 + 65535)
    next n = omega arith

-- with its fraction it is still below 0
pub parts-neg : (n x : ℕ) → x < 65536 → parts (negsuc n) x ≡ negsuc (n * 65536 + 65535 - x)
parts-neg n x h =
    ap (λ (z : ℤ). z +ℤ pos x) (times n)
    ∙ ap (λ (b : Bool). cond b (negsuc (suc (n * 65536 + 65535) - suc x)) (pos (x - suc (n * 65536 + 65535)))) (is_true (ltb x (suc (n * 65536 + 65535))) (lt→ltb x (suc (n * 65536 + 65535)) (omega arith)))
    ∙ ap negsuc (less n x h)
  where
    less : (n x : ℕ) → x < 65536 → suc (n * 65536 + 65535) - suc x ≡ n * 65536 + 65535 - x
    less n x h = omega arith

-- the number has at most 32 bits
pub parts-small : (whole : ℤ) (x : ℕ) → SFits w16 whole → x < 65536 → nat_abs (parts whole x) < 2 ^ 32
parts-small (pos n) x h k = omega (arith, h.sfits)
parts-small (negsuc n) x h k = subst (λ (z : ℤ). nat_abs z < 2 ^ 32) (sym (parts-neg n x k)) (omega (arith, h.sfits))

-- ---- the two halves as floats
-- the whole part in parts of 65536
whole-value : (whole : ℤ) → SFits w16 whole → HasValue (of_ratio binary32 whole 1) (below0 whole) (nat_abs whole * 65536) 65536
unfolding of_ratio
whole-value whole h =
    let s = below0 whole in
    let n = nat_abs whole in
    rescale (round binary32 s n 1) s n 1 (n * 65536) 65536 (lit< tt) (mul-one (n * 65536)) (round_whole binary32 s n (le_trans (nat_abs-le whole h.sfits) (lit≤ tt)))

-- the fraction in parts of 65536
fraction-value : (x : ℕ) → x < 65536 → HasValue (of_ratio binary32 (pos x) 65536) false x 65536
unfolding of_ratio
fraction-value x h = narrow_exact false x (lt_of_lt_of_le h (lit≤ tt))

-- the sum of the two is the entry, rounded once
sum_is : (whole : ℤ) (x : ℕ) → x < 65536 → sum binary32 (below0 whole) (nat_abs whole * 65536) false x 65536 ≡ entry whole x
unfolding sum of_ratio
sum_is (pos n) x k = refl
sum_is (negsuc n) x k =
    let a = suc n * 65536 in
    let e : a - x ≡ suc (n * 65536 + 65535 - x) = omega arith in
    ap (λ (b : Bool). cond b (round binary32 false (x - a) 65536) (round binary32 (ltb x a) (a - x) 65536)) (is_false (ltb a x) (not_T (ltb a x) (λ t. over (ltb→lt a x t))))
    ∙ ap (λ (b : Bool). round binary32 b (a - x) 65536) (is_true (ltb x a) (lt→ltb x a (omega arith)))
    ∙ ap (λ (m : ℕ). round binary32 true m 65536) e
    ∙ ap (λ (z : ℤ). round binary32 (below0 z) (nat_abs z) 65536) (sym (parts-neg n x k))
  where
    over : suc n * 65536 < x → ⊥
    over h = omega arith

-- ---- what the sum without the whole part leaves
-- two comparisons that pass together are the same
eqb_same : (a b c d : ℕ) → (a ≡ b → c ≡ d) → (c ≡ d → a ≡ b) → eqb a b ≡ eqb c d
eqb_same a b c d p q = same_test (eqb a b) (eqb c d) (λ t. eq→eqb (p (eqb→eq a b t))) (λ t. eq→eqb (q (eqb→eq c d t)))

-- a comparison of two numbers that differ fails
eqb-not : (a b : ℕ) → (a ≡ b → ⊥) → eqb a b ≡ false
eqb-not a b p = is_false (eqb a b) (not_T (eqb a b) (λ t. p (eqb→eq a b t)))

-- ---- b is the fraction x / 65536
module _ (b : Float) (x : ℕ) (v : HasValue b false x 65536) where
  -- d parts are b where d is x
  left-above : (d : ℕ) → d < 2 ^ 24 → eq (round binary32 false d 65536) b ≡ eqb d x
  left-above d h = eq-value (round binary32 false d 65536) b false d false x 65536 (lit< tt) (narrow_exact false d h) v ∙ and-true (eqb d x)

  -- d parts below 0 are not b
  left_below : (d : ℕ) → 0 < d → d < 2 ^ 24 → eq (round binary32 true d 65536) b ≡ false
  left_below d p h =
      eq-value (round binary32 true d 65536) b true d false x 65536 (lit< tt) (narrow_exact true d h) v
      ∙ ap (λ (z : Bool). eqb d x && z) (eqb-not d 0 (λ e. omega (arith, e)))
      ∙ and-false (eqb d x)

  -- w parts without a parts leave b where w is a + x
  left-of : (w a : ℕ) → w < a + 2 ^ 24 → a < w + 2 ^ 24 → eq (sum binary32 false w true a 65536) b ≡ eqb w (a + x)
  unfolding sum
  left-of w a h k = go (ltb w a) (ltb→lt w a) (nltb→le w a)
    where
      go : (t : Bool) → (T t → w < a) → (T (not t) → a ≤ w) → eq (cond t (round binary32 true (a - w) 65536) (round binary32 false (w - a) 65536)) b ≡ eqb w (a + x)
      go true l g = left_below (a - w) (omega (arith, l tt)) (omega arith) ∙ sym (eqb-not w (a + x) (λ e. omega (arith, e, l tt)))
      go false l g = left-above (w - a) (omega arith) ∙ eqb_same (w - a) x w (a + x) (λ e. omega (arith, e, g tt)) (λ e. omega (arith, e))

  -- w parts below 0 without a parts below 0 leave b where a is w + x
  left-to : (w a : ℕ) → w < a + 2 ^ 24 → a < w + 2 ^ 24 → eq (sum binary32 true w false a 65536) b ≡ eqb (w + x) a
  unfolding sum
  left-to w a h k = go (ltb w a) (ltb→lt w a) (nltb→le w a)
    where
      past : (t : Bool) → (T t → a < w) → (T (not t) → w ≤ a) → a ≤ w → eq (round binary32 t (w - a) 65536) b ≡ eqb (w + x) a
      past true l g m = left_below (w - a) (omega (arith, l tt)) (omega arith) ∙ sym (eqb-not (w + x) a (λ e. omega (arith, e, l tt)))
      past false l g m = left-above (w - a) (omega arith) ∙ eqb_same (w - a) x (w + x) a (λ e. omega (arith, e, g tt)) (λ e. omega (arith, e))

      go : (t : Bool) → (T t → w < a) → (T (not t) → a ≤ w) → eq (cond t (round binary32 false (a - w) 65536) (round binary32 (ltb a w) (w - a) 65536)) b ≡ eqb (w + x) a
      go true l g = left-above (a - w) (omega arith) ∙ eqb_same (a - w) x (w + x) a (λ e. omega (arith, e, l tt)) (λ e. omega (arith, e))
      go false l g = past (ltb a w) (ltb→lt a w) (nltb→le a w) (g tt)

-- what is left of the entry without its whole part is the fraction exactly where the entry lost nothing
mark-is : (whole : ℤ) (x : ℕ) (a b : Float) → SFits w16 whole → x < 65536 → HasValue a (below0 whole) (nat_abs whole * 65536) 65536 → HasValue b false x 65536
    → eq (sub binary32 (entry whole x) a) b ≡ exact whole x
unfolding of_ratio
mark-is (pos n) x a b h k v w =
    let m = n * 65536 + x in
    let r = near false m (parts-small (pos n) x h k) in
    let y = round binary32 false m 65536 in
    ap (λ (z : Float). eq z b) (sub-value binary32 y a false r.parts false (n * 65536) 65536 (lit< tt) r.value v)
    ∙ left-of b x w r.parts (n * 65536) (omega (arith, r.most)) (omega (arith, r.least))
    ∙ sym (ratio-value y false r.parts 65536 (pos m) r.value)
mark-is (negsuc n) x a b h k v w =
    let m = n * 65536 + 65535 - x in
    let r = near true (suc m) (subst (λ (z : ℤ). nat_abs z < 2 ^ 32) (parts-neg n x k) (parts-small (negsuc n) x h k)) in
    let y = round binary32 true (suc m) 65536 in
    ap (λ (z : ℤ). eq (sub binary32 (of_ratio binary32 z 65536) a) b) (parts-neg n x k)
    ∙ ap (λ (z : Float). eq z b) (sub-value binary32 y a true r.parts true (suc n * 65536) 65536 (lit< tt) r.value v)
    ∙ left-to b x w r.parts (suc n * 65536) (omega (arith, r.most)) (omega (arith, r.least))
    ∙ eqb_same (r.parts + x) (suc n * 65536) r.parts (suc m) (λ e. omega (arith, e)) (λ e. omega (arith, e))
    ∙ sym (ratio-value y true r.parts 65536 (negsuc m) r.value)
    ∙ ap (λ (z : ℤ). is_ratio (of_ratio binary32 z 65536) z 65536) (sym (parts-neg n x k))

-- ---- as code has them: a is the whole part as an f32, and b the fraction
module _ (whole : ℤ) (x : ℕ) (h : SFits w16 whole) (k : Fits w16 x) (a b : Float) (a-is : a ≡ of_ratio binary32 (to_z w16 (of_z w16 whole)) 1) (b-is : b ≡ of_ratio binary32 (pos x) 65536) where
  -- the whole part in parts of 65536
  a-value : HasValue a (below0 whole) (nat_abs whole * 65536) 65536
  a-value = subst (λ (z : Float). HasValue z (below0 whole) (nat_abs whole * 65536) 65536) (sym (a-is ∙ ap (λ (z : ℤ). of_ratio binary32 z 1) (to_z-of_z w16 whole h))) (whole-value whole h)

  -- the fraction in parts of 65536
  b-value : HasValue b false x 65536
  b-value = subst (λ (z : Float). HasValue z false x 65536) (sym b-is) (fraction-value x k.fits)

  -- the sum is the entry, rounded once
  pub entry-is : add binary32 a b ≡ entry whole x
  entry-is = add-value binary32 a b (below0 whole) (nat_abs whole * 65536) false x 65536 (lit< tt) a-value b-value ∙ sum_is whole x k.fits

  -- the comparison is the mark
  pub exact-is : eq (sub binary32 (add binary32 a b) a) b ≡ exact whole x
  exact-is = ap (λ (z : Float). eq (sub binary32 z a) b) entry-is ∙ mark-is whole x a b h k.fits a-value b-value
