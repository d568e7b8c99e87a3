-- A texture scale is not 1, and slots of three numbers in a flat list: what a put changes of them. Assumes nothing.
use mathlib.Core.Path.{◌≡◌, refl, sym, ap, ◌∙◌}
use mathlib.Core.Logic.{◌≢◌, ◌⊎◌, inl, inr, ⊎_elim}
use Prim.Native.Nat.{ℕ, ◌+◌, ◌*◌, ◌^◌, ◌≤◌, ◌<◌}
use native.Mathlib.Nat.{add-zero, lt_of_lt_of_le, mul_assoc, mul_comm, mul-one, one-mul, eq_of_mul-eq-mul_right}
use native.Mathlib.Decide.{ℕ_discrete}
use native.Mathlib.Omega.{arith}
use mathlib.Core.Bool.{Bool, true, false, cond}
use mathlib.Core.List.{List, [], ◌∷◌}
use lib.ListN.{length, get_or, set}
use lib.Seq.{get_or-set_same, get_or-set_other}
use lib.Dec.{ltb, lit≤, lit<}
use lib.IntN.{pos}
use lib.Pow.{shl_lt, pow_mono}
use lib.Ieee.{Float, nan, inf, fin, binary32, up, down, eq}
use lib.Ieee.Fits.{down_pos}
use lib.Ieee.Exact.{HasValue, round_exact}
use borrow.Author.Tests.{ltb-true, ltb-false, ne_eqb}
use Rattle.areas.specs.Area.{put}
use Rattle.areas.proofs.Tables.{length-put, put_other, put-inside}
use Rattle.numbers.specs.Ratio.{of_ratio}
use Rattle.matrix.specs.Math.{at}
use Rattle.decide.specs.Lights.{slotted}
use Rattle.fold.specs.Direction.{three}
use Rattle.original.specs.Math.{f1}
use Rattle.numbers.specs.Choice.{pick}

-- ---- a texture scale is below 1

-- sixteen bits divided by 2 ^ 21 are held exactly
pub scale-value : (n : ℕ) → n < 65536 → HasValue (of_ratio binary32 (pos n) 2097152) false n 2097152
unfolding of_ratio
scale-value n h =
    round_exact binary32 false n 2097152 n 128 (lit< tt) (lt_of_lt_of_le h (lit≤ tt))
    (lt_of_lt_of_le (shl_lt 16 128 h) (pow_mono {i = 144} {j = 277} (lit≤ tt)))
    (sym (mul_assoc n (2 ^ 128) 2097152))

-- a size of n / 2097152 is not 1
apart-from-one : (a d n : ℕ) → 0 < d → n < 65536 → a * 2097152 ≡ n * d → a ≢ d
apart-from-one a d n D h v e =
    let q : 2097152 ≡ n = eq_of_mul-eq-mul_right d D 2097152 n (mul_comm 2097152 d ∙ ap (λ (x : ℕ). x * 2097152) (sym e) ∙ v) in
    omega (arith, q)

-- 1 does not equal what is n / 2097152
one-not-value : (x : Float) (n : ℕ) → n < 65536 → HasValue x false n 2097152 → eq f1 x ≡ false
unfolding eq
one-not-value nan n h v = absurd v
one-not-value (inf t) n h v = absurd v
one-not-value (fin s m e) n h v =
    let q : 1 * 1 * down e ≢ m * up e * 1 = λ t. apart-from-one (m * up e) (down e) n (down_pos e) h v.1 (sym (mul-one (m * up e)) ∙ sym t ∙ one-mul (down e)) in
    rw (ne_eqb (1 * 1 * down e) (m * up e * 1) q)

-- 1 does not equal a texture scale
pub one-never : (n : ℕ) → n < 65536 → eq f1 (of_ratio binary32 (pos n) 2097152) ≡ false
one-never n h = one-not-value (of_ratio binary32 (pos n) 2097152) n h (scale-value n h)

-- ---- slots of three numbers

-- three numbers are their first, second and third
three-all : (v : List Float) → length v ≡ 3 → at v 0 ∷ at v 1 ∷ at v 2 ∷ [] ≡ v
three-all [] h = absurd (omega (arith, h))
three-all (a ∷ []) h = absurd (omega (arith, h))
three-all (a ∷ b ∷ []) h = absurd (omega (arith, h))
three-all (a ∷ b ∷ c ∷ []) h = refl
three-all (a ∷ b ∷ c ∷ d ∷ r) h = absurd (omega (arith, h))

-- what was put into a slot is what stands there
pub three-same : (l v : List Float) (k : ℕ) → length v ≡ 3 → 3 * k + 3 ≤ length l → three (put l (3 * k) v) (3 * k) ≡ v
three-same l v k w h =
    let e0 = ap (at (put l (3 * k) v)) (sym (add-zero (3 * k))) ∙ put-inside l (3 * k) v 0 nan (omega arith) (omega arith) in
    let e1 = put-inside l (3 * k) v 1 nan (omega arith) (omega arith) in
    let e2 = put-inside l (3 * k) v 2 nan (omega arith) (omega arith) in
    (λ i. e0 i ∷ e1 i ∷ e2 i ∷ []) ∙ three-all v w

-- two unequal slots lie one before the other
beside : (j k : ℕ) → j ≢ k → (j < k) ⊎ (k < j)
beside j k n = go (ltb j k) refl
  where
    go : (b : Bool) → ltb j k ≡ b → (j < k) ⊎ (k < j)
    go true e = inl (ltb-true j k e)
    go false e = inr (omega (arith, ltb-false j k e, n))

-- the other slots stay
pub three-other : (l v : List Float) (k j : ℕ) → length v ≡ 3 → j ≢ k → three (put l (3 * k) v) (3 * j) ≡ three l (3 * j)
three-other l v k j w n =
    let e0 = put_other l (3 * k) v (3 * j) nan (off (3 * j) (omega arith) (omega arith)) in
    let e1 = put_other l (3 * k) v (3 * j + 1) nan (off (3 * j + 1) (omega arith) (omega arith)) in
    let e2 = put_other l (3 * k) v (3 * j + 2) nan (off (3 * j + 2) (omega arith) (omega arith)) in
    λ i. e0 i ∷ e1 i ∷ e2 i ∷ []
  where
    off : (i : ℕ) → 3 * j ≤ i → i < 3 * j + 3 → (i < 3 * k) ⊎ (3 * k + length v ≤ i)
    off i a z = ⊎_elim (λ b. inl (omega arith)) (λ b. inr (omega arith)) (beside j k n)

-- a slot replaced leaves the length
pub slotted-length : (n k : ℕ) (l v : List Float) → length (slotted n l k v) ≡ length l
unfolding slotted pick
slotted-length n k l v = go (ltb k n)
  where
    go : (b : Bool) → length (pick b (put l (3 * k) v) l) ≡ length l
    go true = length-put l (3 * k) v
    go false = refl

-- slots that stand for the entries of a list still do where one of each is replaced
pub slotted-slots : {E : Type 0} (g : E → List Float) (n : ℕ) (l v : List Float) (es : List E) (e d : E) (k : ℕ) → length v ≡ 3 → g e ≡ v → length l ≡ 3 * n → length es ≡ n
    → ((j : ℕ) → j < n → g (get_or es j d) ≡ three l (3 * j))
    → (j : ℕ) → j < n → g (get_or (cond (ltb k n) (set es k e) es) j d) ≡ three (slotted n l k v) (3 * j)
unfolding slotted pick
slotted-slots {E} g n l v es e d k w q L M s j h = go (ltb k n) refl
  where
    inside : k < n → g (get_or (set es k e) j d) ≡ three (put l (3 * k) v) (3 * j)
    inside K = at_slot (ℕ_discrete j k)
      where
        at_slot : Dec (j ≡ k) → g (get_or (set es k e) j d) ≡ three (put l (3 * k) v) (3 * j)
        at_slot (yes t) = rw (t, get_or-set_same es k e d (omega (arith, M)), q) (sym (three-same l v k w (omega (arith, L))))
        at_slot (no t) = ap g (get_or-set_other es k j e d t) ∙ s j h ∙ sym (three-other l v k j w t)

    go : (b : Bool) → ltb k n ≡ b → g (get_or (cond b (set es k e) es) j d) ≡ three (pick b (put l (3 * k) v) l) (3 * j)
    go true t = inside (ltb-true k n t)
    go false t = s j h
