-- Quotients of floats as fractions rounded once: of an integer that the format holds, by any whole number, and of an integer of 32 bits that is rounded first, by a power of two. Assumes nothing.
use Rattle.std.proofs.Common.{◌≡◌, ℕ, zero, suc, ◌+◌, ◌-◌, ◌*◌, ◌/◌, ◌%◌, ◌^◌, ◌<◌, ◌≤◌, Bool, true, false, cond, T, eqb, ltb, leb, ◌⊎◌, ℤ, pos, negsuc, nat_abs, sym, refl, ap, ◌∙◌, subst, inl, inr, true≢false, le_trans, le_of_eq, le_refl, lt_of_le_of_lt, le_of_lt, mul-le-mul_right, zero-lt-suc, mul_assoc, mul_comm, eq-zero-or-pos, mul-le-mul, mul-pos, one-mul, zero-mul, mul-one, mul_right_comm, mul-div_cancel, arith, lit<, lit≤, ltb→lt, leb→le, pow_pos, pow_mono, pow-add, shl_lt, Fits, SFits, to_z, of_z}
use Prim.Native.Nat.{compare}
use native.Mathlib.Nat.{mul-mul-mul_comm, eq_of_mul-eq-mul_right, div-div-eq-div-mul}
use lib.Dec.{eqb-suc-zero}
use lib.Ieee.{Float, nan, inf, fin, Format, binary32, prec, emax, low, unlike, up, down, size, round, div, of_int, fits}
use mir.Syntax.{Width}
use mir.Val.{bits}
use mir.ValLaws.{to_z-of_z}
use lib.Ieee.Digits.{size-le}
use lib.Ieee.Fits.{up_pos, down_pos, round_is, round-fits, nearest-le, kept-lt}
use lib.Ieee.Exact.{HasValue, units_val, round_exact}
use lib.Ieee.Back.{round_whole}
use lib.Ieee.Order.{kept, drop}
use lib.Ieee.Scale.{round_same, grid, overflow, grid_scale, normal_of_fraction}
use Rattle.numbers.specs.Ratio.{below0, of_ratio}
use Rattle.numbers.proofs.Values.{value-unique, no_size, placed}

-- the same size as another fraction
pub rescale : (x : Float) (s : Bool) (w l a c : ℕ) → 0 < l → a * l ≡ w * c → HasValue x s w l → HasValue x s a c
rescale nan s w l a c p h v = v
rescale (inf t) s w l a c p h v = v
rescale (fin t m e) s w l a c p h v = (
  v.0,
  eq_of_mul-eq-mul_right l p (m * up e * c) (a * down e)
      (mul_right_comm (m * up e) c l ∙ ap (λ (x : ℕ). x * c) v.1 ∙ mul_right_comm w (down e) c ∙ ap (λ (x : ℕ). x * down e) (sym h) ∙ mul_right_comm a l (down e)),
)

-- a value of the format rounds to itself
pub round-fix : (f : Format) (x : Float) (s : Bool) (a c : ℕ) → 0 < c → T (fits f x) → HasValue x s a c → round f s a c ≡ x
unfolding fits
round-fix f nan s a c C p v = absurd v
round-fix f (inf t) s a c C p v = absurd v
round-fix f (fin t zero e) s a c C p v =
    value-unique f (round f s a c) (fin t zero e) s a c C (round-fits f s a c) p
    (round_exact f s a c 0 0 C (pow_pos (prec f)) (pow_pos (low f + suc (emax f))) (ap (λ (x : ℕ). x * 2 ^ low f) (no_size t s e a c v) ∙ zero-mul (2 ^ low f) ∙ sym (zero-mul c)))
    v
round-fix f (fin t (suc m) e) s a c C p v =
    let l = low f in
    let x = placed f t m e p in
    let n = x.digits * 2 ^ x.power in
    value-unique f (round f s a c) (fin t (suc m) e) s a c C (round-fits f s a c) p
    (round_exact f s a c x.digits x.power C x.few x.within
    (eq_of_mul-eq-mul_right (down e) (down_pos e) (a * 2 ^ l) (n * c)
    (mul_right_comm a (2 ^ l) (down e) ∙ ap (λ (y : ℕ). y * 2 ^ l) (sym v.1) ∙ mul_right_comm (suc m * up e) c (2 ^ l) ∙ ap (λ (y : ℕ). y * c) x.value.1 ∙ mul_right_comm n (down e) c)))
    v

-- ---- a quotient
like : (s : Bool) → unlike s false ≡ s
like true = refl
like false = refl

-- a value that is a / c, divided by the whole number d, is a / (c * d), rounded once
pub div_value : (f : Format) (x : Float) (s : Bool) (a c q : ℕ) (g : ℤ) (d : ℕ) → 0 < c → 0 < d → HasValue x s a c → suc q * up g ≡ d * down g → div f x (fin false (suc q) g) ≡ round f s a (c * d)
unfolding div
div_value f nan s a c q g d C D v y = absurd v
div_value f (inf t) s a c q g d C D v y = absurd v
div_value f (fin t m e) s a c q g d C D v y =
    ap (λ (b : Bool). cond b (cond (eqb m 0) nan (inf (unlike t false))) (round f (unlike t false) (m * up e * down g) (suc q * up g * down e))) (eqb-suc-zero q)
    ∙ ap (λ (b : Bool). round f b (m * up e * down g) (suc q * up g * down e)) (like t ∙ v.0)
    ∙ round_same f s (m * up e * down g) (suc q * up g * down e) a (c * d) (mul-pos (mul-pos (zero-lt-suc q) (up_pos g)) (down_pos e)) (mul-pos C D)
    (mul-mul-mul_comm (m * up e) (down g) c d
    ∙ ap (λ (z : ℕ). z * (down g * d)) v.1
    ∙ ap (λ (z : ℕ). a * down e * z) (mul_comm (down g) d ∙ sym y)
    ∙ mul_assoc a (down e) (suc q * up g)
    ∙ ap (λ (z : ℕ). a * z) (mul_comm (down e) (suc q * up g)))

-- an integer as a float is the fraction over 1, rounded once
int_is : (f : Format) (z : ℤ) → of_int f z ≡ round f (below0 z) (nat_abs z) 1
unfolding of_int
int_is f (pos n) = refl
int_is f (negsuc n) = refl

-- so it is the number over 1
pub whole_is : (f : Format) (z : ℤ) → of_int f z ≡ of_ratio f z 1
unfolding of_ratio
whole_is f z = int_is f z

-- a value that is a / c, divided by a float that is the whole number d, is a / (c * d), rounded once
div_by : (f : Format) (x y : Float) (s : Bool) (a c d : ℕ) → 0 < c → 0 < d → HasValue x s a c → HasValue y false d 1 → div f x y ≡ round f s a (c * d)
div_by f x nan s a c d C D v w = absurd w
div_by f x (inf t) s a c d C D v w = absurd w
div_by f x (fin true m e) s a c d C D v w = absurd (true≢false w.0)
div_by f x (fin false zero e) s a c d C D v w = absurd (omega (arith, w.1, mul-pos D (down_pos e)))
div_by f x (fin false (suc q) e) s a c d C D v w = div_value f x s a c q e d C D v (sym (mul-one (suc q * up e)) ∙ w.1)

-- a number that the format holds, divided by one that it holds
pub div_held : (f : Format) (z : ℤ) (d : ℕ) → nat_abs z ≤ 2 ^ prec f → 0 < d → d ≤ 2 ^ prec f → div f (of_ratio f z 1) (of_int f (pos d)) ≡ of_ratio f z d
unfolding of_ratio
div_held f z d h D k =
    let s = below0 z in
    let n = nat_abs z in
    ap (λ (y : Float). div f (round f s n 1) y) (int_is f (pos d))
    ∙ div_by f (round f s n 1) (round f false d 1) s n 1 d (zero-lt-suc 0) D (round_whole f s n h) (round_whole f false d k)
    ∙ ap (round f s n) (one-mul d)

-- an integer that the format holds, divided by a whole number
pub div-small : (f : Format) (z : ℤ) (q : ℕ) (g : ℤ) (d : ℕ) → nat_abs z ≤ 2 ^ prec f → 0 < d → suc q * up g ≡ d * down g → div f (of_int f z) (fin false (suc q) g) ≡ of_ratio f z d
unfolding of_ratio
div-small f z q g d h D y =
    let s = below0 z in
    let n = nat_abs z in
    ap (λ (x : Float). div f x (fin false (suc q) g)) (int_is f z)
    ∙ div_value f (round f s n 1) s n 1 q g d (zero-lt-suc 0) D (round_whole f s n h) y
    ∙ ap (round f s n) (one-mul d)

-- ---- a rounded fraction, divided by 2 ^ t
-- what a fraction rounds to, counted in the format's smallest values
pub round_val : (f : Format) (s : Bool) (a c : ℕ) → grid f a c < overflow f → HasValue (round f s a c) s (grid f a c) (2 ^ low f)
round_val f s a c h = subst (λ (z : Float). HasValue z s (grid f a c) (2 ^ low f)) (sym (round_is f s a c)) (units_val f s (kept (prec f) (a * 2 ^ low f) c) (drop (prec f) (a * 2 ^ low f) c) h)

-- a product is no smaller than its first factor
pub down_le : (g p : ℕ) → 0 < p → g ≤ g * p
down_le g p h = le_trans (le_of_eq (sym (mul-one g))) (mul-le-mul (le_refl g) h)

-- a rounded fraction divided by a power of two is the smaller fraction, rounded once, where both are in the normal range
pub scaled-down : (f : Format) (s : Bool) (a c t : ℕ) → 0 < c → prec f ≤ size (a * 2 ^ low f / (c * 2 ^ t)) → grid f (a * 2 ^ t) (c * 2 ^ t) < overflow f
    → div f (round f s a c) (fin false 1 (pos t)) ≡ round f s a (c * 2 ^ t)
scaled-down f s a c t C N O =
    let P = pow_pos t in
    let C' = mul-pos C P in
    let l = 2 ^ low f in
    let G = grid f a (c * 2 ^ t) in
    let x = round f s a c in
    let y = round f s a (c * 2 ^ t) in
    let gs : grid f (a * 2 ^ t) (c * 2 ^ t) ≡ G * 2 ^ t = grid_scale f a (c * 2 ^ t) t C' N in
    let vx : HasValue x s (G * 2 ^ t) l =
    subst (λ (n : ℕ). HasValue x s n l) gs
    (subst (λ (z : Float). HasValue z s (grid f (a * 2 ^ t) (c * 2 ^ t)) l)
    (round_same f s (a * 2 ^ t) (c * 2 ^ t) a c C' C (mul_assoc a (2 ^ t) c ∙ ap (λ (z : ℕ). a * z) (mul_comm (2 ^ t) c)))
    (round_val f s (a * 2 ^ t) (c * 2 ^ t) O)) in
    let vy : HasValue y s G l = round_val f s a (c * 2 ^ t) (lt_of_le_of_lt (down_le G (2 ^ t) P) (subst (λ (n : ℕ). n < overflow f) gs O)) in
    div_value f x s (G * 2 ^ t) l 0 (pos t) (2 ^ t) (pow_pos (low f)) P vx (one-mul (2 ^ t) ∙ sym (mul-one (2 ^ t)))
    ∙ round-fix f y s (G * 2 ^ t) (l * 2 ^ t) (mul-pos (pow_pos (low f)) P) (round-fits f s a (c * 2 ^ t))
    (rescale y s G l (G * 2 ^ t) (l * 2 ^ t) (pow_pos (low f)) (mul_assoc G (2 ^ t) l ∙ ap (λ (z : ℕ). G * z) (mul_comm (2 ^ t) l)) vy)

-- ---- at binary32, a 32-bit number divided by a power of two
kept-le : (p n den : ℕ) → kept p n den ≤ 2 ^ p
kept-le p n den =
    let k = drop p n den in
    let u = den * 2 ^ k in
    le_trans (nearest-le (n / u) (compare (n % u * 2) u)) (subst (λ (x : ℕ). x < 2 ^ p) (div-div-eq-div-mul n den (2 ^ k)) (kept-lt p (n / den)))

-- a fraction of fewer than 2 ^ 181 smallest values does not overflow
pub under_top : (a c : ℕ) → a * 2 ^ 149 / c < 2 ^ 181 → grid binary32 a c < overflow binary32
under_top a c h =
    let w = a * 2 ^ 149 in
    lt_of_le_of_lt (mul-le-mul (kept-le 24 w c) (pow_mono (spare (size (w / c)) (size-le (w / c) 181 h)))) (lit< tt)
  where
    spare : (z : ℕ) → z ≤ 181 → z - 24 ≤ 157
    spare z h = omega arith

-- a number of 32 bits does not overflow
in-range : (n t : ℕ) → n < 2 ^ 32 → grid binary32 (n * 2 ^ t) (1 * 2 ^ t) < overflow binary32
in-range n t h =
    let w = n * 2 ^ t * 2 ^ 149 in
    let u = 1 * 2 ^ t in
    let e : w / u ≡ n * 2 ^ 149 = ap (λ (x : ℕ). x / u) (mul_right_comm n (2 ^ t) (2 ^ 149) ∙ ap (λ (x : ℕ). n * 2 ^ 149 * x) (sym (one-mul (2 ^ t)))) ∙ mul-div_cancel (n * 2 ^ 149) (mul-pos (zero-lt-suc 0) (pow_pos t)) in
    under_top (n * 2 ^ t) u (subst (λ (x : ℕ). x < 2 ^ 181) (sym e) (shl_lt 32 149 h))

-- a number of 32 bits, rounded and then divided by 2 ^ t, is the fraction rounded once
shift-down : (s : Bool) (n t : ℕ) → 0 < n → n < 2 ^ 32 → t ≤ 126 → div binary32 (round binary32 s n 1) (fin false 1 (pos t)) ≡ round binary32 s n (2 ^ t)
shift-down s n t N h T' =
    scaled-down binary32 s n 1 t (zero-lt-suc 0)
    (normal_of_fraction binary32 n (1 * 2 ^ t) (mul-pos (zero-lt-suc 0) (pow_pos t))
    (le_trans (le_of_eq (ap (λ (x : ℕ). 2 ^ 23 * x) (one-mul (2 ^ t)) ∙ sym (pow-add 2 23 t)))
    (le_trans (pow_mono (top t T')) (le_trans (le_of_eq (sym (one-mul (2 ^ 149)))) (mul-le-mul_right (2 ^ 149) N)))))
    (in-range n t h)
    ∙ ap (round binary32 s n) (one-mul (2 ^ t))
  where
    top : (t : ℕ) → t ≤ 126 → 23 + t ≤ 149
    top t h = omega arith

-- ---- as code has them
-- an unsigned integer of a width that the format holds, divided by a constant
pub div-unsigned : (f : Format) (w : Width) (x q : ℕ) (g : ℤ) (d : ℕ) → Fits w x → T (leb (bits w) (prec f)) → T (ltb 0 d) → suc q * up g ≡ d * down g
    → div f (of_int f (pos x)) (fin false (suc q) g) ≡ of_ratio f (pos x) d
div-unsigned f w x q g d h k D y = div-small f (pos x) q g d (le_trans (le_of_lt h.fits) (pow_mono (leb→le (bits w) (prec f) k))) (ltb→lt 0 d D) y

-- a signed one by itself, as the caller is handed it
pub whole_signed : (f : Format) (w : Width) (x : ℤ) → SFits w x → of_int f (to_z w (of_z w x)) ≡ of_ratio f x 1
unfolding of_ratio
whole_signed f w x h = ap (of_int f) (to_z-of_z w x h) ∙ int_is f x

-- an integer of 32 bits, rounded to y and then divided by a power of two, is rounded once
pub div-shift : (y : Float) (z : ℤ) (t : ℕ) → y ≡ of_int binary32 z → nat_abs z < 2 ^ 32 → t ≤ 126 → div binary32 y (fin false 1 (pos t)) ≡ of_ratio binary32 z (2 ^ t)
unfolding of_ratio
div-shift y z t e h k = ap over e ∙ go (eq-zero-or-pos (nat_abs z))
  where
    over : Float → Float
    over x = div binary32 x (fin false 1 (pos t))

    go : (nat_abs z ≡ 0) ⊎ (0 < nat_abs z) → over (of_int binary32 z) ≡ round binary32 (below0 z) (nat_abs z) (2 ^ t)
    go (inl n) = div-small binary32 z 0 (pos t) (2 ^ t) (le_trans (le_of_eq n) (lit≤ tt)) (pow_pos t) (one-mul (2 ^ t) ∙ sym (mul-one (2 ^ t)))
    go (inr p) = ap over (int_is binary32 z) ∙ shift-down (below0 z) (nat_abs z) t p h k
