-- Laws by which a reader can trust the definitions: what the signed readings, the rounded fractions and the square root are, in numbers alone. Assumes nothing.
use Rattle.std.proofs.Common.{◌≡◌, ℕ, zero, suc, ◌+◌, ◌-◌, ◌*◌, ◌^◌, ◌<◌, ◌≤◌, Bool, true, false, not, ◌&&◌, T, eqb, ltb, leb, ◌⊎◌, ◌↔◌, ℤ, pos, negsuc, nat_abs, sym, refl, ap, ◌∙◌, subst, inl, inr, le_trans, le_of_eq, lt_of_le_of_lt, lt_irrefl, mul-le-mul_right, mul_assoc, le_antisymm, mul-pos, arith, lit<, eqb→eq, ltb→lt, leb→le, nltb→le, pow_pos, pow_mono, w16, SFits}
use mathlib.Core.Bool.{beq, false≢true}
use lib.Dec.{not_T}
use lib.Signed.{nat_abs-le}
use lib.Ieee.{Float, nan, inf, fin, Format, binary32, binary64, up, down, units, fits}
use lib.Ieee.Bits.{is_true, is_false, of_bits-fits}
use lib.Ieee.Fits.{and_i, and_l, and_r, eq→eqb, round-fits}
use lib.Ieee.Exact.{HasValue, units_val}
use lib.Ieee.Back.{round_whole}
use lib.Ieee.Positive.{positive}
use mir.Syntax.{Width}
use mir.Val.{hbits}
use Rattle.numbers.specs.Choice.{pick}
use Rattle.numbers.specs.Ratio.{signed, below0, of_ratio, is_ratio, parts, entry, exact, Significant}
use Rattle.numbers.specs.Sqrt.{root_by, rooted, sqrt}
use Rattle.numbers.proofs.Halves.{signed_low, signed_high}
use Rattle.numbers.proofs.Quotients.{round-fix}
use Rattle.numbers.proofs.Losses.{signs, wide-exact}
use Rattle.numbers.proofs.Parts.{parts-small}
use Rattle.numbers.proofs.Significant.{significant-held, held-significant, parts-by-256, odd-not}
use Rattle.numbers.proofs.Values.{placed, same_size, value-unique}
use Rattle.numbers.proofs.Root.{square, square-shift, rounded}
use Rattle.numbers.proofs.Rooted.{in-range, written, rooted-at, sqrt-value}
use Rattle.numbers.proofs.Steps.{scaled, scaled-lower, scaled-upper, step-le, steps-le}

-- ---- signed readings

-- Of w bits, a number below the middle stands for itself. From the middle on it stands for what is 2 ^ w less: a negative number, whose size and the bits make 2 ^ w together.
pub signed_range : (w h : ℕ) → h < 2 ^ w
    → ((h < 2 ^ (w - 1)) × (signed w h ≡ pos h)) ⊎ ((2 ^ (w - 1) ≤ h) × (nat_abs (signed w h) + h ≡ 2 ^ w) × (below0 (signed w h) ≡ true))
signed_range w h k = go (ltb h (2 ^ (w - 1))) (ltb→lt h (2 ^ (w - 1))) (nltb→le h (2 ^ (w - 1)))
  where
    go : (b : Bool) → (T b → h < 2 ^ (w - 1)) → (T (not b) → 2 ^ (w - 1) ≤ h)
        → ((h < 2 ^ (w - 1)) × (signed w h ≡ pos h)) ⊎ ((2 ^ (w - 1) ≤ h) × (nat_abs (signed w h) + h ≡ 2 ^ w) × (below0 (signed w h) ≡ true))
    go true y n = inl (y tt, signed_low w h (y tt))
    go false y n =
        let e = signed_high w h (n tt) k in
        inr (n tt, ap (λ (z : ℤ). nat_abs z + h) e ∙ whole, ap below0 e)
      where
        whole : suc (2 ^ w - suc h) + h ≡ 2 ^ w
        whole = omega arith

-- of 16 bits it is an i16
pub half-fits : (h : ℕ) → h < 65536 → SFits w16 (signed 16 h)
half-fits h k = go (ltb h 32768) (ltb→lt h 32768) (nltb→le h 32768)
  where
    go : (b : Bool) → (T b → h < 32768) → (T (not b) → 32768 ≤ h) → SFits w16 (signed 16 h)
    go true y n = subst (SFits w16) (sym (signed_low 16 h (y tt))) (record { sfits = y tt })
    go false y n = subst (SFits w16) (sym (signed_high 16 h (n tt) k)) (record { sfits = omega (arith, n tt) })

-- the ends of 16 bits: 0, 32767, -32768 and -1
pub half-ends : (signed 16 0 ≡ pos 0) × (signed 16 32767 ≡ pos 32767) × (signed 16 32768 ≡ negsuc 32767) × (signed 16 65535 ≡ negsuc 0)
unfolding pick
half-ends = (refl, refl, refl, refl)

-- the ends of 8 bits: 0, 127, -128 and -1
pub byte-ends : (signed 8 0 ≡ pos 0) × (signed 8 127 ≡ pos 127) × (signed 8 128 ≡ negsuc 127) × (signed 8 255 ≡ negsuc 0)
unfolding pick
byte-ends = (refl, refl, refl, refl)

-- ---- fractions

-- an f32 holds each whole number up to 2 ^ 24 in size, sign and all
pub whole-exact : (z : ℤ) → nat_abs z ≤ 2 ^ 24 → HasValue (of_ratio binary32 z 1) (below0 z) (nat_abs z) 1
unfolding of_ratio
whole-exact z h = round_whole binary32 (below0 z) (nat_abs z) h

-- so it holds each number of a signed width of at most 25 bits: every i16 and every i8
pub width-exact : (w : Width) → T (leb (hbits w) 24) → (z : ℤ) → SFits w z → HasValue (of_ratio binary32 z 1) (below0 z) (nat_abs z) 1
width-exact w k z h = whole-exact z (le_trans (nat_abs-le z h.sfits) (pow_mono (leb→le (hbits w) 24 k)))

-- a value of the format that is z / d is what the fraction rounds to
pub ratio-exact : (f : Format) (x : Float) (z : ℤ) (d : ℕ) → 0 < d → T (fits f x) → HasValue x (below0 z) (nat_abs z) d → of_ratio f z d ≡ x
unfolding of_ratio
ratio-exact f x z d h p v = round-fix f x (below0 z) (nat_abs z) d h p v

-- the test passes exactly where x is finite, has the sign of z, and is z / d in size
pub ratio-means : (x : Float) (z : ℤ) (d : ℕ) → (is_ratio x z d ≡ true) ↔ HasValue x (below0 z) (nat_abs z) d
unfolding is_ratio
ratio-means nan z d = (λ e. absurd (false≢true e), λ v. absurd v)
ratio-means (inf s) z d = (λ e. absurd (false≢true e), λ v. absurd v)
ratio-means (fin s m e) z d =
    let A = beq s (below0 z) in
    let B = eqb (m * up e * d) (nat_abs z * down e) in (
      λ q. let t = subst T (sym q) tt in ((signs s (below0 z)).0 (and_l A B t), eqb→eq (m * up e * d) (nat_abs z * down e) (and_r A B t)),
      λ v. is_true (A && B) (and_i A B ((signs s (below0 z)).1 v.0) (eq→eqb v.1)),
    )

-- the mark of a matrix entry says that the f32 is the entry: rounding lost nothing
pub exact-means : (whole : ℤ) (fraction : ℕ) → (exact whole fraction ≡ true) ↔ HasValue (entry whole fraction) (below0 (parts whole fraction)) (nat_abs (parts whole fraction)) 65536
exact-means whole fraction = ratio-means (entry whole fraction) (parts whole fraction) 65536

-- ON WHOLE NUMBERS: it says that the value, in parts of 65536, has at most 24 significant binary digits
pub exact-digits : (whole : ℤ) (fraction : ℕ) → SFits w16 whole → fraction < 65536 → (exact whole fraction ≡ true) ↔ Significant (nat_abs (parts whole fraction))
unfolding of_ratio
exact-digits whole fraction h k =
    let s = below0 (parts whole fraction) in
    let n = nat_abs (parts whole fraction) in
    let m = exact-means whole fraction in (
      λ e. held-significant (entry whole fraction) s n (round-fits binary32 s n 65536) (m.0 e),
      λ d. m.1 (significant-held s n (parts-small whole fraction h k) d),
    )

-- each whole number with so many parts of 256 is exact
pub by-256-exact : (whole : ℤ) (k : ℕ) → SFits w16 whole → k < 256 → exact whole (k * 256) ≡ true
by-256-exact whole k h l = (exact-digits whole (k * 256) h (omega arith)).1 (parts-by-256 whole k h l)

-- so are 0 and both ends of the whole part
pub ends-exact : (exact (pos 0) 0 ≡ true) × (exact (negsuc 32767) 0 ≡ true) × (exact (pos 32767) 0 ≡ true)
ends-exact = (by-256-exact (pos 0) 0 (record { sfits = lit< tt }) (lit< tt), by-256-exact (negsuc 32767) 0 (record { sfits = lit< tt }) (lit< tt), by-256-exact (pos 32767) 0 (record { sfits = lit< tt }) (lit< tt))

-- from 256 on in size no odd fraction is: it has its 25th digit at least
pub odd-lost : (whole : ℤ) (k : ℕ) → SFits w16 whole → 2 * k + 1 < 65536 → 2 ^ 24 ≤ nat_abs (parts whole (2 * k + 1)) → exact whole (2 * k + 1) ≡ false
odd-lost whole k h l g = is_false (exact whole (2 * k + 1)) (not_T (exact whole (2 * k + 1)) (λ t. odd-not whole k l g ((exact-digits whole (2 * k + 1) h l).0 (is_true (exact whole (2 * k + 1)) t))))

-- an f64 holds each number of 32 bits divided by 65536
pub by-wide-exact : (x : ℕ) → x < 2 ^ 32 → HasValue (of_ratio binary64 (pos x) 65536) false x 65536
unfolding of_ratio
by-wide-exact x h = wide-exact false x h

-- ---- the square root

-- y is the square root of x, both above 0, to the nearest. The unit is 2 ^ -149, the smallest f32 above 0.
pub record Brackets (x y : Float) : Type 0 where
  -- x is a units, which is a * 2 ^ 149 squared units
  pub a : ℕ
  pub input : HasValue x false a (2 ^ 149)
  -- y is an f32, r steps of 2 ^ k units
  pub held : T (fits binary32 y)
  pub r : ℕ
  pub k : ℕ
  pub result : HasValue y false (r * 2 ^ k) (2 ^ 149)
  -- r has just the 24 binary digits of an f32, so a step is y's last place
  pub full : 2 ^ 23 ≤ r
  pub few : r < 2 ^ 24
  -- the root has no fewer digits than y: it is at least 2 ^ 23 steps
  pub least : square (2 ^ 23 * 2 ^ k) ≤ a * 2 ^ 149
  -- the square of r - 1/2 steps is below x, and that of r + 1/2 steps above it, with both sides doubled before they are squared
  pub lower : square ((2 * r - 1) * 2 ^ k) < 4 * (a * 2 ^ 149)
  pub upper : 4 * (a * 2 ^ 149) < square ((2 * r + 1) * 2 ^ k)

-- The root of every f32 that is finite and above 0 is bracketed. Both sides are strict, so the root never lies halfway between two f32 values, and the rule for ties never matters.
pub sqrt-brackets : (x : Float) → T (fits binary32 x) → T (positive x) → Brackets x (sqrt binary32 x)
sqrt-brackets nan p h = absurd h
sqrt-brackets (inf s) p h = absurd h
sqrt-brackets (fin true m e) p h = absurd h
sqrt-brackets (fin false zero e) p h = absurd h
sqrt-brackets (fin false (suc m) e) p h =
    let x = fin false (suc m) e in
    let l = placed binary32 false m e p in
    let a = l.digits * 2 ^ l.power in
    let s = scaled l.digits l.some l.few l.power l.within in
    let r = root_by 0 s.m in
    let b = rounded s.m s.least s.most in
    let four : 4 * (a * 2 ^ 149) ≡ 4 * s.m * 4 ^ s.k = ap (λ (n : ℕ). 4 * n) s.is ∙ sym (mul_assoc 4 s.m (4 ^ s.k)) in
    let is : sqrt binary32 x ≡ units binary32 false r s.k =
    sqrt-value x a (mul-pos l.some (pow_pos l.power)) l.value
    ∙ ap (rooted binary32) s.is
    ∙ rooted-at s.m s.k s.least (lt_of_le_of_lt s.most (lit< tt)) in
    record {
      a = a;
      input = l.value;
      held = subst (λ (y : Float). T (fits binary32 y)) (written s.k r s.range b.full b.few ∙ sym is) (of_bits-fits binary32 (s.k * 8388608 + r));
      r = r;
      k = s.k;
      result = subst (λ (y : Float). HasValue y false (r * 2 ^ s.k) (2 ^ 149)) (sym is) (units_val binary32 false r s.k (in-range r s.k b.few s.range));
      full = b.full;
      few = b.few;
      least = le_trans (le_of_eq (sym (square-shift (2 ^ 23) s.k))) (le_trans (mul-le-mul_right (4 ^ s.k) s.least) (le_of_eq (sym s.is)));
      lower = scaled-lower (2 * r - 1) s.k four b.lower;
      upper = scaled-upper (2 * r + 1) s.k four b.upper;
    }

-- No two values are bracketed for one x, so the root is the only one.
pub brackets-only : (x y z : Float) → Brackets x y → Brackets x z → y ≡ z
brackets-only x y z b c =
    let ea : c.a ≡ b.a = same_size x false c.a b.a (2 ^ 149) c.input b.input in
    let n = b.a * 2 ^ 149 in
    let least : square (2 ^ 23 * 2 ^ c.k) ≤ n = subst (λ (a : ℕ). square (2 ^ 23 * 2 ^ c.k) ≤ a * 2 ^ 149) ea c.least in
    let lower : square ((2 * c.r - 1) * 2 ^ c.k) < 4 * n = subst (λ (a : ℕ). square ((2 * c.r - 1) * 2 ^ c.k) < 4 * (a * 2 ^ 149)) ea c.lower in
    let upper : 4 * n < square ((2 * c.r + 1) * 2 ^ c.k) = subst (λ (a : ℕ). 4 * (a * 2 ^ 149) < square ((2 * c.r + 1) * 2 ^ c.k)) ea c.upper in
    let ek : c.k ≡ b.k = le_antisymm (step-le n c.k b.r b.k least b.few b.upper) (step-le n b.k c.r c.k b.least c.few upper) in
    let er : c.r ≡ b.r =
    le_antisymm (steps-le (4 * n) b.k c.r b.r (subst (λ (k : ℕ). square ((2 * c.r - 1) * 2 ^ k) < 4 * n) ek lower) b.upper)
    (steps-le (4 * n) b.k b.r c.r b.lower (subst (λ (k : ℕ). 4 * n < square ((2 * c.r + 1) * 2 ^ k)) ek upper)) in
    value-unique binary32 y z false (b.r * 2 ^ b.k) (2 ^ 149) (pow_pos 149) b.held c.held b.result
    (subst (λ (k : ℕ). HasValue z false (b.r * 2 ^ k) (2 ^ 149)) ek (subst (λ (r : ℕ). HasValue z false (r * 2 ^ c.k) (2 ^ 149)) er c.result))

-- the roots that are not of a number above 0, in any format: of a NaN a NaN, of +infinity itself, of -infinity a NaN
pub sqrt_ends : (f : Format) → (sqrt f nan ≡ nan) × (sqrt f (inf false) ≡ inf false) × (sqrt f (inf true) ≡ nan)
unfolding sqrt
sqrt_ends f = (refl, refl, refl)

-- of +0 and of -0 itself
pub sqrt-zero : (f : Format) (s : Bool) → sqrt f (fin s 0 (pos 0)) ≡ fin s 0 (pos 0)
unfolding sqrt
sqrt-zero f s = refl

-- of each finite number below 0 a NaN
pub sqrt_negative : (f : Format) (m : ℕ) (e : ℤ) → 0 < m → sqrt f (fin true m e) ≡ nan
unfolding sqrt
sqrt_negative f zero e h = absurd (lt_irrefl 0 h)
sqrt_negative f (suc m) e h = refl
