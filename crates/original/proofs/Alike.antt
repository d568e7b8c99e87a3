-- The small pieces of the original and of the stage are alike: flags, products, comparisons, clip code, screen z, pops, fog, lights. Assumes nothing.
use mathlib.Core.Path.{◌≡◌, refl, sym, ap, ap₂, ◌∙◌}
use Prim.Native.Nat.{ℕ, zero, suc, ◌+◌, ◌-◌, ◌*◌, ◌/◌, ◌%◌, ◌^◌, ◌≤◌, ◌<◌}
use native.Mathlib.Nat.{zero-add, zero-mul, one-mul, mul-div_cancel}
use native.Mathlib.Numerals.{add-one}
use native.Mathlib.Omega.{arith}
use mathlib.Core.Bool.{Bool, true, false, not, ◌&&◌, ◌||◌, cond, beq, and_assoc, and-true}
use mathlib.Core.List.{List, [], ◌∷◌, ◌++◌, map, map-append}
use mathlib.Core.Option.{Option, none, some}
use lib.ListN.{length, get_or}
use lib.Bits.{bit_and, bit_xor, and_high, xor_shr, xor_mod, or_shifted_r}
use lib.Pow.{pow_pos, pow-add, shr-shr}
use lib.Dec.{eqb, ltb}
use lib.IntN.{ℤ, pos}
use lib.Ieee.{Float, nan, binary32, div, neg, lt, eq, ne}
use lib.Ieee.Scale.{finite}
use borrow.Author.Tests.{ltb-true, ltb-false, eqb-true, eqb-false, eq-eqb, ne_eqb}
use Rattle.areas.specs.Area.{matches, Wide}
use Rattle.areas.specs.Widths.{fog_width}
use Rattle.numbers.specs.Length.{length_of}
use Rattle.matrix.specs.Math.{prod, times, row_times, col_times, laid}
use Rattle.matrix.specs.Clip.{bit_of, bits_of, all_finite, code_of, screen_of, depth_of}
use Rattle.std.specs.Prelude as here
use Rattle.std.specs.Bool.{then_some}
use Rattle.decide.specs.Family.{f3dex2, flag, lit, texgen_mode}
use Rattle.decide.specs.Stack.{popped, relit}
use Rattle.triangle.specs.Slot.{both, culls, swaps}
use Rattle.fold.specs.Direction.{three, folded}
use Rattle.fold.specs.Fog.{find}
use Rattle.fold.specs.Lights.{light_entry, directional}
use Rattle.fold.specs.Lookat.{lookat_entry}
use Rattle.original.specs.Math.{f0, f1, ix, mul4, mul_row_vec4, mul_col_vec3}
use Rattle.original.specs.Rsp.{has, g_mtx_push, g_mtx_load, g_mtx_projection, g_lighting, g_texture_gen, g_texture_gen_linear, g_fog_geom, g_cull_front, g_cull_both, eq_mat, eq_entry, last_is, popped_size}
use Rattle.original.specs.Drawing.{eq2, unit_length, fold_lights, texgen_of, position, plane, clip_code, screen_z_of}
use Rattle.original.proofs.Choices.{chosen}
use Rattle.numbers.specs.Choice.{pick}

-- ---- flags

-- multiples of the same number
multiples : (a b p : ℕ) → 0 < p → eqb (a * p) (b * p) ≡ eqb a b
multiples a b p h = go (eqb a b) refl
  where
    go : (t : Bool) → eqb a b ≡ t → eqb (a * p) (b * p) ≡ t
    go true e = eq-eqb (a * p) (b * p) (ap (λ (n : ℕ). n * p) (eqb-true a b e))
    go false e = ne_eqb (a * p) (b * p) (λ q. eqb-false a b e (sym (mul-div_cancel a h) ∙ ap (λ (n : ℕ). n / p) q ∙ mul-div_cancel b h))

-- a mask of one bit picks that bit
and-bit : (x k : ℕ) → bit_and x (2 ^ k) ≡ (x / 2 ^ k % 2) * 2 ^ k
and-bit x k =
    let e : 2 ^ k ≡ 2 ^ (1 + k) - 2 ^ k = rw (pow-add 2 1 k) (omega arith) in
    ap (bit_and x) e ∙ and_high x 1 k

-- the test by a mask of one bit is the test of the flag
pub has-flag : (x k : ℕ) → has x (2 ^ k) ≡ flag (2 ^ k) x
has-flag x k = rw (and-bit x k) (shifted (x / 2 ^ k % 2) (2 ^ k) (omega arith) (pow_pos k))
  where
    shifted : (b p : ℕ) → b < 2 → 0 < p → not (eqb (b * p) 0) ≡ eqb b 1
    shifted zero p h q = rw zero-mul
    shifted (suc zero) p h q = rw (one-mul p, ne_eqb p 0 (λ e. omega arith))
    shifted (suc (suc b)) p h q = absurd (omega arith)

-- a flag differs
differs : (k old new : ℕ) → has (bit_xor old new) (2 ^ k) ≡ not (beq (flag (2 ^ k) old) (flag (2 ^ k) new))
differs k old new =
    has-flag (bit_xor old new) k
    ∙ ap (λ (n : ℕ). eqb n 1) (ap (λ (n : ℕ). n % 2) (xor_shr old new k) ∙ xor_mod (old / 2 ^ k) (new / 2 ^ k) 1)
    ∙ bits (old / 2 ^ k % 2) (new / 2 ^ k % 2) (omega arith) (omega arith)
  where
    bits : (a b : ℕ) → a < 2 → b < 2 → eqb (bit_xor a b) 1 ≡ not (beq (eqb a 1) (eqb b 1))
    bits zero zero h k = refl
    bits zero (suc zero) h k = refl
    bits zero (suc (suc b)) h k = absurd (omega arith)
    bits (suc zero) zero h k = refl
    bits (suc zero) (suc zero) h k = refl
    bits (suc zero) (suc (suc b)) h k = absurd (omega arith)
    bits (suc (suc a)) b h k = absurd (omega arith)

-- two bits side by side, by the number that they are
four : (q : ℕ) → q < 4 → (eqb q 3 ≡ eqb (q % 2) 1 && eqb (q / 2) 1) × (eqb q 1 ≡ eqb (q % 2) 1 && not (eqb (q / 2) 1)) × (not (eqb q 0) ≡ eqb (q % 2) 1 || eqb (q / 2) 1)
four zero h = (refl, refl, refl)
four (suc zero) h = (refl, refl, refl)
four (suc (suc zero)) h = (refl, refl, refl)
four (suc (suc (suc zero))) h = (refl, refl, refl)
four (suc (suc (suc (suc q)))) h = absurd (omega arith)

-- the tests of two flags by one mask, of values side by side: both set, the lower alone, one at least
pub record Adjacent (k g : ℕ) : Type 0 where
  pub both : eqb (bit_and g (3 * 2 ^ k)) (3 * 2 ^ k) ≡ flag (2 ^ k) g && flag (2 ^ (k + 1)) g
  pub lower : eqb (bit_and g (3 * 2 ^ k)) (2 ^ k) ≡ flag (2 ^ k) g && not (flag (2 ^ (k + 1)) g)
  pub some : not (eqb (bit_and g (3 * 2 ^ k)) 0) ≡ flag (2 ^ k) g || flag (2 ^ (k + 1)) g

pub adjacent : (k g : ℕ) → Adjacent k g
adjacent k g =
    record {
      both = rw (masked, first, second, multiples (g / 2 ^ k % 4) 3 (2 ^ k) (pow_pos k)) (four (g / 2 ^ k % 4) (omega arith)).0;
      lower = rw (masked, first, second) (ap (eqb (g / 2 ^ k % 4 * 2 ^ k)) (sym (one-mul (2 ^ k))) ∙ multiples (g / 2 ^ k % 4) 1 (2 ^ k) (pow_pos k) ∙ (four (g / 2 ^ k % 4) (omega arith)).1);
      some = rw (masked, first, second) (ap not (ap (eqb (g / 2 ^ k % 4 * 2 ^ k)) (sym (zero-mul (2 ^ k))) ∙ multiples (g / 2 ^ k % 4) 0 (2 ^ k) (pow_pos k)) ∙ (four (g / 2 ^ k % 4) (omega arith)).2);
    }
  where
    masked : bit_and g (3 * 2 ^ k) ≡ g / 2 ^ k % 4 * 2 ^ k
    masked =
        let e : 3 * 2 ^ k ≡ 2 ^ (2 + k) - 2 ^ k = rw (pow-add 2 2 k) (omega arith) in
        ap (bit_and g) e ∙ and_high g 2 k

    first : g / 2 ^ k % 2 ≡ g / 2 ^ k % 4 % 2
    first = omega arith

    second : g / 2 ^ (k + 1) % 2 ≡ g / 2 ^ k % 4 / 2
    second =
        let e : g / 2 ^ k / 2 % 2 ≡ g / 2 ^ k % 4 / 2 = omega arith in
        ap (λ (n : ℕ). n % 2) (sym (shr-shr g k 1)) ∙ e

-- ---- F3DEX2's constants, each by its power of two

pub has-lighting : (g : ℕ) → has g g_lighting ≡ lit f3dex2 g
has-lighting g = has-flag g 17

has-texgen : (g : ℕ) → has g g_texture_gen ≡ flag f3dex2.texgen g
has-texgen g = has-flag g 18

has-linear : (g : ℕ) → has g g_texture_gen_linear ≡ flag f3dex2.linear g
has-linear g = has-flag g 19

pub has-fog : (g : ℕ) → has g g_fog_geom ≡ flag f3dex2.fog g
has-fog g = has-flag g 16

pub has_push : (p : ℕ) → has p g_mtx_push ≡ flag f3dex2.push p
has_push p = has-flag p 0

pub has-load : (p : ℕ) → has p g_mtx_load ≡ flag f3dex2.load p
has-load p = has-flag p 1

pub has-projection : (p : ℕ) → has p g_mtx_projection ≡ flag f3dex2.projection p
has-projection p = has-flag p 2

-- the texgen mode
pub texgen-same : (g : ℕ) → texgen_of (has g g_lighting) g ≡ texgen_mode f3dex2 g
unfolding texgen_of texgen_mode
texgen-same g =
    ap₂ (λ (a b : Bool). cond (a && b) (cond (has g g_texture_gen_linear) 2 1) 0) (has-lighting g) (has-texgen g)
    ∙ ap (λ (c : Bool). cond {A = ℕ} (lit f3dex2 g && flag f3dex2.texgen g) (cond c 2 1) 0) (has-linear g)
    ∙ chosen {A = ℕ} (lit f3dex2 g && flag f3dex2.texgen g) (cond (flag f3dex2.linear g) 2 1) 0
    ∙ ap (λ (n : ℕ). pick (lit f3dex2 g && flag f3dex2.texgen g) n 0) (chosen (flag f3dex2.linear g) 2 1)

-- the lighting bit changes
pub relit-same : (old new : ℕ) → has (bit_xor old new) g_lighting ≡ relit f3dex2 old new
unfolding relit
relit-same old new = differs 17 old new

-- the cull bits: both, front alone, one at least
pub culling : (g : ℕ) → (eqb (bit_and g g_cull_both) g_cull_both ≡ both f3dex2 g) × (eqb (bit_and g g_cull_both) g_cull_front ≡ swaps f3dex2 g) × (not (eqb (bit_and g g_cull_both) 0) ≡ culls f3dex2 g)
culling g = let a = adjacent 9 g in (a.both, a.lower, a.some)

-- ---- products

-- a product of matrices
pub mul4-same : (a b : List (List Float)) → mul4 a b ≡ times a b
unfolding mul4 times
mul4-same a b = refl

-- a row times a matrix
pub row_same : (v : List Float) (m : List (List Float)) → mul_row_vec4 v m ≡ row_times v m
unfolding mul_row_vec4 row_times
row_same v m = refl

-- a direction folded
pub folded-same : (m : List (List Float)) (v : List Float) → unit_length (mul_col_vec3 m v) ≡ folded m v
unfolding unit_length mul_col_vec3 folded col_times
folded-same m v =
    let o = mul_col_vec3 m v in
    let l = length_of (ix o 0) (ix o 1) (ix o 2) in
    ap (λ (i : Float). prod (ix o 0) i ∷ prod (ix o 1) i ∷ prod (ix o 2) i ∷ []) (chosen (lt f0 l) (div binary32 f1 l) f0)

-- ---- comparisons

-- matrices
pub mat-same : (a b : List (List Float)) → eq_mat a b ≡ matches eq (laid a) (laid b)
unfolding eq_mat matches laid
mat-same a b = simp (and_assoc, and-true)

module _ {A : Type 0} where
  -- a list of two, by its elements
  pub two_is : (l : List A) (d : A) → length l ≡ 2 → l ≡ get_or l 0 d ∷ get_or l 1 d ∷ []
  two_is [] d h = absurd (omega arith)
  two_is (x ∷ []) d h = absurd (omega arith)
  two_is (x ∷ y ∷ []) d h = refl
  two_is (x ∷ y ∷ z ∷ l) d h = absurd (omega arith)

  -- a list of three, by its elements
  pub three-is : (l : List A) (d : A) → length l ≡ 3 → l ≡ get_or l 0 d ∷ get_or l 1 d ∷ get_or l 2 d ∷ []
  three-is [] d h = absurd (omega arith)
  three-is (x ∷ []) d h = absurd (omega arith)
  three-is (x ∷ y ∷ []) d h = absurd (omega arith)
  three-is (x ∷ y ∷ z ∷ []) d h = refl
  three-is (x ∷ y ∷ z ∷ w ∷ l) d h = absurd (omega arith)

-- entries of the viewport table: scale and translation, three numbers each
pub entry-same : (s t u v : List Float) → length s ≡ 3 → length t ≡ 3 → length u ≡ 3 → length v ≡ 3 → eq_entry (s, t) (u, v) ≡ matches eq (s ++ t) (u ++ v)
unfolding matches
entry-same s t u v hs ht hu hv =
    rw (three-is s nan hs, three-is t nan ht, three-is u nan hu, three-is v nan hv) (simp (and_assoc, and-true))

-- pairs of numbers
pub pair_same : (a b : List Float) → length a ≡ 2 → length b ≡ 2 → eq2 a b ≡ matches eq a b
unfolding matches
pair_same a b ha hb = rw (two_is a nan ha, two_is b nan hb) (simp and-true)

-- ---- the clip code and the screen z

-- a plane's bit above a code is added
pub plane-adds : (b : Bool) (k code : ℕ) → code < 2 ^ k → plane b k code ≡ code + bit_of b (2 ^ k)
unfolding pick
plane-adds true k code h = or_shifted_r 1 k code h ∙ rw (one-mul (2 ^ k)) (omega arith)
plane-adds false k code h = or_shifted_r 0 k code h ∙ rw (zero-mul (2 ^ k)) (omega arith)

-- the same after codes that are equal
pub next-plane : (b : Bool) (k code sum : ℕ) → code ≡ sum → sum < 2 ^ k → plane b k code ≡ sum + bit_of b (2 ^ k)
next-plane b k code sum e h = ap (λ (n : ℕ). plane b k n) e ∙ plane-adds b k sum h

-- a bit is at most its weight
pub bit_le : (b : Bool) (n : ℕ) → bit_of b n ≤ n
unfolding pick
bit_le true n = omega arith
bit_le false n = omega arith

-- the six planes are a sum
pub planes-sum : (a b c d e f : Bool) → plane f 5 (plane e 4 (plane d 3 (plane c 2 (plane b 1 (plane a 0 0)))))
    ≡ bit_of a 1 + bit_of b 2 + bit_of c 4 + bit_of d 8 + bit_of e 16 + bit_of f 32
planes-sum a b c d e f =
    let ha : bit_of a 1 ≤ 1 = bit_le a 1 in
    let hb : bit_of b 2 ≤ 2 = bit_le b 2 in
    let hc : bit_of c 4 ≤ 4 = bit_le c 4 in
    let hd : bit_of d 8 ≤ 8 = bit_le d 8 in
    let he : bit_of e 16 ≤ 16 = bit_le e 16 in
    let s1 : plane a 0 0 ≡ bit_of a 1 = plane-adds a 0 0 (omega arith) ∙ zero-add (bit_of a 1) in
    let s2 = next-plane b 1 (plane a 0 0) (bit_of a 1) s1 (omega arith) in
    let s3 = next-plane c 2 _ (bit_of a 1 + bit_of b 2) s2 (omega arith) in
    let s4 = next-plane d 3 _ (bit_of a 1 + bit_of b 2 + bit_of c 4) s3 (omega arith) in
    let s5 = next-plane e 4 _ (bit_of a 1 + bit_of b 2 + bit_of c 4 + bit_of d 8) s4 (omega arith) in
    next-plane f 5 _ (bit_of a 1 + bit_of b 2 + bit_of c 4 + bit_of d 8 + bit_of e 16) s5 (omega arith)

-- the original's option of what the stage has as one
abbrev pub told : {A : Type 0} → here.Option A → Option A
told here.None = none
told (here.Some x) = some x

-- a test that lets a value through is a choice between that and none
pub told-then : {A : Type 0} (t : Bool) (x : A) → cond t (some x) none ≡ told (then_some t x)
told-then true x = refl
told-then false x = refl

-- the clip code
pub code_same : (p : List Float) → clip_code p ≡ told (code_of p)
unfolding clip_code code_of bits_of
code_same p =
    let x = ix p 0 in
    let y = ix p 1 in
    let z = ix p 2 in
    let w = ix p 3 in
    let e : finite x && (finite y && (finite z && finite w)) ≡ all_finite p = simp and_assoc in
    ap₂ (λ (t : Bool) (n : ℕ). cond {A = Option ℕ} t (some n) none) e (planes-sum (lt x (neg w)) (lt w x) (lt y (neg w)) (lt w y) (lt z (neg w)) (lt w z))
    ∙ told-then (all_finite p) (bits_of p)

-- the original's two tests in turn are the stage's test
pub depth_is : (e f : Bool) (z : Float) → cond {A = Option Float} e none (cond f (some z) none) ≡ told (then_some (true && not e && f) z)
depth_is true f z = refl
depth_is false true z = refl
depth_is false false z = refl

-- the screen z, by the code
pub screen-by : (o : here.Option ℕ) (p scale trans : List Float)
    → screen_z_of (told o) p scale trans ≡ told (depth_of p (here.is_some o) (ix scale 2) (ix trans 2))
unfolding screen_z_of depth_of screen_of ne
screen-by (here.Some n) p scale trans = depth_is (eq (ix p 3) f0) (finite (screen_of p (ix scale 2) (ix trans 2))) (screen_of p (ix scale 2) (ix trans 2))
screen-by here.None p scale trans = refl

-- the screen z
pub screen-same : (p scale trans : List Float)
    → screen_z_of (clip_code p) p scale trans ≡ told (depth_of p (here.is_some (code_of p)) (ix scale 2) (ix trans 2))
screen-same p scale trans = ap (λ (o : Option ℕ). screen_z_of o p scale trans) (code_same p) ∙ screen-by (code_of p) p scale trans

-- ---- pops

-- the depth after pops
pub popped-same : (count size : ℕ) → 1 ≤ size → popped_size count size ≡ popped count size
unfolding popped_size popped
popped-same zero size h = omega arith
popped-same (suc count) size h = go (popped-same count) (ltb 1 size) refl
  where
    go : ((s : ℕ) → 1 ≤ s → popped_size count s ≡ popped count s) → (b : Bool) → ltb 1 size ≡ b → popped_size count (cond b (size - 1) size) ≡ popped (suc count) size
    go ih true e = let k : 1 < size = ltb-true 1 size e in ih (size - 1) (omega arith) ∙ omega arith
    go ih false e = let k : size ≤ 1 = ltb-false 1 size e in ih size h ∙ omega arith

-- ---- fog

-- the place of a pair
pub position-same : (es : List (List ℤ)) (m o : ℤ) → Wide fog_width es → position es m o ≡ find es (m ∷ o ∷ [])
unfolding position find matches
position-same [] m o h = refl
position-same (e ∷ es) m o h = rw (two_is e (pos 0) h.0, and-true, position-same es m o h.1, add-one) (chosen _ _ _)

-- ---- the last of a list

-- the last of a list that is not empty
pub last-final : {A : Type 0} (same : A → A → Bool) (l : List A) (x d : A) → 0 < length l → last_is same l x ≡ same (get_or l (length l - 1) d) x
unfolding last_is
last-final same [] x d h = absurd (omega arith)
last-final same (y ∷ []) x d h = refl
last-final same (y ∷ z ∷ l) x d h =
    let e : suc (length l) - 1 ≡ length l = omega arith in
    let f : suc (suc (length l)) - 1 ≡ suc (length l) = omega arith in
    last-final same (z ∷ l) x d (omega arith)
    ∙ ap (λ (n : ℕ). same (get_or (z ∷ l) n d) x) e
    ∙ sym (ap (λ (n : ℕ). same (get_or (y ∷ z ∷ l) n d) x) f)

-- ---- lights

-- the entries of the first n lights
pub lights-same : (mv : List (List Float)) (lights : List (List Float × List Float)) (n : ℕ) (ds cs : List Float)
    → ((k : ℕ) → k < n → ((get_or lights k ([], [])).0 ≡ three ds (3 * k)) × ((get_or lights k ([], [])).1 ≡ three cs (3 * k)))
    → map (λ (e : List Float × List Float). e.0 ++ e.1) (fold_lights mv lights n) ≡ directional mv ds cs n
unfolding fold_lights directional light_entry
lights-same mv lights zero ds cs h = refl
lights-same mv lights (suc n) ds cs h =
    let join : List Float × List Float → List Float = λ e. e.0 ++ e.1 in
    let light : List Float × List Float = (unit_length (mul_col_vec3 mv (get_or lights n ([], [])).0), (get_or lights n ([], [])).1) in
    let e : ((get_or lights n ([], [])).0 ≡ three ds (3 * n)) × ((get_or lights n ([], [])).1 ≡ three cs (3 * n)) = h n (omega arith) in
    let last : join light ≡ folded mv (three ds (3 * n)) ++ three cs (3 * n) =
    ap₂ (λ (a b : List Float). unit_length (mul_col_vec3 mv a) ++ b) e.0 e.1
    ∙ ap (λ (a : List Float). a ++ three cs (3 * n)) (folded-same mv (three ds (3 * n))) in
    map-append join (fold_lights mv lights n) (light ∷ [])
    ∙ ap₂ (λ (a : List (List Float)) (b : List Float). a ++ b ∷ []) (lights-same mv lights n ds cs (λ k l. h k (omega arith))) last

-- the entry of the lookat axes
pub lookat-same : (mv axes : List (List Float)) (l : List Float) → get_or axes 0 [] ≡ three l 0 → get_or axes 1 [] ≡ three l 3
    → unit_length (mul_col_vec3 mv (get_or axes 0 [])) ++ unit_length (mul_col_vec3 mv (get_or axes 1 [])) ≡ lookat_entry mv l
unfolding lookat_entry
lookat-same mv axes l p q = rw (p, q, folded-same mv (three l 0), folded-same mv (three l 3))
