-- The original's readers of bytes and of words give what the stage's definitions give, wherever the read lies inside the bytes. Assumes nothing.
use mathlib.Core.Path.{◌≡◌, refl, sym, ap, ◌∙◌}
use Prim.Native.Nat.{ℕ, ◌+◌, ◌-◌, ◌*◌, ◌/◌, ◌%◌, ◌^◌, ◌≤◌, ◌<◌}
use native.Mathlib.Nat.{le_trans, le_of_lt, lt_of_le_of_lt, lt_of_lt_of_le, mod-eq_of_lt, mul_assoc, mul_comm, mul-one, one-mul, add_assoc}
use native.Mathlib.Omega.{arith}
use mathlib.Core.Bool.{Bool, true, false, not}
use mathlib.Core.List.{List, [], ◌∷◌}
use lib.ListN.{length, get_or}
use lib.IntN.{ℤ, pos, negsuc}
use lib.Dec.{T, ltb, ltb→lt, nltb→le, lit≤, lit<}
use lib.Pow.{pow-add, pow_pos, pow_mono, shl_lt}
use lib.Signed.{mag, nat_abs-le}
use lib.Ieee.{Float, nan, inf, fin, Format, binary32, binary64, up, down, round, div, of_int, minus}
use lib.Ieee.Fits.{down_pos}
use lib.Ieee.Exact.{HasValue, round_exact}
use lib.Ieee.Scale.{round_same}
use mir.Syntax.{w16}
use mir.Val.{SFits}
use Rattle.numbers.specs.Ratio.{signed, of_ratio, parts, entry}
use Rattle.numbers.proofs.Halves.{signed_low, signed_high}
use Rattle.numbers.proofs.Parts.{parts-small}
use Rattle.numbers.proofs.Quotients.{div-small, div-shift}
use Rattle.layout.specs.Layout.{byte_at, half_at, word_at, signed_at, ratio_at, entry_at, row_at, matrix_at, vertex_at, triple_at, colour_at, axis_at, direction_at}
use Rattle.change.specs.Decoded.{reversed, high_by, low_by}
use Rattle.original.specs.Memory.{read_u8, read_u16, read_i16, as_i16, as_i8, cell, cells, read_matrix, read_vertex}
use Rattle.original.specs.Rsp.{vp3, unorm, snorm, col3, dir3}
use Rattle.original.specs.Drawing.{from_le, as_f32, tc_scale, tg_scale, high_half, low_half, over32, over4, swap_bytes}
use Rattle.original.proofs.Choices.{chosen}

-- each byte is below 256
abbrev pub Bytes : List ℕ → Type 0
Bytes b = (i : ℕ) → get_or b i 0 < 256

-- ---- bytes and halves

-- a byte inside is read where it lies
pub byte-same : (b : List ℕ) (i : ℕ) → Bytes b → length b ≤ 16777216 → i < length b → read_u8 b i ≡ get_or b i 0
byte-same b i hb hl h = ap (λ (n : ℕ). get_or b n 0) (mod-eq_of_lt (lt_of_lt_of_le h hl))

-- so are two
pub half-same : (b : List ℕ) (i : ℕ) → Bytes b → length b ≤ 16777216 → i + 2 ≤ length b → read_u16 b i ≡ half_at b i
half-same b i hb hl h = rw (byte-same b i hb hl (omega arith), byte-same b (i + 1) hb hl (omega arith))

-- two bytes are below 2 ^ 16
pub half-below : (b : List ℕ) (i : ℕ) → Bytes b → half_at b i < 65536
half-below b i hb = omega (arith, hb i, hb (i + 1))

-- ---- numbers with a sign

-- w bits read with their sign: the number lies between -2 ^ (w - 1) and 2 ^ (w - 1) - 1
pub signed_below : (w n : ℕ) → 2 ^ w ≡ 2 ^ (w - 1) + 2 ^ (w - 1) → n < 2 ^ w → mag (signed w n) < 2 ^ (w - 1)
signed_below w n e h = go (ltb n (2 ^ (w - 1))) (ltb→lt n (2 ^ (w - 1))) (nltb→le n (2 ^ (w - 1)))
  where
    go : (t : Bool) → (T t → n < 2 ^ (w - 1)) → (T (not t) → 2 ^ (w - 1) ≤ n) → mag (signed w n) < 2 ^ (w - 1)
    go true y z = rw (signed_low w n (y tt)) (y tt)
    go false y z = rw (signed_high w n (z tt) h) (omega (arith, z tt))

-- an integer as a float is the fraction over 1
pub int_same : (f : Format) (z : ℤ) → of_int f z ≡ of_ratio f z 1
unfolding of_int of_ratio
int_same f (pos n) = refl
int_same f (negsuc n) = refl

-- sixteen bits, and eight, read with their sign
pub i16-same : (n : ℕ) → as_i16 n ≡ signed 16 n
i16-same n = chosen (ltb n 32768) (pos n) (minus n 65536)

pub i8-same : (n : ℕ) → as_i8 n ≡ signed 8 n
i8-same n = chosen (ltb n 128) (pos n) (minus n 256)

-- sixteen bits divided by a power of two are rounded once
pub over-same : (n t : ℕ) → n < 65536 → t ≤ 126 → div binary32 (of_int binary32 (as_i16 n)) (fin false 1 (pos t)) ≡ of_ratio binary32 (signed 16 n) (2 ^ t)
over-same n t h k = ap (λ (z : ℤ). div binary32 (of_int binary32 z) (fin false 1 (pos t))) (i16-same n) ∙ div-shift (of_int binary32 (signed 16 n)) (signed 16 n) t refl (lt_of_le_of_lt (nat_abs-le (signed 16 n) (signed_below 16 n refl h)) (lit< tt)) k

-- a half inside, read with its sign
pub signed_same : (b : List ℕ) (i : ℕ) → Bytes b → length b ≤ 16777216 → i + 2 ≤ length b → read_i16 b i ≡ signed_at b i
signed_same b i hb hl h = ap as_i16 (half-same b i hb hl h) ∙ i16-same (half_at b i)

-- and divided by a power of two
pub ratio-same : (b : List ℕ) (i t : ℕ) → Bytes b → length b ≤ 16777216 → i + 2 ≤ length b → t ≤ 126
    → div binary32 (of_int binary32 (read_i16 b i)) (fin false 1 (pos t)) ≡ ratio_at b i (2 ^ t)
ratio-same b i t hb hl h k = ap (λ (n : ℕ). div binary32 (of_int binary32 (as_i16 n)) (fin false 1 (pos t))) (half-same b i hb hl h) ∙ over-same (half_at b i) t (half-below b i hb) k

-- ---- a matrix

-- a matrix entry's two halves as one number, divided by 65536
pub entry-same : (n x : ℕ) → n < 65536 → x < 65536 → div binary32 (of_int binary32 (parts (as_i16 n) x)) (fin false 1 (pos 16)) ≡ entry (signed 16 n) x
entry-same n x h k =
    let a : SFits w16 (signed 16 n) = record { sfits = signed_below 16 n refl h } in
    ap (λ (z : ℤ). div binary32 (of_int binary32 (parts z x)) (fin false 1 (pos 16))) (i16-same n)
    ∙ div-shift (of_int binary32 (parts (signed 16 n) x)) (parts (signed 16 n) x) 16 refl (parts-small (signed 16 n) x a k) (lit≤ tt)

-- cell k, at either form of its place
pub cell_same : (b : List ℕ) (at k : ℕ) → Bytes b → length b ≤ 16777216 → at + 64 ≤ length b → k < 16 → cell b at k ≡ entry_at b at k
unfolding entry_at
cell_same b at k hb hl h K =
    ap (λ (j : ℕ). cell_at (at + j) (at + 32 + j)) (mul_comm k 2)
    ∙ ap (λ (n : ℕ). cell_of n (read_u16 b (at + 32 + 2 * k))) (half-same b (at + 2 * k) hb hl (omega arith))
    ∙ ap (λ (n : ℕ). cell_of (half_at b (at + 2 * k)) n) (half-same b (at + 32 + 2 * k) hb hl (omega arith))
    ∙ entry-same (half_at b (at + 2 * k)) (half_at b (at + 32 + 2 * k)) (half-below b (at + 2 * k) hb) (half-below b (at + 32 + 2 * k) hb)
  where
    cell_of : ℕ → ℕ → Float
    cell_of n x = div binary32 (of_int binary32 (parts (as_i16 n) x)) (fin false 1 (pos 16))

    cell_at : ℕ → ℕ → Float
    cell_at i j = cell_of (read_u16 b i) (read_u16 b j)

-- cells k to k + 3
pub row_same : (b : List ℕ) (at k : ℕ) → Bytes b → length b ≤ 16777216 → at + 64 ≤ length b → k ≤ 12 → cells b at k ≡ row_at b at k
unfolding row_at
row_same b at k hb hl h K =
    let e0 = cell_same b at k hb hl h (omega arith) in
    let e1 = cell_same b at (k + 1) hb hl h (omega arith) in
    let e2 = cell_same b at (k + 2) hb hl h (omega arith) in
    let e3 = cell_same b at (k + 3) hb hl h (omega arith) in
    λ i. e0 i ∷ e1 i ∷ e2 i ∷ e3 i ∷ []

-- a matrix inside is the same
pub matrix-same : (b : List ℕ) (at : ℕ) → Bytes b → length b ≤ 16777216 → at + 64 ≤ length b → read_matrix b at ≡ matrix_at b at
unfolding read_matrix matrix_at
matrix-same b at hb hl h =
    let e0 = row_same b at 0 hb hl h (lit≤ tt) in
    let e1 = row_same b at 4 hb hl h (lit≤ tt) in
    let e2 = row_same b at 8 hb hl h (lit≤ tt) in
    let e3 = row_same b at 12 hb hl h (lit≤ tt) in
    λ i. e0 i ∷ e1 i ∷ e2 i ∷ e3 i ∷ []

-- ---- a viewport's triple, a colour, a direction, a vertex

-- three halves divided by 4, 4 and 1024
pub triple-same : (b : List ℕ) (at : ℕ) → Bytes b → length b ≤ 16777216 → at + 6 ≤ length b → vp3 b at ≡ triple_at b at
unfolding triple_at
triple-same b at hb hl h =
    let e0 = ratio-same b at 2 hb hl (omega arith) (lit≤ tt) in
    let e1 = ratio-same b (at + 2) 2 hb hl (omega arith) (lit≤ tt) in
    let e2 = ratio-same b (at + 4) 10 hb hl (omega arith) (lit≤ tt) in
    λ i. e0 i ∷ e1 i ∷ e2 i ∷ []

-- a byte divided by 255
pub unorm-same : (b : List ℕ) (i : ℕ) → Bytes b → length b ≤ 16777216 → i < length b → unorm b i ≡ of_ratio binary32 (pos (byte_at b i)) 255
unorm-same b i hb hl h =
    ap (λ (n : ℕ). div binary32 (of_int binary32 (pos n)) (fin false 255 (pos 0))) (byte-same b i hb hl h)
    ∙ div-small binary32 (pos (byte_at b i)) 254 (pos 0) 255 (le_trans (le_of_lt (hb i)) (lit≤ tt)) (lit< tt) refl

-- a colour inside is the same
pub colour-same : (b : List ℕ) (at : ℕ) → Bytes b → length b ≤ 16777216 → at + 3 ≤ length b → col3 b at ≡ colour_at b at
unfolding colour_at
colour-same b at hb hl h =
    let e0 = unorm-same b at hb hl (omega arith) in
    let e1 = unorm-same b (at + 1) hb hl (omega arith) in
    let e2 = unorm-same b (at + 2) hb hl (omega arith) in
    λ i. e0 i ∷ e1 i ∷ e2 i ∷ []

-- a signed byte divided by 127
pub snorm-same : (b : List ℕ) (i : ℕ) → Bytes b → length b ≤ 16777216 → i < length b → snorm b i ≡ axis_at b i
snorm-same b i hb hl h =
    ap (λ (n : ℕ). div binary32 (of_int binary32 (as_i8 n)) (fin false 127 (pos 0))) (byte-same b i hb hl h)
    ∙ ap (λ (z : ℤ). div binary32 (of_int binary32 z) (fin false 127 (pos 0))) (i8-same (byte_at b i))
    ∙ div-small binary32 (signed 8 (byte_at b i)) 126 (pos 0) 127 (le_trans (nat_abs-le (signed 8 (byte_at b i)) (signed_below 8 (byte_at b i) refl (hb i))) (lit≤ tt)) (lit< tt) refl

-- a light's direction inside, which lies 8 bytes on, is the same
pub direction-same : (b : List ℕ) (at : ℕ) → Bytes b → length b ≤ 16777216 → at + 11 ≤ length b → dir3 b at ≡ direction_at b (at + 8)
unfolding direction_at
direction-same b at hb hl h =
    let e0 = snorm-same b (at + 8) hb hl (omega arith) in
    let e1 = snorm-same b (at + 9) hb hl (omega arith) ∙ ap (axis_at b) (sym (add_assoc at 8 1)) in
    let e2 = snorm-same b (at + 10) hb hl (omega arith) ∙ ap (axis_at b) (sym (add_assoc at 8 2)) in
    λ i. e0 i ∷ e1 i ∷ e2 i ∷ []

-- a half inside as a float
pub whole_same : (b : List ℕ) (i : ℕ) → Bytes b → length b ≤ 16777216 → i + 2 ≤ length b → of_int binary32 (read_i16 b i) ≡ ratio_at b i 1
whole_same b i hb hl h = ap (of_int binary32) (signed_same b i hb hl h) ∙ int_same binary32 (signed_at b i)

-- a vertex inside is the same: its position, its texture coordinates as floats, its colour as a word
pub vertex-same : (b : List ℕ) (at : ℕ) → Bytes b → length b ≤ 16777216 → at + 16 ≤ length b
    → ((read_vertex b at).pos ≡ (vertex_at b at).pos)
    × (of_int binary32 (get_or (read_vertex b at).st 0 (pos 0)) ∷ of_int binary32 (get_or (read_vertex b at).st 1 (pos 0)) ∷ [] ≡ (vertex_at b at).st)
    × (from_le (read_vertex b at).rgba ≡ (vertex_at b at).colour)
unfolding read_vertex vertex_at
vertex-same b at hb hl h = (place, coords, ink)
  where
    place : of_int binary32 (read_i16 b at) ∷ of_int binary32 (read_i16 b (at + 2)) ∷ of_int binary32 (read_i16 b (at + 4)) ∷ [] ≡ ratio_at b at 1 ∷ ratio_at b (at + 2) 1 ∷ ratio_at b (at + 4) 1 ∷ []
    place =
        let e0 = whole_same b at hb hl (omega arith) in
        let e1 = whole_same b (at + 2) hb hl (omega arith) in
        let e2 = whole_same b (at + 4) hb hl (omega arith) in
        λ i. e0 i ∷ e1 i ∷ e2 i ∷ []

    coords : of_int binary32 (read_i16 b (at + 8)) ∷ of_int binary32 (read_i16 b (at + 10)) ∷ [] ≡ ratio_at b (at + 8) 1 ∷ ratio_at b (at + 10) 1 ∷ []
    coords =
        let e0 = whole_same b (at + 8) hb hl (omega arith) in
        let e1 = whole_same b (at + 10) hb hl (omega arith) in
        λ i. e0 i ∷ e1 i ∷ []

    ink : from_le (read_u8 b (at + 12) ∷ read_u8 b (at + 13) ∷ read_u8 b (at + 14) ∷ read_u8 b (at + 15) ∷ []) ≡ word_at b (at + 12)
    ink =
        let e0 = byte-same b (at + 12) hb hl (omega arith) in
        let e1 = byte-same b (at + 13) hb hl (omega arith) ∙ ap (byte_at b) (sym (add_assoc at 12 1)) in
        let e2 = byte-same b (at + 14) hb hl (omega arith) ∙ ap (byte_at b) (sym (add_assoc at 12 2)) in
        let e3 = byte-same b (at + 15) hb hl (omega arith) ∙ ap (byte_at b) (sym (add_assoc at 12 3)) in
        λ i. e0 i + e1 i * 256 + e2 i * 65536 + e3 i * 16777216

-- ---- texture scales

-- an f64 that is a fraction, as an f32, is the fraction rounded once
pub narrow-same : (x : Float) (n d : ℕ) → 0 < d → HasValue x false n d → as_f32 x ≡ of_ratio binary32 (pos n) d
unfolding as_f32 of_ratio
narrow-same nan n d D v = absurd v
narrow-same (inf t) n d D v = absurd v
narrow-same (fin s m e) n d D v = ap (λ (t : Bool). round binary32 t (m * up e) (down e)) v.0 ∙ round_same binary32 false (m * up e) (down e) n d (down_pos e) D v.1

-- sixteen bits divided by 2 ^ t in an f64, which holds that, as an f32
pub scale_same : (n t : ℕ) → n < 65536 → t ≤ 1000 → as_f32 (div binary64 (of_int binary64 (pos n)) (fin false 1 (pos t))) ≡ of_ratio binary32 (pos n) (2 ^ t)
unfolding of_ratio
scale_same n t h k =
    ap as_f32 (div-small binary64 (pos n) 0 (pos t) (2 ^ t) (le_trans (le_of_lt h) (lit≤ tt)) (pow_pos t) (one-mul (2 ^ t) ∙ sym (mul-one (2 ^ t))))
    ∙ narrow-same (round binary64 false n (2 ^ t)) n (2 ^ t) (pow_pos t)
    (round_exact binary64 false n (2 ^ t) n (1074 - t) (pow_pos t) (lt_of_lt_of_le h (lit≤ tt))
    (lt_of_lt_of_le (shl_lt 16 (1074 - t) h) (pow_mono {i = 16 + (1074 - t)} {j = 2098} (omega arith)))
    (ap (λ (x : ℕ). n * x) (ap (λ (x : ℕ). 2 ^ x) (fill t k) ∙ pow-add 2 (1074 - t) t) ∙ sym (mul_assoc n (2 ^ (1074 - t)) (2 ^ t))))
  where
    fill : (t : ℕ) → t ≤ 1000 → 1074 ≡ 1074 - t + t
    fill t k = omega arith

-- a texture scale
pub tc-same : (n : ℕ) → n < 65536 → tc_scale n ≡ of_ratio binary32 (pos n) 2097152
tc-same n h = scale_same n 21 h (lit≤ tt)

-- a texgen scale
pub tg-same : (n : ℕ) → n < 65536 → tg_scale n ≡ of_ratio binary32 (pos n) 65536
tg-same n h = scale_same n 16 h (lit≤ tt)

-- ---- a value word

-- both halves of a word, divided by 32 and by 4
pub halves-same : (v : ℕ) → v < 2 ^ 32
    → (over32 (high_half v) ≡ high_by 32 v) × (over32 (low_half v) ≡ low_by 32 v) × (over4 (high_half v) ≡ high_by 4 v) × (over4 (low_half v) ≡ low_by 4 v)
halves-same v h =
    let high : v / 65536 < 65536 = omega arith in
    let low : v % 65536 < 65536 = omega arith in
    (over-same (v / 65536) 5 high (lit≤ tt), over-same (v % 65536) 5 low (lit≤ tt), over-same (v / 65536) 2 high (lit≤ tt), over-same (v % 65536) 2 low (lit≤ tt))

-- a word divided by 67108864 as an f32
pub depth_same : (v : ℕ) → v < 2 ^ 32 → div binary32 (of_int binary32 (pos v)) (fin false 1 (pos 26)) ≡ of_ratio binary32 (pos v) 67108864
depth_same v h = div-shift (of_int binary32 (pos v)) (pos v) 26 refl h (lit≤ tt)

-- a word divided by 65536 as an f64
pub wide-same : (v : ℕ) → v < 2 ^ 32 → div binary64 (of_int binary64 (pos v)) (fin false 1 (pos 16)) ≡ of_ratio binary64 (pos v) 65536
wide-same v h = div-small binary64 (pos v) 0 (pos 16) 65536 (le_trans (le_of_lt h) (lit≤ tt)) (lit< tt) refl

-- the four bytes of a word, the other way round: of any number
pub swap-same : (v : ℕ) → swap_bytes v ≡ reversed v
swap-same v = turned (v / 16777216) (v / 65536 % 256) (v / 256 % 256) (v % 256)
  where
    turned : (a b c d : ℕ) → a + b * 256 + c * 65536 + d * 16777216 ≡ d * 16777216 + c * 65536 + b * 256 + a
    turned a b c d = omega arith
