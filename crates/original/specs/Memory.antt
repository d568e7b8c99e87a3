-- The readers of mem.rs that rsp.rs uses, over the bytes of an RdramImage; lines are those of the Rust. Definitions only.
use Rattle.std.specs.Prelude.{ℕ, ◌+◌, ◌*◌, ◌%◌, cond, false, List, [], ◌∷◌, get_or, ltb, ℤ, pos, ◌+ℤ◌, ◌*ℤ◌, Float}
use Rattle.std.specs.Float.{binary32, fin}
use Rattle.std.specs.Float.Ieee.{div, of_int, minus}
use Rattle.original.specs.Math.{Mat4}

-- the image's bytes
abbrev pub Mem : Type 0
Mem = List ℕ

-- read_data, lines 327 to 365: the address within 16 MiB; a byte that is not there is zero
abbrev pub read_u8 : Mem → ℕ → ℕ
read_u8 mem address = get_or mem (address % 16777216) 0

-- u16::from_be_bytes, and i16::from_be_bytes and `as i8` as two's complement
abbrev pub read_u16 : Mem → ℕ → ℕ
read_u16 mem address = read_u8 mem address * 256 + read_u8 mem (address + 1)

abbrev pub as_i16 : ℕ → ℤ
as_i16 n = cond (ltb n 32768) (pos n) (minus n 65536)

abbrev pub as_i8 : ℕ → ℤ
as_i8 n = cond (ltb n 128) (pos n) (minus n 256)

abbrev pub read_i16 : Mem → ℕ → ℤ
read_i16 mem address = as_i16 (read_u16 mem address)

abbrev pub read_i8 : Mem → ℕ → ℤ
read_i8 mem address = as_i8 (read_u8 mem address)

-- decode_matrix, lines 367 to 379: cell k; (integer << 16) | fraction, whose bits do not meet, as an f32, then divided by 65536.0
abbrev pub cell : Mem → ℕ → ℕ → Float
cell mem address k =
    let integer = read_i16 mem (address + k * 2) in
    let fraction = read_u16 mem (address + 32 + k * 2) in
    div binary32 (of_int binary32 (integer *ℤ pos 65536 +ℤ pos fraction)) (fin false 1 (pos 16))

abbrev pub cells : Mem → ℕ → ℕ → List Float
cells mem address k = cell mem address k ∷ cell mem address (k + 1) ∷ cell mem address (k + 2) ∷ cell mem address (k + 3) ∷ []

unfoldable pub read_matrix : Mem → ℕ → Mat4
read_matrix mem address = cells mem address 0 ∷ cells mem address 4 ∷ cells mem address 8 ∷ cells mem address 12 ∷ []

-- RawVertex, lines 252 to 256, and read_fixed_vertex, lines 224 to 248
pub record RawVertex : Type 0 where
  pub pos : List Float
  pub st : List ℤ
  pub rgba : List ℕ

unfoldable pub read_vertex : Mem → ℕ → RawVertex
read_vertex mem address =
    record {
      pos = of_int binary32 (read_i16 mem address) ∷ of_int binary32 (read_i16 mem (address + 2)) ∷ of_int binary32 (read_i16 mem (address + 4)) ∷ [];
      st = read_i16 mem (address + 8) ∷ read_i16 mem (address + 10) ∷ [];
      rgba = read_u8 mem (address + 12) ∷ read_u8 mem (address + 13) ∷ read_u8 mem (address + 14) ∷ read_u8 mem (address + 15) ∷ [];
    }
