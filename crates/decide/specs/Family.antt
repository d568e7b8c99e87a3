-- What a family of microcodes sets apart: flag values, and whether a load prepares the combined matrix. Definitions take a family; the base has one.
use Rattle.std.specs.Prelude.{ℕ, ◌/◌, ◌%◌, Bool, true, ◌&&◌, eqb}
use Rattle.numbers.specs.Choice.{pick}
use Rattle.decide.specs.declared.family.Family.{Family}

-- F3DEX2, of gbi.h: the matrix flags after the exclusive-or with 1 of the command word
abbrev pub f3dex2 : Family
f3dex2 =
    record {
      push = 1;
      load = 2;
      projection = 4;
      lighting = 0x20000;
      fog = 0x10000;
      texgen = 0x40000;
      linear = 0x80000;
      front = 0x200;
      back = 0x400;
      prepares = true;
    }

-- the family of a microcode by its number: both microcodes of the base are of F3DEX2
abbrev pub family_of : ℕ → Family
family_of microcode = f3dex2

-- the flag of value v is set in the word x
abbrev pub flag : ℕ → ℕ → Bool
flag v x = eqb (x / v % 2) 1

-- lit, by the geometry mode word
abbrev pub lit : Family → ℕ → Bool
lit f g = flag f.lighting g

-- fogged, by the geometry mode word
abbrev pub foggy : Family → ℕ → Bool
foggy f g = flag f.fog g

-- 0 none, 1 texgen, 2 linear texgen; only where lit
unfoldable pub texgen_mode : Family → ℕ → ℕ
texgen_mode f g = pick (lit f g && flag f.texgen g) (pick (flag f.linear g) 2 1) 0
