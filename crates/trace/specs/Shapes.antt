-- The ops of a trace by their numbers, and what follows each. Definitions only.
use Rattle.std.specs.Prelude.{ℕ, Bool, true, false, ◌≡◌, List, [], ◌∷◌, eqb, Result, Ok, Err}
use Rattle.numbers.specs.Choice.{pick}
use Rattle.trace.specs.declared.ops.Op.{Op}
use Rattle.trace.specs.declared.ops.Op.TheVariants.{Open, Matrix, Force, Pop, Geom, Viewport, Texture, Fog, Lightnum, Light, Lookat, Load, Cull, Depth, Modify, Draw, Ucode, Ink, Explain, Lend, Mark, Poke, Write}
use Rattle.trace.specs.declared.ops.Cut.{Cut}
use Rattle.trace.specs.declared.ops.Cut.TheVariants.{Unknown}
use Rattle.trace.specs.declared.ops.Shape.{Shape}

-- the number of an op
abbrev pub number_of : Op → ℕ
number_of Open = 0x01
number_of Matrix = 0x02
number_of Force = 0x03
number_of Pop = 0x04
number_of Geom = 0x05
number_of Viewport = 0x06
number_of Texture = 0x07
number_of Fog = 0x08
number_of Lightnum = 0x09
number_of Light = 0x0a
number_of Lookat = 0x0b
number_of Load = 0x0c
number_of Cull = 0x0d
number_of Depth = 0x0e
number_of Modify = 0x0f
number_of Draw = 0x10
number_of Ucode = 0x11
number_of Ink = 0x12
number_of Explain = 0x14
number_of Lend = 0x20
number_of Mark = 0x21
number_of Poke = 0x22
number_of Write = 0x23

-- every op
abbrev pub ops : List Op
ops = Open ∷ Matrix ∷ Force ∷ Pop ∷ Geom ∷ Viewport ∷ Texture ∷ Fog ∷ Lightnum ∷ Light ∷ Lookat ∷ Load ∷ Cull ∷ Depth ∷ Modify ∷ Draw ∷ Ucode ∷ Ink ∷ Explain ∷ Lend ∷ Mark ∷ Poke ∷ Write ∷ []

-- the one that has a number, among some; where none has, no op is known
abbrev pub among : ℕ → List Op → Result Op Cut
among n [] = Err Unknown
among n (o ∷ os) = pick (eqb n (number_of o)) (Ok o) (among n os)

-- the op of a number
unfoldable pub op_of : ℕ → Result Op Cut
op_of n = among n ops

-- a number is read as that
abbrev pub Decodes : ℕ → Result Op Cut → Type 0
Decodes n r = r ≡ op_of n

-- so many arguments, and whether data
abbrev pub taking : ℕ → Bool → Shape
taking n b = record { arguments = n; bytes = b }

-- what follows an op
abbrev pub shape_of : Op → Shape
shape_of Open = taking 0 false
shape_of Matrix = taking 1 true
shape_of Force = taking 0 true
shape_of Pop = taking 1 false
shape_of Geom = taking 2 false
shape_of Viewport = taking 0 true
shape_of Texture = taking 5 false
shape_of Fog = taking 2 false
shape_of Lightnum = taking 1 false
shape_of Light = taking 1 true
shape_of Lookat = taking 1 true
shape_of Load = taking 2 true
shape_of Cull = taking 2 false
shape_of Depth = taking 2 false
shape_of Modify = taking 3 false
shape_of Draw = taking 7 false
shape_of Ucode = taking 1 false
shape_of Ink = taking 1 false
shape_of Explain = taking 2 false
shape_of Lend = taking 2 false
shape_of Mark = taking 0 false
shape_of Poke = taking 3 false
shape_of Write = taking 3 false
