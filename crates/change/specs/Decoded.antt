-- The change that an attribute number and a value word ask for, and what it does to a row's numbers. Definitions only.
use Rattle.std.specs.Prelude.{ℕ, ◌+◌, ◌*◌, ◌/◌, ◌%◌, Bool, false, List, [], ◌∷◌, get_or, set, pos, eqb, Float, Option, Some, None}
use Rattle.std.specs.Int.Bits.{bit_or}
use Rattle.std.specs.Float.{fin, binary32, binary64}
use Rattle.numbers.specs.Choice.{pick}
use Rattle.numbers.specs.Ratio.{signed, of_ratio}
use Rattle.areas.specs.Widths.{flags_word, scale_word, colour_word, light_word, lights_word, texgen_word, fog_word, lookat_word, s_float, t_float, screen_x, screen_y, screen_z}
use Rattle.change.specs.declared.Change.{Change}
use Rattle.change.specs.declared.Change.TheVariants.{Colour, Texture, Screen, Depth}

-- the four bytes of a word, the other way round
abbrev pub reversed : ℕ → ℕ
reversed x = x % 256 * 16777216 + x / 256 % 256 * 65536 + x / 65536 % 256 * 256 + x / 16777216

-- both halves of a word, the high one first, read with their signs and divided by d
abbrev pub high_by : ℕ → ℕ → Float
high_by d x = of_ratio binary32 (signed 16 (x / 65536)) d

abbrev pub low_by : ℕ → ℕ → Float
low_by d x = of_ratio binary32 (signed 16 (x % 65536)) d

-- 0x10, 0x14, 0x18 and 0x1C ask for a change, any other attribute for none
unfoldable pub decoded : ℕ → ℕ → Option Change
decoded attribute value =
    pick (eqb attribute 0x10) (Some (Colour (reversed value)))
    (pick (eqb attribute 0x14) (Some (Texture (high_by 32 value) (low_by 32 value)))
    (pick (eqb attribute 0x18) (Some (Screen (high_by 4 value) (low_by 4 value)))
    (pick (eqb attribute 0x1C) (Some (Depth (of_ratio binary32 (pos value) 67108864) (of_ratio binary64 (pos value) 65536)))
    None)))

-- the f32 numbers of a row after the change
unfoldable pub floats_after : Change → List Float → List Float
floats_after (Colour w) l = l
floats_after (Texture s t) l = set (set l s_float s) t_float t
floats_after (Screen x y) l = set (set l screen_x x) screen_y y
floats_after (Depth z own) l = set l screen_z z

-- the u32 numbers of a row after the change; u is the place of the unit scale entry
unfoldable pub words_after : Change → ℕ → List ℕ → List ℕ
words_after (Colour w) u l = set (set (set (set l colour_word w) light_word 0) lights_word 0) fog_word 0
words_after (Texture s t) u l = set (set (set l scale_word u) texgen_word 0) lookat_word 0
words_after (Screen x y) u l = set l flags_word (bit_or (get_or l flags_word 0) 1)
words_after (Depth z own) u l = set l flags_word (bit_or (get_or l flags_word 0) 2)

-- the unit scale entry: (1,1), (0,0)
abbrev pub unit_entry : List Float
unit_entry = fin false 1 (pos 0) ∷ fin false 1 (pos 0) ∷ fin false 0 (pos 0) ∷ fin false 0 (pos 0) ∷ []

-- the change needs the unit scale entry, and it is not there yet; unit is its place plus 1, or 0
unfoldable pub appends : Change → ℕ → Bool
appends (Texture s t) unit = eqb unit 0
appends (Colour w) unit = false
appends (Screen x y) unit = false
appends (Depth z own) unit = false

-- the slot's screen z after the change, by whether it had one
unfoldable pub depth_after : Change → Bool → Float → Float
depth_after (Depth z own) deep old = pick deep own old
depth_after (Colour w) deep old = old
depth_after (Texture s t) deep old = old
depth_after (Screen x y) deep old = old
