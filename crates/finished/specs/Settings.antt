-- The settings that the bench holds of its own, and how each command moves them. No count, row, mark of a slot and place in a table is among them.
-- Definitions only.
use Rattle.std.specs.Prelude.{ℕ, ◌-◌, ◌*◌, Bool, true, false, not, ◌&&◌, ◌||◌, List, [], ◌∷◌, ◌++◌, eqb, ℤ, pos, Float}
use Rattle.areas.specs.Area.{put}
use Rattle.areas.specs.Widths.{matrix_width}
use Rattle.matrix.specs.Math.{identity, rows, laid, times}
use Rattle.layout.specs.declared.records.Light.{Light}
use Rattle.layout.specs.Layout.{colour_at, light_at}
use Rattle.decide.specs.declared.family.Family.{Family}
use Rattle.decide.specs.Family.{lit, texgen_mode}
use Rattle.mode.specs.Word.{geometry_after}
use Rattle.decide.specs.Stack.{made, pushed, relit}
use Rattle.decide.specs.Lights.{slotted}
use Rattle.fold.specs.Decision.{refold}
use Rattle.stage.specs.Plan.{pick}
use Rattle.stage.specs.Opening.{zeros}

-- ---- what is set

-- the modes: microcode and geometry mode word, fog multiplier and offset, texture scales
pub record Modes : Type 0 where
  pub microcode : ℕ
  pub geometry : ℕ
  pub fog : List ℤ
  pub sc : ℕ
  pub tc : ℕ

-- the model stack and its depth, the projection, and whether the combined matrix is defined
pub record Space : Type 0 where
  pub depth : ℕ
  pub stack : List Float
  pub projection : List Float
  pub defined : Bool

-- when something was last folded: changed since, ever folded, and the model top of that time
pub record Fold : Type 0 where
  pub changed : Bool
  pub folded : Bool
  pub top : List Float

-- the number of lights, directions and colours of the eight slots, the ambient colour
pub record Lamps : Type 0 where
  pub number : ℕ
  pub directions : List Float
  pub colours : List Float
  pub ambient : List Float
  pub fold : Fold

-- the two lookat axes
pub record Axes : Type 0 where
  pub axes : List Float
  pub fold : Fold

-- all that commands set
pub record Settings : Type 0 where
  pub modes : Modes
  pub space : Space
  pub lights : Lamps
  pub lookat : Axes

-- nothing folded yet; and the settings at opening
abbrev pub unfolded : Fold
unfolded = record { changed = false; folded = false; top = zeros 16 }

abbrev pub settings0 : Settings
settings0 =
    record {
      modes = record { microcode = 0; geometry = 0; fog = pos 0 ∷ pos 0 ∷ []; sc = 0; tc = 0 };
      space = record { depth = 1; stack = laid identity ++ zeros 496; projection = laid identity; defined = false };
      lights = record { number = 0; directions = zeros 24; colours = zeros 24; ambient = zeros 3; fold = unfolded };
      lookat = record { axes = zeros 6; fold = unfolded };
    }

-- other modes, matrices, lights or lookat axes
abbrev pub with_modes : Settings → Modes → Settings
with_modes s m = record { modes = m; space = s.space; lights = s.lights; lookat = s.lookat }

abbrev pub with_space : Settings → Space → Settings
with_space s x = record { modes = s.modes; space = x; lights = s.lights; lookat = s.lookat }

abbrev pub with_lamps : Settings → Lamps → Settings
with_lamps s l = record { modes = s.modes; space = s.space; lights = l; lookat = s.lookat }

abbrev pub with_axes : Settings → Axes → Settings
with_axes s l = record { modes = s.modes; space = s.space; lights = s.lights; lookat = l }

-- ---- matrices

-- the top of the model stack, and the model top times projection
abbrev pub top_of : Space → List (List Float)
top_of x = rows x.stack (matrix_width * (x.depth - 1))

abbrev pub product_of : Space → List Float
product_of x = laid (times (top_of x) (rows x.projection 0))

-- the combined matrix defined, or not
abbrev pub defined_as : Space → Bool → Space
defined_as x b = record { depth = x.depth; stack = x.stack; projection = x.projection; defined = b }

-- another depth
abbrev pub deep : Space → ℕ → Space
deep x d = record { depth = d; stack = x.stack; projection = x.projection; defined = x.defined }

-- after a matrix: the projection, or the top, one place higher where it is pushed; each is the data, or the data times what stood there
unfoldable pub turned_to : Bool → Bool → Bool → List (List Float) → Space → Space
turned_to push load projection m x =
    let d = pushed push x.depth in
    pick projection
    (record { depth = x.depth; stack = x.stack; projection = laid (made load m (rows x.projection 0)); defined = x.defined })
    (record { depth = d; stack = put x.stack (matrix_width * (d - 1)) (laid (made load m (top_of x))); projection = x.projection; defined = x.defined })

-- ---- modes

-- another geometry mode word, fog pair, texture scales or microcode
abbrev pub geometry_to : Settings → ℕ → Modes
geometry_to s g = record { microcode = s.modes.microcode; geometry = g; fog = s.modes.fog; sc = s.modes.sc; tc = s.modes.tc }

abbrev pub fog_to : Settings → List ℤ → Modes
fog_to s p = record { microcode = s.modes.microcode; geometry = s.modes.geometry; fog = p; sc = s.modes.sc; tc = s.modes.tc }

abbrev pub texture_to : Settings → ℕ → ℕ → Modes
texture_to s sc tc = record { microcode = s.modes.microcode; geometry = s.modes.geometry; fog = s.modes.fog; sc = sc; tc = tc }

abbrev pub microcode_to : Settings → ℕ → Modes
microcode_to s n = record { microcode = n; geometry = s.modes.geometry; fog = s.modes.fog; sc = s.modes.sc; tc = s.modes.tc }

-- ---- lights and lookat

-- marked changed, or not
abbrev pub marked : Fold → Bool → Fold
marked k b = record { changed = b; folded = k.folded; top = k.top }

-- folded with the model top m
abbrev pub folded_with : List Float → Fold
folded_with m = record { changed = false; folded = true; top = m }

-- folded anew when none are yet, when marked changed, or when the model top compares unequal to the one last folded
abbrev pub stale : Fold → Space → Bool
stale k x = refold k.folded k.changed k.top (laid (top_of x))

-- the same lights, or axes, with another mark
abbrev pub lamps_fold : Lamps → Fold → Lamps
lamps_fold l k = record { number = l.number; directions = l.directions; colours = l.colours; ambient = l.ambient; fold = k }

abbrev pub axes_fold : Axes → Fold → Axes
axes_fold l k = record { axes = l.axes; fold = k }

-- another number, marked changed
abbrev pub numbered : Lamps → ℕ → Lamps
numbered l n = record { number = n; directions = l.directions; colours = l.colours; ambient = l.ambient; fold = marked l.fold true }

-- another ambient colour, marked changed
abbrev pub ambient_to : Lamps → List Float → Lamps
ambient_to l c = record { number = l.number; directions = l.directions; colours = l.colours; ambient = c; fold = marked l.fold true }

-- a light in slot k, marked changed; a slot from 8 on stores nothing
abbrev pub lamp_in : Lamps → ℕ → Light → Lamps
lamp_in l k x =
    record {
      number = l.number;
      directions = slotted 8 l.directions k x.direction;
      colours = slotted 8 l.colours k x.colour;
      ambient = l.ambient;
      fold = marked l.fold true;
    }

-- the slot that is the number is the ambient colour
unfoldable pub lamp_to : Lamps → ℕ → List ℕ → ℕ → Lamps
lamp_to l slot bytes at = pick (eqb slot l.number) (ambient_to l (colour_at bytes at)) (lamp_in l slot (light_at bytes at))

-- an axis in slot k, marked changed; a slot from 2 on stores nothing
abbrev pub axis_to : Axes → ℕ → List Float → Axes
axis_to l k d = record { axes = slotted 2 l.axes k d; fold = marked l.fold true }

-- ---- geometry mode and load

-- after a geometry mode: a change of the lighting bit marks lights changed
abbrev pub regeared : Family → ℕ → ℕ → Settings → Settings
regeared f off on s =
    let g = geometry_after off on s.modes.geometry in
    with_lamps (with_modes s (geometry_to s g)) (lamps_fold s.lights (marked s.lights.fold (s.lights.fold.changed || relit f s.modes.geometry g)))

-- a load folds the lights where it is lit, and the axes where there is texgen, if they are stale
abbrev pub lights_due : Family → Settings → Bool
lights_due f s = lit f s.modes.geometry && stale s.lights.fold s.space

abbrev pub lookat_due : Family → Settings → Bool
lookat_due f s = not (eqb (texgen_mode f s.modes.geometry) 0) && stale s.lookat.fold s.space

-- after a load
unfoldable pub loaded_with : Family → Settings → Settings
loaded_with f s =
    record {
      modes = s.modes;
      space = s.space;
      lights = lamps_fold s.lights (pick (lights_due f s) (folded_with (laid (top_of s.space))) s.lights.fold);
      lookat = axes_fold s.lookat (pick (lookat_due f s) (folded_with (laid (top_of s.space))) s.lookat.fold);
    }
