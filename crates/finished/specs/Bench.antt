-- The bench: so many slots, each holding its vertex by value, settings of its own, and the triangles that it gave, each as it was when drawn.
-- It obeys the stage's rules on accepted commands with values in place of numbers, and is a function of those commands alone: no state, no
-- area and no table is an argument of it. Definitions only.
use Rattle.std.specs.Prelude.{ℕ, ◌+◌, Bool, true, false, not, ◌&&◌, ◌||◌, List, [], ◌∷◌, ◌++◌, map, get_or, set, take, replicate, eqb, Float, Option, Some, None}
use Rattle.std.proofs.Math.Option.{none, some}
use Rattle.std.specs.Int.Bits.{bit_or}
use Rattle.std.specs.Float.Ieee.{eq}
use Rattle.areas.specs.Area.{matches}
use Rattle.areas.specs.Widths.{viewport_width, s_float, t_float, screen_x, screen_y, screen_z}
use Rattle.matrix.specs.Math.{identity, rows, laid}
use Rattle.layout.specs.declared.records.Vertex.{Vertex}
use Rattle.layout.specs.Layout.{matrix_at, direction_at}
use Rattle.decide.specs.declared.family.Family.{Family}
use Rattle.decide.specs.Family.{flag, lit, texgen_mode}
use Rattle.decide.specs.Stack.{popped}
use Rattle.decide.specs.Lights.{light_number}
use Rattle.fold.specs.Lights.{light_entries}
use Rattle.fold.specs.Lookat.{lookat_entry}
use Rattle.fold.specs.Scales.{scale_entry}
use Rattle.vertex.specs.Vertices.{floats_of, vertices_at}
use Rattle.change.specs.declared.Change.{Change}
use Rattle.change.specs.declared.Change.TheVariants.{Colour, Texture, Screen, Depth}
use Rattle.change.specs.Decoded.{decoded, unit_entry}
use Rattle.triangle.specs.Run.{settings}
use Rattle.triangle.specs.Slot.{both, culls, swaps}
use Rattle.stage.specs.Plan.{pick}
use Rattle.stage.specs.Opening.{zeros}
use Rattle.stage.specs.Matrices.{viewport_entry}
use Rattle.stage.specs.Lights.{microcode_number}
use Rattle.sequence.specs.Sequence.{Command, matrix, force, pop, viewport, geometry, texture, fog, number, light, lookat, microcode, load, cull, explain, depth, modify, draw, ink}
use Rattle.finished.specs.Shown.{Corner, Triangle}
use Rattle.finished.specs.Settings.{Settings, Space, settings0, with_modes, with_space, with_lamps, with_axes, top_of, product_of, defined_as, deep, turned_to, fog_to, texture_to, microcode_to, numbered, lamp_to, axis_to, regeared, lights_due, lookat_due, loaded_with}

-- what is held by value beside the slots
pub record Values : Type 0 where
  -- the value last appended to tables 1, 2 and 3; no scale yet is []
  pub matrix : List Float
  pub viewport : List Float
  pub scale : List Float
  -- the lights and the lookat axes as last folded
  pub lights : List (List Float)
  pub lookat : List Float
  -- the unit scale entry has been appended
  pub unit : Bool

-- slots, settings, values, and what was drawn
pub record Bench : Type 0 where
  pub slots : List Corner
  pub settings : Settings
  pub values : Values
  pub triangles : List Triangle

-- an empty slot, and the bench at opening
abbrev pub no_corner : Corner
no_corner = record { floats = []; flags = 0; matrix = []; viewport = []; scale = []; colour = 0; lights = []; texgen = 0; fog = none; lookat = none }

unfoldable pub bench0 : ℕ → Bench
bench0 seats =
    record {
      slots = replicate seats no_corner;
      settings = settings0;
      values = record { matrix = laid identity; viewport = zeros viewport_width; scale = []; lights = []; lookat = []; unit = false };
      triangles = [];
    }

-- ---- matrix and viewport

-- where a rule appends unless equal, the value last appended is held, bits and all
abbrev pub renewed : List Float → List Float → List Float
renewed last new = pick (matches eq last new) last new

-- values after such a rule, for a matrix or for a viewport
abbrev pub new_matrix : Values → List Float → Values
new_matrix v m = record { matrix = renewed v.matrix m; viewport = v.viewport; scale = v.scale; lights = v.lights; lookat = v.lookat; unit = v.unit }

abbrev pub new_viewport : Values → List Float → Values
new_viewport v x = record { matrix = v.matrix; viewport = renewed v.viewport x; scale = v.scale; lights = v.lights; lookat = v.lookat; unit = v.unit }

-- a bench with other settings and values, or with other settings
abbrev pub moved : Bench → Settings → Values → Bench
moved h s v = record { slots = h.slots; settings = s; values = v; triangles = h.triangles }

abbrev pub sets : Settings → Bench → Bench
sets s h = moved h s h.values

-- the combined matrix is m, and defined
abbrev pub combines : Space → List Float → Bench → Bench
combines x m h = moved h (with_space h.settings (defined_as x true)) (new_matrix h.values m)

-- a matrix of 64 bytes, under the three flags; the combined matrix is the product then
unfoldable pub turns : Family → ℕ → List (List Float) → Bench → Bench
turns f flags m h =
    let x = turned_to (flag f.push flags) (flag f.load flags) (flag f.projection flags) m h.settings.space in
    combines x (product_of x) h

-- only a changed depth makes the combined matrix the product
unfoldable pub pops : ℕ → Bench → Bench
pops count h =
    let x = h.settings.space in
    let d = popped count x.depth in
    pick (eqb d x.depth) h (combines (deep x d) (product_of (deep x d)) h)

-- ---- load

-- the texture scales are appended unless the first pair equals the last entry's
abbrev pub rescaled : List Float → List Float → List Float
rescaled last new = pick (matches eq (take 2 last) (take 2 new)) last new

-- what a load settles before its vertices
unfoldable pub settled_values : Family → Settings → Values → Values
settled_values f s v =
    let m = rows (laid (top_of s.space)) 0 in
    record {
      matrix = pick s.space.defined v.matrix (renewed v.matrix (product_of s.space));
      viewport = v.viewport;
      scale = rescaled v.scale (scale_entry s.modes.sc s.modes.tc);
      lights = pick (lights_due f s) (light_entries m s.lights.directions s.lights.colours s.lights.ambient s.lights.number) v.lights;
      lookat = pick (lookat_due f s) (lookat_entry m s.lookat.axes) v.lookat;
      unit = v.unit;
    }

-- a vertex by value
unfoldable pub corner : Family → Settings → Values → Vertex → Corner
corner f s h v =
    let g = s.modes.geometry in
    record {
      floats = floats_of v;
      flags = 0;
      matrix = h.matrix;
      viewport = h.viewport;
      scale = h.scale;
      colour = v.colour;
      lights = pick (lit f g) h.lights [];
      texgen = texgen_mode f g;
      fog = pick (flag f.fog g) (some s.modes.fog) none;
      lookat = pick (eqb (texgen_mode f g) 0) none (some h.lookat);
    }

-- the corners cs in the slots from k on
abbrev pub seated : List Corner → ℕ → List Corner → List Corner
seated l k [] = l
seated l k (c ∷ cs) = seated (set l k c) (k + 1) cs

-- the vertices in the slots from first on, once the values are settled
abbrev pub loads : Family → ℕ → List Vertex → Bench → Bench
loads f first vs h =
    let v = settled_values f h.settings h.values in
    record { slots = seated h.slots first (map (corner f h.settings v) vs); settings = loaded_with f h.settings; values = v; triangles = h.triangles }

-- ---- modify

-- a corner with other floats and flags
abbrev pub screened : Corner → List Float → ℕ → Corner
screened v l n =
    record { floats = l; flags = n; matrix = v.matrix; viewport = v.viewport; scale = v.scale; colour = v.colour; lights = v.lights; texgen = v.texgen; fog = v.fog; lookat = v.lookat }

-- with another colour word: the lights and the fog go
abbrev pub inked : Corner → ℕ → Corner
inked v w =
    record { floats = v.floats; flags = v.flags; matrix = v.matrix; viewport = v.viewport; scale = v.scale; colour = w; lights = []; texgen = v.texgen; fog = none; lookat = v.lookat }

-- with other floats and another scale: texgen and lookat go
abbrev pub textured : Corner → List Float → List Float → Corner
textured v l x =
    record { floats = l; flags = v.flags; matrix = v.matrix; viewport = v.viewport; scale = x; colour = v.colour; lights = v.lights; texgen = 0; fog = v.fog; lookat = none }

-- a corner with the change made in it
unfoldable pub changed_by : Change → Corner → Corner
changed_by (Colour w) v = inked v w
changed_by (Texture x y) v = textured v (set (set v.floats s_float x) t_float y) unit_entry
changed_by (Screen x y) v = screened v (set (set v.floats screen_x x) screen_y y) (bit_or v.flags 1)
changed_by (Depth z own) v = screened v (set v.floats screen_z z) (bit_or v.flags 2)

-- a change needs the unit scale entry
abbrev pub scaled : Change → Bool
scaled (Colour w) = false
scaled (Texture x y) = true
scaled (Screen x y) = false
scaled (Depth z own) = false

-- values with the unit scale entry last appended where b asks for it, once
abbrev pub with_unit : Values → Bool → Values
with_unit v b =
    record { matrix = v.matrix; viewport = v.viewport; scale = pick (b && not v.unit) unit_entry v.scale; lights = v.lights; lookat = v.lookat; unit = v.unit || b }

-- the slot's corner changed
unfoldable pub modifies : Option Change → ℕ → Bench → Bench
modifies None slot h = h
modifies (Some c) slot h =
    record { slots = set h.slots slot (changed_by c (get_or h.slots slot no_corner)); settings = h.settings; values = with_unit h.values (scaled c); triangles = h.triangles }

-- ---- draw

-- three corners in order, or the first and the last exchanged
abbrev pub turned_as : Bool → Corner → Corner → Corner → List Corner
turned_as swap a b c = pick swap (c ∷ b ∷ a ∷ []) (a ∷ b ∷ c ∷ [])

-- what a draw gives: the three slots' values, and its six settings
abbrev pub given : Family → Bench → ℕ → ℕ → ℕ → List ℕ → Triangle
given f h a b c asked =
    let s = h.settings.modes in
    record {
      corners = turned_as (swaps f s.geometry) (get_or h.slots a no_corner) (get_or h.slots b no_corner) (get_or h.slots c no_corner);
      settings = settings asked (culls f s.geometry) s.microcode;
    }

-- a bench with one triangle more
abbrev pub with_triangle : Bench → Triangle → Bench
with_triangle h t = record { slots = h.slots; settings = h.settings; values = h.values; triangles = h.triangles ++ t ∷ [] }

-- where both sides are culled nothing is drawn
unfoldable pub draws : Family → ℕ → ℕ → ℕ → List ℕ → Bench → Bench
draws f a b c asked h = pick (both f h.settings.modes.geometry) h (with_triangle h (given f h a b c asked))

-- ---- commands

-- an accepted command; F is the family of each microcode, and the one in force before the command counts
unfoldable pub act : (ℕ → Family) → Command → Bench → Bench
act F (matrix flags bytes at) h = turns (F h.settings.modes.microcode) flags (matrix_at bytes at) h
act F (force bytes at) h = combines h.settings.space (laid (matrix_at bytes at)) h
act F (pop count) h = pops count h
act F (viewport bytes at) h = moved h h.settings (new_viewport h.values (viewport_entry bytes at))
act F (geometry off on) h = sets (regeared (F h.settings.modes.microcode) off on h.settings) h
act F (texture tile level on sc tc) h = sets (with_modes h.settings (texture_to h.settings sc tc)) h
act F (fog multiplier offset) h = sets (with_modes h.settings (fog_to h.settings (multiplier ∷ offset ∷ []))) h
act F (number bytes) h = sets (with_lamps h.settings (numbered h.settings.lights (light_number bytes))) h
act F (light slot bytes at) h = sets (with_lamps h.settings (lamp_to h.settings.lights slot bytes at)) h
act F (lookat slot bytes at) h = sets (with_axes h.settings (axis_to h.settings.lookat slot (direction_at bytes (at + 8)))) h
act F (microcode to) h =
    sets (with_space (with_modes h.settings (microcode_to h.settings (microcode_number to))) (defined_as h.settings.space false)) h
act F (load first count bytes at) h = loads (F h.settings.modes.microcode) first (vertices_at bytes at count) h
act F (cull first last) h = h
act F (explain first last) h = h
act F (depth slot threshold) h = h
act F (modify slot attribute value) h = modifies (decoded attribute value) slot h
act F (draw a b c material mode colour prim) h = draws (F h.settings.modes.microcode) a b c (material ∷ mode ∷ colour ∷ prim ∷ []) h
act F (ink colour) h = h

-- the bench after some accepted commands
unfoldable pub bench : (ℕ → Family) → List Command → Bench → Bench
bench F [] h = h
bench F (c ∷ cs) h = bench F cs (act F c h)
