-- A state with one of its parts replaced. A state is four groups of fields, and a setter of one field makes its group anew; setters of several are made
-- of those. A new field touches its group with the group's setters here, and what writes a whole group out: `blank`, `unloaded` and `fill_slot`.
use Rattle.std.specs.Prelude.{ℕ, Bool, true, false, List, ℤ, Float}
use Rattle.stage.specs.declared.State.{State}
use Rattle.stage.specs.declared.Counts.{Counts}
use Rattle.stage.specs.declared.Lights.{Lights}
use Rattle.stage.specs.declared.Lookat.{Lookat}
use Rattle.stage.specs.declared.Texture.{Texture}

-- ---- the groups

-- the modes
abbrev pub Modes : Type 0
Modes = record { opened : Bool; microcode : ℕ; geometry : ℕ; fogmul : ℤ; fogoff : ℤ }

-- the matrices: the model stack, the projection, and the combined matrix and whether it is defined
abbrev pub Matrices : Type 0
Matrices = record { depth : ℕ; stack : List Float; projection : List Float; combined : List Float; defined : Bool }

-- the parts that are records themselves, with the viewport in force and the place of the unit scale entry
abbrev pub Parts : Type 0
Parts = record { viewport : List Float; texture : Texture; lights : Lights; lookat : Lookat; counts : Counts; unit : ℕ }

-- the columns of the slots
abbrev pub Slots : Type 0
Slots = record { row : List ℕ; ever : List Bool; loaded : List Bool; drawn : List Bool; coded : List Bool; code : List ℕ; deep : List Bool; z : List Float }

-- the state of four groups
abbrev pub state : Modes → Matrices → Parts → Slots → State
state m x p l =
    record {
      opened = m.opened;
      microcode = m.microcode;
      geometry = m.geometry;
      fogmul = m.fogmul;
      fogoff = m.fogoff;
      depth = x.depth;
      stack = x.stack;
      projection = x.projection;
      combined = x.combined;
      defined = x.defined;
      viewport = p.viewport;
      texture = p.texture;
      lights = p.lights;
      lookat = p.lookat;
      counts = p.counts;
      unit = p.unit;
      row = l.row;
      ever = l.ever;
      loaded = l.loaded;
      drawn = l.drawn;
      coded = l.coded;
      code = l.code;
      deep = l.deep;
      z = l.z;
    }

-- the modes of a state
abbrev pub modes_of : State → Modes
modes_of s = record { opened = s.opened; microcode = s.microcode; geometry = s.geometry; fogmul = s.fogmul; fogoff = s.fogoff }

-- its matrices
abbrev pub matrices_of : State → Matrices
matrices_of s = record { depth = s.depth; stack = s.stack; projection = s.projection; combined = s.combined; defined = s.defined }

-- its parts
abbrev pub parts_of : State → Parts
parts_of s = record { viewport = s.viewport; texture = s.texture; lights = s.lights; lookat = s.lookat; counts = s.counts; unit = s.unit }

-- its slots
abbrev pub slots_of : State → Slots
slots_of s = record { row = s.row; ever = s.ever; loaded = s.loaded; drawn = s.drawn; coded = s.coded; code = s.code; deep = s.deep; z = s.z }

-- other modes
abbrev pub with_modes : State → Modes → State
with_modes s m = state m (matrices_of s) (parts_of s) (slots_of s)

-- other matrices
abbrev pub with_matrices : State → Matrices → State
with_matrices s x = state (modes_of s) x (parts_of s) (slots_of s)

-- other parts
abbrev pub with_parts : State → Parts → State
with_parts s p = state (modes_of s) (matrices_of s) p (slots_of s)

-- other columns of the slots
abbrev pub with_slots : State → Slots → State
with_slots s l = state (modes_of s) (matrices_of s) (parts_of s) l

-- ---- one field

-- marked as opened or not
abbrev pub with_opened : State → Bool → State
with_opened s x = with_modes s (record { opened = x; microcode = s.microcode; geometry = s.geometry; fogmul = s.fogmul; fogoff = s.fogoff })

-- another microcode
abbrev pub with_microcode : State → ℕ → State
with_microcode s x = with_modes s (record { opened = s.opened; microcode = x; geometry = s.geometry; fogmul = s.fogmul; fogoff = s.fogoff })

-- another geometry mode word
abbrev pub with_geometry : State → ℕ → State
with_geometry s x = with_modes s (record { opened = s.opened; microcode = s.microcode; geometry = x; fogmul = s.fogmul; fogoff = s.fogoff })

-- another fog multiplier
abbrev pub with_fogmul : State → ℤ → State
with_fogmul s x = with_modes s (record { opened = s.opened; microcode = s.microcode; geometry = s.geometry; fogmul = x; fogoff = s.fogoff })

-- another fog offset
abbrev pub with_fogoff : State → ℤ → State
with_fogoff s x = with_modes s (record { opened = s.opened; microcode = s.microcode; geometry = s.geometry; fogmul = s.fogmul; fogoff = x })

-- another depth of the model stack
abbrev pub with_depth : State → ℕ → State
with_depth s x = with_matrices s (record { depth = x; stack = s.stack; projection = s.projection; combined = s.combined; defined = s.defined })

-- another model stack
abbrev pub with_stack : State → List Float → State
with_stack s x = with_matrices s (record { depth = s.depth; stack = x; projection = s.projection; combined = s.combined; defined = s.defined })

-- another projection
abbrev pub with_projection : State → List Float → State
with_projection s x = with_matrices s (record { depth = s.depth; stack = s.stack; projection = x; combined = s.combined; defined = s.defined })

-- another combined matrix
abbrev pub with_product : State → List Float → State
with_product s x = with_matrices s (record { depth = s.depth; stack = s.stack; projection = s.projection; combined = x; defined = s.defined })

-- the combined matrix defined or not
abbrev pub with_defined : State → Bool → State
with_defined s x = with_matrices s (record { depth = s.depth; stack = s.stack; projection = s.projection; combined = s.combined; defined = x })

-- another viewport in force
abbrev pub with_viewport : State → List Float → State
with_viewport s x = with_parts s (record { viewport = x; texture = s.texture; lights = s.lights; lookat = s.lookat; counts = s.counts; unit = s.unit })

-- another texture state
abbrev pub with_texture : State → Texture → State
with_texture s x = with_parts s (record { viewport = s.viewport; texture = x; lights = s.lights; lookat = s.lookat; counts = s.counts; unit = s.unit })

-- other lights
abbrev pub with_lights : State → Lights → State
with_lights s x = with_parts s (record { viewport = s.viewport; texture = s.texture; lights = x; lookat = s.lookat; counts = s.counts; unit = s.unit })

-- another lookat
abbrev pub with_lookat : State → Lookat → State
with_lookat s x = with_parts s (record { viewport = s.viewport; texture = s.texture; lights = s.lights; lookat = x; counts = s.counts; unit = s.unit })

-- other counts
abbrev pub with_counts : State → Counts → State
with_counts s x = with_parts s (record { viewport = s.viewport; texture = s.texture; lights = s.lights; lookat = s.lookat; counts = x; unit = s.unit })

-- another place of the unit scale entry, plus 1
abbrev pub with_unit : State → ℕ → State
with_unit s x = with_parts s (record { viewport = s.viewport; texture = s.texture; lights = s.lights; lookat = s.lookat; counts = s.counts; unit = x })

-- other rows of the slots
abbrev pub with_row : State → List ℕ → State
with_row s x = with_slots s (record { row = x; ever = s.ever; loaded = s.loaded; drawn = s.drawn; coded = s.coded; code = s.code; deep = s.deep; z = s.z })

-- other marks of the slots ever loaded
abbrev pub with_ever : State → List Bool → State
with_ever s x = with_slots s (record { row = s.row; ever = x; loaded = s.loaded; drawn = s.drawn; coded = s.coded; code = s.code; deep = s.deep; z = s.z })

-- other marks of the slots loaded
abbrev pub with_loaded : State → List Bool → State
with_loaded s x = with_slots s (record { row = s.row; ever = s.ever; loaded = x; drawn = s.drawn; coded = s.coded; code = s.code; deep = s.deep; z = s.z })

-- other drawn marks
abbrev pub with_drawn : State → List Bool → State
with_drawn s x = with_slots s (record { row = s.row; ever = s.ever; loaded = s.loaded; drawn = x; coded = s.coded; code = s.code; deep = s.deep; z = s.z })

-- other screen z of the slots
abbrev pub with_z : State → List Float → State
with_z s x = with_slots s (record { row = s.row; ever = s.ever; loaded = s.loaded; drawn = s.drawn; coded = s.coded; code = s.code; deep = s.deep; z = x })

-- ---- one field of the lights, or of the lookat

-- another number of lights
abbrev pub with_number : Lights → ℕ → Lights
with_number l x = record { number = x; directions = l.directions; colours = l.colours; ambient = l.ambient; changed = l.changed; folded = l.folded; top = l.top; first = l.first }

-- other directions of the light slots
abbrev pub with_directions : Lights → List Float → Lights
with_directions l x = record { number = l.number; directions = x; colours = l.colours; ambient = l.ambient; changed = l.changed; folded = l.folded; top = l.top; first = l.first }

-- other colours of the light slots
abbrev pub with_colours : Lights → List Float → Lights
with_colours l x = record { number = l.number; directions = l.directions; colours = x; ambient = l.ambient; changed = l.changed; folded = l.folded; top = l.top; first = l.first }

-- another ambient colour
abbrev pub with_ambient : Lights → List Float → Lights
with_ambient l x = record { number = l.number; directions = l.directions; colours = l.colours; ambient = x; changed = l.changed; folded = l.folded; top = l.top; first = l.first }

-- marked changed or not
abbrev pub marked : Lights → Bool → Lights
marked l x = record { number = l.number; directions = l.directions; colours = l.colours; ambient = l.ambient; changed = x; folded = l.folded; top = l.top; first = l.first }

-- marked folded or not
abbrev pub with_fold : Lights → Bool → Lights
with_fold l x = record { number = l.number; directions = l.directions; colours = l.colours; ambient = l.ambient; changed = l.changed; folded = x; top = l.top; first = l.first }

-- another model top with which they were folded
abbrev pub with_top : Lights → List Float → Lights
with_top l x = record { number = l.number; directions = l.directions; colours = l.colours; ambient = l.ambient; changed = l.changed; folded = l.folded; top = x; first = l.first }

-- another place of the first
abbrev pub with_first : Lights → ℕ → Lights
with_first l x = record { number = l.number; directions = l.directions; colours = l.colours; ambient = l.ambient; changed = l.changed; folded = l.folded; top = l.top; first = x }

-- other axes
abbrev pub axes_set : Lookat → List Float → Lookat
axes_set l x = record { axes = x; changed = l.changed; folded = l.folded; top = l.top; place = l.place }

-- marked changed or not
abbrev pub look_marked : Lookat → Bool → Lookat
look_marked l x = record { axes = l.axes; changed = x; folded = l.folded; top = l.top; place = l.place }

-- marked folded or not
abbrev pub look_fold : Lookat → Bool → Lookat
look_fold l x = record { axes = l.axes; changed = l.changed; folded = x; top = l.top; place = l.place }

-- another model top with which they were folded
abbrev pub look_top : Lookat → List Float → Lookat
look_top l x = record { axes = l.axes; changed = l.changed; folded = l.folded; top = x; place = l.place }

-- another place
abbrev pub look_place : Lookat → ℕ → Lookat
look_place l x = record { axes = l.axes; changed = l.changed; folded = l.folded; top = l.top; place = x }

-- ---- several fields

-- another fog multiplier and offset
abbrev pub with_fog : State → ℤ → ℤ → State
with_fog s x y = with_fogoff (with_fogmul s x) y

-- another model stack, of depth d
abbrev pub with_model : State → ℕ → List Float → State
with_model s d m = with_stack (with_depth s d) m

-- another combined matrix, and whether it is defined
abbrev pub with_combined : State → List Float → Bool → State
with_combined s m b = with_defined (with_product s m) b

-- the combined matrix undefined
abbrev pub undefined : State → State
undefined s = with_defined s false

-- other directions and colours of the light slots
abbrev pub with_columns : Lights → List Float → List Float → Lights
with_columns l d c = with_colours (with_directions l d) c

-- other lookat axes, marked changed or not
abbrev pub with_axes : Lookat → List Float → Bool → Lookat
with_axes l a b = look_marked (axes_set l a) b

-- the lights folded with the model top m, as entry n
abbrev pub folded_lights : Lights → List Float → ℕ → Lights
folded_lights l m n = with_first (with_top (with_fold (marked l false) true) m) n

-- the lookat axes likewise
abbrev pub folded_lookat : Lookat → List Float → ℕ → Lookat
folded_lookat l m n = look_place (look_top (look_fold (look_marked l false) true) m) n
