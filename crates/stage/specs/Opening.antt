-- The meaning of opening. Definitions only.
use Rattle.std.specs.Prelude.{ℕ, Bool, true, false, List, [], ◌∷◌, ◌++◌, replicate, pos, Float}
use Rattle.areas.specs.Widths.{matrix_width, viewport_width}
use Rattle.matrix.specs.Math.{zero, identity, laid}
use Rattle.stage.specs.declared.State.{State}
use Rattle.stage.specs.declared.Counts.{Counts}
use Rattle.stage.specs.Plan.{Edits, keep, grow, Plan, does, judge, table, lent, undrawn, matrix_area, viewport_area, after_in}
use Rattle.stage.specs.With.{Slots, state, with_model, with_projection, with_combined}

-- n zeros
abbrev pub zeros : ℕ → List Float
zeros n = replicate n zero

-- no slot is marked
abbrev pub unmarked : List Bool
unmarked = replicate 256 false

-- slots at the rows r, of which those of v were ever loaded: none is loaded or drawn, and none has a code or a screen z
abbrev pub unloaded : List ℕ → List Bool → Slots
unloaded r v = record { row = r; ever = v; loaded = unmarked; drawn = unmarked; coded = unmarked; code = replicate 256 0; deep = unmarked; z = zeros 256 }

-- a state that is not opened, or one that is, before any matrix: every number zero, every mark cleared, every slot empty
unfoldable pub blank : Bool → State
blank mark =
    state (record { opened = mark; microcode = 0; geometry = 0; fogmul = pos 0; fogoff = pos 0 })
    (record { depth = 0; stack = zeros 512; projection = zeros 16; combined = zeros 16; defined = false })
    (record {
      viewport = zeros 6;
      texture = record { tile = 0; level = 0; on = false; sc = 0; tc = 0 };
      lights = record { number = 0; directions = zeros 24; colours = zeros 24; ambient = zeros 3; changed = false; folded = false; top = zeros 16; first = 0 };
      lookat = record { axes = zeros 6; changed = false; folded = false; top = zeros 16; place = 0 };
      counts = record { matrices = 0; viewports = 0; scales = 0; lights = 0; lookats = 0; fogs = 0; rows = 0; indices = 0; runs = 0 };
      unit = 0;
    })
    (unloaded (replicate 256 0) unmarked)

-- one identity on the model stack; projection and combined matrix identity, undefined; all else zero
unfoldable pub opened : State
opened = with_combined (with_projection (with_model (blank true) 1 (laid identity ++ zeros 496)) (laid identity)) (laid identity) false

-- identity as entry 0 of table 1, zeros as entry 0 of table 2
abbrev pub opening_edits : Edits
opening_edits =
    record { matrices = grow (laid identity ∷ []); viewports = grow (zeros 6 ∷ []); scales = keep; lights = keep; lookats = keep; fogs = keep; rows = keep; drawing = undrawn }

-- Opening: room for one entry in tables 1 and 2, else 9
unfoldable pub opening_plan : List Float → List Float → Plan
opening_plan m v =
    judge 9 (lent 1 (table matrix_width 0 m) opening_edits.matrices ∷ lent 2 (table viewport_width 0 v) opening_edits.viewports ∷ [])
    (does [] opened opening_edits)

-- the areas of opening: tables 1 and 2
abbrev pub areas12 : Counts → Edits → List Float × List Float → List Float × List Float
areas12 c e l = (after_in matrix_area c e l.0, after_in viewport_area c e l.1)
