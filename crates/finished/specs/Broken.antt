-- Machines that break demand 3, each the stage's own but for one rule. `refuted` of proofs/Refuted.antt: the theorem is false of each. Definitions only.
use Rattle.std.specs.Prelude.{ℕ, ◌+◌, ◌-◌, ◌*◌, true, false, List, [], ◌∷◌, length, get_or, set, take, eqb, leb, Float}
use Rattle.areas.specs.Area.{part, put}
use Rattle.matrix.specs.Math.{times, rows, laid}
use Rattle.decide.specs.Append.{final}
use Rattle.triangle.specs.Run.{longer}
use Rattle.stage.specs.declared.State.{State}
use Rattle.stage.specs.declared.Lights.{Lights}
use Rattle.stage.specs.Plan.{Edit, keep, grow, patch, appended, Row, Edits, Plan, refuse, does, pick}
use Rattle.stage.specs.With.{with_row, with_ever, with_loaded, with_drawn, with_slots, with_lights, with_combined, with_defined, marked, with_columns}
use Rattle.stage.specs.Matrices.{model_top, edits1}
use Rattle.stage.specs.Draw.{mark}
use Rattle.sequence.specs.Sequence.{Command, matrix, force, pop, viewport, geometry, texture, fog, number, light, lookat, microcode, load, cull, explain, depth, modify, draw, ink, Book, Machine}

-- ---- one kind of command under another rule

-- the kinds that are altered below, by number; 0 the rest
abbrev pub a_matrix : ℕ
a_matrix = 1

abbrev pub a_light : ℕ
a_light = 2

abbrev pub a_microcode : ℕ
a_microcode = 3

abbrev pub a_load : ℕ
a_load = 4

abbrev pub a_modify : ℕ
a_modify = 5

abbrev pub a_draw : ℕ
a_draw = 6

-- the kind of a command, and the slots that it names
abbrev pub named : Command → ℕ × List ℕ
named (matrix flags bytes at) = (a_matrix, [])
named (force bytes at) = (0, [])
named (pop count) = (0, [])
named (viewport bytes at) = (0, [])
named (geometry off on) = (0, [])
named (texture tile level on sc tc) = (0, [])
named (fog multiplier offset) = (0, [])
named (number bytes) = (0, [])
named (light slot bytes at) = (a_light, slot ∷ [])
named (lookat slot bytes at) = (0, [])
named (microcode to) = (a_microcode, [])
named (load first count bytes at) = (a_load, first ∷ [])
named (cull first last) = (0, [])
named (explain first last) = (0, [])
named (depth slot threshold) = (0, [])
named (modify slot attribute value) = (a_modify, slot ∷ [])
named (draw a b c material mode colour prim) = (a_draw, a ∷ b ∷ c ∷ [])
named (ink colour) = (0, [])

-- what becomes of an accepted command: the book before it, the slots that it names, the state and the edits that the stage plans
abbrev pub Rule : Type 0
Rule = Book → List ℕ → State → Edits → Plan

abbrev pub altered : (State → Edits → Plan) → Plan → Plan
altered g (refuse n vs) = refuse n vs
altered g (does vs t e) = g t e

-- the machine m, with the commands of one kind under the rule r
unfoldable pub under : ℕ → Rule → Machine → Machine
under kind r m c k = pick (eqb (named c).0 kind) (altered (r k (named c).1) (m c k)) (m c k)

-- ---- parts of a plan

-- edits with another one of the rows, or of the runs
abbrev pub with_row_edit : Edits → Edit Row → Edits
with_row_edit e r =
    record { matrices = e.matrices; viewports = e.viewports; scales = e.scales; lights = e.lights; lookats = e.lookats; fogs = e.fogs; rows = r; drawing = e.drawing }

abbrev pub with_run_edit : Edits → Edit (List ℕ) → Edits
with_run_edit e r =
    record { matrices = e.matrices; viewports = e.viewports; scales = e.scales; lights = e.lights; lookats = e.lookats; fogs = e.fogs; rows = e.rows; drawing = record { indices = e.drawing.indices; runs = r } }

-- a row appended is written over row i instead
abbrev pub over : ℕ → Edit Row → Edit Row
over i keep = keep
over i (grow []) = keep
over i (grow (r ∷ rs)) = patch i r
over i (patch j r) = patch j r

-- of the rows appended only the first
abbrev pub first_only : Edit Row → Edit Row
first_only keep = keep
first_only (grow rs) = grow (take 1 rs)
first_only (patch j r) = patch j r

-- the first slot that a command names
abbrev pub slot_in : List ℕ → ℕ
slot_in is = get_or is 0 0

-- a change of slot i written over its row, whatever was drawn
abbrev pub writes_over : Book → ℕ → State → Edits → Plan
writes_over k i t e = does [] (with_row t k.state.row) (with_row_edit e (over (get_or k.state.row i 0) e.rows))

-- a state with other clip codes of the slots
abbrev pub with_code : State → List ℕ → State
with_code s x = with_slots s (record { row = s.row; ever = s.ever; loaded = s.loaded; drawn = s.drawn; coded = s.coded; code = x; deep = s.deep; z = s.z })

-- slots of three numbers: what the new ones have in slot i put into the slot behind it, the others as they were
abbrev pub behind : ℕ → List Float → List Float → List Float
behind i old new = put old (3 * (i + 1)) (part new (3 * i) 3)

-- the lights l, with the light that the new ones have in slot i put into the slot behind it
abbrev pub aside : Lights → ℕ → Lights → Lights
aside l i new = with_columns new (behind i l.directions new.directions) (behind i l.colours new.colours)

-- ---- slots, rows and runs

-- 1. a change is made in place always
unfoldable pub in_place : Machine → Machine
in_place = under a_modify (λ k is t e. writes_over k (slot_in is) t e)

-- 2. a microcode change keeps the loaded marks but clears the drawn ones
unfoldable pub keeps_loaded : Machine → Machine
keeps_loaded = under a_microcode (λ k is t e. does [] (with_loaded t k.state.loaded) e)

-- 3. a draw marks two slots
unfoldable pub marks_two : Machine → Machine
marks_two = under a_draw (λ k is t e. does [] (with_drawn t (mark k.state.drawn (take 2 is))) e)

-- 4. a load gives the first slot's row to the second too
unfoldable pub shares_row : Machine → Machine
shares_row = under a_load (λ k is t e. does [] (with_row t (set t.row (slot_in is + 1) (get_or t.row (slot_in is) 0))) e)

-- 5. runs are merged though their settings differ
unfoldable pub merges_runs : Machine → Machine
merges_runs =
    under a_draw
    (λ k is t e.
    let us = k.drawing.runs.used in
    does [] t (with_run_edit e (pick (eqb (length us) 0) e.drawing.runs (patch (length us - 1) (longer 0 (final us))))))

-- 6. a row is copied only at the first change since its load: the machine remembers a change as 64 on top of the slot's clip code, which a load
-- writes anew
unfoldable pub copies_once : Machine → Machine
copies_once =
    under a_modify
    (λ k is t e.
    let c = get_or k.state.code (slot_in is) 0 in
    pick (leb 64 c) (writes_over k (slot_in is) t e) (does [] (with_code t (set t.code (slot_in is) (c + 64))) e))

-- 7. a load fills one row and one slot, whatever the count
unfoldable pub loads_first : Machine → Machine
loads_first =
    under a_load
    (λ k is t e.
    let s = k.state in
    let i = slot_in is in
    does []
    (with_row (with_ever (with_loaded (with_drawn t (set s.drawn i false)) (set s.loaded i true)) (set s.ever i true)) (set s.row i (get_or t.row i 0)))
    (with_row_edit e (first_only e.rows)))

-- ---- settings

-- 8. a light leaves the lights unmarked
unfoldable pub forgets_mark : Machine → Machine
forgets_mark = under a_light (λ k is t e. does [] (with_lights t (marked t.lights k.state.lights.changed)) e)

-- 9. a light is stored in the next slot
unfoldable pub stores_aside : Machine → Machine
stores_aside = under a_light (λ k is t e. does [] (with_lights t (aside k.state.lights (slot_in is) t.lights)) e)

-- 10. the combined matrix is the projection times the model top
unfoldable pub multiplies_back : Machine → Machine
multiplies_back =
    under a_matrix
    (λ k is t e.
    let m = laid (times (rows t.projection 0) (model_top t)) in
    does [] (with_combined t m true) (edits1 (appended k.matrices m)))

-- 11. a microcode change leaves the combined matrix defined
unfoldable pub leaves_defined : Machine → Machine
leaves_defined = under a_microcode (λ k is t e. does [] (with_defined t k.state.defined) e)
