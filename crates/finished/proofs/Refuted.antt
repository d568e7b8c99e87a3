-- The theorem is false of each broken machine: a short sequence after which a recorded triangle shows something else. Assumes nothing.
use mathlib.Core.Path.{◌≡◌, refl, sym, ap}
use Prim.Native.Nat.{ℕ, ◌+◌, ◌-◌, ◌*◌}
use native.Mathlib.Omega.{arith}
use mathlib.Core.Bool.{Bool, true, false, false≢true}
use mathlib.Core.List.{List, [], ◌∷◌, ◌++◌}
use lib.ListN.{get_or, replicate}
use lib.Ieee.{add, mul, div, neg, lt, le, eq, ne}
use Rattle.numbers.specs.Ratio.{of_ratio}
use Rattle.matrix.specs.Math.{zero, row_times, times, rows, laid}
use Rattle.matrix.specs.Clip.{code_of, depth_of}
use Rattle.layout.specs.Layout.{entry_at, row_at, matrix_at, vertex_at, triple_at, colour_at, direction_at, light_at}
use Rattle.areas.specs.Area.{put, write, matches}
use Rattle.areas.specs.Widths.{matrix_width, viewport_width, scale_width, light_width, float_width, word_width, index_width, run_width}
use Rattle.decide.specs.Family.{texgen_mode, family_of}
use Rattle.decide.specs.Stack.{made, pushed, popped, relit}
use Rattle.decide.specs.Lights.{slotted}
use Rattle.fold.specs.Direction.{folded}
use Rattle.fold.specs.Lights.{light_entry, directional, light_entries}
use Rattle.fold.specs.Fog.{find}
use Rattle.fold.specs.Scales.{same_scale}
use Rattle.fold.specs.Decision.{refold}
use Rattle.vertex.specs.Vertices.{floats_of, words_of, clip_of, slot_at, slot_of, vertices_at}
use Rattle.change.specs.Decoded.{decoded, floats_after, words_after, depth_after, appends}
use Rattle.stage.specs.Modify.{moved, asking, changed, change_plan, modify_plan}
use Rattle.triangle.specs.Run.{closed, same_run}
use Rattle.triangle.specs.Slot.{held}
use Rattle.stage.specs.declared.settings.Microcode.TheVariants.{F3dex2}
use Rattle.stage.specs.Plan.{pick, unless, carry, appended, appending, telling}
use Rattle.stage.specs.Sound.{state_sound, limit}
use Rattle.numbers.specs.Choice.{all}
use Rattle.stage.specs.Opening.{zeros, blank, opening_plan}
use Rattle.stage.specs.Opening as start
use Rattle.stage.specs.Load.{settled, settled_state, shared_by, load_edits, load_plan}
use Rattle.stage.specs.Matrices.{combine, turned, matrix_stores, matrix_plan, force_stores, force_plan, geometry_plan}
use Rattle.stage.specs.Lights.{light_in, number_plan, ambient_plan, slot_plan, light_plan, switched, microcode_plan}
use Rattle.stage.specs.Rows.{fill_slot, fill_slots}
use Rattle.stage.specs.Draw.{run_edit, draw_plan}
use Rattle.sequence.specs.Sequence.{Command, matrix, force, geometry, number, light, load, modify, draw, microcode, Areas, Machine, Alike, book, plan, result, step, run, accepted, opening}
use Rattle.finished.specs.Shown.{Triangle, shown, shown_by, settings_at, corner_of, triangle_of}
use Rattle.finished.specs.Settings.{turned_to, lamp_to, loaded_with}
use Rattle.finished.specs.Bench.{no_corner, bench0, turns, pops, settled_values, corner, changed_by, modifies, draws, act, bench}
use Rattle.finished.specs.Statement.{Finished}
use Rattle.finished.specs.Broken.{under, in_place, keeps_loaded, marks_two, shares_row, merges_runs, copies_once, loads_first, forgets_mark, stores_aside, multiplies_back, leaves_defined}

-- room for a few entries of each table
areas : Areas
areas =
    record {
      matrices = zeros (3 * matrix_width);
      viewports = zeros (2 * viewport_width);
      scales = zeros (2 * scale_width);
      lights = zeros (4 * light_width);
      lookats = [];
      fogs = [];
      floats = zeros (6 * float_width);
      words = replicate (6 * word_width) 0;
      drawing = record { indices = replicate (6 * index_width) 0; runs = replicate (2 * run_width) 0 };
    }

-- three vertices of which every byte is n, or one; a triangle of them with a material
loaded : ℕ → Command
loaded n = load 0 3 (replicate 48 n) 0

single : ℕ → Command
single slot = load slot 1 (replicate 16 0) 0

drawn : ℕ → Command
drawn material = draw 0 1 2 material 0 0 0

-- slot 0's, 1's or 2's colour becomes another
recoloured : ℕ → ℕ → Command
recoloured slot n = modify slot 0x10 n

-- lighting on; one light in slot 0, white, and as many as there are; the ambient colour, white, where there are none
lit : Command
lit = geometry 0 0x00020000

white : Command
white = light 0 (replicate 11 255) 0

one-light : Command
one-light = number 24

-- a matrix of 64 bytes whose half i is 1 and every other number 0
cell : ℕ → List ℕ
cell i = replicate (2 * i + 1) 0 ++ 1 ∷ replicate (62 - 2 * i) 0

-- the machine that b makes of the stage is finished
abbrev AllFinished : (Machine → Machine) → Type 0
AllFinished b = (x y : Areas) → Alike x y → (cs ds es : List Command) (n : ℕ) → Finished family_of (b (plan family_of limit)) 256 x y cs ds es n

-- of a triangle: the colour of a corner; whether its first light is black; whether number i of its matrix is zero; the material
abbrev colour_of : ℕ → Triangle → ℕ
colour_of i t = (get_or t.corners i no_corner).colour

abbrev black : Triangle → Bool
black t = eq (get_or (get_or (get_or t.corners 0 no_corner).lights 0 []) 3 zero) zero

abbrev empty : ℕ → Triangle → Bool
empty i t = eq (get_or (get_or t.corners 0 no_corner).matrix i zero) zero

abbrev material_of : Triangle → ℕ
material_of t = get_or t.settings 0 0

alike : Alike areas areas
alike =
    record { matrices = refl; viewports = refl; scales = refl; lights = refl; lookats = refl; fogs = refl; floats = refl; words = refl; indices = refl; runs = refl }

-- THE THEOREM IS FALSE OF EACH: it refuses all eleven
pub refuted : (AllFinished in_place → ⊥)
    × (AllFinished keeps_loaded → ⊥)
    × (AllFinished marks_two → ⊥)
    × (AllFinished shares_row → ⊥)
    × (AllFinished merges_runs → ⊥)
    × (AllFinished copies_once → ⊥)
    × (AllFinished loads_first → ⊥)
    × (AllFinished forgets_mark → ⊥)
    × (AllFinished stores_aside → ⊥)
    × (AllFinished multiplies_back → ⊥)
    × (AllFinished leaves_defined → ⊥)
unfolding in_place keeps_loaded marks_two shares_row merges_runs copies_once loads_first forgets_mark stores_aside multiplies_back leaves_defined areas loaded single drawn recoloured lit white one-light cell under plan result step run accepted opening book shown shown_by settings_at corner_of triangle_of bench0 turned_to lamp_to loaded_with turns pops settled_values corner changed_by modifies draws act bench of_ratio row_times times rows laid code_of depth_of entry_at row_at matrix_at vertex_at triple_at colour_at direction_at light_at put write matches texgen_mode made pushed popped relit slotted folded light_entry directional light_entries find same_scale refold floats_of words_of clip_of slot_at slot_of vertices_at decoded floats_after words_after depth_after appends moved closed same_run held pick unless carry appended appending all state_sound blank opening_plan start.opened combine turned telling matrix_stores matrix_plan force_stores force_plan geometry_plan light_in number_plan ambient_plan slot_plan light_plan settled settled_state shared_by load_edits load_plan switched microcode_plan fill_slot fill_slots asking changed change_plan modify_plan run_edit draw_plan add mul div neg lt le eq ne
refuted = (
  λ h. let q : ◌≡◌ {A = ℕ} 0x07000000 0 = ap (colour_of 1) (h areas areas alike (loaded 0 ∷ drawn 0 ∷ []) (recoloured 1 7 ∷ []) [] 0 (omega arith)).0.shows in omega (arith, q),
  λ h. let q : ◌≡◌ {A = ℕ} 0x07000000 0 = ap (colour_of 1) (h areas areas alike (loaded 0 ∷ drawn 0 ∷ []) (microcode F3dex2 ∷ recoloured 1 7 ∷ []) [] 0 (omega arith)).0.shows in omega (arith, q),
  λ h. let q : ◌≡◌ {A = ℕ} 0x07000000 0 = ap (colour_of 2) (h areas areas alike (loaded 0 ∷ drawn 0 ∷ []) (recoloured 2 7 ∷ []) [] 0 (omega arith)).0.shows in omega (arith, q),
  λ h. let q : ◌≡◌ {A = ℕ} 0x07000000 0 = ap (colour_of 1) (h areas areas alike (loaded 0 ∷ recoloured 0 7 ∷ drawn 0 ∷ []) [] [] 0 (omega arith)).0.shows in omega (arith, q),
  λ h. let q : ◌≡◌ {A = ℕ} 1 2 = ap material_of (h areas areas alike (loaded 0 ∷ drawn 1 ∷ drawn 2 ∷ []) [] [] 1 (omega arith)).0.shows in omega (arith, q),
  λ h. let q : ◌≡◌ {A = ℕ} 0x09000000 0x07000000 = ap (colour_of 1) (h areas areas alike (loaded 0 ∷ drawn 0 ∷ recoloured 1 7 ∷ drawn 0 ∷ []) (recoloured 1 9 ∷ []) [] 1 (omega arith)).0.shows in omega (arith, q),
  λ h. let q : ◌≡◌ {A = ℕ} 0 0x01010101 = ap (colour_of 1) (h areas areas alike (single 0 ∷ single 1 ∷ single 2 ∷ loaded 1 ∷ drawn 0 ∷ []) [] [] 0 (omega arith)).0.shows in omega (arith, q),
  λ h. let q : ◌≡◌ {A = Bool} true false = ap black (h areas areas alike (lit ∷ loaded 0 ∷ white ∷ loaded 0 ∷ drawn 0 ∷ []) [] [] 0 (omega arith)).0.shows in false≢true (sym q),
  λ h. let q : ◌≡◌ {A = Bool} true false = ap black (h areas areas alike (one-light ∷ lit ∷ white ∷ loaded 0 ∷ drawn 0 ∷ []) [] [] 0 (omega arith)).0.shows in false≢true (sym q),
  λ h. let q : ◌≡◌ {A = Bool} true false = ap (empty 2) (h areas areas alike (matrix 2 (cell 1) 0 ∷ matrix 6 (cell 6) 0 ∷ loaded 0 ∷ drawn 0 ∷ []) [] [] 0 (omega arith)).0.shows in false≢true (sym q),
  λ h. let q : ◌≡◌ {A = Bool} true false = ap (empty 0) (h areas areas alike (force (cell 1) 0 ∷ microcode F3dex2 ∷ loaded 0 ∷ drawn 0 ∷ []) [] [] 0 (omega arith)).0.shows in false≢true (sym q),
)
