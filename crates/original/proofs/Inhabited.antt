-- Demand 2 speaks of something: a prologue and further commands that are all accepted, and draw. By computing. Assumes nothing.
use mathlib.Core.Path.{◌≡◌, refl, sym, ap, ◌∙◌, subst}
use Prim.Native.Nat.{ℕ, zero, suc, ◌<◌}
use native.Mathlib.Omega.{arith}
use mathlib.Core.Bool.{Bool, true, ◌&&◌, false≢true}
use mathlib.Core.List.{List, [], ◌∷◌, ◌++◌}
use lib.ListN.{length, get_or, replicate}
use lib.IntN.{pos, negsuc}
use lib.Dec.{leb, ltb}
use lib.Ieee.{to_bits, of_int, round, add, mul, div, neg, lt, le, eq, ne}
use borrow.Author.Tests.{leb-true, ltb-true}
use Rattle.numbers.specs.Ratio.{of_ratio, is_ratio}
use Rattle.numbers.specs.Sqrt as root
use Rattle.matrix.specs.Math.{row_times, col_times, times, rows, laid}
use Rattle.matrix.specs.Clip.{bits_of, code_of, screen_of, depth_of}
use Rattle.layout.specs.Layout.{entry_at, row_at, matrix_at, vertex_at, triple_at, viewport_at, colour_at, direction_at, light_at}
use Rattle.areas.specs.Area.{put, write, matches, eqbℤ}
use Rattle.decide.specs.Family.{texgen_mode, family_of}
use Rattle.decide.specs.Lights.{slotted}
use Rattle.decide.specs.Stack.{made, pushed, popped, relit}
use Rattle.fold.specs.Direction.{folded}
use Rattle.fold.specs.Lights.{light_entry, directional, light_entries}
use Rattle.fold.specs.Lookat.{lookat_entry}
use Rattle.fold.specs.Fog.{find}
use Rattle.fold.specs.Scales.{same_scale}
use Rattle.fold.specs.Decision.{refold}
use Rattle.vertex.specs.Vertices.{floats_of, words_of, clip_of, slot_at, slot_of, vertices_at}
use Rattle.change.specs.Decoded.{decoded, floats_after, words_after, depth_after, appends}
use Rattle.stage.specs.Modify.{moved, asking, changed, change_plan, modify_plan, ink_plan}
use Rattle.triangle.specs.Run.{closed, same_run}
use Rattle.triangle.specs.Slot.{held}
use Rattle.stage.specs.declared.settings.Microcode.{Microcode}
use Rattle.stage.specs.declared.settings.Microcode.TheVariants.{F3dex2, F3dex2NoN}
use Rattle.stage.specs.Plan.{Plan, refuse, does, pick, unless, appended, appending, telling}
use Rattle.stage.specs.Sound.{state_sound, limit}
use Rattle.numbers.specs.Choice.{all}
use Rattle.stage.specs.Opening.{zeros, blank}
use Rattle.stage.specs.Opening as start
use Rattle.stage.specs.Matrices.{combine, turned, matrix_stores, matrix_plan, pop_plan, viewing, viewport_plan, geometry_plan}
use Rattle.stage.specs.Lights.{switched, microcode_plan, texture_plan, fog_plan, light_in, axis_in, number_plan, ambient_plan, slot_plan, light_plan, lookat_plan}
use Rattle.stage.specs.Load.{settled, settled_state, shared_by, load_edits, load_plan}
use Rattle.stage.specs.Rows.{fill_slot, fill_slots}
use Rattle.stage.specs.Draw.{run_edit, draw_plan}
use Rattle.stage.proofs.Judged.{and_left, and_right}
use Rattle.sequence.specs.Sequence.{Command, load, draw, modify, ink, Areas, Book, is_done, plan}
use Rattle.sequence.proofs.Turn.{turn, course}
use Rattle.sequence.proofs.Held.{run-book}
use Rattle.original.specs.Domain.{Data, AllWithin, IsDone, stage, Bytes, Prologue, prologue, opened_as, Inhabited}
use Rattle.original.proofs.Follows.{DoneFrom, on-port}
use Rattle.original.proofs.Starts.{begun-book, begun-is}

-- ---- accepted, and bytes, as tests that compute

abbrev all_done : List Command → Book → Bool
all_done [] k = true
all_done (c ∷ cs) k = is_done (stage c k) && all_done cs (turn (stage c k) k)

done-is : (q : Plan) → is_done q ≡ true → IsDone q
done-is (refuse n vs) e = absurd (false≢true e)
done-is (does vs t x) e = tt

all-done-is : (cs : List Command) (k : Book) → all_done cs k ≡ true → DoneFrom cs k
all-done-is [] k e = tt
all-done-is (c ∷ cs) k e =
    (done-is (stage c k) (and_left (is_done (stage c k)) (all_done cs (turn (stage c k) k)) e), all-done-is cs (turn (stage c k) k) (and_right (is_done (stage c k)) (all_done cs (turn (stage c k) k)) e))

abbrev small : List ℕ → Bool
small [] = true
small (b ∷ bs) = ltb b 256 && small bs

small_at : (bs : List ℕ) → small bs ≡ true → (i : ℕ) → get_or bs i 0 < 256
small_at [] e i = omega arith
small_at (b ∷ bs) e zero = ltb-true b 256 (and_left (ltb b 256) (small bs) e)
small_at (b ∷ bs) e (suc i) = small_at bs (and_right (ltb b 256) (small bs) e) i

-- bytes, and few of them
bytes_of : (bs : List ℕ) → small bs ≡ true → leb (length bs) 16777216 ≡ true → Data bs
bytes_of bs e h = record { bytes = small_at bs e; short = leb-true (length bs) 16777216 h }

-- ---- the example

-- a row of four halves
abbrev four : ℕ → ℕ → ℕ → ℕ → List ℕ
four a b c d = 0 ∷ a ∷ 0 ∷ b ∷ 0 ∷ c ∷ 0 ∷ d ∷ []

-- whole numbers on the diagonal, no fractions
abbrev diagonal : ℕ → Bytes
diagonal n = record { bytes = four n 0 0 0 ++ four 0 n 0 0 ++ four 0 0 n 0 ++ four 0 0 0 n ++ replicate 32 0; at = 0 }

abbrev lit-from : ℕ → Bytes
lit-from n = record { bytes = 200 ∷ 100 ∷ n ∷ 0 ∷ 200 ∷ 100 ∷ n ∷ 0 ∷ n ∷ 40 ∷ 80 ∷ []; at = 0 }

-- a vertex at (x, y, 1), its normal and its place in the texture
abbrev vertex : ℕ → ℕ → List ℕ
vertex x y = 0 ∷ x ∷ 0 ∷ y ∷ 0 ∷ 1 ∷ 0 ∷ 0 ∷ 0 ∷ 32 ∷ 0 ∷ 64 ∷ 10 ∷ 20 ∷ 127 ∷ 255 ∷ []

abbrev example : Prologue
example =
    record {
      modelview = diagonal 1;
      projection = diagonal 2;
      viewport = record { bytes = four 2 3 1 0 ++ four 2 3 1 0; at = 0 };
      -- fog, lighting and texgen
      geometry = 0x70000;
      tile = 0;
      level = 0;
      on = true;
      sc = 32768;
      tc = 16384;
      multiplier = pos 5;
      offset = negsuc 2;
      light = lit-from;
      lookat = lit-from;
      slot = 0;
      vertex = record { bytes = vertex 1 1; at = 0 };
    }

-- a triangle, another colour for one of its corners, how often that is drawn, and the triangle again
abbrev further : List Command
further =
    load 0 3 (vertex 0 0 ++ vertex 0 1 ++ vertex 1 0) 0
    ∷ draw 0 1 2 1 2 3 4
    ∷ modify 1 0x10 0x11223344
    ∷ ink 0x44332211
    ∷ draw 0 1 2 1 2 3 4
    ∷ []

abbrev lent : Areas
lent =
    record {
      matrices = zeros 48;
      viewports = zeros 12;
      scales = zeros 8;
      lights = zeros 48;
      lookats = zeros 6;
      fogs = pos 0 ∷ pos 0 ∷ [];
      floats = zeros 45;
      words = replicate 50 0;
      drawing = record { indices = replicate 6 0; runs = replicate 8 0 };
    }

-- all of them, and what is in use at the end
abbrev every : List Command
every = prologue example ++ further

abbrev end : Microcode → Book
end u = course stage every (begun-book u lent)

computed : (u : Microcode) → (all_done every (begun-book u lent) ≡ true) × (length (end u).drawing.indices.used ≡ 6)
unfolding to_bits of_int round add mul div neg lt le eq ne of_ratio is_ratio root.step root.root root.root_by root.rooted root.sqrt row_times col_times times rows laid bits_of code_of screen_of depth_of entry_at row_at matrix_at vertex_at triple_at viewport_at colour_at direction_at light_at put write matches eqbℤ texgen_mode slotted made pushed popped relit folded light_entry directional light_entries lookat_entry find same_scale refold floats_of words_of clip_of slot_at slot_of vertices_at decoded floats_after words_after depth_after appends moved closed same_run held pick unless appended appending all state_sound blank start.opened combine turned telling matrix_stores matrix_plan pop_plan viewing viewport_plan geometry_plan switched microcode_plan texture_plan fog_plan light_in axis_in number_plan ambient_plan slot_plan light_plan lookat_plan settled settled_state shared_by load_edits load_plan fill_slot fill_slots asking changed change_plan modify_plan ink_plan run_edit draw_plan plan turn course
computed F3dex2 = (refl, refl)
computed F3dex2NoN = (refl, refl)

infixr 4 ◌and◌
◌and◌ : {A B : Type 0} → A → B → A × B
a and b = (a, b)

-- pop, both matrices, viewport; geometry, texture, fog, number; eight lights and two axes; the vertex; what follows
within : AllWithin every
within =
    tt and bytes_of _ refl refl and bytes_of _ refl refl and bytes_of _ refl refl
    and tt and (omega arith, omega arith) and tt and tt
    and bytes_of _ refl refl and bytes_of _ refl refl and bytes_of _ refl refl and bytes_of _ refl refl
    and bytes_of _ refl refl and bytes_of _ refl refl and bytes_of _ refl refl and bytes_of _ refl refl
    and bytes_of _ refl refl and bytes_of _ refl refl
    and bytes_of _ refl refl
    and bytes_of _ refl refl and tt and omega arith and tt and tt and tt

-- THE PREMISES ARE MET, begun with either microcode, and two triangles recorded
pub not-empty : (u : Microcode) → Inhabited u 2
not-empty u =
    let o = begun-is u lent (omega arith, omega arith) in
    record {
      areas = lent;
      opens = (omega arith, omega arith);
      arguments = example;
      commands = further;
      within = within;
      done = on-port every (opened_as u lent) o.0 (subst (DoneFrom every) (sym o.1) (all-done-is every (begun-book u lent) (computed u).0));
      triangles = ap (λ (k : Book). length k.drawing.indices.used) ((run-book family_of limit every (opened_as u lent) o.0).1 ∙ ap (course stage every) o.1) ∙ (computed u).1;
    }
