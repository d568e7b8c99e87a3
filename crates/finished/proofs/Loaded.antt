-- A load keeps the invariant: its tables settled, then vertex by vertex. Assumes nothing.
use mathlib.Core.Path.{◌≡◌, refl, ap, ◌∙◌}
use mathlib.Core.Logic.{◌≢◌}
use Prim.Native.Nat.{ℕ, ◌+◌, ◌≤◌, ◌<◌}
use native.Mathlib.Omega.{arith}
use mathlib.Core.Bool.{Bool, true, false}
use mathlib.Core.List.{List, [], ◌∷◌, ◌++◌, map, append-nil, append_assoc}
use mathlib.Core.Option.{none, some}
use lib.ListN.{length, get_or, set, length-append}
use lib.Dec.{eqb}
use lib.Ieee.{Float}
use borrow.Author.Tests.{eqb-false}
use Rattle.areas.specs.Area.{part}
use Rattle.decide.specs.declared.family.Family.{Family}
use Rattle.decide.specs.Family.{flag, lit, texgen_mode}
use Rattle.layout.specs.declared.records.Vertex.{Vertex}
use Rattle.vertex.specs.declared.Shared.{Shared}
use Rattle.vertex.specs.Vertices.{floats_of, words_of, slot_of}
use Rattle.stage.specs.declared.State.{State}
use Rattle.stage.specs.Plan.{Row, pick}
use Rattle.stage.specs.Load.{fog_pair, vertex_row}
use Rattle.stage.specs.Rows.{fill_slot, fill_slots}
use Rattle.finished.specs.Shown.{Corner, Entries, Triangle, fog_shown, shown, shown_by}
use Rattle.finished.specs.Bench.{Values, corner, seated}
use Rattle.finished.proofs.Growing.{Sound}
use Rattle.finished.proofs.Standing.{Standing, row-filled}
use Rattle.finished.proofs.Ties.{parts_of, settings_of}

-- what the rows of a load share stands in the tables, as the values that the bench holds
pub record Shares (f : Family) (s : State) (t : Entries) (e : Shared) (h : Values) : Type 0 where
  pub matrix : (e.matrix < length t.matrices) × (get_or t.matrices e.matrix [] ≡ h.matrix)
  pub viewport : (e.viewport < length t.viewports) × (get_or t.viewports e.viewport [] ≡ h.viewport)
  pub scale : (e.scale < length t.scales) × (get_or t.scales e.scale [] ≡ h.scale)
  pub lights : (e.light + e.lights ≤ length t.lights) × (part t.lights e.light e.lights ≡ pick (lit f s.geometry) h.lights [])
  pub texgen : e.texgen ≡ texgen_mode f s.geometry
  pub fog : (e.fog ≤ length t.fogs) × (fog_shown t.fogs e.fog ≡ pick (flag f.fog s.geometry) (some (fog_pair s)) none)
  pub lookat : texgen_mode f s.geometry ≢ 0 → (e.lookat < length t.lookats) × (get_or t.lookats e.lookat [] ≡ h.lookat)

module _ (f : Family) (s : State) (t : Entries) (e : Shared) (h : Values) (S : Shares f s t e h) where
  -- a row of the load has its table numbers in use
  row-sound : (v : Vertex) → Sound t (vertex_row e v)
  unfolding words_of
  row-sound v =
      record {
        wide = refl;
        in_use = record {
          matrix = S.matrix.0;
          viewport = S.viewport.0;
          scale = S.scale.0;
          lights = S.lights.0;
          fog = S.fog.0;
          lookat = λ n. (S.lookat (λ z. n (S.texgen ∙ z))).0;
        };
      }

  looks : (b : Bool) → eqb (texgen_mode f s.geometry) 0 ≡ b → pick b none (some (get_or t.lookats e.lookat [])) ≡ pick b none (some h.lookat)
  unfolding pick
  looks true q = refl
  looks false q = ap some (S.lookat (eqb-false (texgen_mode f s.geometry) 0 q)).1

  -- it shows the vertex by value
  row-shown : (v : Vertex) → shown t (vertex_row e v) ≡ corner f (settings_of s) h v
  unfolding shown shown_by corner words_of
  row-shown v = λ i.
      record {
        floats = floats_of v;
        flags = 0;
        matrix = S.matrix.1 i;
        viewport = S.viewport.1 i;
        scale = S.scale.1 i;
        colour = v.colour;
        lights = S.lights.1 i;
        texgen = S.texgen i;
        fog = S.fog.1 i;
        lookat = (ap (λ (m : ℕ). pick (eqb m 0) none (some (get_or t.lookats e.lookat []))) S.texgen ∙ looks (eqb (texgen_mode f s.geometry) 0) refl) i;
      }

  -- vertex by vertex: rows behind those in use, slots from k on
  pub rows-loaded : (m : List (List Float)) (seats : ℕ) (vs : List Vertex) (u : State) (rows : List Row) (indices runs : List (List ℕ)) (l : List Corner) (ts : List Triangle) (k : ℕ)
      → Standing seats t rows indices runs (parts_of u).columns l ts → k + length vs ≤ seats
      → Standing seats t (rows ++ map (vertex_row e) vs) indices runs (parts_of (fill_slots u m e k (length rows) vs)).columns (seated l k (map (corner f (settings_of s) h) vs)) ts
  unfolding fill_slots fill_slot
  rows-loaded m seats [] u rows indices runs l ts k I r = rw (append-nil rows) I
  rows-loaded m seats (v ∷ vs) u rows indices runs l ts k I r =
      let J = row-filled I k (vertex_row e v) (omega arith) (row-sound v) in
      let n : length (rows ++ vertex_row e v ∷ []) ≡ length rows + 1 = length-append rows (vertex_row e v ∷ []) in
      let K = rows-loaded m seats vs (fill_slot u k (length rows) (slot_of m e v)) (rows ++ vertex_row e v ∷ []) indices runs (set l k (shown t (vertex_row e v))) ts (k + 1) J (omega arith) in
      rw (append_assoc rows (vertex_row e v ∷ []) (map (vertex_row e) vs), n, row-shown v) at K
