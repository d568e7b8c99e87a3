-- Load keeps the invariant. Assumes nothing.
use mathlib.Core.Path.{◌≡◌, refl, sym, ◌∙◌}
use Prim.Native.Nat.{ℕ, ◌+◌, ◌-◌, ◌≤◌}
use native.Mathlib.Omega.{arith}
use mathlib.Core.Bool.{Bool, true, false}
use mathlib.Core.List.{List, [], ◌∷◌, map}
use lib.ListN.{length}
use lib.Dec.{eqb}
use lib.Ieee.{Float}
use borrow.Author.Tests.{ne_eqb}
use Rattle.decide.specs.declared.family.Family.{Family}
use Rattle.decide.specs.Family.{flag, lit, texgen_mode}
use Rattle.fold.specs.Lights.{light_entries}
use Rattle.fold.proofs.Believe.{length-lights}
use Rattle.layout.specs.declared.records.Vertex.{Vertex}
use Rattle.matrix.specs.Math.{rows, laid}
use Rattle.vertex.specs.declared.Shared.{Shared}
use Rattle.vertex.specs.declared.Slot.{Slot}
use Rattle.vertex.specs.Vertices.{slot_of}
use Rattle.stage.specs.declared.State.{State}
use Rattle.stage.specs.declared.Lights.{Lights}
use Rattle.stage.specs.declared.Lookat.{Lookat}
use Rattle.stage.specs.declared.load.Settled.{Settled}
use Rattle.stage.specs.Plan.{Edits, pick}
use Rattle.stage.specs.With.{folded_lights, folded_lookat}
use Rattle.stage.specs.Matrices.{model_top, product}
use Rattle.stage.specs.Load.{fog_pair, settled, settled_state, shared_by, load_edits}
use Rattle.stage.specs.Rows.{fill_slot, fill_slots}
use Rattle.sequence.specs.Sequence.{Book}
use Rattle.sequence.proofs.Turn.{edit, enter}
use Rattle.finished.specs.Shown.{Entries, entries_of}
use Rattle.finished.specs.Settings.{folded_with, lamps_fold, axes_fold, lights_due, lookat_due, loaded_with}
use Rattle.finished.specs.Bench.{Values, Bench, moved, settled_values, corner, seated, loads}
use Rattle.finished.proofs.Lists.{longer-length, longer-at, same}
use Rattle.finished.proofs.Growing.{Grown}
use Rattle.finished.proofs.Standing.{Standing, tables-grow}
use Rattle.finished.proofs.Settled.{longer-if, matrix-settled, scale-settled, lights-settled, lights-shared, lookat-settled, lookat-shared, fog-settled}
use Rattle.finished.proofs.Loaded.{Shares, rows-loaded}
use Rattle.sequence.proofs.Counted.{counted-then, edit-counted}
use Rattle.finished.proofs.Ties.{parts_of, lamps_of, axes_of, settings_of, CurrentIn, Inv}

-- what no slot's filling changes, no load's rows change
fills-keep : {A : Type 0} (g : State → A) → ((u : State) (k r : ℕ) (v : Slot) → g (fill_slot u k r v) ≡ g u)
    → (u : State) (m : List (List Float)) (e : Shared) (k r : ℕ) (vs : List Vertex) → g (fill_slots u m e k r vs) ≡ g u
unfolding fill_slots
fills-keep g h u m e k r [] = refl
fills-keep g h u m e k r (v ∷ vs) = fills-keep g h (fill_slot u k r (slot_of m e v)) m e (k + 1) (r + 1) vs ∙ h u k r (slot_of m e v)

-- lights, and axes, folded anew or not
lamps-then : (b : Bool) (l : Lights) (m : List Float) (n : ℕ) → lamps_of (pick b (folded_lights l m n) l) ≡ lamps_fold (lamps_of l) (pick b (folded_with m) (lamps_of l).fold)
unfolding pick
lamps-then true l m n = refl
lamps-then false l m n = refl

axes-then : (b : Bool) (l : Lookat) (m : List Float) (n : ℕ) → axes_of (pick b (folded_lookat l m n) l) ≡ axes_fold (axes_of l) (pick b (folded_with m) (axes_of l).fold)
unfolding pick
axes-then true l m n = refl
axes-then false l m n = refl

module _ (f : Family) (seats : ℕ) (k : Book) (h : Bench) (I : Inv seats k h) (vs : List Vertex) where
  -- what is decided, and what the tables get
  abbrev d : Settled
  d = settled f k.state k.matrices.used k.scales.used k.fogs.used

  abbrev e : Edits
  e = load_edits (settled f k.state k.matrices.used k.scales.used k.fogs.used) k.state vs

  -- tables 1 to 6 then
  t : Entries
  t =
      record {
        matrices = edit e.matrices k.matrices.used;
        viewports = k.viewports.used;
        scales = edit e.scales k.scales.used;
        lights = edit e.lights k.lights.used;
        lookats = edit e.lookats k.lookats.used;
        fogs = edit e.fogs k.fogs.used;
      }

  -- the values that the bench holds then
  g : Values
  g = settled_values f (settings_of k.state) h.values

  tables : Grown (entries_of k) t
  unfolding t load_edits
  tables =
      record {
        matrices = longer-if _ _ k.matrices.used;
        viewports = same k.viewports.used;
        scales = longer-if _ _ k.scales.used;
        lights = longer-if _ _ k.lights.used;
        lookats = longer-if _ _ k.lookats.used;
        fogs = longer-if _ _ k.fogs.used;
      }

  -- the lights that are appended where they are due: one more than their number
  light_count : length (light_entries (rows (laid (model_top k.state)) 0) k.state.lights.directions k.state.lights.colours k.state.lights.ambient k.state.lights.number) ≡ k.state.lights.number + 1
  light_count = length-lights _ _ _ _ _

  -- the values that the bench holds then are those of the tables
  current : CurrentIn t (parts_of (settled_state d k.state)) g
  unfolding t g load_edits settled settled_state settled_values
  current =
      let c = I.ties.current in
      let n = I.count in
      record {
        some-matrix = omega (arith, c.some-matrix, longer-length tables.matrices);
        matrix = rw c.matrix (sym (matrix-settled k.matrices.used k.state.combined (product k.state) k.state.defined));
        some-viewport = c.some-viewport;
        viewport = c.viewport;
        scale = rw c.scale (sym (scale-settled k.scales.used k.state.texture.sc k.state.texture.tc).0);
        lights = lights-settled k.lights.used _ h.values.lights k.state.lights (laid (model_top k.state)) k.state.counts.lights n.lights light_count _ c.lights;
        lookat = lookat-settled k.lookats.used _ h.values.lookat k.state.lookat (laid (model_top k.state)) k.state.counts.lookats n.lookats _ c.lookat;
        mark = c.mark;
        unit = λ z. let q = c.unit z in (omega (arith, q.0, longer-length tables.scales), longer-at tables.scales [] (k.state.unit - 1) q.0 ∙ q.1);
      }

  -- what the rows share stands in the tables
  shares : Shares f k.state t (shared_by d k.state) g
  unfolding t g load_edits settled shared_by settled_values
  shares =
      let c = I.ties.current in
      let n = I.count in
      let lm = edit-counted e.matrices k.matrices.used k.state.counts.matrices n.matrices in
      let ls = edit-counted e.scales k.scales.used k.state.counts.scales n.scales in
      record {
        matrix = (omega (arith, c.some-matrix, longer-length tables.matrices, lm), rw (← lm) (sym current.matrix));
        viewport = (omega (arith, c.some-viewport, n.viewports), rw (← n.viewports) (sym c.viewport));
        scale = (omega (arith, (scale-settled k.scales.used k.state.texture.sc k.state.texture.tc).1, ls), rw (← ls) (sym current.scale));
        lights = lights-shared k.lights.used _ h.values.lights k.state.lights (laid (model_top k.state)) k.state.counts.lights n.lights light_count (lit f k.state.geometry) _ c.lights;
        texgen = refl;
        fog = fog-settled k.fogs.used (fog_pair k.state) (flag f.fog k.state.geometry);
        lookat = λ z. lookat-shared k.lookats.used _ h.values.lookat k.state.lookat (laid (model_top k.state)) k.state.counts.lookats n.lookats (eqb (texgen_mode f k.state.geometry) 0) _ (ne_eqb _ 0 z) c.lookat;
      }

  -- slots, rows and triangles then
  standing-then : (first : ℕ) → first + length vs ≤ seats
      → Standing seats t (edit e.rows k.rows.used) k.drawing.indices.used k.drawing.runs.used
      (parts_of (fill_slots (settled_state d k.state) (rows d.combined 0) (shared_by d k.state) first k.state.counts.rows vs)).columns
      (seated h.slots first (map (corner f (settings_of k.state) g) vs)) h.triangles
  unfolding load_edits settled_state
  standing-then first fits =
      let u : State = settled_state d k.state in
      let J = tables-grow I.ties.standing tables in
      let K = rows-loaded f k.state t (shared_by d k.state) g shares (rows d.combined 0) seats vs u k.rows.used k.drawing.indices.used k.drawing.runs.used h.slots h.triangles first J fits in
      rw I.count.rows at K

  -- the settings that the bench holds then are those of the state
  settings-then : settings_of (settled_state d k.state) ≡ loaded_with f (settings_of k.state)
  unfolding settled settled_state loaded_with
  settings-then = λ i.
      record {
        modes = (settings_of k.state).modes;
        space = (settings_of k.state).space;
        lights = lamps-then (lights_due f (settings_of k.state)) k.state.lights (laid (model_top k.state)) k.state.counts.lights i;
        lookat = axes-then (lookat_due f (settings_of k.state)) k.state.lookat (laid (model_top k.state)) k.state.counts.lookats i;
      }

  -- THE INVARIANT AFTER A LOAD
  pub load-keeps : (first : ℕ) → first + length vs ≤ seats
      → Inv seats (enter (fill_slots (settled_state d k.state) (rows d.combined 0) (shared_by d k.state) first k.state.counts.rows vs) e k) (loads f first vs (moved h (settings_of k.state) h.values))
  unfolding t g settled_values load_edits fill_slot
  load-keeps first fits =
      let u : State = settled_state d k.state in
      let m : List (List Float) = rows d.combined 0 in
      let x : Shared = shared_by d k.state in
      let n : ℕ = k.state.counts.rows in
      record {
        count = counted-then k k.state e I.count;
        settings = fills-keep settings_of (λ _ _ _ _. refl) u m x first n vs ∙ settings-then;
        ties = record {
          current = rw (
            fills-keep (λ (y : State). y.lights) (λ _ _ _ _. refl) u m x first n vs,
            fills-keep (λ (y : State). y.lookat) (λ _ _ _ _. refl) u m x first n vs,
            fills-keep (λ (y : State). y.unit) (λ _ _ _ _. refl) u m x first n vs,
          )
              current;
          standing = standing-then first fits;
        };
      }
