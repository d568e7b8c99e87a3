-- The whole invariant: the bench's values are those that the tables hold, and slots and triangles stand. Assumes nothing.
use mathlib.Core.Path.{◌≡◌, sym}
use mathlib.Core.Logic.{◌≢◌}
use Prim.Native.Nat.{ℕ, ◌-◌, ◌<◌}
use native.Mathlib.Omega.{arith}
use mathlib.Core.Bool.{Bool, true, false, not}
use mathlib.Core.List.{List, [], ◌∷◌, ◌++◌}
use lib.ListN.{length, get_or, length-append}
use lib.Dec.{eqb}
use lib.Ieee.{Float, eq}
use Rattle.areas.specs.Area.{matches}
use Rattle.decide.specs.Append.{final}
use Rattle.change.specs.Decoded.{unit_entry}
use Rattle.stage.specs.declared.State.{State}
use Rattle.stage.specs.declared.Lights.{Lights}
use Rattle.stage.specs.declared.Lookat.{Lookat}
use Rattle.stage.specs.Plan.{Row}
use Rattle.sequence.specs.Sequence.{Book}
use Rattle.sequence.proofs.Counted.{Counted}
use Rattle.finished.specs.Shown.{Corner, Triangle, Entries, entries_of}
use Rattle.finished.specs.Settings.{Settings, Space, Lamps, Axes}
use Rattle.finished.specs.Bench.{Values, Bench, renewed, new_matrix, new_viewport}
use Rattle.finished.proofs.Lists.{same, with-more, final-snoc, pick_true, pick-false}
use Rattle.finished.proofs.Growing.{Grown}
use Rattle.finished.proofs.Settled.{LightsAt}
use Rattle.finished.proofs.Standing.{Columns, Standing, tables-grow}

-- ---- the invariant

-- the parts of a state that are tied to the bench
pub record Parts : Type 0 where
  pub columns : Columns
  pub lights : Lights
  pub lookat : Lookat
  pub unit : ℕ

abbrev pub parts_of : State → Parts
parts_of s =
    record { columns = record { row = s.row; ever = s.ever; loaded = s.loaded; drawn = s.drawn }; lights = s.lights; lookat = s.lookat; unit = s.unit }

-- the values v that the bench holds are those last appended and folded; l the lights, folded lookat axes at a place, u the unit entry's place plus 1
pub record Current (t : Entries) (l : Lights) (folded : Bool) (place u : ℕ) (v : Values) : Type 0 where
  pub some-matrix : 0 < length t.matrices
  pub matrix : v.matrix ≡ final t.matrices
  pub some-viewport : 0 < length t.viewports
  pub viewport : v.viewport ≡ final t.viewports
  pub scale : v.scale ≡ final t.scales
  pub lights : l.folded ≡ true → l.changed ≡ false → LightsAt t.lights l v.lights
  pub lookat : folded ≡ true → (place < length t.lookats) × (get_or t.lookats place [] ≡ v.lookat)
  pub mark : v.unit ≡ not (eqb u 0)
  pub unit : u ≢ 0 → (u - 1 < length t.scales) × (get_or t.scales (u - 1) [] ≡ unit_entry)

-- the same, of the parts of a state
abbrev pub CurrentIn : Entries → Parts → Values → Type 0
CurrentIn t x v = Current t x.lights x.lookat.folded x.lookat.place x.unit v

-- v the bench's values, l its slots, ts what it gave
pub record Ties (seats : ℕ) (t : Entries) (rows : List Row) (indices runs : List (List ℕ)) (x : Parts) (v : Values) (l : List Corner) (ts : List Triangle) : Type 0 where
  pub current : CurrentIn t x v
  pub standing : Standing seats t rows indices runs x.columns l ts

-- the settings of a state, as the bench has them: its matrices, lights and axes, and all
abbrev pub space_of : State → Space
space_of s = record { depth = s.depth; stack = s.stack; projection = s.projection; defined = s.defined }

abbrev pub lamps_of : Lights → Lamps
lamps_of l = record { number = l.number; directions = l.directions; colours = l.colours; ambient = l.ambient; fold = record { changed = l.changed; folded = l.folded; top = l.top } }

abbrev pub axes_of : Lookat → Axes
axes_of l = record { axes = l.axes; fold = record { changed = l.changed; folded = l.folded; top = l.top } }

abbrev pub settings_of : State → Settings
settings_of s =
    record {
      modes = record { microcode = s.microcode; geometry = s.geometry; fog = s.fogmul ∷ s.fogoff ∷ []; sc = s.texture.sc; tc = s.texture.tc };
      space = space_of s;
      lights = lamps_of s.lights;
      lookat = axes_of s.lookat;
    }

pub record Inv (seats : ℕ) (k : Book) (h : Bench) : Type 0 where
  pub count : Counted k
  pub settings : settings_of k.state ≡ h.settings
  pub ties : Ties seats (entries_of k) k.rows.used k.drawing.indices.used k.drawing.runs.used (parts_of k.state) h.values h.slots h.triangles

-- ---- matrix and viewport

abbrev pub with_matrices : Entries → List (List Float) → Entries
with_matrices t m =
    record { matrices = m; viewports = t.viewports; scales = t.scales; lights = t.lights; lookats = t.lookats; fogs = t.fogs }

abbrev pub with_viewports : Entries → List (List Float) → Entries
with_viewports t v =
    record { matrices = t.matrices; viewports = v; scales = t.scales; lights = t.lights; lookats = t.lookats; fogs = t.fogs }

pub grown-same : (t : Entries) → Grown t t
grown-same t =
    record {
      matrices = same t.matrices;
      viewports = same t.viewports;
      scales = same t.scales;
      lights = same t.lights;
      lookats = same t.lookats;
      fogs = same t.fogs;
    }

module _ {seats : ℕ} {t : Entries} {rows : List Row} {indices runs : List (List ℕ)} {x : Parts} {v : Values} {l : List Corner} {ts : List Triangle} (I : Ties seats t rows indices runs x v l ts) (m : List Float) where
  -- the last value compares equal: it is held
  pub matrix-held : matches eq (final t.matrices) m ≡ true → Ties seats t rows indices runs x (new_matrix v m) l ts
  matrix-held e =
      let q : renewed v.matrix m ≡ v.matrix = pick_true (matches eq v.matrix m) v.matrix m (rw I.current.matrix e) in
      rw q I

  -- it does not: the new one is appended and held
  pub matrix-appended : matches eq (final t.matrices) m ≡ false
      → Ties seats (with_matrices t (t.matrices ++ m ∷ [])) rows indices runs x (new_matrix v m) l ts
  matrix-appended e =
      let q : renewed v.matrix m ≡ m = pick-false (matches eq v.matrix m) v.matrix m (rw I.current.matrix e) in
      let c = I.current in
      let g = grown-same t in
      rw q
      (record {
        current = record {
          some-matrix = omega (arith, length-append t.matrices (m ∷ []));
          matrix = sym (final-snoc t.matrices m);
          some-viewport = c.some-viewport;
          viewport = c.viewport;
          scale = c.scale;
          lights = c.lights;
          lookat = c.lookat;
          mark = c.mark;
          unit = c.unit;
        };
        standing = tables-grow I.standing
            (record { matrices = with-more t.matrices (m ∷ []); viewports = g.viewports; scales = g.scales; lights = g.lights; lookats = g.lookats; fogs = g.fogs });
      })

  pub viewport-held : matches eq (final t.viewports) m ≡ true → Ties seats t rows indices runs x (new_viewport v m) l ts
  viewport-held e =
      let q : renewed v.viewport m ≡ v.viewport = pick_true (matches eq v.viewport m) v.viewport m (rw I.current.viewport e) in
      rw q I

  pub viewport-appended : matches eq (final t.viewports) m ≡ false
      → Ties seats (with_viewports t (t.viewports ++ m ∷ [])) rows indices runs x (new_viewport v m) l ts
  viewport-appended e =
      let q : renewed v.viewport m ≡ m = pick-false (matches eq v.viewport m) v.viewport m (rw I.current.viewport e) in
      let c = I.current in
      let g = grown-same t in
      rw q
      (record {
        current = record {
          some-matrix = c.some-matrix;
          matrix = c.matrix;
          some-viewport = omega (arith, length-append t.viewports (m ∷ []));
          viewport = sym (final-snoc t.viewports m);
          scale = c.scale;
          lights = c.lights;
          lookat = c.lookat;
          mark = c.mark;
          unit = c.unit;
        };
        standing = tables-grow I.standing
            (record { matrices = g.matrices; viewports = with-more t.viewports (m ∷ []); scales = g.scales; lights = g.lights; lookats = g.lookats; fogs = g.fogs });
      })
