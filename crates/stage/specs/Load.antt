-- The meaning of load (REFERENCE 11): what it settles first, then its rows. Definitions only.
use Rattle.std.specs.Prelude.{ℕ, ◌+◌, ◌-◌, ◌*◌, not, ◌&&◌, List, [], ◌∷◌, map, length, ℤ, leb, ltb, eqb, Float}
use Rattle.std.specs.Float.Ieee.{eq}
use Rattle.areas.specs.Area.{matches}
use Rattle.matrix.specs.Math.{at, rows, laid}
use Rattle.layout.specs.declared.records.Vertex.{Vertex}
use Rattle.decide.specs.Append.{final}
use Rattle.decide.specs.Judge.{Lent}
use Rattle.decide.specs.declared.family.Family.{Family}
use Rattle.decide.specs.Family.{family_of, lit, foggy, texgen_mode}
use Rattle.fold.specs.Decision.{refold}
use Rattle.fold.specs.Fog.{find}
use Rattle.fold.specs.Lights.{light_entries}
use Rattle.fold.specs.Lookat.{lookat_entry}
use Rattle.fold.specs.Scales.{scale_entry, same_scale}
use Rattle.vertex.specs.declared.Shared.{Shared}
use Rattle.vertex.specs.Vertices.{floats_of, words_of, vertices_at}
use Rattle.stage.specs.declared.State.{State}
use Rattle.stage.specs.declared.Counts.{Counts}
use Rattle.stage.specs.declared.Lights.{Lights}
use Rattle.stage.specs.declared.Lookat.{Lookat}
use Rattle.stage.specs.declared.load.Settled.{Settled}
use Rattle.stage.specs.Plan.{Table, only_if, keep, grow, Row, Edits, Plan, refuse, unless, pick, does, lent, judge, needs, counted, untouched, undrawn, row_table, matrix_area, scale_area, light_area, lookat_area, fog_area, float_area, word_area, table_in, after_in, Outcome, carry}
use Rattle.stage.specs.Sound.{sound, limit}
use Rattle.stage.specs.Matrices.{model_top, product}
use Rattle.stage.specs.Rows.{fill_slots}
use Rattle.stage.specs.With.{with_combined, with_lights, with_lookat, folded_lights, folded_lookat}

-- the tables lent to a load
pub record LoadTables : Type 0 where
  pub matrices : Table (List Float)
  pub scales : Table (List Float)
  pub lights : Table (List Float)
  pub lookats : Table (List Float)
  pub fogs : Table (List ℤ)
  pub rows : Table Row

-- ---- what is settled before any row: each decision once, for the judge and for the writer

-- the combined matrix in force: an undefined one is recomputed
abbrev pub combined_now : State → List Float
combined_now s = pick s.defined s.combined (product s)

abbrev pub fog_pair : State → List ℤ
fog_pair s = s.fogmul ∷ s.fogoff ∷ []

-- what is settled: the matrix in force and whether it is appended; the scales and whether they are; whether lights and lookat are folded,
-- under which texgen mode; the place of the fog pair, where there is fog, and whether it is appended
unfoldable pub settled : Family → State → List (List Float) → List (List Float) → List (List ℤ) → Settled
settled f s matrices scales fogs =
    let m = combined_now s in
    let e = scale_entry s.texture.sc s.texture.tc in
    let p = find fogs (fog_pair s) in
    record {
      combined = m;
      newmatrix = not s.defined && not (matches eq (final matrices) m);
      scales = e;
      newscale = not (same_scale scales e);
      model = laid (model_top s);
      lit = lit f s.geometry;
      newlights = lit f s.geometry && refold s.lights.folded s.lights.changed s.lights.top (laid (model_top s));
      texgen = texgen_mode f s.geometry;
      newlookat = not (eqb (texgen_mode f s.geometry) 0) && refold s.lookat.folded s.lookat.changed s.lookat.top (laid (model_top s));
      foggy = foggy f s.geometry;
      fogat = p;
      newfog = foggy f s.geometry && not (ltb p (length fogs));
    }

-- the lights, and the lookat axes, then: folded with the model top, as the next entry, or as they were
abbrev pub lights_then : Settled → State → Lights
lights_then d s = pick d.newlights (folded_lights s.lights d.model s.counts.lights) s.lights

abbrev pub lookat_then : Settled → State → Lookat
lookat_then d s = pick d.newlookat (folded_lookat s.lookat d.model s.counts.lookats) s.lookat

-- the state then, but for its counts: a recomputed matrix stays undefined
unfoldable pub settled_state : Settled → State → State
settled_state d s = with_lookat (with_lights (with_combined s d.combined s.defined) (lights_then d s)) (lookat_then d s)

-- what every row of the load shares. A table's current entry is its last
unfoldable pub shared_by : Settled → State → Shared
shared_by d s =
    record {
      matrix = counted (only_if d.newmatrix (d.combined ∷ [])) s.counts.matrices - 1;
      viewport = s.counts.viewports - 1;
      scale = counted (only_if d.newscale (d.scales ∷ [])) s.counts.scales - 1;
      light = pick d.lit (lights_then d s).first 0;
      lights = pick d.lit (s.lights.number + 1) 0;
      texgen = d.texgen;
      fog = pick d.foggy (d.fogat + 1) 0;
      lookat = pick (eqb d.texgen 0) 0 (lookat_then d s).place;
      zscale = at s.viewport 2;
      ztranslation = at s.viewport 5;
    }

-- ---- the command

-- the row of a vertex
abbrev pub vertex_row : Shared → Vertex → Row
vertex_row e v = record { floats = floats_of v; words = words_of e v }

-- what each table gets
unfoldable pub load_edits : Settled → State → List Vertex → Edits
load_edits d s vs =
    record {
      matrices = only_if d.newmatrix (d.combined ∷ []);
      viewports = keep;
      scales = only_if d.newscale (d.scales ∷ []);
      lights = only_if d.newlights (light_entries (rows d.model 0) s.lights.directions s.lights.colours s.lights.ambient s.lights.number);
      lookats = only_if d.newlookat (lookat_entry (rows d.model 0) s.lookat.axes ∷ []);
      fogs = only_if d.newfog (fog_pair s ∷ []);
      rows = grow (map (vertex_row (shared_by d s)) vs);
      drawing = undrawn;
    }

-- the tables as 8 and 9 judge them
abbrev pub load_lent : LoadTables → Edits → List Lent
load_lent t e = lent 1 t.matrices e.matrices ∷ lent 3 t.scales e.scales ∷ lent 4 t.lights e.lights ∷ lent 5 t.lookats e.lookats ∷ lent 6 t.fogs e.fogs ∷ lent 7 t.rows e.rows ∷ []

-- a load that nothing refuses: what it tells, the state with its slots filled, and what each table gets
abbrev pub load_done : Settled → State → ℕ → List Vertex → Plan
load_done d s first vs = does (pick s.defined 0 1 ∷ []) (fill_slots (settled_state d s) (rows d.combined 0) (shared_by d s) first s.counts.rows vs) (load_edits d s vs)

-- Load: count vertices of 16 bytes into the slots from first on
unfoldable pub load_plan : Family → ℕ → State → LoadTables → ℕ → ℕ → List ℕ → ℕ → Plan
load_plan f slots s t first count bytes at =
    let d = settled f s t.matrices.used t.scales.used t.fogs.used in
    let vs = vertices_at bytes at count in
    sound s
    (unless (leb count slots && leb (first + count) slots) (refuse 1 (count ∷ first ∷ []))
    (needs (16 * count) at bytes
    (judge 8 (load_lent t untouched)
    (judge 9 (load_lent t (load_edits d s vs))
    (load_done d s first vs)))))

-- ---- its areas

pub record LoadAreas : Type 0 where
  pub matrices : List Float
  pub scales : List Float
  pub lights : List Float
  pub lookats : List Float
  pub fogs : List ℤ
  pub floats : List Float
  pub words : List ℕ

-- the areas of load
abbrev pub areas_load : Counts → Edits → LoadAreas → LoadAreas
areas_load c e l =
    record {
      matrices = after_in matrix_area c e l.matrices;
      scales = after_in scale_area c e l.scales;
      lights = after_in light_area c e l.lights;
      lookats = after_in lookat_area c e l.lookats;
      fogs = after_in fog_area c e l.fogs;
      floats = after_in float_area c e l.floats;
      words = after_in word_area c e l.words;
    }

-- the areas, and the tables in them for the counts c
abbrev pub load_areas : List Float → List Float → List Float → List Float → List ℤ → List Float → List ℕ → LoadAreas
load_areas a b l o f x w = record { matrices = a; scales = b; lights = l; lookats = o; fogs = f; floats = x; words = w }

abbrev pub load_tables : Counts → LoadAreas → LoadTables
load_tables c l =
    record {
      matrices = table_in matrix_area c l.matrices;
      scales = table_in scale_area c l.scales;
      lights = table_in light_area c l.lights;
      lookats = table_in lookat_area c l.lookats;
      fogs = table_in fog_area c l.fogs;
      rows = row_table c.rows l.floats l.words;
    }

-- what a load comes to, for any state and areas
abbrev pub load_means : State → ℕ → ℕ → List ℕ → ℕ → LoadAreas → Outcome LoadAreas
load_means s first count bytes at l = carry areas_load (load_plan (family_of s.microcode) (limit s) s (load_tables s.counts l) first count bytes at) s l
