-- When a book of the stage and a world of the original are the same. Tables 1 and 4 to 9 are equal entry by entry; tables 2 and 3, of which the two
-- sides have other entries before the first load, are taken relative to that point, and so are the numbers by which rows name them. Definitions only.
use Rattle.std.specs.Prelude.{ℕ, ◌+◌, ◌-◌, ◌*◌, ◌≤◌, ◌<◌, ◌≡◌, ◌≢◌, ◌⊎◌, Bool, true, false, not, List, [], ◌∷◌, ◌++◌, map, length, get_or, eqb, ℤ, Float}
use Rattle.std.proofs.Math.Option.{Option, none, some}
use Rattle.areas.specs.Area.{part, Wide}
use Rattle.areas.specs.Widths.{matrix_width, fog_width, float_width, word_width, flags_word, matrix_word, viewport_word, scale_word, colour_word, light_word, lights_word, texgen_word, fog_word, lookat_word, s_float, t_float, screen_x, screen_y, screen_z}
use Rattle.matrix.specs.Math.{zero, at, rows, laid}
use Rattle.fold.specs.Direction.{three}
use Rattle.triangle.specs.Slot.{bit}
use Rattle.stage.specs.declared.State.{State}
use Rattle.stage.specs.declared.Texture.{Texture}
use Rattle.stage.specs.declared.Lights.{Lights}
use Rattle.stage.specs.declared.Lookat.{Lookat}
use Rattle.stage.specs.Plan.{Row, pick}
use Rattle.stage.specs.Lights.{microcode_number}
use Rattle.sequence.specs.Sequence.{Book}
use Rattle.sequence.specs.Counted.{Counted}
use Rattle.finished.specs.Shown.{Corner, entries_of, fog_shown, no_row, row_word, shown}
use Rattle.original.specs.Math.{Mat4, f1}
use Rattle.original.specs.Rsp.{Slots, Matrices, Viewports, TextureState, Texcoords, Lighting, Looking}
use Rattle.original.specs.Drawing.{Columns, DrawRun, Scene, Made, made_at}
use Rattle.original.specs.Walk.{World}

-- ---- tables that begin differently

-- the number by which the original names entry m of a table: the stage had a entries before the point, the original b
abbrev pub over : ℕ → ℕ → ℕ → ℕ
over a b m = m - a + b

-- how many entries of tables 2 and 3 each side had before the point
pub record Offsets : Type 0 where
  pub port2 : ℕ
  pub rust2 : ℕ
  pub port3 : ℕ
  pub rust3 : ℕ

-- two tables with a and b entries before the point; what came since is shared, and there is some
pub record Meets (a b : ℕ) (port rust : List (List Float)) : Type 0 where
  pub before : List (List Float)
  pub under : List (List Float)
  pub since : List (List Float)
  pub some_since : 0 < length since
  pub port_size : length before ≡ a
  pub rust_size : length under ≡ b
  pub port_is : port ≡ before ++ since
  pub rust_is : rust ≡ under ++ since

-- ---- parts

-- an entry that the original holds as a pair
abbrev pub joined : List Float × List Float → List Float
joined e = e.0 ++ e.1

-- depth, stack, projection and combined matrix, and table 1
pub record MatrixSame (d : ℕ) (st p c : List Float) (t : List (List Float)) (m : Matrices) : Type 0 where
  pub depth : d ≡ m.model_stack_size
  pub low : 1 ≤ d
  pub high : d ≤ 32
  pub long : length st ≡ 512
  pub deep : length m.model_stack ≡ 32
  pub stack : (i : ℕ) → i < d → rows st (matrix_width * i) ≡ rows (laid (get_or m.model_stack i [])) 0
  pub projection : p ≡ laid m.viewproj
  pub combined : c ≡ laid m.mvp
  pub table : t ≡ map laid m.mvp_table
  pub some_entry : 0 < length m.mvp_table
  pub current : m.cur_mvp_index ≡ length m.mvp_table - 1

-- the viewport in force, and table 2
pub record ViewSame (a b : ℕ) (v : List Float) (t : List (List Float)) (x : Viewports) : Type 0 where
  pub scale : length x.vp_scale ≡ 3
  pub trans : length x.vp_trans ≡ 3
  pub now : v ≡ x.vp_scale ++ x.vp_trans
  pub table : Meets a b t (map joined x.viewport_table)
  pub triples : (i : ℕ) → i < length x.viewport_table → (length (get_or x.viewport_table i ([], [])).0 ≡ 3) × (length (get_or x.viewport_table i ([], [])).1 ≡ 3)
  pub current : x.cur_viewport_index ≡ length x.viewport_table - 1

-- the coordinate pairs and the texgen pairs, entry by entry
abbrev pub fours : List (List Float) → List (List Float) → List (List Float)
fours [] gs = []
fours (c ∷ cs) [] = []
fours (c ∷ cs) (g ∷ gs) = (c ++ g) ∷ fours cs gs

-- the place of the unit entry: 0 for none, or its place plus 1
abbrev pub UnitSame : ℕ → ℕ → ℕ → Option ℕ → Type 0
UnitSame a b u none = u ≡ 0
UnitSame a b u (some i) = (u ≢ 0) × (a ≤ u - 1) × (i ≡ over a b (u - 1))

-- table 3; its current entry is its last, but where that is a unit entry, which no load's scales equal
pub record ScaleSame (a b : ℕ) (u : ℕ) (t : List (List Float)) (x : Texcoords) : Type 0 where
  pub table : Meets a b t (fours x.texcoord_table x.texgen_scale_table)
  pub beside : length x.texcoord_table ≡ length x.texgen_scale_table
  pub pairs : (i : ℕ) → i < length x.texcoord_table → length (get_or x.texcoord_table i []) ≡ 2
  pub current : (x.cur_texcoord_index ≡ length x.texcoord_table - 1) ⊎ (get_or x.texcoord_table (length x.texcoord_table - 1) [] ≡ f1 ∷ f1 ∷ [])
  pub unit : UnitSame a b u x.modify_unit_texcoord_index

-- a changed mark against a version counter, and the matrix last folded
abbrev pub KeySame : Bool → Bool → List Float → Option (ℕ × Mat4) → ℕ → Type 0
KeySame folded changed top none version = folded ≡ false
KeySame folded changed top (some k) version = (folded ≡ true) × (top ≡ laid k.1) × (changed ≡ not (eqb k.0 version)) × (k.0 ≤ version)

pub record LightsSame (l : Lights) (x : Lighting) : Type 0 where
  pub number : l.number ≡ x.num_dir
  pub few : l.number ≤ 7
  pub directions : length l.directions ≡ 24
  pub colours : length l.colours ≡ 24
  pub eight : length x.lights ≡ 8
  pub slots : (k : ℕ) → k < 8 → ((get_or x.lights k ([], [])).0 ≡ three l.directions (3 * k)) × ((get_or x.lights k ([], [])).1 ≡ three l.colours (3 * k))
  pub ambient : x.ambient_col ≡ three l.ambient 0
  pub key : KeySame l.folded l.changed l.top x.last_light_key x.light_version
  pub first : l.first ≡ x.cur_light_index

pub record LookSame (l : Lookat) (x : Looking) : Type 0 where
  pub long : length l.axes ≡ 6
  pub two : length x.lookat_axes ≡ 2
  pub axes : (k : ℕ) → k < 2 → get_or x.lookat_axes k [] ≡ three l.axes (3 * k)
  pub key : KeySame l.folded l.changed l.top x.last_lookat_key x.lookat_version
  pub place : l.place ≡ x.cur_lookat_index

-- a value under a mark, against an option
abbrev pub is_some : {A : Type 0} → Option A → Bool
is_some none = false
is_some (some x) = true

abbrev pub or_else : {A : Type 0} → A → Option A → A
or_else d none = d
or_else d (some x) = x

-- the columns of the slots: rows, loaded and drawn marks, clip codes and screen z under their marks
pub record SlotsSame (r : List ℕ) (l d c : List Bool) (q : List ℕ) (e : List Bool) (f : List Float) (x : Slots) : Type 0 where
  pub row : r ≡ x.cache_global_index
  pub loaded : l ≡ x.loaded
  pub drawn : d ≡ x.used
  pub coded : c ≡ map is_some x.clip_codes
  pub code : q ≡ map (or_else 0) x.clip_codes
  pub deep : e ≡ map is_some x.screen_z
  pub z : f ≡ map (or_else zero) x.screen_z

-- ---- rows, indices and runs

-- number i of a row's f32
abbrev pub float : ℕ → Row → Float
float i r = at r.floats i

-- what the original holds of a row; the numbers of tables 2 and 3 by their offsets
unfoldable pub made_of : Offsets → Row → Made
made_of o r =
    record {
      pos = float 0 r ∷ float 1 r ∷ float 2 r ∷ [];
      flags = row_word r flags_word;
      screen = float screen_x r ∷ float screen_y r ∷ float screen_z r ∷ float 8 r ∷ [];
      mtx = row_word r matrix_word;
      viewport = over o.port2 o.rust2 (row_word r viewport_word);
      st = float s_float r ∷ float t_float r ∷ [];
      texcoord = over o.port3 o.rust3 (row_word r scale_word);
      colour = row_word r colour_word;
      light = row_word r light_word;
      count = row_word r lights_word;
      texgen = row_word r texgen_word;
      fog = row_word r fog_word;
      lookat = row_word r lookat_word;
    }

-- its lists, of all rows
abbrev pub columns_of : Offsets → List Row → Columns
columns_of o rs =
    record {
      raw_pos = map (λ (r : Row). (made_of o r).pos) rs;
      modify_flags = map (λ (r : Row). (made_of o r).flags) rs;
      modify_screen = map (λ (r : Row). (made_of o r).screen) rs;
      mtx_index = map (λ (r : Row). (made_of o r).mtx) rs;
      viewport_index = map (λ (r : Row). (made_of o r).viewport) rs;
      raw_st = map (λ (r : Row). (made_of o r).st) rs;
      texcoord_index = map (λ (r : Row). (made_of o r).texcoord) rs;
      cn = map (λ (r : Row). (made_of o r).colour) rs;
      light_index = map (λ (r : Row). (made_of o r).light) rs;
      light_count = map (λ (r : Row). (made_of o r).count) rs;
      texgen_mode = map (λ (r : Row). (made_of o r).texgen) rs;
      fog = map (λ (r : Row). (made_of o r).fog) rs;
      lookat_index = map (λ (r : Row). (made_of o r).lookat) rs;
    }

-- a row whole, whose entries of tables 2 and 3 came at the point or since
pub record Since (o : Offsets) (r : Row) : Type 0 where
  pub floats : length r.floats ≡ float_width
  pub words : length r.words ≡ word_width
  pub viewport : o.port2 ≤ row_word r viewport_word
  pub scale : o.port3 ≤ row_word r scale_word

-- every row is such a one, and the lists of the scene hold their numbers of all rows
pub record RowsSame (o : Offsets) (rs : List Row) (c : Columns) : Type 0 where
  pub each : (i : ℕ) → i < length rs → Since o (get_or rs i no_row)
  pub columns : c ≡ columns_of o rs

-- a run's eight numbers
abbrev pub run_numbers : DrawRun → List ℕ
run_numbers r =
    r.material_index ∷ r.render_mode_index ∷ r.fog_color ∷ r.prim_depth ∷ bit r.cull ∷ bit r.unclipped_depth ∷ r.index_start ∷ r.index_count ∷ []

-- the stored texture settings
abbrev pub texture_of : TextureState → Texture
texture_of x = record { tile = x.tile; level = x.level; on = x.on; sc = x.sc; tc = x.tc }

-- the settings that are numbers, the geometry mode by G; both scales are of 16 bits
abbrev pub SettingsSame : (ℕ → ℕ → Type 0) → State → World → Type 0
SettingsSame G s w =
    record {
      microcode : s.microcode ≡ microcode_number w.rsp.microcode;
      texture : s.texture ≡ texture_of w.rsp.texture_state;
      small : (w.rsp.texture_state.sc < 65536) × (w.rsp.texture_state.tc < 65536);
      fogmul : s.fogmul ≡ w.fog_mul;
      fogoff : s.fogoff ≡ w.fog_offset;
      geometry : G s.geometry w.rsp.geom;
    }

-- tables 4, 5, 6, 8 and 9
abbrev pub RecordedSame : Book → Scene → Type 0
RecordedSame k c =
    record {
      light_table : k.lights.used ≡ map joined c.lights_table;
      lookat_table : k.lookats.used ≡ map joined c.lookat_table;
      fog_table : k.fogs.used ≡ c.fog_table;
      fog_pairs : Wide fog_width c.fog_table;
      indices : k.drawing.indices.used ≡ map (λ (i : ℕ). i ∷ []) c.indices;
      runs : k.drawing.runs.used ≡ map run_numbers c.draw_runs;
    }

-- ---- the whole, in groups by what changes together, over what is said of the parts that begin differently: whether the matrix is defined (D),
-- geometry mode (G), viewport (P), scales (X), rows (R)

-- settings, lights and lookat
abbrev pub ModesSame : (ℕ → ℕ → Type 0) → State → World → Type 0
ModesSame G s w =
    record {
      settings : SettingsSame G s w;
      lights : LightsSame s.lights w.rsp.lighting;
      lookat : LookSame s.lookat w.rsp.looking;
    }

-- matrices, whether the combined one is defined, viewport
abbrev pub SpaceSame : (Bool → Bool → Type 0) → (List Float → List (List Float) → Viewports → Type 0) → Book → World → Type 0
SpaceSame D P k w =
    record {
      matrices : MatrixSame k.state.depth k.state.stack k.state.projection k.state.combined k.matrices.used w.rsp.matrices;
      defined : D k.state.defined w.rsp.matrices.mvp_valid;
      view : P k.state.viewport k.viewports.used w.rsp.viewports;
    }

-- slots, scales, rows, and the other tables
abbrev pub HeldSame : (ℕ → List (List Float) → Texcoords → Type 0) → (List Row → Columns → Type 0) → Book → World → Type 0
HeldSame X R k w =
    record {
      slots : SlotsSame k.state.row k.state.loaded k.state.drawn k.state.coded k.state.code k.state.deep k.state.z w.rsp.slots;
      scales : X k.state.unit k.scales.used w.rsp.texcoords;
      rows : R k.rows.used w.scene.columns;
      recorded : RecordedSame k w.scene;
    }

-- each count is the length of what is in use, and each group is the same
pub record Near (D : Bool → Bool → Type 0) (G : ℕ → ℕ → Type 0) (P : List Float → List (List Float) → Viewports → Type 0) (X : ℕ → List (List Float) → Texcoords → Type 0) (R : List Row → Columns → Type 0) (k : Book) (w : World) : Type 0 where
  pub count : Counted k
  pub modes : ModesSame G k.state w
  pub space : SpaceSame D P k w
  pub held : HeldSame X R k w

-- THE TWO SIDES ARE THE SAME, from the offsets on
abbrev pub Same : Offsets → Book → World → Type 0
Same o k w = Near ◌≡◌ ◌≡◌ (ViewSame o.port2 o.rust2) (ScaleSame o.port3 o.rust3) (RowsSame o) k w

-- ---- corners as shown

-- a corner as the original's scene has it: no number of a table is in it
pub record RustCorner : Type 0 where
  -- position x y z, s, t, four screen numbers
  pub floats : List Float
  -- modify flags
  pub flags : ℕ
  pub matrix : List Float
  pub viewport : List Float
  pub scale : List Float
  -- colour word
  pub colour : ℕ
  pub lights : List (List Float)
  -- texgen mode
  pub texgen : ℕ
  pub fog : Option (List ℤ)
  pub lookat : Option (List Float)

-- what of our corner is compared: what a corner has beyond these is ours alone and is left aside; today nothing is
abbrev pub compared : Corner → RustCorner
compared c =
    record {
      floats = c.floats;
      flags = c.flags;
      matrix = c.matrix;
      viewport = c.viewport;
      scale = c.scale;
      colour = c.colour;
      lights = c.lights;
      texgen = c.texgen;
      fog = c.fog;
      lookat = c.lookat;
    }

-- what an element of each list shows: each number replaced by the entry's values
unfoldable pub seen : World → Made → RustCorner
seen w m =
    record {
      floats = m.pos ++ m.st ++ m.screen;
      flags = m.flags;
      matrix = get_or (map laid w.rsp.matrices.mvp_table) m.mtx [];
      viewport = joined (get_or w.rsp.viewports.viewport_table m.viewport ([], []));
      scale = get_or w.rsp.texcoords.texcoord_table m.texcoord [] ++ get_or w.rsp.texcoords.texgen_scale_table m.texcoord [];
      colour = m.colour;
      lights = map joined (part w.scene.lights_table m.light m.count);
      texgen = m.texgen;
      fog = fog_shown w.scene.fog_table m.fog;
      lookat = pick (eqb m.texgen 0) none (some (joined (get_or w.scene.lookat_table m.lookat ([], []))));
    }

-- every row in use shows the same corner on both sides
abbrev pub CornersSame : Book → World → Type 0
CornersSame k w = (i : ℕ) → i < length k.rows.used → compared (shown (entries_of k) (get_or k.rows.used i no_row)) ≡ seen w (made_at w.scene.columns i)
