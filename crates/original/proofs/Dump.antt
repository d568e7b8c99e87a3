-- The dump of docs/TRACE.md, taken of a world: what the driver around the Rust prints, as numbers. A NaN is the one pattern of `to_bits`.
-- Rows and table 3 stand by columns. A slot that is as the original's `default` has it is left out. Definitions only.
use Prim.Native.Nat.{ℕ, suc}
use mathlib.Core.Bool.{Bool, true, false, not, ◌&&◌, cond}
use mathlib.Core.List.{List, [], ◌∷◌, ◌++◌, map}
use mathlib.Core.Option.{Option, none, some}
use lib.ListN.{length, take}
use lib.Dec.{eqb}
use lib.IntN.{ℤ}
use lib.Ieee.{Float, binary32, binary64, to_bits}
use Rattle.original.specs.Math.{Mat4}
use Rattle.original.specs.Drawing.{DrawRun, Result, Ok, Err, is_non}
use Rattle.original.specs.Walk.{World}
use Rattle.original.specs.Domain.{Walked}

-- ---- numbers

abbrev pub digit : Bool → ℕ
digit b = cond b 1 0

abbrev pub bits : List Float → List ℕ
bits v = map (to_bits binary32) v

abbrev pub pair : List Float × List Float → List ℕ
pair p = bits p.0 ++ bits p.1

unfoldable pub laid_out : Mat4 → List ℕ
laid_out [] = []
laid_out (row ∷ rows) = bits row ++ laid_out rows

-- ---- slots: place, row, loaded, drawn; clip code; screen z

abbrev pub Line : Type 0
Line = List ℕ × Option ℕ × Option ℕ

abbrev pub bits64 : Option Float → Option ℕ
bits64 none = none
bits64 (some z) = some (to_bits binary64 z)

abbrev pub absent : {A : Type 0} → Option A → Bool
absent none = true
absent (some x) = false

unfoldable pub slot-lines : ℕ → List ℕ → List Bool → List Bool → List (Option ℕ) → List (Option Float) → List Line
slot-lines k [] ls us cs zs = []
slot-lines k (r ∷ rs) [] us cs zs = []
slot-lines k (r ∷ rs) (l ∷ ls) [] cs zs = []
slot-lines k (r ∷ rs) (l ∷ ls) (u ∷ us) [] zs = []
slot-lines k (r ∷ rs) (l ∷ ls) (u ∷ us) (c ∷ cs) [] = []
slot-lines k (r ∷ rs) (l ∷ ls) (u ∷ us) (c ∷ cs) (z ∷ zs) =
    cond (eqb r 0 && (not l && (not u && (absent c && absent z)))) [] ((k ∷ r ∷ digit l ∷ digit u ∷ [], c, bits64 z) ∷ [])
    ++ slot-lines (suc k) rs ls us cs zs

-- ---- the whole

abbrev pub run-line : DrawRun → List ℕ
run-line r =
    r.material_index
    ∷ r.render_mode_index
    ∷ r.fog_color
    ∷ r.prim_depth
    ∷ digit r.cull
    ∷ digit r.unclipped_depth
    ∷ r.index_start
    ∷ r.index_count
    ∷ []

pub record Dump : Type 0 where
  -- entries of tables 1 to 9
  pub counts : List ℕ
  -- depth, geometry, microcode, defined, tile, level, on, sc, tc, light count
  pub state : List ℕ
  pub fog : List ℤ
  pub stack : List (List ℕ)
  pub projection : List ℕ
  pub viewport : List ℕ
  pub lights : List (List ℕ)
  pub ambient : List ℕ
  pub lookat : List (List ℕ)
  -- tables 1 and 2, the two halves of 3, and 4 to 6
  pub matrices : List (List ℕ)
  pub viewports : List (List ℕ)
  pub texcoords : List (List ℕ)
  pub texgens : List (List ℕ)
  pub folded-lights : List (List ℕ)
  pub folded-lookats : List (List ℕ)
  pub fogs : List (List ℤ)
  -- table 7
  pub raw_pos : List (List ℕ)
  pub raw_st : List (List ℕ)
  pub modify_screen : List (List ℕ)
  pub modify_flags : List ℕ
  pub mtx_index : List ℕ
  pub viewport_index : List ℕ
  pub texcoord_index : List ℕ
  pub cn : List ℕ
  pub light_index : List ℕ
  pub light_count : List ℕ
  pub texgen_mode : List ℕ
  pub fog_index : List ℕ
  pub lookat_index : List ℕ
  -- tables 8 and 9
  pub indices : List ℕ
  pub runs : List (List ℕ)
  pub slots : List Line

unfoldable pub dump : World → Dump
dump w =
    let r = w.rsp in
    let c = w.scene in
    let x = c.columns in
    let t = r.texture_state in
    record {
      counts = length r.matrices.mvp_table
          ∷ length r.viewports.viewport_table
          ∷ length r.texcoords.texcoord_table
          ∷ length c.lights_table
          ∷ length c.lookat_table
          ∷ length c.fog_table
          ∷ length x.raw_pos
          ∷ length c.indices
          ∷ length c.draw_runs
          ∷ [];
      state = r.matrices.model_stack_size
          ∷ r.geom
          ∷ digit (is_non r.microcode)
          ∷ digit r.matrices.mvp_valid
          ∷ t.tile
          ∷ t.level
          ∷ digit t.on
          ∷ t.sc
          ∷ t.tc
          ∷ r.lighting.num_dir
          ∷ [];
      fog = w.fog_mul ∷ w.fog_offset ∷ [];
      stack = map laid_out (take r.matrices.model_stack_size r.matrices.model_stack);
      projection = laid_out r.matrices.viewproj;
      viewport = pair (r.viewports.vp_scale, r.viewports.vp_trans);
      lights = map pair r.lighting.lights;
      ambient = bits r.lighting.ambient_col;
      lookat = map bits r.looking.lookat_axes;
      matrices = map laid_out r.matrices.mvp_table;
      viewports = map pair r.viewports.viewport_table;
      texcoords = map bits r.texcoords.texcoord_table;
      texgens = map bits r.texcoords.texgen_scale_table;
      folded-lights = map pair c.lights_table;
      folded-lookats = map pair c.lookat_table;
      fogs = c.fog_table;
      raw_pos = map bits x.raw_pos;
      raw_st = map bits x.raw_st;
      modify_screen = map bits x.modify_screen;
      modify_flags = x.modify_flags;
      mtx_index = x.mtx_index;
      viewport_index = x.viewport_index;
      texcoord_index = x.texcoord_index;
      cn = x.cn;
      light_index = x.light_index;
      light_count = x.light_count;
      texgen_mode = x.texgen_mode;
      fog_index = x.fog;
      lookat_index = x.lookat_index;
      indices = c.indices;
      runs = map run-line c.draw_runs;
      slots = slot-lines 0 r.slots.cache_global_index r.slots.loaded r.slots.used r.slots.clip_codes r.slots.screen_z;
    }

-- what a walk comes to: every command's told values and the dump, or what it was refused with
unfoldable pub outcome : Result Walked → Result (List (List ℕ) × Dump)
outcome (Ok g) = Ok (g.values, dump g.world)
outcome (Err d) = Err d
