-- rsp.rs of the original: its state, matrices, viewport, settings and lights, function by function; lines are those of the Rust at dbd8d8c9d8.
-- Names as there, `-` for `_`; the fields of `Rsp` stand in groups, so that a function names what it changes. A `Vec` is a list that only grows at its
-- end, an `Option` an Option, a counter a whole number. Left out, since they stay with the old renderer: materials, render modes, pairs, diagnostics lists, S2dex2.
use Rattle.std.specs.Prelude.{ℕ, zero, suc, ◌+◌, ◌-◌, ◌/◌, min, Bool, true, false, not, ◌&&◌, cond, List, [], ◌∷◌, ◌++◌, length, get_or, set, replicate, eqb, ltb, ℤ, pos, Float}
use Rattle.std.proofs.Math.Option.{Option, none, some}
use Rattle.std.specs.Int.Bits.{bit_and, bit_or, bit_xor}
use Rattle.std.specs.Float.{fin, binary32}
use Rattle.std.specs.Float.Ieee.{div, eq, of_int}
use Rattle.stage.specs.declared.settings.Microcode.{Microcode}
use Rattle.stage.specs.declared.settings.Microcode.TheVariants.{F3dex2}
use Rattle.original.specs.Math.{Mat4, f0, ix, ix2, identity, mul4}
use Rattle.original.specs.Memory.{Mem, read_u8, read_i8, read_i16, read_matrix}

-- ---- state, lines 35 to 85

-- the vertex cache, a place for each slot
pub record Slots : Type 0 where
  pub cache_global_index : List ℕ
  pub loaded : List Bool
  pub clip_codes : List (Option ℕ)
  pub screen_z : List (Option Float)
  pub used : List Bool

pub record Matrices : Type 0 where
  pub mvp_valid : Bool
  pub model_stack : List Mat4
  pub model_stack_size : ℕ
  pub viewproj : Mat4
  pub mvp : Mat4
  pub mvp_table : List Mat4
  pub cur_mvp_index : ℕ

pub record Viewports : Type 0 where
  pub vp_scale : List Float
  pub vp_trans : List Float
  pub viewport_table : List (List Float × List Float)
  pub cur_viewport_index : ℕ

-- TextureState, lines 27 to 33
pub record TextureState : Type 0 where
  pub tile : ℕ
  pub level : ℕ
  pub on : Bool
  pub sc : ℕ
  pub tc : ℕ

pub record Texcoords : Type 0 where
  pub texcoord_table : List (List Float)
  pub cur_texcoord_index : ℕ
  pub modify_unit_texcoord_index : Option ℕ
  pub texgen_scale_table : List (List Float)

pub record Lighting : Type 0 where
  pub lights : List (List Float × List Float)
  pub ambient_col : List Float
  pub num_dir : ℕ
  pub light_version : ℕ
  pub last_light_key : Option (ℕ × Mat4)
  pub cur_light_index : ℕ

pub record Looking : Type 0 where
  pub lookat_axes : List (List Float)
  pub lookat_version : ℕ
  pub last_lookat_key : Option (ℕ × Mat4)
  pub cur_lookat_index : ℕ

pub record Rsp : Type 0 where
  pub microcode : Microcode
  pub geom : ℕ
  pub texture_state : TextureState
  pub slots : Slots
  pub matrices : Matrices
  pub viewports : Viewports
  pub texcoords : Texcoords
  pub lighting : Lighting
  pub looking : Looking

-- RSP_MAX_VERTICES, RSP_MAX_LIGHTS, RSP_MATRIX_STACK_SIZE, lines 14 to 23
abbrev pub RSP_MAX_VERTICES : ℕ
RSP_MAX_VERTICES = 256

abbrev pub RSP_MAX_LIGHTS : ℕ
RSP_MAX_LIGHTS = 7

abbrev pub RSP_MATRIX_STACK_SIZE : ℕ
RSP_MATRIX_STACK_SIZE = 32

-- the constants of F3DEX2_CONSTS that are used here, gbi/f3dex2.rs and consts.rs
abbrev pub g_mtx_push : ℕ
g_mtx_push = 0x01

abbrev pub g_mtx_load : ℕ
g_mtx_load = 0x02

abbrev pub g_mtx_projection : ℕ
g_mtx_projection = 0x04

abbrev pub g_clipping : ℕ
g_clipping = 0x800000

abbrev pub g_lighting : ℕ
g_lighting = 0x20000

abbrev pub g_texture_gen : ℕ
g_texture_gen = 0x40000

abbrev pub g_texture_gen_linear : ℕ
g_texture_gen_linear = 0x80000

abbrev pub g_fog_geom : ℕ
g_fog_geom = 0x10000

abbrev pub g_cull_front : ℕ
g_cull_front = 0x200

abbrev pub g_cull_both : ℕ
g_cull_both = 0x600

-- 160.0, 120.0, and 511.0 / 1024.0
abbrev pub half_screen : List Float
half_screen = fin false 5 (pos 5) ∷ fin false 15 (pos 3) ∷ div binary32 (of_int binary32 (pos 511)) (fin false 1 (pos 10)) ∷ []

-- default, lines 88 to 140; new, lines 144 to 154, is that too, for F3DEX2's constants and fixed data
abbrev pub default : Rsp
default =
    record {
      microcode = F3dex2;
      geom = g_clipping;
      texture_state = record { tile = 0; level = 0; on = false; sc = 0; tc = 0 };
      slots = record {
        cache_global_index = replicate RSP_MAX_VERTICES 0;
        loaded = replicate RSP_MAX_VERTICES false;
        clip_codes = replicate RSP_MAX_VERTICES none;
        screen_z = replicate RSP_MAX_VERTICES none;
        used = replicate RSP_MAX_VERTICES false;
      };
      matrices = record {
        mvp_valid = true;
        model_stack = replicate RSP_MATRIX_STACK_SIZE identity;
        model_stack_size = 1;
        viewproj = identity;
        mvp = identity;
        mvp_table = identity ∷ [];
        cur_mvp_index = 0;
      };
      viewports = record { vp_scale = half_screen; vp_trans = half_screen; viewport_table = (half_screen, half_screen) ∷ []; cur_viewport_index = 0 };
      texcoords = record { texcoord_table = (f0 ∷ f0 ∷ []) ∷ []; cur_texcoord_index = 0; modify_unit_texcoord_index = none; texgen_scale_table = (f0 ∷ f0 ∷ []) ∷ [] };
      lighting = record {
        lights = replicate 8 (replicate 3 f0, replicate 3 f0);
        ambient_col = replicate 3 f0;
        num_dir = 0;
        light_version = 0;
        last_light_key = none;
        cur_light_index = 0;
      };
      looking = record { lookat_axes = replicate 2 (replicate 3 f0); lookat_version = 0; last_lookat_key = none; cur_lookat_index = 0 };
    }

-- ---- comparisons: `==` of arrays and tuples, number by number in order; `last() != Some(&x)`

abbrev pub eq3 : List Float → List Float → Bool
eq3 a b = eq (ix a 0) (ix b 0) && (eq (ix a 1) (ix b 1) && eq (ix a 2) (ix b 2))

abbrev pub eq4 : Mat4 → Mat4 → ℕ → Bool
eq4 a b i = eq (ix2 a i 0) (ix2 b i 0) && (eq (ix2 a i 1) (ix2 b i 1) && (eq (ix2 a i 2) (ix2 b i 2) && eq (ix2 a i 3) (ix2 b i 3)))

unfoldable pub eq_mat : Mat4 → Mat4 → Bool
eq_mat a b = eq4 a b 0 && (eq4 a b 1 && (eq4 a b 2 && eq4 a b 3))

-- the last element is the same as x, by the comparison given; there is none in an empty list
unfoldable pub last_is : {A : Type 0} → (A → A → Bool) → List A → A → Bool
last_is same [] x = false
last_is same (y ∷ []) x = same y x
last_is same (y ∷ z ∷ l) x = last_is same (z ∷ l) x

-- a key is the one last used: version and matrix
unfoldable pub key_is : Option (ℕ × Mat4) → ℕ → Mat4 → Bool
key_is none version mv = false
key_is (some k) version mv = eqb k.0 version && eq_mat k.1 mv

-- a & mask != 0
abbrev pub has : ℕ → ℕ → Bool
has a mask = not (eqb (bit_and a mask) 0)

-- ---- microcode, lines 156 to 173

-- set_initial_microcode
abbrev pub set_initial_microcode : Microcode → Rsp → Rsp
set_initial_microcode ucode r =
    record {
      microcode = ucode;
      geom = r.geom;
      texture_state = r.texture_state;
      slots = r.slots;
      matrices = r.matrices;
      viewports = r.viewports;
      texcoords = r.texcoords;
      lighting = r.lighting;
      looking = r.looking;
    }

-- switch_microcode
unfoldable pub switch_microcode : Microcode → Rsp → Rsp
switch_microcode ucode r =
    let m = r.matrices in
    record {
      microcode = ucode;
      geom = r.geom;
      texture_state = r.texture_state;
      slots = record {
        cache_global_index = r.slots.cache_global_index;
        loaded = replicate RSP_MAX_VERTICES false;
        clip_codes = replicate RSP_MAX_VERTICES none;
        screen_z = replicate RSP_MAX_VERTICES none;
        used = replicate RSP_MAX_VERTICES false;
      };
      matrices = record {
        mvp_valid = false;
        model_stack = m.model_stack;
        model_stack_size = m.model_stack_size;
        viewproj = m.viewproj;
        mvp = m.mvp;
        mvp_table = m.mvp_table;
        cur_mvp_index = m.cur_mvp_index;
      };
      viewports = r.viewports;
      texcoords = r.texcoords;
      lighting = r.lighting;
      looking = r.looking;
    }

-- ---- matrices, lines 246 to 308

-- the top of the model stack
abbrev pub mv_top : Matrices → Mat4
mv_top m = get_or m.model_stack (m.model_stack_size - 1) []

-- recompute_mvp: the current index moves only where an entry is appended
unfoldable pub recompute_mvp : Matrices → Matrices
recompute_mvp m =
    let mvp = mul4 (mv_top m) m.viewproj in
    record {
      mvp_valid = true;
      model_stack = m.model_stack;
      model_stack_size = m.model_stack_size;
      viewproj = m.viewproj;
      mvp = mvp;
      mvp_table = cond (last_is eq_mat m.mvp_table mvp) m.mvp_table (m.mvp_table ++ mvp ∷ []);
      cur_mvp_index = cond (last_is eq_mat m.mvp_table mvp) m.cur_mvp_index (length (m.mvp_table ++ mvp ∷ []) - 1);
    }

-- another model stack, or another projection
abbrev pub with_stack : Matrices → List Mat4 → ℕ → Matrices
with_stack m stack size =
    record {
      mvp_valid = m.mvp_valid;
      model_stack = stack;
      model_stack_size = size;
      viewproj = m.viewproj;
      mvp = m.mvp;
      mvp_table = m.mvp_table;
      cur_mvp_index = m.cur_mvp_index;
    }

abbrev pub with_viewproj : Matrices → Mat4 → Matrices
with_viewproj m p =
    record {
      mvp_valid = m.mvp_valid;
      model_stack = m.model_stack;
      model_stack_size = m.model_stack_size;
      viewproj = p;
      mvp = m.mvp;
      mvp_table = m.mvp_table;
      cur_mvp_index = m.cur_mvp_index;
    }

-- push copies the top below 32
unfoldable pub push_model : Bool → Matrices → Matrices
push_model is-push m =
    cond (is-push && ltb m.model_stack_size RSP_MATRIX_STACK_SIZE)
    (with_stack m (set m.model_stack m.model_stack_size (mv_top m)) (m.model_stack_size + 1))
    m

-- the top is then written in either case
unfoldable pub write_top : Bool → Mat4 → Matrices → Matrices
write_top is-load m s =
    let top = s.model_stack_size - 1 in
    with_stack s (set s.model_stack top (cond is-load m (mul4 m (get_or s.model_stack top [])))) s.model_stack_size

-- matrix
unfoldable pub matrix_fn : Mem → ℕ → ℕ → Matrices → Matrices
matrix_fn mem addr params s =
    let m = read_matrix mem addr in
    recompute_mvp
    (cond (has params g_mtx_projection)
    (with_viewproj s (cond (has params g_mtx_load) m (mul4 m s.viewproj)))
    (write_top (has params g_mtx_load) m (push_model (has params g_mtx_push) s)))

-- force_matrix
unfoldable pub force_matrix : Mem → ℕ → Matrices → Matrices
force_matrix mem addr m =
    let mvp = read_matrix mem addr in
    let table = cond (last_is eq_mat m.mvp_table mvp) m.mvp_table (m.mvp_table ++ mvp ∷ []) in
    record {
      mvp_valid = true;
      model_stack = m.model_stack;
      model_stack_size = m.model_stack_size;
      viewproj = m.viewproj;
      mvp = mvp;
      mvp_table = table;
      cur_mvp_index = length table - 1;
    }

-- pop_matrix: count turns, each of which lowers a size above 1
unfoldable pub popped_size : ℕ → ℕ → ℕ
popped_size zero size = size
popped_size (suc count) size = popped_size count (cond (ltb 1 size) (size - 1) size)

unfoldable pub pop_matrix : ℕ → Matrices → Matrices
pop_matrix count m =
    let size = popped_size count m.model_stack_size in
    cond (eqb size m.model_stack_size) m (recompute_mvp (with_stack m m.model_stack size))

-- prepare_vertex, lines 175 to 184: an undefined matrix is recomputed and stays so
unfoldable pub prepare_vertex : Matrices → Matrices
prepare_vertex m =
    cond m.mvp_valid m
    (let n = recompute_mvp m in
    record {
      mvp_valid = false;
      model_stack = n.model_stack;
      model_stack_size = n.model_stack_size;
      viewproj = n.viewproj;
      mvp = n.mvp;
      mvp_table = n.mvp_table;
      cur_mvp_index = n.cur_mvp_index;
    })

-- ---- geometry mode and viewport, lines 311 to 353

-- modify_geometry_mode: the word, and light_version
abbrev pub modify_geometry : ℕ → ℕ → ℕ → ℕ
modify_geometry off-mask on-mask old = bit_or (bit_and old off-mask) on-mask

abbrev pub geometry_version : ℕ → ℕ → ℕ → ℕ
geometry_version old new version = cond (has (bit_xor old new) g_lighting) (version + 1) version

-- set_viewport
abbrev pub quarter : ℤ → Float
quarter z = div binary32 (of_int binary32 z) (fin false 1 (pos 2))

abbrev pub by_range : ℤ → Float
by_range z = div binary32 (of_int binary32 z) (fin false 1 (pos 10))

abbrev pub vp3 : Mem → ℕ → List Float
vp3 mem addr = quarter (read_i16 mem addr) ∷ quarter (read_i16 mem (addr + 2)) ∷ by_range (read_i16 mem (addr + 4)) ∷ []

abbrev pub eq_entry : List Float × List Float → List Float × List Float → Bool
eq_entry a b = eq3 a.0 b.0 && eq3 a.1 b.1

unfoldable pub set_viewport : Mem → ℕ → Viewports → Viewports
set_viewport mem addr v =
    let scale = vp3 mem addr in
    let trans = vp3 mem (addr + 8) in
    let same = last_is eq_entry v.viewport_table (scale, trans) in
    record {
      vp_scale = scale;
      vp_trans = trans;
      viewport_table = cond same v.viewport_table (v.viewport_table ++ (scale, trans) ∷ []);
      cur_viewport_index = cond same v.cur_viewport_index (length (v.viewport_table ++ (scale, trans) ∷ []) - 1);
    }

-- ---- lights and lookat, lines 822 to 899

-- set_num_lights
unfoldable pub set_num_lights : ℕ → Lighting → Lighting
set_num_lights w1 l =
    record {
      lights = l.lights;
      ambient_col = l.ambient_col;
      num_dir = min (w1 / 24) RSP_MAX_LIGHTS;
      light_version = l.light_version + 1;
      last_light_key = l.last_light_key;
      cur_light_index = l.cur_light_index;
    }

-- a colour's byte, and a direction's
abbrev pub unorm : Mem → ℕ → Float
unorm mem addr = div binary32 (of_int binary32 (pos (read_u8 mem addr))) (fin false 255 (pos 0))

abbrev pub snorm : Mem → ℕ → Float
snorm mem addr = div binary32 (of_int binary32 (read_i8 mem addr)) (fin false 127 (pos 0))

abbrev pub col3 : Mem → ℕ → List Float
col3 mem addr = unorm mem addr ∷ unorm mem (addr + 1) ∷ unorm mem (addr + 2) ∷ []

abbrev pub dir3 : Mem → ℕ → List Float
dir3 mem addr = snorm mem (addr + 8) ∷ snorm mem (addr + 9) ∷ snorm mem (addr + 10) ∷ []

-- set_light: the ambient colour, a slot below 8, or nothing
unfoldable pub set_light : Mem → ℕ → ℕ → Lighting → Lighting
set_light mem light-idx addr l =
    let ambient = eqb light-idx l.num_dir in
    record {
      lights = cond ambient l.lights (cond (ltb light-idx 8) (set l.lights light-idx (dir3 mem addr, col3 mem addr)) l.lights);
      ambient_col = cond ambient (col3 mem addr) l.ambient_col;
      num_dir = l.num_dir;
      light_version = l.light_version + 1;
      last_light_key = l.last_light_key;
      cur_light_index = l.cur_light_index;
    }

-- set_lookat
unfoldable pub set_lookat : Mem → ℕ → ℕ → Looking → Looking
set_lookat mem slot addr l =
    record {
      lookat_axes = cond (ltb slot 2) (set l.lookat_axes slot (dir3 mem addr)) l.lookat_axes;
      lookat_version = l.lookat_version + 1;
      last_lookat_key = l.last_lookat_key;
      cur_lookat_index = l.cur_lookat_index;
    }
