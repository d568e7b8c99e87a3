-- rsp.rs of the original: vertices, modify, the two tests and draw, with the parts of scene.rs that they write; lines are those of the Rust.
use Rattle.std.specs.Prelude.{ℕ, zero, suc, ◌+◌, ◌-◌, ◌*◌, ◌/◌, ◌%◌, ◌^◌, Bool, true, false, not, ◌&&◌, ◌||◌, cond, List, [], ◌∷◌, ◌++◌, length, get_or, set, eqb, ltb, leb, ℤ, pos, Float}
use Rattle.std.specs.Bool.{beq}
use Rattle.std.proofs.Math.Option.{Option, none, some}
use Rattle.std.specs.Int.Bits.{bit_and, bit_or}
use Rattle.std.specs.Float.{nan, inf, fin, binary32, binary64}
use Rattle.std.specs.Float.Ieee.{add, mul, div, neg, lt, le, eq, of_int, round, up, down}
use Rattle.std.specs.Float.Ieee.Scale.{finite}
use Rattle.areas.specs.Area.{eqbℤ}
use Rattle.numbers.specs.Sqrt.{sqrt}
use Rattle.stage.specs.declared.settings.Microcode.{Microcode}
use Rattle.stage.specs.declared.settings.Microcode.TheVariants.{F3dex2, F3dex2NoN}
use Rattle.original.specs.Math.{Mat4, f0, f1, mul32, add32, ix, mul_row_vec4, mul_col_vec3}
use Rattle.original.specs.Memory.{Mem, as_i16, RawVertex, read_vertex}
use Rattle.original.specs.Rsp.{Slots, Matrices, TextureState, Texcoords, Lighting, Looking, Rsp, RSP_MAX_VERTICES, has, mv_top, last_is, key_is, g_lighting, g_texture_gen, g_texture_gen_linear, g_fog_geom, g_cull_front, g_cull_both}

-- ---- the scene, scene.rs lines 120 to 175: what has an element for each vertex, and the rest

pub record Columns : Type 0 where
  pub raw_pos : List (List Float)
  pub modify_flags : List ℕ
  pub modify_screen : List (List Float)
  pub mtx_index : List ℕ
  pub viewport_index : List ℕ
  pub raw_st : List (List Float)
  pub texcoord_index : List ℕ
  pub cn : List ℕ
  pub light_index : List ℕ
  pub light_count : List ℕ
  pub texgen_mode : List ℕ
  pub fog : List ℕ
  pub lookat_index : List ℕ

-- DrawRun, scene.rs lines 22 to 32; the fog colour and the primitive depth by the one number that the caller gives
pub record DrawRun : Type 0 where
  pub material_index : ℕ
  pub render_mode_index : ℕ
  pub fog_color : ℕ
  pub prim_depth : ℕ
  pub cull : Bool
  pub unclipped_depth : Bool
  pub index_count : ℕ
  pub index_start : ℕ

pub record Scene : Type 0 where
  pub columns : Columns
  pub lights_table : List (List Float × List Float)
  pub lookat_table : List (List Float × List Float)
  pub fog_table : List (List ℤ)
  pub indices : List ℕ
  pub draw_runs : List DrawRun

-- nothing recorded
abbrev pub empty : Scene
empty =
    record {
      columns = record {
        raw_pos = [];
        modify_flags = [];
        modify_screen = [];
        mtx_index = [];
        viewport_index = [];
        raw_st = [];
        texcoord_index = [];
        cn = [];
        light_index = [];
        light_count = [];
        texgen_mode = [];
        fog = [];
        lookat_index = [];
      };
      lights_table = [];
      lookat_table = [];
      fog_table = [];
      indices = [];
      draw_runs = [];
    }

-- one element for each vertex
pub record Made : Type 0 where
  pub pos : List Float
  pub flags : ℕ
  pub screen : List Float
  pub mtx : ℕ
  pub viewport : ℕ
  pub st : List Float
  pub texcoord : ℕ
  pub colour : ℕ
  pub light : ℕ
  pub count : ℕ
  pub texgen : ℕ
  pub fog : ℕ
  pub lookat : ℕ

-- pushed onto every list
unfoldable pub push : Columns → Made → Columns
push c m =
    record {
      raw_pos = c.raw_pos ++ m.pos ∷ [];
      modify_flags = c.modify_flags ++ m.flags ∷ [];
      modify_screen = c.modify_screen ++ m.screen ∷ [];
      mtx_index = c.mtx_index ++ m.mtx ∷ [];
      viewport_index = c.viewport_index ++ m.viewport ∷ [];
      raw_st = c.raw_st ++ m.st ∷ [];
      texcoord_index = c.texcoord_index ++ m.texcoord ∷ [];
      cn = c.cn ++ m.colour ∷ [];
      light_index = c.light_index ++ m.light ∷ [];
      light_count = c.light_count ++ m.count ∷ [];
      texgen_mode = c.texgen_mode ++ m.texgen ∷ [];
      fog = c.fog ++ m.fog ∷ [];
      lookat_index = c.lookat_index ++ m.lookat ∷ [];
    }

-- ---- set_vertex, lines 355 to 519

-- `as f32` of an f64: rounded once
unfoldable pub as_f32 : Float → Float
as_f32 nan = nan
as_f32 (inf s) = inf s
as_f32 (fin s m e) = round binary32 s (m * up e) (down e)

-- a u16 as an f64, divided by 65536.0 * 32.0 or by 65536.0
abbrev pub tc_scale : ℕ → Float
tc_scale n = as_f32 (div binary64 (of_int binary64 (pos n)) (fin false 1 (pos 21)))

abbrev pub tg_scale : ℕ → Float
tg_scale n = as_f32 (div binary64 (of_int binary64 (pos n)) (fin false 1 (pos 16)))

abbrev pub eq2 : List Float → List Float → Bool
eq2 a b = eq (ix a 0) (ix b 0) && eq (ix a 1) (ix b 1)

-- lines 394 to 407: the texture scales
unfoldable pub texcoords_then : TextureState → Texcoords → Texcoords
texcoords_then x t =
    let tc-entry = tc_scale x.sc ∷ tc_scale x.tc ∷ [] in
    let tg-entry = tg_scale x.sc ∷ tg_scale x.tc ∷ [] in
    let same = last_is eq2 t.texcoord_table tc-entry in
    record {
      texcoord_table = cond same t.texcoord_table (t.texcoord_table ++ tc-entry ∷ []);
      cur_texcoord_index = cond same t.cur_texcoord_index (length (t.texcoord_table ++ tc-entry ∷ []) - 1);
      modify_unit_texcoord_index = t.modify_unit_texcoord_index;
      texgen_scale_table = cond same t.texgen_scale_table (t.texgen_scale_table ++ tg-entry ∷ []);
    }

-- lines 422 to 426, and the closure of lines 449 to 453: times 1.0 / length, or times 0.0
unfoldable pub unit_length : List Float → List Float
unit_length o =
    let len = sqrt binary32 (add32 (add32 (mul32 (ix o 0) (ix o 0)) (mul32 (ix o 1) (ix o 1))) (mul32 (ix o 2) (ix o 2))) in
    let inv = cond (lt f0 len) (div binary32 f1 len) f0 in
    mul32 (ix o 0) inv ∷ mul32 (ix o 1) inv ∷ mul32 (ix o 2) inv ∷ []

-- lines 419 to 427: the first n lights
unfoldable pub fold_lights : Mat4 → List (List Float × List Float) → ℕ → List (List Float × List Float)
fold_lights mv lights zero = []
fold_lights mv lights (suc n) = fold_lights mv lights n ++ (unit_length (mul_col_vec3 mv (get_or lights n ([], [])).0), (get_or lights n ([], [])).1) ∷ []

-- lines 412 to 431: the lights, and the table after them
abbrev pub lights_due : Bool → Matrices → Lighting → Bool
lights_due lit m l = lit && not (key_is l.last_light_key l.light_version (mv_top m))

unfoldable pub lighting_then : Bool → Matrices → ℕ → Lighting → Lighting
lighting_then lit m table l =
    let due = lights_due lit m l in
    record {
      lights = l.lights;
      ambient_col = l.ambient_col;
      num_dir = l.num_dir;
      light_version = l.light_version;
      last_light_key = cond due (some (l.light_version, mv_top m)) l.last_light_key;
      cur_light_index = cond due table l.cur_light_index;
    }

unfoldable pub lighting_entries : Bool → Matrices → Lighting → List (List Float × List Float)
lighting_entries lit m l =
    cond (lights_due lit m l) (fold_lights (mv_top m) l.lights l.num_dir ++ (f0 ∷ f0 ∷ f0 ∷ [], l.ambient_col) ∷ []) []

-- lines 435 to 459: texgen mode and lookat
unfoldable pub texgen_of : Bool → ℕ → ℕ
texgen_of lit geom = cond (lit && has geom g_texture_gen) (cond (has geom g_texture_gen_linear) 2 1) 0

abbrev pub looking_due : ℕ → Matrices → Looking → Bool
looking_due mode m l = not (eqb mode 0) && not (key_is l.last_lookat_key l.lookat_version (mv_top m))

unfoldable pub looking_then : ℕ → Matrices → ℕ → Looking → Looking
looking_then mode m table l =
    let due = looking_due mode m l in
    record {
      lookat_axes = l.lookat_axes;
      lookat_version = l.lookat_version;
      last_lookat_key = cond due (some (l.lookat_version, mv_top m)) l.last_lookat_key;
      cur_lookat_index = cond due table l.cur_lookat_index;
    }

unfoldable pub lookat_entries : ℕ → Matrices → Looking → List (List Float × List Float)
lookat_entries mode m l =
    cond (looking_due mode m l)
    ((unit_length (mul_col_vec3 (mv_top m) (get_or l.lookat_axes 0 [])), unit_length (mul_col_vec3 (mv_top m) (get_or l.lookat_axes 1 []))) ∷ [])
    []

-- lines 460 to 470: the place of the first equal pair, or of the one that is appended
unfoldable pub position : List (List ℤ) → ℤ → ℤ → ℕ
position [] mul offset = 0
position (e ∷ es) mul offset = cond (eqbℤ (get_or e 0 (pos 0)) mul && eqbℤ (get_or e 1 (pos 0)) offset) 0 (position es mul offset + 1)

abbrev pub fog_entries : Bool → List (List ℤ) → ℤ → ℤ → List (List ℤ)
fog_entries foggy table mul offset = cond (foggy && not (ltb (position table mul offset) (length table))) ((mul ∷ offset ∷ []) ∷ []) []

-- lines 479 to 487: the six tests in order, each shifted to its plane
abbrev pub plane : Bool → ℕ → ℕ → ℕ
plane outside k code = bit_or code (cond outside 1 0 * 2 ^ k)

unfoldable pub clip_code : List Float → Option ℕ
clip_code c =
    let x = ix c 0 in
    let y = ix c 1 in
    let z = ix c 2 in
    let w = ix c 3 in
    cond (finite x && (finite y && (finite z && finite w)))
    (some (plane (lt w z) 5 (plane (lt z (neg w)) 4 (plane (lt w y) 3 (plane (lt y (neg w)) 2 (plane (lt w x) 1 (plane (lt x (neg w)) 0 0)))))))
    none

-- lines 488 to 496, in f64
unfoldable pub screen_z_of : Option ℕ → List Float → List Float → List Float → Option Float
screen_z_of none c scale trans = none
screen_z_of (some code) c scale trans =
    let z = mul binary64 (add binary64 (mul binary64 (div binary64 (ix c 2) (ix c 3)) (ix scale 2)) (ix trans 2)) (fin false 1 (pos 10)) in
    cond (eq (ix c 3) f0) none (cond (finite z) (some z) none)

-- what the vertices of a load share, lines 394 to 470
pub record Sharing : Type 0 where
  pub mvp : Mat4
  pub vp_scale : List Float
  pub vp_trans : List Float
  pub cur_mvp_index : ℕ
  pub cur_viewport_index : ℕ
  pub cur_texcoord_index : ℕ
  pub light_index : ℕ
  pub light_count : ℕ
  pub texgen_mode : ℕ
  pub fog_index : ℕ
  pub lookat_index : ℕ

-- u32::from_le_bytes of the four colour bytes
abbrev pub from_le : List ℕ → ℕ
from_le b = get_or b 0 0 + get_or b 1 0 * 256 + get_or b 2 0 * 65536 + get_or b 3 0 * 16777216

-- lines 471 to 517: one turn of the loop
unfoldable pub slot_then : Sharing → RawVertex → ℕ → ℕ → Slots → Slots
slot_then e v slot gi s =
    let clip = mul_row_vec4 (ix v.pos 0 ∷ ix v.pos 1 ∷ ix v.pos 2 ∷ f1 ∷ []) e.mvp in
    record {
      cache_global_index = set s.cache_global_index slot gi;
      loaded = set s.loaded slot true;
      clip_codes = set s.clip_codes slot (clip_code clip);
      screen_z = set s.screen_z slot (screen_z_of (clip_code clip) clip e.vp_scale e.vp_trans);
      used = set s.used slot false;
    }

unfoldable pub made_by : Sharing → RawVertex → Made
made_by e v =
    record {
      pos = v.pos;
      flags = 0;
      screen = f0 ∷ f0 ∷ f0 ∷ f0 ∷ [];
      mtx = e.cur_mvp_index;
      viewport = e.cur_viewport_index;
      st = of_int binary32 (get_or v.st 0 (pos 0)) ∷ of_int binary32 (get_or v.st 1 (pos 0)) ∷ [];
      texcoord = e.cur_texcoord_index;
      colour = from_le v.rgba;
      light = e.light_index;
      count = e.light_count;
      texgen = e.texgen_mode;
      fog = e.fog_index;
      lookat = e.lookat_index;
    }

-- the vertices from an address on
unfoldable pub vertices : Mem → ℕ → ℕ → List RawVertex
vertices mem addr zero = []
vertices mem addr (suc count) = read_vertex mem addr ∷ vertices mem (addr + 16) count

-- the loop: slots and columns
unfoldable pub slots_then : Sharing → List RawVertex → ℕ → ℕ → Slots → Slots
slots_then e [] slot gi s = s
slots_then e (v ∷ vs) slot gi s = slots_then e vs (slot + 1) (gi + 1) (slot_then e v slot gi s)

unfoldable pub columns_then : Sharing → List RawVertex → Columns → Columns
columns_then e [] c = c
columns_then e (v ∷ vs) c = columns_then e vs (push c (made_by e v))

-- set_vertex, after prepare_vertex; fog_mul and fog_offset are the Rdp's
unfoldable pub sharing_of : Rsp → Scene → ℤ → ℤ → Sharing
sharing_of r c fog_mul fog_offset =
    let lit = has r.geom g_lighting in
    let mode = texgen_of lit r.geom in
    record {
      mvp = r.matrices.mvp;
      vp_scale = r.viewports.vp_scale;
      vp_trans = r.viewports.vp_trans;
      cur_mvp_index = r.matrices.cur_mvp_index;
      cur_viewport_index = r.viewports.cur_viewport_index;
      cur_texcoord_index = (texcoords_then r.texture_state r.texcoords).cur_texcoord_index;
      light_index = cond lit (lighting_then lit r.matrices (length c.lights_table) r.lighting).cur_light_index 0;
      light_count = cond lit (r.lighting.num_dir + 1) 0;
      texgen_mode = mode;
      fog_index = cond (has r.geom g_fog_geom) (position c.fog_table fog_mul fog_offset + 1) 0;
      lookat_index = cond (not (eqb mode 0)) (looking_then mode r.matrices (length c.lookat_table) r.looking).cur_lookat_index 0;
    }

unfoldable pub set_vertex : Mem → ℕ → ℕ → ℕ → ℤ → ℤ → Rsp × Scene → Rsp × Scene
set_vertex mem addr count dst fog_mul fog_offset w =
    let r = w.0 in
    let c = w.1 in
    let lit = has r.geom g_lighting in
    let mode = texgen_of lit r.geom in
    let e = sharing_of r c fog_mul fog_offset in
    let vs = vertices mem addr count in (
      record {
        microcode = r.microcode;
        geom = r.geom;
        texture_state = r.texture_state;
        slots = slots_then e vs dst (length c.columns.raw_pos) r.slots;
        matrices = r.matrices;
        viewports = r.viewports;
        texcoords = texcoords_then r.texture_state r.texcoords;
        lighting = lighting_then lit r.matrices (length c.lights_table) r.lighting;
        looking = looking_then mode r.matrices (length c.lookat_table) r.looking;
      },
      record {
        columns = columns_then e vs c.columns;
        lights_table = c.lights_table ++ lighting_entries lit r.matrices r.lighting;
        lookat_table = c.lookat_table ++ lookat_entries mode r.matrices r.looking;
        fog_table = c.fog_table ++ fog_entries (has r.geom g_fog_geom) c.fog_table fog_mul fog_offset;
        indices = c.indices;
        draw_runs = c.draw_runs;
      },
    )

-- ---- modify_unit_texcoord_index, lines 521 to 530, and modify_vertex, lines 574 to 644

-- what a refused function answers with, of diag.rs
pub data DiagKind : Type 0 where
  -- first, last
  InvalidCullRange : ℕ → ℕ → DiagKind
  -- index
  InvalidConditionalVertex : ℕ → DiagKind
  InvalidVertexTransform : ℕ → DiagKind
  -- index, attribute
  InvalidModifyVertex : ℕ → ℕ → DiagKind

pub data Result (A : Type 0) : Type 0 where
  Ok : A → Result A
  Err : DiagKind → Result A

-- element gi of every list: what a copy pushes, lines 597 to 609
unfoldable pub made_at : Columns → ℕ → Made
made_at c gi =
    record {
      pos = get_or c.raw_pos gi [];
      flags = get_or c.modify_flags gi 0;
      screen = get_or c.modify_screen gi [];
      mtx = get_or c.mtx_index gi 0;
      viewport = get_or c.viewport_index gi 0;
      st = get_or c.raw_st gi [];
      texcoord = get_or c.texcoord_index gi 0;
      colour = get_or c.cn gi 0;
      light = get_or c.light_index gi 0;
      count = get_or c.light_count gi 0;
      texgen = get_or c.texgen_mode gi 0;
      fog = get_or c.fog gi 0;
      lookat = get_or c.lookat_index gi 0;
    }

-- modify_unit_texcoord_index: the index, and the tables then
unfoldable pub unit_index : Option ℕ → Texcoords → ℕ
unit_index (some index) t = index
unit_index none t = length t.texcoord_table

unfoldable pub unit_then : Option ℕ → Texcoords → Texcoords
unit_then (some index) t = t
unit_then none t =
    record {
      texcoord_table = t.texcoord_table ++ (f1 ∷ f1 ∷ []) ∷ [];
      cur_texcoord_index = t.cur_texcoord_index;
      modify_unit_texcoord_index = some (length t.texcoord_table);
      texgen_scale_table = t.texgen_scale_table ++ (f0 ∷ f0 ∷ []) ∷ [];
    }

-- the two halves of a value word, as signed numbers divided by 32.0 or by 4.0
abbrev pub high_half : ℕ → ℤ
high_half value = as_i16 (value / 65536)

abbrev pub low_half : ℕ → ℤ
low_half value = as_i16 (value % 65536)

abbrev pub over32 : ℤ → Float
over32 z = div binary32 (of_int binary32 z) (fin false 1 (pos 5))

abbrev pub over4 : ℤ → Float
over4 z = div binary32 (of_int binary32 z) (fin false 1 (pos 2))

-- u32::from_le_bytes(value.to_be_bytes())
abbrev pub swap_bytes : ℕ → ℕ
swap_bytes value = from_le (value / 16777216 ∷ value / 65536 % 256 ∷ value / 256 % 256 ∷ value % 256 ∷ [])

-- 0x10, lines 616 to 621
unfoldable pub modify_colour : ℕ → ℕ → Columns → Columns
modify_colour gi value c =
    record {
      raw_pos = c.raw_pos;
      modify_flags = c.modify_flags;
      modify_screen = c.modify_screen;
      mtx_index = c.mtx_index;
      viewport_index = c.viewport_index;
      raw_st = c.raw_st;
      texcoord_index = c.texcoord_index;
      cn = set c.cn gi (swap_bytes value);
      light_index = set c.light_index gi 0;
      light_count = set c.light_count gi 0;
      texgen_mode = c.texgen_mode;
      fog = set c.fog gi 0;
      lookat_index = c.lookat_index;
    }

-- 0x14, lines 622 to 630
unfoldable pub modify_texture : ℕ → ℕ → ℕ → Columns → Columns
modify_texture gi value index c =
    record {
      raw_pos = c.raw_pos;
      modify_flags = c.modify_flags;
      modify_screen = c.modify_screen;
      mtx_index = c.mtx_index;
      viewport_index = c.viewport_index;
      raw_st = set c.raw_st gi (over32 (high_half value) ∷ over32 (low_half value) ∷ []);
      texcoord_index = set c.texcoord_index gi index;
      cn = c.cn;
      light_index = c.light_index;
      light_count = c.light_count;
      texgen_mode = set c.texgen_mode gi 0;
      fog = c.fog;
      lookat_index = set c.lookat_index gi 0;
    }

-- 0x18 and 0x1C, lines 631 to 640: other screen numbers, and a flag
unfoldable pub modify_screen_at : ℕ → List Float → ℕ → Columns → Columns
modify_screen_at gi screen flag c =
    record {
      raw_pos = c.raw_pos;
      modify_flags = set c.modify_flags gi (bit_or (get_or c.modify_flags gi 0) flag);
      modify_screen = set c.modify_screen gi screen;
      mtx_index = c.mtx_index;
      viewport_index = c.viewport_index;
      raw_st = c.raw_st;
      texcoord_index = c.texcoord_index;
      cn = c.cn;
      light_index = c.light_index;
      light_count = c.light_count;
      texgen_mode = c.texgen_mode;
      fog = c.fog;
      lookat_index = c.lookat_index;
    }

-- `map` of an Option
abbrev pub map_some : {A : Type 0} → A → Option A → Option A
map_some x none = none
map_some x (some y) = some x

-- lines 595 to 613: a slot that was used gets a copy of its row
unfoldable pub copied_slots : ℕ → ℕ → Slots → Slots
copied_slots slot next s =
    record {
      cache_global_index = set s.cache_global_index slot next;
      loaded = s.loaded;
      clip_codes = s.clip_codes;
      screen_z = s.screen_z;
      used = set s.used slot false;
    }

-- a slot's other screen z
abbrev pub with_screen_z : Slots → List (Option Float) → Slots
with_screen_z s z =
    record { cache_global_index = s.cache_global_index; loaded = s.loaded; clip_codes = s.clip_codes; screen_z = z; used = s.used }

-- an Rsp with other slots and texture tables, a scene with other columns
abbrev pub with_modified : Rsp → Slots → Texcoords → Rsp
with_modified r s t =
    record {
      microcode = r.microcode;
      geom = r.geom;
      texture_state = r.texture_state;
      slots = s;
      matrices = r.matrices;
      viewports = r.viewports;
      texcoords = t;
      lighting = r.lighting;
      looking = r.looking;
    }

abbrev pub with_columns : Scene → Columns → Scene
with_columns c x =
    record { columns = x; lights_table = c.lights_table; lookat_table = c.lookat_table; fog_table = c.fog_table; indices = c.indices; draw_runs = c.draw_runs }

-- lines 615 to 642: the change made at row gi
unfoldable pub change_at : ℕ → ℕ → ℕ → ℕ → Rsp × Scene → Rsp × Scene
change_at slot gi attr value w =
    let r = w.0 in
    let c = w.1 in
    let x = c.columns in
    cond (eqb attr 0x10) (r, with_columns c (modify_colour gi value x))
    (cond (eqb attr 0x14)
    (with_modified r r.slots (unit_then r.texcoords.modify_unit_texcoord_index r.texcoords), with_columns c (modify_texture gi value (unit_index r.texcoords.modify_unit_texcoord_index r.texcoords) x))
    (cond (eqb attr 0x18)
    (r, with_columns c (modify_screen_at gi (set (set (get_or x.modify_screen gi []) 0 (over4 (high_half value))) 1 (over4 (low_half value))) 1 x)) (
      with_modified r
          (with_screen_z r.slots (set r.slots.screen_z slot (map_some (div binary64 (of_int binary64 (pos value)) (fin false 1 (pos 16))) (get_or r.slots.screen_z slot none))))
          r.texcoords,
      with_columns c (modify_screen_at gi (set (get_or x.modify_screen gi []) 2 (div binary32 (of_int binary32 (pos value)) (fin false 1 (pos 26)))) 2 x),
    )))

-- an attribute that asks for a change
abbrev pub known : ℕ → Bool
known attr = eqb attr 0x10 || (eqb attr 0x14 || (eqb attr 0x18 || eqb attr 0x1C))

unfoldable pub modify_vertex : ℕ → ℕ → ℕ → Rsp × Scene → Result (Rsp × Scene)
modify_vertex slot attr value w =
    let r = w.0 in
    let c = w.1 in
    let gi = get_or r.slots.cache_global_index slot 0 in
    let next = length c.columns.raw_pos in
    cond (leb RSP_MAX_VERTICES slot || (not (get_or r.slots.loaded slot false) || not (known attr))) (Err (InvalidModifyVertex slot attr))
    (Ok
    (cond (get_or r.slots.used slot false)
    (change_at slot next attr value (with_modified r (copied_slots slot next r.slots) r.texcoords, with_columns c (push c.columns (made_at c.columns gi))))
    (change_at slot gi attr value w)))

-- ---- cull_display_list and branch_z, lines 532 to 571

-- ok_or, lines 551 to 552 and line 569: the function goes on with what is there
abbrev pub ok_or : {A : Type 0} → DiagKind → Option A → (A → Result Bool) → Result Bool
ok_or k none go = Err k
ok_or k (some x) go = go x

-- the slots from index on, count of them: not loaded, no code, or the AND of what is left
unfoldable pub common : Slots → ℕ → ℕ → ℕ → Result Bool
common s zero index code = Ok (not (eqb code 0))
common s (suc count) index code =
    cond (not (get_or s.loaded index false)) (Err (InvalidConditionalVertex index))
    (ok_or (InvalidVertexTransform index) (get_or s.clip_codes index none) (λ (c : ℕ). common s count (index + 1) (bit_and code c)))

unfoldable pub cull_display_list : ℕ → ℕ → Slots → Result Bool
cull_display_list first last s =
    cond (ltb last first || leb RSP_MAX_VERTICES last) (Err (InvalidCullRange first last)) (common s (last + 1 - first) first 0x0f)

unfoldable pub branch_z : ℕ → ℕ → Slots → Result Bool
branch_z index threshold s =
    cond (leb RSP_MAX_VERTICES index || not (get_or s.loaded index false)) (Err (InvalidConditionalVertex index))
    (ok_or (InvalidVertexTransform index) (get_or s.screen_z index none) (λ (z : Float). Ok (le z (div binary64 (of_int binary64 (pos threshold)) (fin false 1 (pos 16))))))

-- ---- draw_tri, lines 654 to 726, with no pair

-- the run's settings are these
abbrev pub coalesces : DrawRun → Bool → Bool → ℕ → ℕ → ℕ → ℕ → Bool
coalesces run kind unclipped material render fog prim =
    beq run.cull kind && (beq run.unclipped_depth unclipped && (eqb run.material_index material && (eqb run.render_mode_index render && (eqb run.fog_color fog && eqb run.prim_depth prim))))

-- a run with one triangle more
abbrev pub grown : DrawRun → DrawRun
grown r =
    record {
      material_index = r.material_index;
      render_mode_index = r.render_mode_index;
      fog_color = r.fog_color;
      prim_depth = r.prim_depth;
      cull = r.cull;
      unclipped_depth = r.unclipped_depth;
      index_count = r.index_count + 3;
      index_start = r.index_start;
    }

-- the last run grows by 3, or a run is pushed
unfoldable pub runs_then : (DrawRun → Bool) → DrawRun → List DrawRun → List DrawRun
runs_then same new [] = new ∷ []
runs_then same new (r ∷ []) = cond (same r) (grown r ∷ []) (r ∷ new ∷ [])
runs_then same new (r ∷ s ∷ rs) = r ∷ runs_then same new (s ∷ rs)

-- the microcode clamps depth in place of clipping
abbrev pub is_non : Microcode → Bool
is_non F3dex2 = false
is_non F3dex2NoN = true

-- slots with the used marks u
abbrev pub with_used : Slots → List Bool → Slots
with_used s u =
    record { cache_global_index = s.cache_global_index; loaded = s.loaded; clip_codes = s.clip_codes; screen_z = s.screen_z; used = u }

unfoldable pub draw_tri : ℕ → ℕ → ℕ → ℕ → ℕ → ℕ → ℕ → Rsp × Scene → Rsp × Scene
draw_tri a b c material render fog prim w =
    let r = w.0 in
    let x = w.1 in
    let s = r.slots in
    let cull = bit_and r.geom g_cull_both in
    let front = eqb cull g_cull_front in
    let kind = not (eqb cull 0) in
    let non = is_non r.microcode in
    let run : DrawRun = record { material_index = material; render_mode_index = render; fog_color = fog; prim_depth = prim; cull = kind; unclipped_depth = non; index_count = 3; index_start = length x.indices } in
    cond (eqb cull g_cull_both) w (
      with_modified r (with_used s (set (set (set s.used a true) b true) c true)) r.texcoords,
      record {
        columns = x.columns;
        lights_table = x.lights_table;
        lookat_table = x.lookat_table;
        fog_table = x.fog_table;
        indices = x.indices ++ get_or s.cache_global_index (cond front c a) 0 ∷ get_or s.cache_global_index b 0 ∷ get_or s.cache_global_index (cond front a c) 0 ∷ [];
        draw_runs = runs_then (λ (q : DrawRun). coalesces q kind non material render fog prim) run x.draw_runs;
      },
    )
