-- A command of the stage as the original executes it, and a list of them. Definitions only.
use Rattle.std.specs.Prelude.{ℕ, Bool, cond, List, [], ◌∷◌, ℤ, pos}
use Rattle.sequence.specs.Sequence.{Command, matrix, force, pop, viewport, geometry, texture, fog, number, light, lookat, microcode, load, cull, explain, depth, modify, draw, ink}
use Rattle.stage.specs.declared.settings.Microcode.{Microcode}
use Rattle.stage.specs.declared.settings.Microcode.TheVariants.{F3dex2}
use Rattle.original.specs.Rsp.{Rsp, Matrices, Viewports, TextureState, Lighting, Looking, default, set_initial_microcode, switch_microcode, matrix_fn, force_matrix, pop_matrix, prepare_vertex, modify_geometry, geometry_version, set_viewport, set_num_lights, set_light, set_lookat}
use Rattle.original.specs.Drawing.{Scene, empty, Result, Ok, Err, set_vertex, modify_vertex, cull_display_list, branch_z, draw_tri}

-- what the walk holds: the Rsp, the two numbers of the Rdp that set_vertex reads, and the scene
pub record World : Type 0 where
  pub rsp : Rsp
  pub fog_mul : ℤ
  pub fog_offset : ℤ
  pub scene : Scene

-- before the first command, for the microcode that the caller begins with: interp.rs lines 546 and 547
abbrev pub begun : Microcode → World
begun ucode = record { rsp = set_initial_microcode ucode default; fog_mul = pos 0; fog_offset = pos 0; scene = empty }

-- a caller who begins with F3dex2
unfoldable pub start : World
start = begun F3dex2

-- an Rsp with one of its groups replaced
abbrev pub with_rsp_matrices : Rsp → Matrices → Rsp
with_rsp_matrices r m =
    record {
      microcode = r.microcode;
      geom = r.geom;
      texture_state = r.texture_state;
      slots = r.slots;
      matrices = m;
      viewports = r.viewports;
      texcoords = r.texcoords;
      lighting = r.lighting;
      looking = r.looking;
    }

abbrev pub with_viewports : Rsp → Viewports → Rsp
with_viewports r v =
    record {
      microcode = r.microcode;
      geom = r.geom;
      texture_state = r.texture_state;
      slots = r.slots;
      matrices = r.matrices;
      viewports = v;
      texcoords = r.texcoords;
      lighting = r.lighting;
      looking = r.looking;
    }

abbrev pub with_settings : Rsp → ℕ → TextureState → Lighting → Looking → Rsp
with_settings r g t l o =
    record {
      microcode = r.microcode;
      geom = g;
      texture_state = t;
      slots = r.slots;
      matrices = r.matrices;
      viewports = r.viewports;
      texcoords = r.texcoords;
      lighting = l;
      looking = o;
    }

abbrev pub with_version : Lighting → ℕ → Lighting
with_version l n =
    record {
      lights = l.lights;
      ambient_col = l.ambient_col;
      num_dir = l.num_dir;
      light_version = n;
      last_light_key = l.last_light_key;
      cur_light_index = l.cur_light_index;
    }

-- a world with another Rsp, or another Rsp and scene
abbrev pub with_rsp : World → Rsp → World
with_rsp w r = record { rsp = r; fog_mul = w.fog_mul; fog_offset = w.fog_offset; scene = w.scene }

abbrev pub with_both : World → Rsp × Scene → World
with_both w x = record { rsp = x.0; fog_mul = w.fog_mul; fog_offset = w.fog_offset; scene = x.1 }

-- what a command tells, and the world after it
pub record Went : Type 0 where
  pub values : List ℕ
  pub world : World

abbrev pub done : World → Result Went
done w = Ok record { values = []; world = w }

-- yes or no, and nothing changes
abbrev pub yes_no : World → Result Bool → Result Went
yes_no w (Err k) = Err k
yes_no w (Ok b) = Ok record { values = cond b 1 0 ∷ []; world = w }

abbrev pub changed : World → Result (Rsp × Scene) → Result Went
changed w (Err k) = Err k
changed w (Ok x) = done (with_both w x)

-- each command by the function that rsp_f3dex2.rs calls for it; a load by prepare_vertex and then set_vertex. The explainer and the ink count are not the original's: they are never sent
unfoldable pub execute : Command → World → Result Went
execute (matrix flags bytes at) w = done (with_rsp w (with_rsp_matrices w.rsp (matrix_fn bytes at flags w.rsp.matrices)))
execute (force bytes at) w = done (with_rsp w (with_rsp_matrices w.rsp (force_matrix bytes at w.rsp.matrices)))
execute (pop count) w = done (with_rsp w (with_rsp_matrices w.rsp (pop_matrix count w.rsp.matrices)))
execute (viewport bytes at) w = done (with_rsp w (with_viewports w.rsp (set_viewport bytes at w.rsp.viewports)))
execute (geometry off on) w =
    let r = w.rsp in
    let g = modify_geometry off on r.geom in
    done (with_rsp w (with_settings r g r.texture_state (with_version r.lighting (geometry_version r.geom g r.lighting.light_version)) r.looking))
execute (texture tile level on sc tc) w =
    let r = w.rsp in
    done (with_rsp w (with_settings r r.geom (record { tile = tile; level = level; on = on; sc = sc; tc = tc }) r.lighting r.looking))
execute (fog multiplier offset) w = done (record { rsp = w.rsp; fog_mul = multiplier; fog_offset = offset; scene = w.scene })
execute (number bytes) w = let r = w.rsp in done (with_rsp w (with_settings r r.geom r.texture_state (set_num_lights bytes r.lighting) r.looking))
execute (light slot bytes at) w = let r = w.rsp in done (with_rsp w (with_settings r r.geom r.texture_state (set_light bytes slot at r.lighting) r.looking))
execute (lookat slot bytes at) w = let r = w.rsp in done (with_rsp w (with_settings r r.geom r.texture_state r.lighting (set_lookat bytes slot at r.looking)))
execute (microcode to) w = done (with_rsp w (switch_microcode to w.rsp))
execute (load first count bytes at) w =
    let r = with_rsp_matrices w.rsp (prepare_vertex w.rsp.matrices) in
    Ok record { values = cond w.rsp.matrices.mvp_valid 0 1 ∷ []; world = with_both w (set_vertex bytes at count first w.fog_mul w.fog_offset (r, w.scene)) }
execute (cull first last) w = yes_no w (cull_display_list first last w.rsp.slots)
execute (explain first last) w = done w
execute (depth slot threshold) w = yes_no w (branch_z slot threshold w.rsp.slots)
execute (modify slot attribute value) w = changed w (modify_vertex slot attribute value (w.rsp, w.scene))
execute (draw a b c material mode colour prim) w = done (with_both w (draw_tri a b c material mode colour prim (w.rsp, w.scene)))
execute (ink colour) w = done w
