-- The eighteen cases, proved as a single table: each row by computation of the definitions that the contracts cite. Assumes nothing.
use mathlib.Core.Path.{refl}
use lib.Ieee.{to_bits, add, mul, div, neg, lt, le, eq, ne}
use Rattle.numbers.specs.Ratio.{of_ratio, is_ratio}
use Rattle.numbers.specs.Sqrt.{sqrt}
use Rattle.matrix.specs.Math.{row_times, times, rows, laid}
use Rattle.matrix.specs.Clip.{code_of, depth_of}
use Rattle.layout.specs.Layout.{entry_at, row_at, matrix_at, exact_at, noes, inexact_at, triple_at, viewport_at, vertex_at}
use Rattle.areas.specs.Area.{put, write, matches}
use Rattle.decide.specs.Family.{texgen_mode}
use Rattle.decide.specs.Stack.{made, pushed, relit}
use Rattle.numbers.specs.Choice.{pick, all}
use Rattle.fold.specs.Fog.{find}
use Rattle.fold.specs.Lights.{light_entries, directional}
use Rattle.fold.specs.Scales.{same_scale}
use Rattle.fold.specs.Decision.{refold}
use Rattle.vertex.specs.Vertices.{floats_of, words_of, clip_of, slot_at, slot_of, vertices_at}
use Rattle.stage.specs.Plan.{unless, carry, appended, appending, telling}
use Rattle.stage.specs.Sound.{state_sound}
use Rattle.stage.specs.Opening.{blank, opening_plan}
use Rattle.stage.specs.Opening as opening
use Rattle.stage.specs.Matrices.{combine, turned, matrix_stores, matrix_plan, force_stores, force_plan, viewing, viewport_plan, geometry_plan}
use Rattle.stage.specs.Load.{settled, settled_state, shared_by, load_edits, load_plan}
use Rattle.stage.specs.Rows.{fill_slot, fill_slots}
use Rattle.stage.specs.Modify.{asking, changed, change_plan, modify_plan, moved, ink_plan}
use Rattle.stage.specs.Draw.{cull_plan, explain_plan, depth_plan, run_edit, draw_plan}
use Rattle.change.specs.Decoded.{decoded, floats_after, words_after, depth_after, appends}
use Rattle.ink.specs.Ink.{ink_of}
use Rattle.triangle.specs.Run.{closed, same_run}
use Rattle.triangle.specs.Slot.{held}
use Rattle.reason.specs.Reason.{reason}
use Rattle.prints.specs.Prints.{Prints, viewed, load, modify, drawn, load0, load1, load2, draw1, modify1, draw2, load_unlit, load_lit, draw_lit, recolour, draw_recoloured, ink_count, load_matrix, force, some_first, some_again}

pub prints : Prints
unfolding load_matrix force some_first some_again telling matrix_stores matrix_plan force_stores force_plan combine turned made pushed row_at matrix_at exact_at noes inexact_at eq viewed load modify drawn load0 load1 load2 draw1 modify1 draw2 load_unlit load_lit draw_lit recolour draw_recoloured ink_count ink_of ink_plan asking changed change_plan modify_plan cull_plan explain_plan reason depth_plan run_edit draw_plan decoded floats_after words_after depth_after appends moved closed same_run held le of_ratio is_ratio entry_at triple_at viewport_at sqrt to_bits row_times code_of depth_of vertex_at put write matches texgen_mode pick find light_entries directional same_scale refold floats_of words_of clip_of slot_at slot_of vertices_at unless carry appended appending all state_sound blank opening_plan opening.opened viewing viewport_plan geometry_plan relit settled settled_state shared_by load_edits load_plan fill_slot fill_slots times rows laid add mul div neg lt ne
prints =
    record {
      begins = (refl, refl);
      case1 = (refl, refl, refl);
      case2 = ((refl, refl), refl);
      case3 = ((refl, refl), refl, refl);
      case4 = ((refl, refl), refl, refl);
      case5 = (((refl, refl), refl, refl), ((refl, refl), refl));
      case6 = (refl, refl, refl, refl);
      case7 = refl;
      case8 = (refl, refl, refl);
      case9 = (((refl, refl), (refl, refl)), ((refl, refl), (refl, refl)), ((refl, refl), (refl, refl)));
      case10 = (((refl, refl), (refl, refl), (refl, refl)), (refl, refl));
      case11 = (((refl, refl), (refl, refl), refl, refl), ((refl, refl), (refl, refl)));
      case12 = (((refl, refl), (refl, refl), (refl, refl), (refl, refl), (refl, refl), (refl, refl)), (refl, refl, refl));
      case13 = (((refl, refl), (refl, refl), (refl, refl)), (refl, refl), (refl, refl), (refl, refl));
      case14 = (((refl, refl), (refl, refl), (refl, refl), (refl, refl)), ((refl, refl), (refl, refl), (refl, refl)), ((refl, refl), (refl, refl)));
      case15 = (((refl, refl), (refl, refl), refl), (refl, refl), (refl, refl));
      case16 = ((refl, refl), (refl, refl));
      case17 = ((refl, refl), (refl, refl), (refl, refl));
      case18 = (((refl, refl), (refl, refl)), (refl, refl));
      case19 = (((refl, refl), (refl, refl), (refl, refl), (refl, refl)), ((refl, refl), (refl, refl)));
      case20 = ((refl, refl), (refl, refl));
      case21 = ((refl, refl), (refl, refl), (refl, refl));
    }
