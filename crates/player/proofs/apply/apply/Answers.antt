-- `player::apply::apply` meets its contract. Assumes nothing.
use mathlib.Core.Path.{sym}
use mir.Syntax.{w16}
use Rattle.layout.proofs.Signed.{handed}
use Rattle.stage.specs.Load.{load_areas}
use Rattle.player.specs.Ops.{areas_of}
use Rattle.player.proofs.Applied.{named, apply-open, apply-matrix, apply-force, apply-pop, apply-geometry, apply-viewport, apply-texture, apply-fog, apply-number, apply-light, apply-lookat, apply-load, apply-cull, apply-depth, apply-modify, apply-draw, apply-microcode, apply-ink, apply-explain, apply-poked, apply-rest, own-rests, none-rests}
use Rattle.player.proofs.apply.apply.Goals as goal

pub returns-in-Open : goal.returns-in-Open
returns-in-Open c = apply-open c.args.c c.args.«data».now c.args.state c.opening.result (let a = c.args in areas_of a.matrices.now a.viewports.now a.scales.now a.lights.now a.lookats.now a.fogs.now a.floats.now a.words.now a.indices.now a.runs.now) _ _ (named _ c.in-Ok.ensures c.in-Open.is) c.opening.ensures

pub returns-in-Matrix : goal.returns-in-Matrix
returns-in-Matrix c = apply-matrix c.args.c c.args.«data».now c.args.state c.matrix.result (let a = c.args in areas_of a.matrices.now a.viewports.now a.scales.now a.lights.now a.lookats.now a.fogs.now a.floats.now a.words.now a.indices.now a.runs.now) _ _ (named _ c.in-Ok.ensures c.in-Matrix.is) c.octet.ensures c.matrix.ensures

pub returns-in-Force : goal.returns-in-Force
returns-in-Force c = apply-force c.args.c c.args.«data».now c.args.state c.force_matrix.result (let a = c.args in areas_of a.matrices.now a.viewports.now a.scales.now a.lights.now a.lookats.now a.fogs.now a.floats.now a.words.now a.indices.now a.runs.now) _ (named _ c.in-Ok.ensures c.in-Force.is) c.force_matrix.ensures

pub returns-in-Pop : goal.returns-in-Pop
returns-in-Pop c = apply-pop c.args.c c.args.«data».now c.args.state c.pop_matrix.result (let a = c.args in areas_of a.matrices.now a.viewports.now a.scales.now a.lights.now a.lookats.now a.fogs.now a.floats.now a.words.now a.indices.now a.runs.now) _ (named _ c.in-Ok.ensures c.in-Pop.is) c.pop_matrix.ensures

pub returns-in-Geom : goal.returns-in-Geom
returns-in-Geom c = apply-geometry c.args.c c.args.«data».now c.args.state c.modify_geometry_mode.result (let a = c.args in areas_of a.matrices.now a.viewports.now a.scales.now a.lights.now a.lookats.now a.fogs.now a.floats.now a.words.now a.indices.now a.runs.now) (named _ c.in-Ok.ensures c.in-Geom.is) c.modify_geometry_mode.ensures

pub returns-in-Viewport : goal.returns-in-Viewport
returns-in-Viewport c = apply-viewport c.args.c c.args.«data».now c.args.state c.set_viewport.result (let a = c.args in areas_of a.matrices.now a.viewports.now a.scales.now a.lights.now a.lookats.now a.fogs.now a.floats.now a.words.now a.indices.now a.runs.now) _ (named _ c.in-Ok.ensures c.in-Viewport.is) c.set_viewport.ensures

pub returns-in-Texture : goal.returns-in-Texture
returns-in-Texture c = apply-texture c.args.c c.args.«data».now c.args.state c.texture.result (let a = c.args in areas_of a.matrices.now a.viewports.now a.scales.now a.lights.now a.lookats.now a.fogs.now a.floats.now a.words.now a.indices.now a.runs.now) (named _ c.in-Ok.ensures c.in-Texture.is) c.texture.ensures

pub returns-in-Fog : goal.returns-in-Fog
returns-in-Fog c = apply-fog c.args.c c.args.«data».now c.args.state c.set_fog.result (let a = c.args in areas_of a.matrices.now a.viewports.now a.scales.now a.lights.now a.lookats.now a.fogs.now a.floats.now a.words.now a.indices.now a.runs.now) _ _ (named _ c.in-Ok.ensures c.in-Fog.is) (handed w16 c.signed.type_inv c.signed.ensures) (handed w16 c.signed-in-Fog.type_inv c.signed-in-Fog.ensures) c.set_fog.ensures

pub returns-in-Lightnum : goal.returns-in-Lightnum
returns-in-Lightnum c = apply-number c.args.c c.args.«data».now c.args.state c.set_num_lights.result (let a = c.args in areas_of a.matrices.now a.viewports.now a.scales.now a.lights.now a.lookats.now a.fogs.now a.floats.now a.words.now a.indices.now a.runs.now) (named _ c.in-Ok.ensures c.in-Lightnum.is) c.set_num_lights.ensures

pub returns-in-Light : goal.returns-in-Light
returns-in-Light c = apply-light c.args.c c.args.«data».now c.args.state c.set_light.result (let a = c.args in areas_of a.matrices.now a.viewports.now a.scales.now a.lights.now a.lookats.now a.fogs.now a.floats.now a.words.now a.indices.now a.runs.now) (named _ c.in-Ok.ensures c.in-Light.is) c.set_light.ensures

pub returns-in-Lookat : goal.returns-in-Lookat
returns-in-Lookat c = apply-lookat c.args.c c.args.«data».now c.args.state c.set_lookat.result (let a = c.args in areas_of a.matrices.now a.viewports.now a.scales.now a.lights.now a.lookats.now a.fogs.now a.floats.now a.words.now a.indices.now a.runs.now) (named _ c.in-Ok.ensures c.in-Lookat.is) c.set_lookat.ensures

pub returns-in-Load : goal.returns-in-Load
returns-in-Load c = apply-load c.args.c c.args.«data».now c.args.state c.load.result (let a = c.args in areas_of a.matrices.now a.viewports.now a.scales.now a.lights.now a.lookats.now a.fogs.now a.floats.now a.words.now a.indices.now a.runs.now) (load_areas c.load.new.matrices c.load.new.scales c.load.new.lights c.load.new.lookats c.load.new.fogs c.load.new.floats c.load.new.words) (named _ c.in-Ok.ensures c.in-Load.is) c.load.ensures

pub returns-in-Cull : goal.returns-in-Cull
returns-in-Cull c = apply-cull c.args.c c.args.«data».now c.args.state c.cull_display_list.result (let a = c.args in areas_of a.matrices.now a.viewports.now a.scales.now a.lights.now a.lookats.now a.fogs.now a.floats.now a.words.now a.indices.now a.runs.now) (named _ c.in-Ok.ensures c.in-Cull.is) c.cull_display_list.ensures

pub returns-in-Depth : goal.returns-in-Depth
returns-in-Depth c = apply-depth c.args.c c.args.«data».now c.args.state c.branch_z.result (let a = c.args in areas_of a.matrices.now a.viewports.now a.scales.now a.lights.now a.lookats.now a.fogs.now a.floats.now a.words.now a.indices.now a.runs.now) (named _ c.in-Ok.ensures c.in-Depth.is) c.branch_z.ensures

pub returns-in-Modify : goal.returns-in-Modify
returns-in-Modify c = apply-modify c.args.c c.args.«data».now c.args.state c.modify_vertex.result (let a = c.args in areas_of a.matrices.now a.viewports.now a.scales.now a.lights.now a.lookats.now a.fogs.now a.floats.now a.words.now a.indices.now a.runs.now) (c.modify_vertex.new.scales, c.modify_vertex.new.floats, c.modify_vertex.new.words) (named _ c.in-Ok.ensures c.in-Modify.is) c.modify_vertex.ensures

pub returns-in-Draw : goal.returns-in-Draw
returns-in-Draw c = apply-draw c.args.c c.args.«data».now c.args.state c.draw_tri.result (let a = c.args in areas_of a.matrices.now a.viewports.now a.scales.now a.lights.now a.lookats.now a.fogs.now a.floats.now a.words.now a.indices.now a.runs.now) (c.draw_tri.new.indices, c.draw_tri.new.runs) (named _ c.in-Ok.ensures c.in-Draw.is) c.draw_tri.ensures

pub returns-in-Ucode : goal.returns-in-Ucode
returns-in-Ucode c = apply-microcode c.args.c c.args.«data».now c.args.state c.microcode.result (let a = c.args in areas_of a.matrices.now a.viewports.now a.scales.now a.lights.now a.lookats.now a.fogs.now a.floats.now a.words.now a.indices.now a.runs.now) (named _ c.in-Ok.ensures c.in-Ucode.is) c.microcode.ensures

pub returns-in-Ink : goal.returns-in-Ink
returns-in-Ink c = apply-ink c.args.c c.args.«data».now c.args.state c.ink_count.result (let a = c.args in areas_of a.matrices.now a.viewports.now a.scales.now a.lights.now a.lookats.now a.fogs.now a.floats.now a.words.now a.indices.now a.runs.now) (named _ c.in-Ok.ensures c.in-Ink.is) c.ink_count.ensures

pub returns-in-Explain : goal.returns-in-Explain
returns-in-Explain c = apply-explain c.args.c c.args.«data».now c.args.state c.explain_cull.result (let a = c.args in areas_of a.matrices.now a.viewports.now a.scales.now a.lights.now a.lookats.now a.fogs.now a.floats.now a.words.now a.indices.now a.runs.now) (named _ c.in-Ok.ensures c.in-Explain.is) c.explain_cull.ensures

pub returns-in-Poke : goal.returns-in-Poke
returns-in-Poke c = apply-poked c.args.c c.args.«data».now c.args.state _ (let a = c.args in areas_of a.matrices.now a.viewports.now a.scales.now a.lights.now a.lookats.now a.fogs.now a.floats.now a.words.now a.indices.now a.runs.now) (named _ c.in-Ok.ensures c.in-Poke.is) c.poked.ensures

pub returns-in-Lend : goal.returns-in-Lend
returns-in-Lend c = apply-rest c.args.c c.args.«data».now c.args.state (let a = c.args in areas_of a.matrices.now a.viewports.now a.scales.now a.lights.now a.lookats.now a.fogs.now a.floats.now a.words.now a.indices.now a.runs.now) (own-rests c.args.c c.args.«data».now _ (sym c.in-Ok.ensures) c.in-Lend.is)

pub returns-in_default : goal.returns-in_default
returns-in_default c = apply-rest c.args.c c.args.«data».now c.args.state (let a = c.args in areas_of a.matrices.now a.viewports.now a.scales.now a.lights.now a.lookats.now a.fogs.now a.floats.now a.words.now a.indices.now a.runs.now) (none-rests c.args.c c.args.«data».now _ (sym c.in_default.ensures))
