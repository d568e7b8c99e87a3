-- `stage::State::settled_by` meets its contract. Assumes nothing.
use mir.Syntax.{w16}
use mir.Facts.{to_z-of_z}
use mathlib.Core.Path.{◌∙◌, ap, sym}
use Prim.Native.Nat.{◌-◌, ◌*◌}
use mathlib.Core.List.{List}
use lib.Ieee.{Float}
use Rattle.areas.specs.Widths.{matrix_width}
use Rattle.matrix.specs.Math.{rows, laid, times}
use Rattle.stage.specs.Plan.{pick}
use Rattle.stage.proofs.Settling.{settled_is}
use Rattle.areas.proofs.Tables.{length-entries}
use Rattle.stage.proofs.State.settled_by.Goals as goal

pub returns : goal.returns
returns c =
    let s = c.args.self in
    let fam = c.family_of-family.ensures in
    let top = c.top_at-top.ensures ∙ ap (λ (l : List Float). rows l (matrix_width * (s.depth - 1))) c.requires.1 in
    settled_is _ s _ _ _ c.combined_now-combined.result c.scales_of-entry.result c.to_flat-model.result c.last_is.result c.scale_is-scale.result c.folds.result c.folds-2.result c.is_lit-lit.result c.is_foggy-foggy.result c.texgen_mode-texgen.result c.fog_place-place.result s.counts.fogs
    (c.combined_now-combined.ensures ∙ ap (λ (x : List (List Float)). pick s.defined s.combined (laid (times x (rows s.projection 0)))) top)
    c.scales_of-entry.ensures
    (c.to_flat-model.ensures ∙ ap laid top)
    (rw fam at c.is_lit-lit.ensures)
    (rw fam at c.texgen_mode-texgen.ensures)
    (rw fam at c.is_foggy-foggy.ensures)
    (rw (to_z-of_z {w = w16} {z = c.args.self.fogmul} (record { sfits = c.struct_told-1.given.1.1.1.1.0.1 }), to_z-of_z {w = w16} {z = c.args.self.fogoff} (record { sfits = c.struct_told-2-1.given.1.1.1.1.1.0.1 })) at c.fog_place-place.ensures.0)
    c.last_is.ensures
    c.scale_is-scale.ensures
    c.folds.ensures
    c.folds-2.ensures
    (sym (length-entries 2 _ _))
