-- `player::apply::lend` meets its contract. Assumes nothing.
use Rattle.trace.specs.declared.rooms.Lengths.{Lengths}
use Rattle.player.specs.Ops.{areas_of}
use Rattle.player.proofs.Applied.{lend-is}
use Rattle.player.proofs.apply.lend.Goals as goal

pub returns : goal.returns
returns c =
    let a = c.args in
    let n = c.apply.new in
    let l = areas_of a.matrices.now a.viewports.now a.scales.now a.lights.now a.lookats.now a.fogs.now a.floats.now a.words.now a.indices.now a.runs.now in
    let x = areas_of n.matrices n.viewports n.scales n.lights n.lookats n.fogs n.floats n.words n.indices n.runs in
    let k : Lengths = record { matrices = c.min-n0.result; viewports = c.min-n1.result; scales = c.min-n2.result; lights = c.min-n3.result; lookats = c.min-n4.result; fogs = c.min-n5.result; floats = c.min-n6.result; words = c.min-n7.result; indices = c.min-n8.result; runs = c.min-n9.result } in
    lend-is a.c a.«data».now a.state c.apply.result a.lent k l x (λ i. record { matrices = c.min-n0.ensures i; viewports = c.min-n1.ensures i; scales = c.min-n2.ensures i; lights = c.min-n3.ensures i; lookats = c.min-n4.ensures i; fogs = c.min-n5.ensures i; floats = c.min-n6.ensures i; words = c.min-n7.ensures i; indices = c.min-n8.ensures i; runs = c.min-n9.ensures i }) c.apply.ensures
