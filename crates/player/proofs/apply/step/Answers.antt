-- `player::apply::step` meets its contract. Assumes nothing.
use Rattle.player.specs.Ops.{areas_of, held}
use Rattle.player.proofs.Applied.{step_is}
use Rattle.player.proofs.apply.step.Goals as goal

pub returns-clause-after : goal.returns-clause-after
returns-clause-after c =
    let a = c.args in
    let n = c.lend-r.new in
    let w = c.write in
    let x = areas_of n.matrices n.viewports n.scales n.lights n.lookats n.fogs n.floats n.words n.indices n.runs in
    step_is a.c a.«data».now a.state c.lend-r.result a.lent (held a.areas.now) x (areas_of n.matrices n.viewports n.scales n.lights n.lookats w.new.fogs n.floats w.new.words w.new.indices w.new.runs) c.lend-r.ensures
    (λ i. record { matrices = n.matrices; viewports = n.viewports; scales = n.scales; lights = n.lights; lookats = n.lookats; fogs = w.ensures.fogs_after i; floats = n.floats; words = w.ensures.words_after i; drawing = record { indices = w.ensures.indices_after i; runs = w.ensures.runs_after i } })
