-- `stage::State::load` meets its contract: refused or ready, by what is prepared of it; then its rows. Assumes nothing.
use Rattle.std.proofs.Common.{refl, length}
use Rattle.stage.specs.declared.Answer.TheVariants.{Told}
use Rattle.stage.specs.Load.{load_areas}
use Rattle.stage.specs.With.{Slots, slots_of, with_counts, with_combined, with_lights, with_lookat}
use Rattle.stage.specs.Steps.{rooms_of}
use Rattle.stage.proofs.Loading.{refused-load, rows_fit, done-load, left}
use Rattle.stage.proofs.State.load.Goals as goal
use Rattle.stage.proofs.State.load.Goals.{in-Err, in-Ok}

pub fill-requires : goal.fill-requires
fill-requires c =
    let a = c.args in
    let n = c.settle-prepared.new in
    let l = load_areas a.matrices.now a.scales.now a.lights.now a.lookats.now a.fogs.now a.floats.now a.words.now in
    let x = load_areas n.matrices n.scales n.lights n.lookats n.fogs a.floats.now a.words.now in
    let r = rooms_of (length a.matrices.now) (length a.scales.now) (length a.lights.now) (length a.lookats.now) (length a.fogs.now) (length a.floats.now) (length a.words.now) in
    rows_fit a.self l a.first a.count a.at a.«data».now r refl c.in-Ok.p x c.in-Ok.ensures

pub returns : goal.returns
returns c =
    let a = c.args in
    let n = c.settle-prepared.new in
    let m = c.match-prepared in
    let l = load_areas a.matrices.now a.scales.now a.lights.now a.lookats.now a.fogs.now a.floats.now a.words.now in
    let x = load_areas n.matrices n.scales n.lights n.lookats n.fogs in
    let r = rooms_of (length a.matrices.now) (length a.scales.now) (length a.lights.now) (length a.lookats.now) (length a.fogs.now) (length a.floats.now) (length a.words.now) in
    let q : Slots = record { row = m.row; ever = m.ever; loaded = m.loaded; drawn = m.drawn; coded = m.coded; code = m.code; deep = m.deep; z = m.z } in
    elim m.branch [
      | in-Ok w ↦
          let p = w.in-Ok.p in
          let f = w.fill.new in
          let t : Slots = record { row = f.row; ever = f.ever; loaded = f.loaded; drawn = f.drawn; coded = f.coded; code = f.code; deep = f.deep; z = f.z } in
          left m.self (with_counts (with_lookat (with_lights (with_combined a.self p.combined a.self.defined) p.lights) p.lookat) p.counts) q t
          m.answer (Told p.notice) (x m.floats m.words) (x f.floats f.words)
          w.self-is w.row-is w.ever-is w.loaded-is w.drawn-is w.coded-is w.code-is w.deep-is w.z-is w.answer-is refl refl refl refl refl w.floats-is w.words-is
          (done-load a.self l a.first a.count a.at a.«data».now r refl p (x f.floats f.words) w.in-Ok.ensures
          w.from_flat-m.result t w.from_flat-m.ensures w.fill.ensures.0 w.fill.ensures.1)
      | in-Err w ↦
          let k = w.in-Err.ensures in
          left m.self a.self q (slots_of a.self) m.answer w.in-Err.refusal (x m.floats m.words) l
          w.self-is w.row-is w.ever-is w.loaded-is w.drawn-is w.coded-is w.code-is w.deep-is w.z-is w.answer-is k.1 k.2 k.3 k.4 k.5 w.floats-is w.words-is
          (refused-load a.self l a.first a.count a.at a.«data».now r refl w.in-Err.refusal k.0)
    ]
