-- `stage::State::settle` meets its contract: what its steps ask for, by what the early refusal has judged. Assumes nothing.
use Rattle.std.proofs.Common.{refl, sym, ap}
use Rattle.stage.specs.declared.load.Rooms.{Rooms}
use Rattle.stage.specs.Steps.{rooms_of}
use Rattle.stage.proofs.Loading.{sound-early, rows-count, ranged}
use Rattle.stage.proofs.State.settle.Goals as goal

pub settled_by-d-requires : goal.settled_by-d-requires
settled_by-d-requires c = let r = sound-early _ _ _ _ _ _ (sym c.in_ok-early.ensures) in ((r.low, r.high), refl)

pub late-requires : goal.late-requires
late-requires c = (sound-early _ _ _ _ _ _ (sym c.in_ok-early.ensures)).lights

pub shared_by-shared-requires : goal.shared_by-shared-requires
shared_by-shared-requires c = ranged c.args.self c.settled_by-d.result _ _ _ _ refl c.settled_by-d.ensures (sound-early _ _ _ _ _ _ (sym c.in_ok-early.ensures))

pub tables_written-counts-requires : goal.tables_written-counts-requires
unfolding rooms_of
tables_written-counts-requires c =
    let a = c.args in
    let r = c.rooms_of-rooms in (
      ranged a.self c.settled_by-d.result _ _ _ _ refl c.settled_by-d.ensures (sound-early _ _ _ _ _ _ (sym c.in_ok-early.ensures)),
      rows-count a.self c.settled_by-d.result a.count r.result _ (sym c.in_ok-notice.ensures) a.floats a.words (ap (λ (x : Rooms). x.rows) r.ensures),
    )
