-- `decide::append::put_first` meets its contract: by which area has no room. Assumes nothing.
use mathlib.Core.Path.{◌∙◌}
use lib.Ieee.{of_bits}
use Rattle.numbers.specs.Choice.{pick, unless}
use Rattle.decide.proofs.First.{no_room, some-room}
use Rattle.decide.proofs.append.put_first.Goals as goal

pub returns-then-room_of-lt1 : goal.returns-then-room_of-lt1
unfolding pick unless
returns-then-room_of-lt1 c =
    let e = no_room _ _ _ c.room_of.ensures c.if-room_of-lt1.true in
    record { short = rw e; matrices = rw e; viewports = rw e }

pub returns-then-room_of-lt1-2 : goal.returns-then-room_of-lt1-2
unfolding pick unless
returns-then-room_of-lt1-2 c =
    let e = some-room _ _ _ c.room_of.ensures c.if-room_of-lt1.false in
    let f = no_room _ _ _ c.room_of-2.ensures c.if-room_of-lt1-2.true in
    record { short = rw (e, f); matrices = rw (e, f); viewports = rw (e, f) }

pub returns : goal.returns
unfolding pick unless of_bits
returns c =
    let e = some-room _ _ _ c.room_of.ensures c.if-room_of-lt1.false in
    let f = some-room _ _ _ c.room_of-2.ensures c.if-room_of-lt1-2.false in
    record {
      short = rw (e, f);
      matrices = rw (e, f) (c.put.ensures ∙ rw (c.to_flat-one.ensures, c.identity.ensures));
      viewports = rw (e, f) c.put-2.ensures;
    }
