-- `stage::State::inked` meets its contract. Assumes nothing.
use Rattle.std.proofs.Common.{not}
use Rattle.std.proofs.Common.{ap}
use mathlib.Core.Path.{◌≡◌}
use Prim.Native.Nat.{◌+◌}
use lib.Dec.{leb}
use lib.ListN.{length}
use Rattle.stage.proofs.RowEntries.{rows-held, words-of-rows, rows-hold}
use Rattle.areas.proofs.Tables.{room_fits}
use Rattle.stage.specs.Plan.{nothing, carry, row_table}
use Rattle.stage.specs.Modify.{ink_plan}
use Rattle.stage.specs.declared.Answer.TheVariants.{BadState, ShortArea}
use Rattle.stage.proofs.Cascade.{fails, holds, refused, passed, table-holds}
use Rattle.stage.proofs.Turning.{in-room}
use Rattle.stage.proofs.State.inked.Goals as goal

pub returns-then-not-sound : goal.returns-then-not-sound
unfolding ink_plan
returns-then-not-sound c = refused nothing _ tt _ _ BadState (fails c.sound.ensures (ap not c.if-not-sound.true))

pub returns-then-not-holds : goal.returns-then-not-holds
unfolding ink_plan
returns-then-not-holds c =
    passed nothing _ tt _ _ _ _ _ (holds c.sound.ensures (ap not c.if-not-sound.false))
    (refused nothing _ tt _ _ (ShortArea 7) (fails ((let rows-found : let a = c.args in let t = row_table a.self.counts.rows a.floats.now a.words.now in c.holds.result ≡ leb (length t.used + 0) t.room = let a = c.args in
    rows-hold a.self.counts.rows a.floats.now a.words.now 0 _ _ c.row_room.ensures c.holds.ensures in rows-found)) (ap not c.if-not-holds.true)))

pub returns-then-not-holds-2 : goal.returns-then-not-holds-2
unfolding ink_plan
returns-then-not-holds-2 c =
    passed nothing _ tt _ _ _ _ _ (holds c.sound.ensures (ap not c.if-not-sound.false))
    (passed nothing _ tt _ _ _ _ _ (holds ((let rows-found : let a = c.args in let t = row_table a.self.counts.rows a.floats.now a.words.now in c.holds.result ≡ leb (length t.used + 0) t.room = let a = c.args in
    rows-hold a.self.counts.rows a.floats.now a.words.now 0 _ _ c.row_room.ensures c.holds.ensures in rows-found)) (ap not c.if-not-holds.false))
    (refused nothing _ tt _ _ (ShortArea 8) (fails (table-holds 1 _ 0 _ _ _ c.room_of.ensures c.holds-2.ensures) (ap not c.if-not-holds-2.true))))

pub count_ink-requires : goal.count_ink-requires
count_ink-requires c = (
  (rows-held _ _ _ _ c.row_room.ensures (holds c.holds.ensures (ap not c.if-not-holds.false))).1,
  (room_fits 1 _ _ (in-room 1 _ _ _ _ c.room_of.ensures c.holds-2.ensures (holds c.holds-2.ensures (ap not c.if-not-holds-2.false)))).0,
)

pub returns : goal.returns
unfolding ink_plan carry
returns c =
    let a = c.args in
    passed nothing _ tt _ _ _ _ _ (holds c.sound.ensures (ap not c.if-not-sound.false))
    (passed nothing _ tt _ _ _ _ _ (holds ((let rows-found : let a = c.args in let t = row_table a.self.counts.rows a.floats.now a.words.now in c.holds.result ≡ leb (length t.used + 0) t.room = let a = c.args in
    rows-hold a.self.counts.rows a.floats.now a.words.now 0 _ _ c.row_room.ensures c.holds.ensures in rows-found)) (ap not c.if-not-holds.false))
    (passed nothing _ tt _ _ _ _ _ (holds (table-holds 1 _ 0 _ _ _ c.room_of.ensures c.holds-2.ensures) (ap not c.if-not-holds-2.false))
    (rw (words-of-rows a.self.counts.rows a.floats.now a.words.now, c.count_ink.ensures))))
