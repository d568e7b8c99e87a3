use Rattle.decide.proofs.Ends.{kept, full, grew}
use Rattle.std.proofs.Common.{not, ap}
use Rattle.decide.proofs.append.append.Goals as goal

pub returns-then-last_is : goal.returns-then-last_is
returns-then-last_is c = kept _ _ _ _ _ c.last_is.ensures c.if-last_is.true

pub returns-then-not-holds : goal.returns-then-not-holds
returns-then-not-holds c = full _ _ _ _ _ c.last_is.ensures c.if-last_is.false _ _ c.room_of.ensures c.holds.ensures (ap not c.if-not-holds.true)

pub returns : goal.returns
returns c = grew _ _ _ _ _ c.last_is.ensures c.if-last_is.false _ _ c.room_of.ensures c.holds.ensures (ap not c.if-not-holds.false) _ _ c.place.ensures c.put.ensures
