-- `stage::State::tables37` meets its contract. Assumes nothing.

use Rattle.stage.proofs.State.tables37.Goals as goal

pub returns : goal.returns
returns c = rw (c.row_room.ensures, c.room_of.ensures)
