-- The measure is the slot.
use Rattle.stage.proofs.modify.+mark_at.Given as goal

abbrev pub decreases-mark_at : goal.decreases-mark_at
decreases-mark_at l = l.slot
