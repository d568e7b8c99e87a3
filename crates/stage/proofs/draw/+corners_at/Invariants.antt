-- The measure is the slot a, which a call divides by 256.
use Rattle.stage.proofs.draw.+corners_at.Given as goal

abbrev pub decreases-corners_at : goal.decreases-corners_at
decreases-corners_at l = l.a
