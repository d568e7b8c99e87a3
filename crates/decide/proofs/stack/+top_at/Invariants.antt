-- The measure is the depth, which no call lowers: none is reached.
use Rattle.decide.proofs.stack.+top_at.Given as goal

abbrev pub decreases-top_at : goal.decreases-top_at
decreases-top_at l = l.depth
