use Rattle.triangle.proofs.Runs.{put_three}
use lib.ListN.{length-set}
use native.Mathlib.Omega.{arith}
use Rattle.triangle.proofs.slot.put_corners.Goals as goal

pub bounds-indices-at-2 : goal.bounds-indices-at-2
bounds-indices-at-2 c = simp length-set (omega arith)

pub bounds-indices-at-3 : goal.bounds-indices-at-3
bounds-indices-at-3 c = simp length-set (omega arith)

pub returns : goal.returns
returns c = rw (c.if_else-2.ensures, c.if_else.ensures) (put_three _ _ _ _ _)
