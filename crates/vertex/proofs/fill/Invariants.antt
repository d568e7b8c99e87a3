-- `vertex::fill` meets its contract. After i turns the first i vertices have their rows, and their slots all that they get. Assumes nothing.
use mathlib.Core.Path.{◌≡◌}
use Prim.Native.Nat.{◌≤◌}
use lib.ListN.{length}
use Rattle.vertex.specs.Steps.{Laid, Marked}
use Rattle.vertex.proofs.fill.Given as goal

-- the first i vertices have their rows and their slots all that they get, in areas as long as they were
abbrev pub invariant-loop-i : goal.invariant-loop-i
invariant-loop-i l =
    (l.i ≤ l.count)
    × Laid l.m l.e l.«data» l.at l.first l.n l.i l.initial.floats l.initial.words l.initial.coded l.initial.code l.initial.deep l.initial.z l.floats l.words l.coded l.code l.deep l.z
    × Marked l.first l.n l.i l.initial.row l.initial.ever l.initial.loaded l.initial.drawn l.row l.ever l.loaded l.drawn
    × (length l.floats ≡ length l.initial.floats)
    × (length l.words ≡ length l.initial.words)
