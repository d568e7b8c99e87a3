-- `ink::count_ink` meets its contract. Assumes nothing.
use Rattle.std.proofs.Common.{◌≡◌, ◌≤◌, take}
use Rattle.std.specs.List.{count_by}
use Rattle.areas.specs.Area.{entries}
use Rattle.areas.specs.Widths.{word_width}
use Rattle.ink.specs.Ink.{ink_at}
use Rattle.ink.proofs.count_ink.Given as goal

-- the count is that of the indices so far
abbrev pub invariant-loop-i : goal.invariant-loop-i
invariant-loop-i l = (l.count ≡ count_by (ink_at l.colour (entries word_width l.rows l.words)) (take l.i-index l.used)) × (l.count ≤ l.i-index)
