-- `ink::count_ink` meets its contract. Assumes nothing.
use Rattle.std.proofs.Common.{take, ◌∙◌, sym}
use native.Mathlib.Omega.{arith}
use Rattle.std.proofs.lemmas.List.{take_all}
use Rattle.std.proofs.lemmas.List.Sums.{length-filter}
use Rattle.areas.specs.Area.{entries}
use Rattle.areas.specs.Widths.{word_width}
use Rattle.ink.specs.Ink.{ink_at}
use Rattle.ink.proofs.Counting.{inks-filtered}
use Rattle.ink.proofs.count_ink.Goals as goal

pub returns : goal.returns
returns c =
    let a = c.args in
    let rows = entries word_width a.rows a.words.now in
    let used = take a.used a.indices.now in
    c.loop-i.invariant.0
    ∙ sym (length-filter (ink_at a.colour rows) (take c.loop-i.i-index used))
    ∙ rw (take_all c.loop-i.i-index used (omega (arith, c.loop-i-test.false))) (inks-filtered a.colour rows a.used a.indices.now c.requires.1)
