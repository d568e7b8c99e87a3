-- `ink::ink_at` meets its contract. Assumes nothing.
use borrow.Author.Tests.{le-ltb}
use Rattle.ink.proofs.Counting.{ink-in, ink-out}
use Rattle.areas.specs.Widths.{word_width}
use Rattle.ink.proofs.ink_at.Goals as goal

pub returns-then-i-rows : goal.returns-then-i-rows
returns-then-i-rows c = ink-in _ _ _ _ _ _ _ c.if-i-rows.true c.place.ensures c.has_ink.ensures

pub returns-else-i-rows : goal.returns-else-i-rows
returns-else-i-rows c = rw (le-ltb c.args.i c.args.rows c.if-i-rows.false) (ink-out c.args.colour word_width c.args.rows c.args.i c.args.words.now c.if-i-rows.false)
