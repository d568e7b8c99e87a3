-- `change::remake::remake` meets its contract. Assumes nothing.
use mathlib.Core.Path.{sym, ◌∙◌}
use Rattle.change.proofs.Accepted.{lies}
use Rattle.change.proofs.remake.remake.Goals as goal

pub remake_row-requires : goal.remake_row-requires
remake_row-requires c =
    let h = lies c.args.asked c.args.s c.args.t _ _ c.args.floats.now c.args.words.now c.requires.1.1 (sym c.judge.ensures ∙ c.in_ok-c.was) in
    (h.0, h.1)

pub remake_row-requires-2 : goal.remake_row-requires-2
remake_row-requires-2 c =
    let h = lies c.args.asked c.args.s c.args.t _ _ c.args.floats.now c.args.words.now c.requires.1.1 (sym c.judge.ensures ∙ c.in_ok-c.was) in
    (h.0, h.2)
