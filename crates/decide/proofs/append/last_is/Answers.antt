use Rattle.decide.proofs.Ends.{final-none, final-same}
use mathlib.Core.Path.{◌∙◌}
use borrow.Author.Rules.{rules}
use Rattle.decide.proofs.append.last_is.Goals as goal

pub returns-then-used-eq0 : goal.returns-then-used-eq0
returns-then-used-eq0 c = c.is_empty.ensures ∙ final-none _ _ _ _ c.if-used-eq0.true

pub returns : goal.returns
returns c = final-same _ _ _ _ _ _ (search rules) c.requires c.place.ensures c.same.ensures
