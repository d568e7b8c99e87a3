-- The explainer beside the cull test, of what the two commands hand back: their contracts are cited by name, and not spelled. Assumes nothing.
use mathlib.Core.Path.{sym, subst}
use Rattle.stage.specs.declared.Answered.{Answered}
use Rattle.stage.specs.Plan.{nothing, Outcome, outcome, carry}
use Rattle.stage.specs.Sound.{limit}
use Rattle.stage.specs.Draw.{cull_plan}
use Rattle.stage.specs.Explain.{Explains}
use Rattle.stage.proofs.Explaining.{explains}
use Rattle.stage.proofs.State.cull_display_list.Reads as cull
use Rattle.stage.proofs.State.explain_cull.Reads as explain

-- WHATEVER THE TWO HAND BACK, r the test and q the explainer, given the same state and slots
pub explained : (κs : _) (a : _) (r q : Answered) (x y : _) → cull.Learnt κs a r x → explain.Learnt κs a q y → Explains a.0 a.1.0 a.1.1.0 (outcome r tt) (outcome q tt)
explained κs a r q x y p t =
    let s = a.0 in
    let first = a.1.0 in
    let last = a.1.1.0 in
    subst (λ (o : Outcome (Unit {0})). Explains s first last o (outcome q tt)) (sym p)
    (subst (Explains s first last (carry nothing (cull_plan (limit s) s first last) s tt)) (sym t) (explains (limit s) s first last))
