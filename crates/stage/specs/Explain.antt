-- What the explainer promises of itself and of the cull test, beside its contract (REFERENCE 13). Definitions only.
use Rattle.std.specs.Prelude.{◌≡◌, ◌↔◌, ◌≢◌, ℕ, List, get_or}
use Rattle.reason.specs.Truth.{TellsTruth}
use Rattle.stage.specs.declared.State.{State}
use Rattle.stage.specs.Plan.{Outcome, Answers}

-- an outcome says yes: it is done, and the first value is 1
abbrev pub SaysYes : Outcome (Unit {0}) → Type 0
SaysYes o = (o.number ≡ 0) × (get_or o.values 0 0 ≡ 1)

-- what the test comes to for the slots first to last of the state s, and what its explainer comes to
pub record Explains (s : State) (first last : ℕ) (test explained : Outcome (Unit {0})) : Type 0 where
  -- the state comes back unchanged
  pub stays : explained.state ≡ s
  -- it refuses exactly when the test does, with the same number and values
  pub refuses : (n : ℕ) (vs : List ℕ) → n ≢ 0 → Answers explained n vs ↔ Answers test n vs
  -- it says yes exactly when the test does
  pub yes : SaysYes explained ↔ SaysYes test
  -- the reason is true of the state
  pub holds : explained.number ≡ 0 → TellsTruth s.code first last explained.values
