-- Values told with a plan: all else is the plan's. Assumes nothing.
use mathlib.Core.Path.{◌≡◌, refl, sym, ap, ◌∙◌, subst}
use Prim.Native.Nat.{ℕ}
use mathlib.Core.Bool.{Bool, true, false}
use mathlib.Core.List.{List, [], ◌∷◌}
use lib.Ieee.{Float}
use Rattle.decide.specs.declared.family.Family.{Family}
use Rattle.decide.specs.Judge.{Lent, fits}
use Rattle.layout.specs.Layout.{inexact_at}
use Rattle.stage.specs.declared.State.{State}
use Rattle.stage.specs.declared.Counts.{Counts}
use Rattle.stage.specs.Plan.{Table, Edit, Edits, Plan, refuse, does, lent, judge, appending, appended, unless, telling, Outcome, carry}
use Rattle.stage.specs.Matrices.{matrix_stores, matrix_plan, force_stores, force_plan}

-- ---- told last, or told with each way of going on

module _ (ws : List ℕ) where
  pub telling-unless : (b : Bool) (m : ℕ) (vs : List ℕ) (p : Plan) → telling ws (unless b (refuse m vs) p) ≡ unless b (refuse m vs) (telling ws p)
  unfolding unless telling
  telling-unless true m vs p = refl
  telling-unless false m vs p = refl

  pub telling-judge : (m : ℕ) (ls : List Lent) (p : Plan) → telling ws (judge m ls p) ≡ judge m ls (telling ws p)
  telling-judge m [] p = refl
  telling-judge m (t ∷ ts) p = telling-unless (fits t) m (t.number ∷ []) (judge m ts p) ∙ ap (unless (fits t) (refuse m (t.number ∷ []))) (telling-judge m ts p)

  pub telling-appending : (k : ℕ) (t : Table (List Float)) (e : List Float) (p : Edit (List Float) → Plan) → telling ws (appending k t e p) ≡ appending k t e (λ d. telling ws (p d))
  unfolding appending
  telling-appending k t e p = telling-judge 9 (lent k t (appended t e) ∷ []) (p (appended t e))

-- ---- what is stored

-- two outcomes of the same state, the same number and the same areas, whatever they tell
pub record Stores {A : Type 0} (o q : Outcome A) : Type 0 where
  pub state : o.state ≡ q.state
  pub number : o.number ≡ q.number
  pub areas : o.areas ≡ q.areas

-- EVERYTHING STORED STAYS THE SAME with values told, for any plan
pub telling-stores : {A : Type 0} (f : Counts → Edits → A → A) (ws : List ℕ) (p : Plan) (s : State) (l : A) → Stores (carry f (telling ws p) s l) (carry f p s l)
unfolding telling carry
telling-stores f ws (refuse m vs) s l = record { state = refl; number = refl; areas = refl }
telling-stores f ws (does vs t e) s l = record { state = refl; number = refl; areas = refl }

-- what is told by a plan, and that it is done
abbrev told_by : Plan → List ℕ
told_by (refuse m vs) = vs
told_by (does vs t e) = vs

abbrev IsDone : Plan → Type 0
IsDone (refuse m vs) = ⊥
IsDone (does vs t e) = Unit {0}

-- WHAT IS DONE TELLS THE VALUES and nothing else, whatever is stored with it
pub telling-tells : (ws : List ℕ) (p : Plan) (vs : List ℕ) (t : State) (e : Edits) → telling ws p ≡ does vs t e → vs ≡ ws
unfolding telling
telling-tells ws (refuse m us) vs t e q = absurd (subst IsDone (sym q) tt)
telling-tells ws (does us u d) vs t e q = ap told_by (sym q)

-- A REFUSAL IS THE PLAN'S OWN, with its own values
pub telling-refuses : (ws : List ℕ) (p : Plan) (m : ℕ) (vs : List ℕ) → telling ws p ≡ refuse m vs → p ≡ refuse m vs
unfolding telling
telling-refuses ws (refuse k us) m vs q = q
telling-refuses ws (does us u d) m vs q = absurd (subst IsDone q tt)

-- ---- so it is of matrix and of forced matrix

module _ (s : State) (t : Table (List Float)) (bytes : List ℕ) (at : ℕ) where
  -- what they store
  pub matrix-stores : {A : Type 0} (g : Counts → Edits → A → A) (l : A) (f : Family) (flags : ℕ) → Stores (carry g (matrix_plan f s t flags bytes at) s l) (carry g (matrix_stores f s t flags bytes at) s l)
  unfolding matrix_plan
  matrix-stores g l f flags = telling-stores g (inexact_at bytes at ∷ []) (matrix_stores f s t flags bytes at) s l

  pub force-stores : {A : Type 0} (g : Counts → Edits → A → A) (l : A) → Stores (carry g (force_plan s t bytes at) s l) (carry g (force_stores s t bytes at) s l)
  unfolding force_plan
  force-stores g l = telling-stores g (inexact_at bytes at ∷ []) (force_stores s t bytes at) s l

  -- what they tell where they are done, whatever the flags, the state and the tables, appended or not
  pub matrix-tells : (f : Family) (flags : ℕ) (vs : List ℕ) (u : State) (e : Edits) → matrix_plan f s t flags bytes at ≡ does vs u e → vs ≡ inexact_at bytes at ∷ []
  unfolding matrix_plan
  matrix-tells f flags vs u e q = telling-tells (inexact_at bytes at ∷ []) (matrix_stores f s t flags bytes at) vs u e q

  pub force-tells : (vs : List ℕ) (u : State) (e : Edits) → force_plan s t bytes at ≡ does vs u e → vs ≡ inexact_at bytes at ∷ []
  unfolding force_plan
  force-tells vs u e q = telling-tells (inexact_at bytes at ∷ []) (force_stores s t bytes at) vs u e q
