-- A list of tables judged at once, by the first that does not fit. Assumes nothing.
use mathlib.Core.Path.{◌≡◌, refl}
use Prim.Native.Nat.{ℕ, ◌+◌, ◌≤◌}
use mathlib.Core.Bool.{Bool, true, false}
use mathlib.Core.List.{List, [], ◌∷◌}
use borrow.Author.Tests.{leb-true}
use Rattle.std.specs.Prelude.{Option, Some, None}
use Rattle.decide.specs.Judge.{Lent, fits}
use Rattle.decide.specs.Steps.{first_short}
use Rattle.stage.specs.declared.State.{State}
use Rattle.stage.specs.declared.Counts.{Counts}
use Rattle.stage.specs.declared.Answer.{Answer}
use Rattle.stage.specs.Answers.{number, values}
use Rattle.stage.specs.Plan.{Edits, Plan, refuse, unless, judge, Outcome, outcome, carry}

-- what follows where no table is named, else the refusal
abbrev by_first : ℕ → Option ℕ → Plan → Plan
by_first n None p = p
by_first n (Some k) p = refuse n (k ∷ [])

one : (n k : ℕ) (b : Bool) (p q : Plan) (r : Option ℕ) → q ≡ by_first n r p → unless b (refuse n (k ∷ [])) q ≡ by_first n (unless b (Some k) r) p
unfolding unless
one n k true p q r e = e
one n k false p q r e = refl

judged : (n : ℕ) (ts : List Lent) (p : Plan) → judge n ts p ≡ by_first n (first_short ts) p
unfolding first_short
judged n [] p = refl
judged n (t ∷ ts) p = one n t.number (fits t) p (judge n ts p) (first_short ts) (judged n ts p)

-- a refusal names the first table that does not fit
pub table-refused : {A : Type 0} (f : Counts → Edits → A → A) (s : State) (l : A) (n : ℕ) (ts : List Lent) (p : Plan) (a : Answer) (k : ℕ) → first_short ts ≡ Some k
    → number a ≡ n → values a ≡ k ∷ [] → outcome (record { state = s; answer = a }) l ≡ carry f (judge n ts p) s l
unfolding carry
table-refused f s l n ts p a k e x y = rw (judged n ts p, e, x, y)

-- where there is none, the plan comes to what follows
pub table-passed : {A : Type 0} (f : Counts → Edits → A → A) (s : State) (l : A) (n : ℕ) (ts : List Lent) (p : Plan) (o : Outcome A) → first_short ts ≡ None
    → o ≡ carry f p s l → o ≡ carry f (judge n ts p) s l
table-passed f s l n ts p o e h = rw (judged n ts p, e) h

-- each table fits where none is named
split : (b : Bool) (k : ℕ) (r : Option ℕ) → unless b (Some k) r ≡ None → (b ≡ true) × (r ≡ None)
unfolding unless
split true k r e = (refl, e)
split false k r e = cc

pub fits-first : (t : Lent) (ts : List Lent) → first_short (t ∷ ts) ≡ None → (t.used + t.more ≤ t.room) × (first_short ts ≡ None)
unfolding first_short
fits-first t ts e = let s = split (fits t) t.number (first_short ts) e in (leb-true _ _ s.0, s.1)
