-- Number and values tell any two answers apart, so no second outcome meets a command's statement. Assumes nothing.
use mathlib.Core.Path.{◌≡◌, refl, sym, ap, ◌∙◌}
use Prim.Native.Nat.{ℕ}
use mathlib.Core.List.{List, [], ◌∷◌}
use Rattle.stage.specs.declared.Answered.{Answered}
use Rattle.stage.specs.declared.Answer.{Answer}
use Rattle.stage.specs.declared.Answer.TheVariants.{Done, Told, AllOutside, FirstInside, BadLoad, BadCull, NotLoaded, NoCode, BadModify, NeverLoaded, ShortData, ShortArea, NoRoom, BadState}
use lib.ListN.{get_or}
use Rattle.stage.specs.Answers.{number, values}
use Rattle.stage.specs.Plan.{Outcome, outcome}

-- the answer with these values, for each number
zero : List ℕ → Answer
zero [] = Done
zero (n ∷ []) = Told n
zero (n ∷ p ∷ []) = AllOutside p
zero (n ∷ l ∷ r ∷ vs) = FirstInside l r (get_or vs 0 0) (get_or vs 1 0)

one : (ℕ → Answer) → List ℕ → Answer
one f vs = f (get_or vs 0 0)

two : (ℕ → ℕ → Answer) → List ℕ → Answer
two f vs = f (get_or vs 0 0) (get_or vs 1 0)

answer : ℕ → List ℕ → Answer
answer n vs =
    get_or
    (zero ∷ two BadLoad ∷ two BadCull ∷ one NotLoaded ∷ one NoCode ∷ two BadModify ∷ one NeverLoaded ∷ one ShortData ∷ one ShortArea ∷ one NoRoom ∷ (λ v. BadState) ∷ [])
    n
    (λ v. BadState)
    vs

answer-is : (a : Answer) → answer (number a) (values a) ≡ a
unfolding answer zero one two
answer-is Done = refl
answer-is (Told n) = refl
answer-is (AllOutside p) = refl
answer-is (FirstInside l r m t) = refl
answer-is (BadLoad m n) = refl
answer-is (BadCull m n) = refl
answer-is (NotLoaded n) = refl
answer-is (NoCode n) = refl
answer-is (BadModify m n) = refl
answer-is (NeverLoaded n) = refl
answer-is (ShortData n) = refl
answer-is (ShortArea n) = refl
answer-is (NoRoom n) = refl
answer-is BadState = refl

-- NUMBER AND VALUES TELL ANY TWO ANSWERS APART
pub apart : (a b : Answer) → number a ≡ number b → values a ≡ values b → a ≡ b
apart a b e v = sym (answer-is a) ∙ ap (λ (n : ℕ). answer n (values a)) e ∙ ap (answer (number b)) v ∙ answer-is b

-- NO SECOND OUTCOME: a command's statement says that its outcome is o, which its inputs determine; so they determine what it hands back and
-- each number of its areas
pub only_one : {A : Type 0} (o : Outcome A) (r q : Answered) (l m : A) → outcome r l ≡ o → outcome q m ≡ o → (r ≡ q) × (l ≡ m)
only_one {A} o r q l m x y =
    let e : outcome r l ≡ outcome q m = x ∙ sym y in
    let a : r.answer ≡ q.answer = apart r.answer q.answer (ap (λ (z : Outcome A). z.number) e) (ap (λ (z : Outcome A). z.values) e) in
    let s : r.state ≡ q.state = ap (λ (z : Outcome A). z.state) e in
    (λ i. record { state = s i; answer = a i }, ap (λ (z : Outcome A). z.areas) e)
