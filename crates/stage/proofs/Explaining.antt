-- The explainer beside the cull test: each way out of its code, and what it promises of itself and of the test. Assumes nothing.
use mathlib.Core.Path.{◌≡◌, refl, sym, ap, ◌∙◌, subst}
use mathlib.Core.Logic.{◌⊎◌, inl, inr, ⊎_elim}
use Prim.Native.Nat.{ℕ, suc, ◌<◌, min}
use native.Mathlib.Omega.{arith}
use mathlib.Core.Bool.{Bool, true, false, ◌&&◌, and-eq-true_iff}
use mathlib.Core.List.{List, [], ◌∷◌}
use lib.ListN.{get_or}
use lib.Dec.{leb, ltb}
use types.Run.{OneOf, miss}
use denote.Enum.Declared.{tag_of}
use borrow.Author.Tests.{ltb-true}
use Rattle.triangle.specs.Slot.{bit}
use Rattle.reason.specs.Reason.{reason}
use Rattle.reason.specs.Truth.{TellsTruth}
use Rattle.reason.proofs.Believe.{reason-true}
use Rattle.stage.specs.declared.State.{State}
use Rattle.stage.specs.declared.Answer.{Answer}
use Rattle.stage.specs.declared.Answer.TheVariants.{Done, Told, AllOutside, FirstInside, BadLoad, BadCull, NotLoaded, NoCode, BadModify, NeverLoaded, ShortData, ShortArea, NoRoom, BadState}
use Rattle.stage.specs.contracts.Answer.{the_type}
use Rattle.stage.specs.Answers.{number, values}
use Rattle.stage.specs.Plan.{Plan, refuse, does, unless, pick, telling, untouched, nothing, Outcome, outcome, carry}
use Rattle.stage.specs.Sound.{state_sound, limit}
use Rattle.stage.specs.Draw.{slots_to, judge_codes, codes_at, codes_of, culled, cull_plan, explain_plan}
use Rattle.stage.specs.Explain.{Explains}
use Rattle.stage.proofs.Apart.{apart}
use Rattle.stage.proofs.Loading.{untold}

-- ---- the cull test refuses, or tells yes or no

-- a plan that refuses, by a number that is not 0
record Refuses (p : Plan) : Type 0 where
  before : ℕ
  named : List ℕ
  is : p ≡ refuse (suc before) named

-- one test more before a plan that refuses or is q
tested : (b : Bool) (n : ℕ) (vs : List ℕ) (p q : Plan) → Refuses p ⊎ (p ≡ q) → Refuses (unless b (refuse (suc n) vs) p) ⊎ (unless b (refuse (suc n) vs) p ≡ q)
unfolding unless
tested true n vs p q w = w
tested false n vs p q w = inl (record { before = n; named = vs; is = refl })

codes-way : (s : State) (is : List ℕ) (p : Plan) → Refuses (judge_codes s is p) ⊎ (judge_codes s is p ≡ p)
codes-way s [] p = inr refl
codes-way s (i ∷ is) p = tested _ 2 _ _ _ (tested _ 3 _ _ _ (codes-way s is p))

module _ (slots : ℕ) (s : State) (first last : ℕ) where
  abbrev tells : Plan
  tells = does (bit (culled (codes_of s (slots_to first last))) ∷ []) s untouched

  cull-way : Refuses (cull_plan slots s first last) ⊎ ((cull_plan slots s first last ≡ tells) × (last < slots))
  unfolding cull_plan unless
  cull-way = go (state_sound s) (leb first last && ltb last slots) refl
    where
      go : (b d : Bool) → leb first last && ltb last slots ≡ d
          → Refuses (unless b (refuse 10 []) (unless d (refuse 2 (first ∷ last ∷ [])) (judge_codes s (slots_to first last) tells)))
          ⊎ ((unless b (refuse 10 []) (unless d (refuse 2 (first ∷ last ∷ [])) (judge_codes s (slots_to first last) tells)) ≡ tells) × (last < slots))
      go false d e = inl (record { before = 9; named = []; is = refl })
      go true false e = inl (record { before = 1; named = first ∷ last ∷ []; is = refl })
      go true true e = ⊎_elim inl (λ q. inr (q, ltb-true last slots ((and-eq-true_iff (leb first last) (ltb last slots)).0 e).1)) (codes-way s (slots_to first last) tells)

-- ---- the promises

-- the first value of the reason is the test's answer
first-value : (b : Bool) (p : ℕ) (vs : List ℕ) → get_or (pick b (1 ∷ p ∷ []) (0 ∷ vs)) 0 0 ≡ bit b
unfolding pick
first-value true p vs = refl
first-value false p vs = refl

begins : (first : ℕ) (cs : List ℕ) → get_or (reason first cs) 0 0 ≡ bit (culled cs)
unfolding reason
begins first cs = first-value (culled cs) _ _

-- by the plan of the test: where it refuses, the explainer refuses likewise; where it tells b, the explainer tells a reason that is true and
-- begins with it
module _ (s : State) (first last : ℕ) (vs : List ℕ) where
  abbrev ExplainsBy : Plan → Type 0
  ExplainsBy p = Explains s first last (carry nothing p s tt) (carry nothing (telling vs p) s tt)

  by-refusal : (n : ℕ) (ws : List ℕ) → ExplainsBy (refuse (suc n) ws)
  unfolding telling carry
  by-refusal n ws =
      record {
        stays = refl;
        refuses = λ m us h. (λ a. a, λ a. a);
        yes = (λ a. a, λ a. a);
        holds = λ e. absurd (omega arith);
      }

  by-telling : (b : Bool) → get_or vs 0 0 ≡ bit b → TellsTruth s.code first last vs → ExplainsBy (does (bit b ∷ []) s untouched)
  unfolding telling carry
  by-telling b e t =
      record {
        stays = refl;
        refuses = λ m us h. (λ a. absurd (h (sym a.0)), λ a. absurd (h (sym a.0)));
        yes = (λ a. (refl, sym e ∙ a.1), λ a. (refl, e ∙ a.1));
        holds = λ _. t;
      }

-- THE EXPLAINER AND THE TEST, for any number of slots, any state and any range
pub explains : (slots : ℕ) (s : State) (first last : ℕ)
    → Explains s first last (carry nothing (cull_plan slots s first last) s tt) (carry nothing (explain_plan slots s first last) s tt)
unfolding explain_plan
explains slots s first last =
    let cs = codes_of s (slots_to first last) in
    ⊎_elim
    (λ r. subst (ExplainsBy s first last (reason first cs)) (sym r.is) (by-refusal s first last (reason first cs) r.before r.named))
    (λ t. subst (ExplainsBy s first last (reason first cs)) (sym t.0)
    (by-telling s first last (reason first cs) (culled cs) (begins first cs) (reason-true s.code first last)))
    (cull-way slots s first last)

-- ---- each way out of the code

-- Told is done
told-done : (a : Answer) → tag_of the_type a ≡ 1 → number a ≡ 0
told-done Done e = refl
told-done (Told n) e = refl
told-done (AllOutside p) e = refl
told-done (FirstInside l r m t) e = refl
told-done (BadLoad m n) e = absurd (let z : ◌≡◌ {A = ℕ} 4 1 = e in omega arith)
told-done (BadCull m n) e = absurd (let z : ◌≡◌ {A = ℕ} 5 1 = e in omega arith)
told-done (NotLoaded n) e = absurd (let z : ◌≡◌ {A = ℕ} 6 1 = e in omega arith)
told-done (NoCode n) e = absurd (let z : ◌≡◌ {A = ℕ} 7 1 = e in omega arith)
told-done (BadModify m n) e = absurd (let z : ◌≡◌ {A = ℕ} 8 1 = e in omega arith)
told-done (NeverLoaded n) e = absurd (let z : ◌≡◌ {A = ℕ} 9 1 = e in omega arith)
told-done (ShortData n) e = absurd (let z : ◌≡◌ {A = ℕ} 10 1 = e in omega arith)
told-done (ShortArea n) e = absurd (let z : ◌≡◌ {A = ℕ} 11 1 = e in omega arith)
told-done (NoRoom n) e = absurd (let z : ◌≡◌ {A = ℕ} 12 1 = e in omega arith)
told-done BadState e = absurd (let z : ◌≡◌ {A = ℕ} 13 1 = e in omega arith)

-- a is what the test answered
module _ (s : State) (first last : ℕ) (a : Answer) (tested-as : outcome (record { state = s; answer = a }) tt ≡ carry nothing (cull_plan (limit s) s first last) s tt) where
  abbrev As : Answer → Type 0
  As q = outcome (record { state = s; answer = q }) tt ≡ carry nothing (explain_plan (limit s) s first last) s tt

  -- of a test that refuses it is not Told
  not-told : (n : ℕ) (vs : List ℕ) → cull_plan (limit s) s first last ≡ refuse (suc n) vs → tag_of the_type a ≡ 1 → ⊥
  unfolding carry
  not-told n vs e t =
      let z : number a ≡ suc n = ap (λ (o : Outcome (Unit {0})). o.number) (tested-as ∙ ap (λ (p : Plan). carry nothing p s tt) e) in
      let d = told-done a t in
      omega arith

  -- of a test that tells it is
  is-told : (n : ℕ) → cull_plan (limit s) s first last ≡ does (n ∷ []) s untouched → a ≡ Told n
  unfolding carry
  is-told n e =
      let z : outcome (record { state = s; answer = a }) tt ≡ carry nothing (does (n ∷ []) s untouched) s tt = tested-as ∙ ap (λ (p : Plan). carry nothing p s tt) e in
      apart a (Told n) (ap (λ (o : Outcome (Unit {0})). o.number) z) (ap (λ (o : Outcome (Unit {0})). o.values) z)

  -- Told: the reason is told in its place
  pub reason-told : tag_of the_type a ≡ 1 → (q : Answer) → number q ≡ 0 → values q ≡ reason first (codes_at s.code (slots_to first (min last 255))) → As q
  unfolding explain_plan telling carry
  reason-told t q d v =
      ⊎_elim
      (λ r. absurd (not-told r.before r.named r.is t))
      (λ w. let m : min last 255 ≡ last = (let l = w.1 in omega arith) in rw (w.0, d, v, m))
      (cull-way (limit s) s first last)

  -- another: it stands
  pub refusal-stands : OneOf untold (tag_of the_type a) → As a
  unfolding explain_plan telling carry
  refusal-stands o =
      ⊎_elim
      (λ r. tested-as ∙ rw r.is)
      (λ w. absurd (miss untold 1 tt (subst (λ (x : Answer). OneOf untold (tag_of the_type x)) (is-told _ w.0) o)))
      (cull-way (limit s) s first last)
