-- The answer that is due before a command makes anything: it refuses the plan, or the plan comes to what follows the first tests. Assumes nothing.
use mathlib.Core.Path.{◌≡◌, refl, sym, ap, ◌∙◌}
use Prim.Native.Nat.{ℕ, ◌+◌, ◌≤◌}
use native.Mathlib.Omega.{arith}
use mathlib.Core.Bool.{Bool, true, false}
use mathlib.Core.List.{List, [], ◌∷◌}
use lib.ListN.{length}
use lib.Dec.{leb}
use lib.Ieee.{Float}
use borrow.Author.Tests.{leb-true}
use Rattle.std.specs.Prelude.{Result, Ok, Err}
use Rattle.areas.specs.Area.{entries, room}
use Rattle.stage.specs.declared.State.{State}
use Rattle.stage.specs.declared.Counts.{Counts}
use Rattle.stage.specs.declared.Answer.{Answer}
use Rattle.stage.specs.declared.Answer.TheVariants.{BadState, ShortData, ShortArea}
use Rattle.stage.specs.Plan.{keep, Edits, Plan, refuse, pick, unless, table, lent, judge, needs, telling, Outcome, outcome, carry}
use Rattle.stage.specs.Sound.{state_sound, sound}
use Rattle.stage.specs.Steps.{reads, early_in, and_then}
use Rattle.stage.proofs.Judged.{Ranges, ranges}
use Rattle.stage.proofs.Cascade.{refused, passed, same_refusal, refused-not, table-holds}
use Rattle.stage.proofs.Telling.{telling-unless, telling-judge}

-- the first tests of a command that reads need bytes from place at on, and is lent table k, of n entries of w numbers in the area l; then p
abbrev pub tested : State → ℕ → ℕ → ℕ → ℕ → ℕ → List ℕ → List Float → Plan → Plan
tested s k w n need at bytes l p = sound s (needs need at bytes (judge 8 (lent k (table w n l) keep ∷ []) p))

-- those tests of a command that reads no bytes
abbrev tested_bare : State → ℕ → ℕ → ℕ → List Float → Plan → Plan
tested_bare s k w n l p = sound s (judge 8 (lent k (table w n l) keep ∷ []) p)

-- they are passed
pub record Clear (s : State) (w n need at : ℕ) (bytes : List ℕ) (l : List Float) : Type 0 where
  pub sound : state_sound s ≡ true
  pub reach : leb (at + need) (length bytes) ≡ true
  pub holds : leb (length (entries w n l) + 0) (room w (length l)) ≡ true
  pub fits : n ≤ room w (length l)

module _ (s : State) (k w n need at : ℕ) (bytes : List ℕ) (l : List Float) (m : ℕ) (is-room : m ≡ room w (length l)) where
  abbrev answered : Bool → Bool → Bool → Result (Unit {0}) Answer
  answered b₁ b₂ b₃ = and_then (pick b₁ (pick b₂ (Ok tt) (Err (ShortData need))) (Err BadState)) (pick b₃ (Ok tt) (Err (ShortArea k)))

  used : (b : Bool) → leb (n + 0) m ≡ b → leb (length (entries w n l) + 0) (room w (length l)) ≡ b
  used b e = sym (table-holds w n 0 m l b is-room (sym e))

  clears : (b₁ b₂ b₃ : Bool) → state_sound s ≡ b₁ → leb (at + need) (length bytes) ≡ b₂ → leb (n + 0) m ≡ b₃ → Ok tt ≡ answered b₁ b₂ b₃ → Clear s w n need at bytes l
  unfolding pick
  clears false b₂ b₃ e₁ e₂ e₃ o = absurd (refused-not _ _ o)
  clears true false b₃ e₁ e₂ e₃ o = absurd (refused-not _ _ o)
  clears true true false e₁ e₂ e₃ o = absurd (refused-not _ _ o)
  clears true true true e₁ e₂ e₃ o =
      record {
        sound = e₁;
        reach = e₂;
        holds = used true e₃;
        fits = let h : n + 0 ≤ m = leb-true _ _ e₃ in rw (← is-room) (omega arith);
      }

  -- where nothing is due early, the tests are passed
  pub early-clear : Ok tt ≡ early_in s (length bytes) at need k n m → Clear s w n need at bytes l
  unfolding early_in reads
  early-clear o = clears _ _ _ refl refl refl o

  module _ (a : Answer) (f : Counts → Edits → List Float → List Float) (p : Plan) where
    abbrev Refuses : Answer → Type 0
    Refuses x = outcome (record { state = s; answer = x }) l ≡ carry f (tested s k w n need at bytes l p) s l

    refuses : (b₁ b₂ b₃ : Bool) → state_sound s ≡ b₁ → leb (at + need) (length bytes) ≡ b₂ → leb (n + 0) m ≡ b₃ → Err a ≡ answered b₁ b₂ b₃ → Refuses a
    unfolding pick
    refuses false b₂ b₃ e₁ e₂ e₃ o = rw (same_refusal _ _ o) (refused f s l _ _ BadState e₁)
    refuses true false b₃ e₁ e₂ e₃ o = rw (same_refusal _ _ o) (passed f s l _ _ _ _ _ e₁ (refused f s l _ _ (ShortData need) e₂))
    refuses true true false e₁ e₂ e₃ o = rw (same_refusal _ _ o) (passed f s l _ _ _ _ _ e₁ (passed f s l _ _ _ _ _ e₂ (refused f s l _ _ (ShortArea k) (used false e₃))))
    refuses true true true e₁ e₂ e₃ o = absurd (refused-not _ _ (sym o))

    -- what is due early refuses the plan
    pub early-refused : Err a ≡ early_in s (length bytes) at need k n m → Refuses a
    unfolding early_in reads
    early-refused o = refuses _ _ _ refl refl refl o

-- past its first tests the plan comes to what follows them
pub passed_on : (s : State) (k w n need at : ℕ) (bytes : List ℕ) (l : List Float) → Clear s w n need at bytes l → (f : Counts → Edits → List Float → List Float) (p : Plan) (o : Outcome (List Float))
    → o ≡ carry f p s l → o ≡ carry f (tested s k w n need at bytes l p) s l
passed_on s k w n need at bytes l c f p o h = passed f s l _ _ _ _ o c.sound (passed f s l _ _ _ _ o c.reach (passed f s l _ _ _ _ o c.holds h))

-- a number told with such a plan is told with what follows the first tests
pub telling-tested : (x : List ℕ) (s : State) (k w n need at : ℕ) (bytes : List ℕ) (l : List Float) (p : Plan) → telling x (tested s k w n need at bytes l p) ≡ tested s k w n need at bytes l (telling x p)
telling-tested x s k w n need at bytes l p =
    let b = leb (at + need) (length bytes) in
    telling-unless x (state_sound s) 10 [] _
    ∙ ap (unless (state_sound s) (refuse 10 [])) (telling-unless x b 7 (need ∷ []) _ ∙ ap (unless b (refuse 7 (need ∷ []))) (telling-judge x 8 (lent k (table w n l) keep ∷ []) p))

-- a command that reads no bytes asks for none of none
pub bare : (s : State) (k w n : ℕ) (l : List Float) (f : Counts → Edits → List Float → List Float) (p : Plan) (o : Outcome (List Float))
    → o ≡ carry f (tested s k w n 0 0 [] l p) s l → o ≡ carry f (tested_bare s k w n l p) s l
unfolding unless
bare s k w n l f p o h = h

-- the ranges of a state that passed
pub in-range : {s : State} {w n need at : ℕ} {bytes : List ℕ} {l : List Float} → Clear s w n need at bytes l → Ranges s
in-range c = ranges _ c.sound
