-- How a plan goes by its tests: a refusal where one fails, what comes after where it holds. Assumes nothing.
use mathlib.Core.Path.{◌≡◌, refl, sym, ◌∙◌}
use Prim.Native.Nat.{ℕ, ◌+◌, ◌≤◌}
use mathlib.Core.Bool.{Bool, true, false, not, ◌&&◌}
use mathlib.Core.List.{List, []}
use lib.ListN.{length}
use lib.Dec.{leb}
use borrow.Author.Tests.{not-true, not-false, leb-true}
use Rattle.std.specs.Prelude.{Result, Ok, Err}
use Rattle.areas.specs.Area.{entries, room}
use Rattle.areas.proofs.Tables.{length-entries}
use Rattle.stage.specs.declared.State.{State}
use Rattle.stage.specs.declared.Counts.{Counts}
use Rattle.stage.specs.declared.Answer.{Answer}
use Rattle.stage.specs.declared.Answer.TheVariants.{Done, ShortData, BadState}
use Rattle.stage.specs.Answers.{number, values}
use Rattle.stage.specs.Plan.{Edits, Plan, refuse, does, unless, pick, needs, untouched, Outcome, outcome, carry, nothing}
use Rattle.stage.specs.Sound.{state_sound, sound}
use Rattle.stage.specs.With.{with_counts}
use Rattle.stage.specs.Steps.{reads}
use Rattle.stage.proofs.Judged.{and_right}

-- `if !f() {` was taken, or left, where f answers b
pub fails : {r b : Bool} → r ≡ b → not r ≡ true → b ≡ false
fails {r} e h = sym e ∙ not-true r h

pub holds : {r b : Bool} → r ≡ b → not r ≡ false → b ≡ true
holds {r} e h = sym e ∙ not-false r h

-- of two tests that both hold the second holds
pub reached : {d : Bool} (b : Bool) (m len : ℕ) → d ≡ leb m len → b && d ≡ true → m ≤ len
reached {d} b m len e h = leb-true m len (sym e ∙ and_right b d h)

-- a refusal is what the plan comes to where its test fails
pub refused : {A : Type 0} (f : Counts → Edits → A → A) (s : State) (l : A) (b : Bool) (p : Plan) (a : Answer) → b ≡ false
    → outcome (record { state = s; answer = a }) l ≡ carry f (unless b (refuse (number a) (values a)) p) s l
unfolding unless carry
refused f s l b p a e = rw e

-- where its test holds, the plan comes to what follows
pub passed : {A : Type 0} (f : Counts → Edits → A → A) (s : State) (l : A) (b : Bool) (n : ℕ) (vs : List ℕ) (p : Plan) (o : Outcome A) → b ≡ true
    → o ≡ carry f p s l → o ≡ carry f (unless b (refuse n vs) p) s l
unfolding unless
passed f s l b n vs p o e h = rw e h

pub picked : {A : Type 0} (b : Bool) (x y : A) → b ≡ true → pick b x y ≡ x
unfolding pick
picked b x y e = rw e

pub left : {A : Type 0} (b : Bool) (x y : A) → b ≡ false → pick b x y ≡ y
unfolding pick
left b x y e = rw e

-- ---- commands that are lent no table

-- one that only an unsound state refuses is done where the state is sound
pub done-sound : (s s' t : State) → state_sound s ≡ true → s' ≡ with_counts t s.counts
    → outcome (record { state = s'; answer = Done }) tt ≡ carry nothing (sound s (does [] t untouched)) s tt
unfolding unless carry
done-sound s s' t e h = rw (e, h)

-- ---- one that needs n bytes too

-- two refusals that are one, and one that is none
pub same_refusal : {A : Type 0} (x y : Answer) → ◌≡◌ {A = Result A Answer} (Err x) (Err y) → x ≡ y
same_refusal x y e = cc

pub refused-not : {A : Type 0} (x : A) (y : Answer) → ◌≡◌ {A = Result A Answer} (Ok x) (Err y) → ⊥
refused-not x y e = cc

module _ (s : State) (n at : ℕ) (bytes : List ℕ) where
  -- by the two tests
  abbrev read : Bool → Bool → Result (Unit {0}) Answer
  read b d = pick b (pick d (Ok tt) (Err (ShortData n))) (Err BadState)

  read_by : (b d : Bool) → Ok tt ≡ read b d → (b ≡ true) × (d ≡ true)
  unfolding pick
  read_by true true e = (refl, refl)
  read_by true false e = absurd (refused-not _ _ e)
  read_by false d e = absurd (refused-not _ _ e)

  -- where nothing refuses it, the state is sound and the bytes are there
  pub reads-on : Ok tt ≡ reads s (length bytes) at n → (state_sound s ≡ true) × (leb (at + n) (length bytes) ≡ true)
  unfolding reads
  reads-on e = read_by _ _ e

  pub reads-reached : Ok tt ≡ reads s (length bytes) at n → at + n ≤ length bytes
  reads-reached e = leb-true _ _ (reads-on e).1

  -- nothing refuses it, and it is done
  pub reads-done : (s' t : State) → Ok tt ≡ reads s (length bytes) at n → s' ≡ with_counts t s.counts
      → outcome (record { state = s'; answer = Done }) tt ≡ carry nothing (sound s (needs n at bytes (does [] t untouched))) s tt
  unfolding unless carry
  reads-done s' t e h = let r = reads-on e in rw (r.0, r.1, h)

  -- it is refused
  pub reads-refused : (a : Answer) (p : Plan) → Err a ≡ reads s (length bytes) at n
      → outcome (record { state = s; answer = a }) tt ≡ carry nothing (sound s (needs n at bytes p)) s tt
  unfolding reads pick
  reads-refused a p e = go _ _ refl refl e
    where
      go : (b d : Bool) → state_sound s ≡ b → leb (at + n) (length bytes) ≡ d → Err a ≡ read b d
          → outcome (record { state = s; answer = a }) tt ≡ carry nothing (sound s (needs n at bytes p)) s tt
      go true true x y q = absurd (refused-not _ _ (sym q))
      go true false x y q = rw (same_refusal _ _ q) (passed nothing s tt _ _ _ _ _ x (refused nothing s tt _ _ (ShortData n) y))
      go false d x y q = rw (same_refusal _ _ q) (refused nothing s tt _ _ BadState x)

-- ---- tables

-- what the code finds of a table, by its count and the room it worked out, is what the judge asks
pub table-holds : {A : Type 0} (w n k m : ℕ) (l : List A) (r : Bool) → m ≡ room w (length l) → r ≡ leb (n + k) m → r ≡ leb (length (entries w n l) + k) (room w (length l))
table-holds w n k m l r e h = h ∙ rw (e, length-entries w n l)
