-- The cull test slot by slot, and what a test tells. Assumes nothing.
use mathlib.Core.Path.{◌≡◌, refl, sym, ◌∙◌}
use Prim.Native.Nat.{ℕ, ◌+◌, ◌≤◌, ◌<◌}
use mathlib.Core.Bool.{Bool, true, false, not, ◌&&◌, and-eq-true_iff, false≢true}
use mathlib.Core.List.{[], ◌∷◌}
use lib.Bits.{bit_and}
use lib.Dec.{eqb, leb, ltb}
use lib.ListN.{get_or}
use borrow.Author.Tests.{ltb-true}
use Rattle.std.specs.Int.{from_bool}
use Rattle.triangle.specs.Slot.{bit}
use Rattle.reason.proofs.Walking.{slots_next, slots-none}
use Rattle.stage.specs.declared.State.{State}
use Rattle.stage.specs.declared.Answer.{Answer}
use Rattle.stage.specs.declared.Answer.TheVariants.{Told, NotLoaded, NoCode}
use Rattle.stage.specs.Plan.{Plan, refuse, does, unless, pick, untouched, nothing, outcome, carry}
use Rattle.stage.specs.Draw.{slots_to, judge_codes, codes_of, anded, culled}

-- a test's answer as a number
pub bit_from : (b : Bool) → from_bool b ≡ bit b
bit_from true = refl
bit_from false = refl

-- a test hands back the state as given, and tells its value
pub told : (s : State) (v w : ℕ) → v ≡ w → outcome (record { state = s; answer = Told v }) tt ≡ carry nothing (does (w ∷ []) s untouched) s tt
unfolding carry
told s v w e = rw e

-- the refusal of a slot that does not have both marks
stopped : (s : State) (i : ℕ) (l c : Bool) (p : Plan) → l && c ≡ false
    → outcome (record { state = s; answer = pick l (NoCode i) (NotLoaded i) }) tt ≡ carry nothing (unless l (refuse 3 (i ∷ [])) (unless c (refuse 4 (i ∷ [])) p)) s tt
unfolding unless pick carry
stopped s i false c p e = refl
stopped s i true false p e = refl
stopped s i true true p e = absurd (false≢true (sym e))

-- what is left of the cull test at slot i, where m is the AND of the codes before it
unfoldable pub rest : State → ℕ → ℕ → ℕ → Plan
rest s last m i = judge_codes s (slots_to i last) (does (bit (not (eqb (anded m (codes_of s (slots_to i last))) 0)) ∷ []) s untouched)

-- the last is one of the 256
pub few : (first last : ℕ) → leb first last && ltb last 256 ≡ true → last < 256
few first last h = ltb-true last 256 ((and-eq-true_iff (leb first last) (ltb last 256)).0 h).1

-- the slots before i are passed: what is left decides
module _ (s : State) (first last m i : ℕ) (w : rest s last 0x0f first ≡ rest s last m i) where
  -- one more slot is loaded and has a code
  pub walk_more : i ≤ last → get_or s.loaded i false && get_or s.coded i false ≡ true
      → rest s last 0x0f first ≡ rest s last (bit_and m (get_or s.code i 0)) (i + 1)
  unfolding rest unless
  walk_more h e =
      let both = (and-eq-true_iff (get_or s.loaded i false) (get_or s.coded i false)).0 e in
      w ∙ rw (slots_next i last h, both.0, both.1)

  -- a slot is not loaded, or has no code
  pub walk-stops : i ≤ last → get_or s.loaded i false && get_or s.coded i false ≡ false → (a : Answer) → a ≡ pick (get_or s.loaded i false) (NoCode i) (NotLoaded i)
      → outcome (record { state = s; answer = a }) tt ≡ carry nothing (rest s last 0x0f first) s tt
  unfolding rest
  walk-stops h e a q = rw (w, q, slots_next i last h) (stopped s i _ _ _ e)

  -- no slot is left
  pub walk_ends : last < i → (v : ℕ) → v ≡ bit (not (eqb m 0)) → outcome (record { state = s; answer = Told v }) tt ≡ carry nothing (rest s last 0x0f first) s tt
  unfolding rest
  walk_ends h v e = rw (w, slots-none i last h) (told s v (bit (not (eqb m 0))) e)

-- codes 34 and 32: not culled, since 34 AND 32 AND 15 is 0
pub not-culled : culled (34 ∷ 32 ∷ []) ≡ false
not-culled = refl
