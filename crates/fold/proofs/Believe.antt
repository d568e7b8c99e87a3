-- What the definitions of specs/ are believed for: the fog pair's place is the first equal one's, a NaN folds anew, entries have their widths, and the ambient colour
-- comes last. Assumes nothing.
use Prim.Native.Nat.{ℕ, zero, suc, ◌+◌, ◌≤◌, ◌<◌}
use native.Mathlib.Nat.{le_of_suc-le-suc, not-suc-le-zero, eq-or-lt_of_le}
use native.Mathlib.Numerals.{add-one, towards_suc}
use native.Mathlib.Omega.{arith}
use mathlib.Core.Bool.{Bool, true, false, or-true, false≢true}
use mathlib.Core.Logic.{◌⊎◌, ⊎_elim}
use mathlib.Core.Path.{◌≡◌, refl, sym, ◌∙◌}
use mathlib.Core.List.{List, [], ◌∷◌, ◌++◌}
use lib.IntN.{ℤ}
use lib.Ieee.{Float, nan}
use lib.ListN.{length, get_or, length-append, get_or-append}
use lib.Seq.{get_or_at, drop-cons, take_all}
use Rattle.numbers.specs.Choice.{pick}
use Rattle.areas.specs.Area.{part, matches, eqbℤ, Wide}
use Rattle.areas.specs.Widths.{scale_width, light_width, lookat_width}
use Rattle.areas.proofs.Tables.{wide-append, matches-nan}
use Rattle.matrix.specs.Math
use Rattle.fold.specs.Decision.{refold}
use Rattle.fold.specs.Direction.{three, folded}
use Rattle.fold.specs.Fog.{find}
use Rattle.fold.specs.Lights.{light_entry, ambient_entry, directional, light_entries}
use Rattle.fold.specs.Lookat.{lookat_entry}
use Rattle.fold.specs.Scales.{scale_entry}

-- ---- the place of a fog pair

-- p is the place of the first entry equal to e, or the number of entries where none is
pub record First (es : List (List ℤ)) (e : List ℤ) (p : ℕ) : Type 0 where
  -- the place is at most the number of entries
  pub within : p ≤ length es
  -- no entry before it is equal
  pub before : (k : ℕ) → k < p → matches eqbℤ (get_or es k []) e ≡ false
  -- where it is an entry's place, that entry is equal
  pub here : p < length es → matches eqbℤ (get_or es p []) e ≡ true

-- the place that is found is the first
pub find_first : (es : List (List ℤ)) (e : List ℤ) → First es e (find es e)
unfolding find pick
find_first [] e =
    record { within = omega arith; before = λ k h. absurd (not-suc-le-zero h); here = λ h. absurd (not-suc-le-zero h) }
find_first (x ∷ es) e = by (matches eqbℤ x e) refl (find es e) (find_first es e)
  where
    by : (b : Bool) → matches eqbℤ x e ≡ b → (p : ℕ) → First es e p → First (x ∷ es) e (pick b zero (suc p))
    by true q p f = record { within = omega arith; before = λ k h. absurd (not-suc-le-zero h); here = λ h. q }
    by false q p f = record { within = omega (arith, f.within); before = passed; here = λ h. f.here (le_of_suc-le-suc h) }
      where
        passed : (k : ℕ) → k < suc p → matches eqbℤ (get_or (x ∷ es) k []) e ≡ false
        passed zero h = q
        passed (suc k) h = f.before k (le_of_suc-le-suc h)

-- no place is after another that is a first
not_after : (es : List (List ℤ)) (e : List ℤ) (p q : ℕ) → First es e p → First es e q → p < q → ⊥
not_after es e p q f g h =
    false≢true (sym (g.before p h) ∙ f.here (omega (arith, g.within)))

-- there is only one such place
pub first_only : (es : List (List ℤ)) (e : List ℤ) (p q : ℕ) → First es e p → First es e q → p ≡ q
first_only es e p q f g = omega (arith, not_after es e p q f g, not_after es e q p g f)

-- ---- folding anew

-- with a NaN in the model top, or in the one last folded, lights and lookat are folded anew
pub refold-nan : (some changed : Bool) (top model : List Float) (j : ℕ) (d : Float) → ((j < length top) × (get_or top j d ≡ nan)) ⊎ ((j < length model) × (get_or model j d ≡ nan)) → refold some changed top model ≡ true
unfolding refold
refold-nan some changed top model j d h = simp (matches-nan top model j d h, or-true)

-- ---- widths

-- three numbers one by one, or as a part
pub three-part : (f : List Float) (i : ℕ) → i + 3 ≤ length f → three f i ≡ part f i 3
three-part f i h =
    simp towards_suc
    (rw (drop-cons f i nan (omega arith), drop-cons f (suc i) nan (omega arith), drop-cons f (suc (suc i)) nan (omega arith)))

-- a folded direction has three numbers
pub length-folded : (m : List (List Float)) (v : List Float) → length (folded m v) ≡ 3
unfolding folded
length-folded m v = refl

-- a light's entry has six
pub length-light : (m : List (List Float)) (ds cs : List Float) (k : ℕ) → length (light_entry m ds cs k) ≡ light_width
unfolding light_entry
length-light m ds cs k = rw (length-append, length-folded)

-- the lookat entry has six
pub length-lookat : (m : List (List Float)) (axes : List Float) → length (lookat_entry m axes) ≡ lookat_width
unfolding lookat_entry
length-lookat m axes = simp (length-append, length-folded)

-- the entry of texture scales has four
pub length-scale : (sc tc : ℕ) → length (scale_entry sc tc) ≡ scale_width
length-scale sc tc = refl

module _ (m : List (List Float)) (ds cs : List Float) where
  -- one more light
  pub directional-more : (n : ℕ) → directional m ds cs (n + 1) ≡ directional m ds cs n ++ light_entry m ds cs n ∷ []
  unfolding directional
  directional-more n = rw add-one

  -- n lights have n entries
  pub length-directional : (n : ℕ) → length (directional m ds cs n) ≡ n
  unfolding directional
  length-directional zero = refl
  length-directional (suc n) = rw (length-append, length-directional n) (omega arith)

  -- each six numbers wide
  pub wide-directional : (n : ℕ) → Wide light_width (directional m ds cs n)
  unfolding directional
  wide-directional zero = tt
  wide-directional (suc n) =
      wide-append light_width (directional m ds cs n) (light_entry m ds cs n ∷ []) (wide-directional n) (length-light m ds cs n, tt)

  -- entry k is that of light k
  pub directional-at : (n k : ℕ) → k < n → get_or (directional m ds cs n) k [] ≡ light_entry m ds cs k
  unfolding directional
  directional-at zero k h = absurd (not-suc-le-zero h)
  directional-at (suc n) k h =
      ⊎_elim
      (λ a. rw a (get_or_at (directional m ds cs n) (light_entry m ds cs n) [] [] n (length-directional n)))
      (λ a. get_or-append (directional m ds cs n) (light_entry m ds cs n ∷ []) [] k (rw length-directional a) ∙ directional-at n k a)
      (eq-or-lt_of_le (le_of_suc-le-suc h))

  module _ (ambient : List Float) where
    -- with the ambient colour's there is one entry more
    pub length-lights : (n : ℕ) → length (light_entries m ds cs ambient n) ≡ n + 1
    unfolding light_entries
    length-lights n = rw (length-append, length-directional n)

    -- each six numbers wide
    pub wide-lights : (n : ℕ) → Wide light_width (light_entries m ds cs ambient n)
    unfolding light_entries
    wide-lights n = wide-append light_width (directional m ds cs n) (ambient_entry ambient ∷ []) (wide-directional n) (refl, tt)

    -- the first are the lights' own
    pub lights-at : (n k : ℕ) → k < n → get_or (light_entries m ds cs ambient n) k [] ≡ light_entry m ds cs k
    unfolding light_entries
    lights-at n k h = get_or-append (directional m ds cs n) (ambient_entry ambient ∷ []) [] k (rw length-directional h) ∙ directional-at n k h

    -- the ambient colour's comes last
    pub ambient-last : (n : ℕ) → get_or (light_entries m ds cs ambient n) n [] ≡ ambient_entry ambient
    unfolding light_entries
    ambient-last n = get_or_at (directional m ds cs n) (ambient_entry ambient) [] [] n (length-directional n)

-- its direction is 0 and its colour the ambient one
pub ambient-parts : (ambient : List Float) → length ambient ≡ 3 → ambient_entry ambient ≡ (Math.zero ∷ Math.zero ∷ Math.zero ∷ []) ++ ambient
ambient-parts ambient h = rw (three-part ambient 0 (omega arith), take_all 3 ambient (omega arith))
