-- What the library's comparison says, as `matches`. Assumes nothing.
use Prim.Native.Nat.{ℕ, ◌-◌}
use Rattle.std.specs.Prelude.{min, ℤ}
use mathlib.Core.Bool.{Bool, true, false}
use mathlib.Core.Path.{◌≡◌, refl, sym, ◌∙◌}
use mathlib.Core.List.{List, [], ◌∷◌}
use lib.ListN.{length, take, drop}
use lib.Pointwise.{pointwise}
use Rattle.std.specs.Cmp.{IsPartialEquivalence}
use Rattle.std.proofs.lemmas.List.{drop_min, take_rest}
use Rattle.std.specs.List.{starts_with}
use Rattle.std.proofs.lemmas.Bool.Decides.{Decides-int_eq}
use Rattle.areas.proofs.Tables.{eqbℤ-is}
use Rattle.areas.specs.Area.{part, matches, eqbℤ}
use Rattle.std.specs.Ordering.{int_eq}

module _ {A : Type 0} where
  -- the lists compared the other way round
  pointwise-matches : (p : A → A → Bool) → IsPartialEquivalence p → (xs ys : List A) → pointwise p ys xs ≡ matches p xs ys
  unfolding matches
  pointwise-matches p e [] [] = refl
  pointwise-matches p e [] (y ∷ ys) = refl
  pointwise-matches p e (x ∷ xs) [] = refl
  pointwise-matches p e (x ∷ xs) (y ∷ ys) = rw (e.symm x y, pointwise-matches p e xs ys)

  -- the lists compared as they stand
  pub pointwise-is : (p : A → A → Bool) (xs ys : List A) → pointwise p xs ys ≡ matches p xs ys
  unfolding matches
  pointwise-is p [] [] = refl
  pointwise-is p [] (y ∷ ys) = refl
  pointwise-is p (x ∷ xs) [] = refl
  pointwise-is p (x ∷ xs) (y ∷ ys) = rw (pointwise-is p xs ys)

  -- the rest of an area begins with an entry
  pub same_is : (p : A → A → Bool) → IsPartialEquivalence p → (l : List A) (at s : ℕ) (vs : List A) (r : Bool) → s ≡ min at (length l) → r ≡ starts_with p (take (length l - s) (drop s l)) vs
      → r ≡ matches p (part l at (length vs)) vs
  same_is p e l at s vs r hs h =
      h ∙ rw (take_rest l s, hs, drop_min at l) (pointwise-matches p e (part l at (length vs)) vs)

-- the `==` of numbers with a sign says what eqbℤ says
int_eq-is : (x y : ℤ) → int_eq x y ≡ eqbℤ x y
int_eq-is x y = both_ways _ _ (λ h. (eqbℤ-is x y).1 ((Decides-int_eq x y).0 h)) (λ h. (Decides-int_eq x y).1 ((eqbℤ-is x y).0 h))
  where
    both_ways : (a b : Bool) → (a ≡ true → b ≡ true) → (b ≡ true → a ≡ true) → a ≡ b
    both_ways true b f g = sym (f refl)
    both_ways false true f g = g refl
    both_ways false false f g = refl

-- so are lists of them
pub matches-int : (xs ys : List ℤ) → matches int_eq xs ys ≡ matches eqbℤ xs ys
unfolding matches
matches-int [] [] = refl
matches-int [] (y ∷ ys) = refl
matches-int (x ∷ xs) [] = refl
matches-int (x ∷ xs) (y ∷ ys) = rw (int_eq-is x y, matches-int xs ys)
