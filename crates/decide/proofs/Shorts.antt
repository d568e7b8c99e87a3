-- The first table that does not fit, as `find` comes to it. Assumes nothing.
use mathlib.Core.Path.{◌≡◌, refl, ap, ◌∙◌}
use Prim.Native.Nat.{ℕ}
use mathlib.Core.Bool.{Bool, true, false}
use mathlib.Core.List.{List, [], ◌∷◌, map}
use Rattle.std.specs.Prelude.{Option, Some, None}
use Rattle.std.specs.List.{find}
use Rattle.std.specs.Option.{option_map, MatchOption, IsSomeAnd}
use Rattle.numbers.specs.Choice.{unless}
use Rattle.decide.specs.declared.judge.Fill.{Fill}
use Rattle.decide.specs.Judge.{fits}
use Rattle.decide.specs.Steps.{first_short, fill_of, short_of}

one_more : (t : Fill) (ts : List Fill) (b : Bool) → fits (fill_of t) ≡ b → option_map (λ u. u.number) (find short_of ts) ≡ first_short (map fill_of ts)
    → option_map (λ u. u.number) (find short_of (t ∷ ts)) ≡ first_short (map fill_of (t ∷ ts))
unfolding first_short unless
one_more t ts true e h = rw e h
one_more t ts false e h = rw e

-- the number of the first one found is that of the first short one
pub number_found : (l : List Fill) → option_map (λ t. t.number) (find short_of l) ≡ first_short (map fill_of l)
unfolding first_short
number_found [] = refl
number_found (t ∷ ts) = one_more t ts _ refl (number_found ts)

-- what `map` makes of what was found
read : {A : Type 0} (v : A → Fill) (o : Option A) (r : Option ℕ) (Q : A → ℕ → Type 0) → ((x : A) (n : ℕ) → Q x n → n ≡ (v x).number) → MatchOption o (r ≡ None) (λ x. IsSomeAnd r (Q x))
    → r ≡ option_map (λ t. t.number) (option_map v o)
read v None r Q k m = m
read v (Some x) None Q k m = absurd m
read v (Some x) (Some n) Q k m = ap Some (k x n m)

pub first_read : {A : Type 0} (v : A → Fill) (l : List Fill) (o : Option A) (r : Option ℕ) (Q : A → ℕ → Type 0) → ((x : A) (n : ℕ) → Q x n → n ≡ (v x).number) → MatchOption o (r ≡ None) (λ x. IsSomeAnd r (Q x))
    → option_map v o ≡ find short_of l → r ≡ first_short (map fill_of l)
first_read v l o r Q k m f = read v o r Q k m ∙ ap (option_map (λ t. t.number)) f ∙ number_found l
