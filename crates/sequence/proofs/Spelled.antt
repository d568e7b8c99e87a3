-- A list of a known length, spelled out number by number. Assumes nothing.
use mathlib.Core.Path.{◌≡◌, refl, ap}
use Prim.Native.Nat.{ℕ, zero, suc}
use native.Mathlib.Omega.{arith}
use mathlib.Core.List.{List, [], ◌∷◌}
use lib.ListN.{length, get_or}

-- the n numbers of l from place i on
abbrev pub spelled : {A : Type 0} → A → List A → ℕ → ℕ → List A
spelled d l i zero = []
spelled d l i (suc n) = get_or l i d ∷ spelled d l (suc i) n

past : {A : Type 0} (d x : A) (l : List A) (i n : ℕ) → spelled d (x ∷ l) (suc i) n ≡ spelled d l i n
past d x l i zero = refl
past {A} d x l i (suc n) = ap (λ (t : List A). get_or l i d ∷ t) (past d x l (suc i) n)

pub spells : {A : Type 0} (d : A) (l : List A) (n : ℕ) → length l ≡ n → l ≡ spelled d l 0 n
spells d [] zero h = refl
spells d [] (suc n) h = absurd (omega arith)
spells d (x ∷ l) zero h = absurd (omega arith)
spells {A} d (x ∷ l) (suc n) h = rw (past d x l 0 n) (ap (λ (t : List A). x ∷ t) (spells d l n (omega arith)))
