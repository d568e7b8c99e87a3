-- The hash of a list as a fold. Assumes nothing.
use Rattle.std.proofs.Common.{◌≡◌, refl, List, [], ◌∷◌, ℕ}
use Rattle.std.specs.List.{fold}
use Rattle.dump.specs.Hash.{rolled, roll}

pub roll-fold : {A : Type 0} (f : A → ℕ) (h : ℕ) (xs : List A) → fold (λ h x. rolled h (f x)) h xs ≡ roll f h xs
unfolding roll
roll-fold f h [] = refl
roll-fold f h (x ∷ xs) = roll-fold f (rolled h (f x)) xs
