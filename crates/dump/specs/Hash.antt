-- The rolling hash of an area. Definitions only.
use Rattle.std.specs.Prelude.{ℕ, ◌+◌, ◌*◌, ◌%◌, List, [], ◌∷◌}

-- one number more
abbrev pub rolled : ℕ → ℕ → ℕ
rolled h w = (h * 65599 + w) % 4294967291

-- the numbers of a list, one after the other, each taken as the word that f gives
unfoldable pub roll : {A : Type 0} → (A → ℕ) → ℕ → List A → ℕ
roll f h [] = h
roll f h (x ∷ xs) = roll f (rolled h (f x)) xs
