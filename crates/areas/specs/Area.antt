-- A lent area as a flat list of numbers, and as a table of entries of one width. Definitions only; the laws are in proofs/Tables.antt.
use Rattle.std.specs.Prelude.{ℕ, zero, suc, ◌*◌, ◌/◌, min, Bool, true, false, ◌&&◌, ◌≡◌, List, [], ◌∷◌, ◌++◌, take, drop, length, ℤ, pos, negsuc, eqb}
use Rattle.std.proofs.lemmas.List.Edits.{sets}
use Rattle.areas.specs.Widths.{most}

-- how many entries of w numbers an area of n numbers has room for: none where w is 0, and at most `most`
abbrev pub room : ℕ → ℕ → ℕ
room w n = min (n / w) most

module _ {A : Type 0} where
  -- the n numbers of l from place at on, or as many as there are
  abbrev pub part : List A → ℕ → ℕ → List A
  part l at n = take n (drop at l)

  -- l with the numbers of vs from place at on; what would lie past its end is left out
  unfoldable pub put : List A → ℕ → List A → List A
  put l at vs = sets l at vs

  -- the two lists are equally long, and equal number by number in the sense of p
  unfoldable pub matches : (A → A → Bool) → List A → List A → Bool
  matches p [] [] = true
  matches p [] (y ∷ ys) = false
  matches p (x ∷ xs) [] = false
  matches p (x ∷ xs) (y ∷ ys) = p x y && matches p xs ys

  -- the first n entries of w numbers each: what a table of n entries in use holds
  abbrev pub entries : ℕ → ℕ → List A → List (List A)
  entries w zero l = []
  entries w (suc n) l = take w l ∷ entries w n (drop w l)

  -- entries laid end to end
  abbrev pub flat : List (List A) → List A
  flat [] = []
  flat (e ∷ es) = e ++ flat es

  -- each entry has w numbers
  abbrev pub Wide : ℕ → List (List A) → Type 0
  Wide w [] = Unit {0}
  Wide w (e ∷ es) = (length e ≡ w) × Wide w es

  -- the area with the entries es written from entry n on; all other numbers stay
  unfoldable pub write : ℕ → ℕ → List (List A) → List A → List A
  write w n es l = put l (n * w) (flat es)

-- two whole numbers with a sign are the same
unfoldable pub eqbℤ : ℤ → ℤ → Bool
eqbℤ (pos m) (pos n) = eqb m n
eqbℤ (pos m) (negsuc n) = false
eqbℤ (negsuc m) (pos n) = false
eqbℤ (negsuc m) (negsuc n) = eqb m n
