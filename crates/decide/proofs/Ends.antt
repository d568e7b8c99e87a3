-- An entry at the end of a table, by the tests that the code makes. Assumes nothing.
use mathlib.Core.Path.{◌≡◌, refl, sym, ap, ◌∙◌}
use mathlib.Core.Logic.{◌⊎◌, inl, inr, ⊎_elim}
use Prim.Native.Nat.{ℕ, ◌+◌, ◌-◌, ◌*◌, ◌<◌}
use mathlib.Core.Bool.{Bool, true, false, not}
use mathlib.Core.List.{List, [], ◌∷◌}
use lib.ListN.{length}
use lib.Dec.{leb, eqb, eqb-suc-zero}
use lib.Ieee.{Float, eq}
use borrow.Author.Tests.{not-true, not-false}
use Rattle.numbers.specs.Choice.{pick}
use Rattle.areas.specs.Area.{entries, room, write, put, part, matches}
use Rattle.areas.specs.Table.{after, keep, grow}
use Rattle.areas.proofs.Tables.{length-entries, last_entry, write-one}
use Rattle.std.specs.Prelude.{Option, Some, None}
use Rattle.decide.specs.Append.{final, only_if, appended}
use Rattle.decide.specs.Steps.{Ended, ended, put_by}

-- the last entry in use, by its place
pub final-is : {A : Type 0} (w n : ℕ) (l : List A) → 0 < n → final (entries w n l) ≡ part l ((n - 1) * w) w
final-is w n l h = rw (length-entries w n l) (last_entry w n l h)

-- a table with no entry in use has no last one
pub final-none : (w n : ℕ) (l e : List Float) → n ≡ 0 → eqb (length e) 0 ≡ matches eq (final (entries w n l)) e
unfolding matches
final-none w n l [] h = rw h
final-none w n l (x ∷ e) h = rw h (eqb-suc-zero (length e))

-- what a comparison at the last entry's place tells
pub final-same : (w n p : ℕ) (l e : List Float) (r : Bool) → 0 < n → length e ≡ w → p ≡ (n - 1) * w → r ≡ matches eq (part l p (length e)) e → r ≡ matches eq (final (entries w n l)) e
final-same w n p l e r h we at s = s ∙ rw (at, we, final-is w n l h)

-- what ended says, by its two tests
abbrev end : ℕ → ℕ → List Float → List Float → Bool → Bool → Ended
end w n e l s h = record { count = pick s (Some n) (pick h (Some (n + 1)) None); area = pick h (after w n (pick s keep (grow (e ∷ []))) l) l }

end_is : (w n : ℕ) (e l : List Float) → ended w n e l ≡ end w n e l (matches eq (final (entries w n l)) e) (leb (n + 1) (room w (length l)))
unfolding ended appended
end_is w n e l = refl

-- an entry that is there last is kept, whatever the room
end_kept : (w n : ℕ) (e l : List Float) (h : Bool) → record { count = Some n; area = l } ≡ end w n e l true h
unfolding pick
end_kept w n e l true = refl
end_kept w n e l false = refl

-- the three ends, by what the code's calls answered: s whether the last entry is the same, h whether m entries are room enough
module _ (w n : ℕ) (e l : List Float) (s : Bool) (told : s ≡ matches eq (final (entries w n l)) e) where
  pub kept : s ≡ true → record { count = Some n; area = l } ≡ ended w n e l
  kept y = rw (end_is w n e l, ← told, y) (end_kept w n e l (leb (n + 1) (room w (length l))))

  module _ (no : s ≡ false) (m : ℕ) (h : Bool) (room-is : m ≡ room w (length l)) (holds-is : h ≡ leb (n + 1) m) where
    pub full : not h ≡ true → record { count = None; area = l } ≡ ended w n e l
    unfolding pick
    full f = rw (end_is w n e l, ← told, no, ← room-is, ← holds-is, not-true h f)

    pub grew : not h ≡ false → (p : ℕ) (a : List Float) → p ≡ n * w → a ≡ put l p e → record { count = Some (n + 1); area = a } ≡ ended w n e l
    unfolding pick
    grew f p a at put_is = rw (end_is w n e l, ← told, no, ← room-is, ← holds-is, not-false h f, write-one w n e l, ← at, ← put_is)

-- the tests, by the count that they come to
tests-full : (n : ℕ) (s h : Bool) → pick s (Some n) (pick h (Some (n + 1)) None) ≡ None → (s ≡ false) × (h ≡ false)
unfolding pick
tests-full n true h e = (cc, cc)
tests-full n false true e = (refl, cc)
tests-full n false false e = (refl, refl)

tests-fit : (n m : ℕ) (s h : Bool) → pick s (Some n) (pick h (Some (n + 1)) None) ≡ Some m → ((s ≡ true) × (m ≡ n)) ⊎ ((s ≡ false) × (h ≡ true) × (m ≡ n + 1))
unfolding pick
tests-fit n m true h e = inl (refl, cc)
tests-fit n m false true e = inr (refl, refl, cc)
tests-fit n m false false e = inl (cc, cc)

-- what a caller learns from a count, or from none: whether the last entry is the same, whether there is room, and the area then
module _ (w n : ℕ) (e l : List Float) (r : Option ℕ) (a : List Float) (did : record { count = r; area = a } ≡ ended w n e l) where
  abbrev same : Bool
  same = matches eq (final (entries w n l)) e

  abbrev roomy : Bool
  roomy = leb (n + 1) (room w (length l))

  by : record { count = r; area = a } ≡ end w n e l same roomy
  by = did ∙ end_is w n e l

  count : (k : Option ℕ) → r ≡ k → pick same (Some n) (pick roomy (Some (n + 1)) None) ≡ k
  count k q = sym (ap (λ (x : Ended). x.count) by) ∙ q

  area-by : (x : Ended) → end w n e l same roomy ≡ x → a ≡ x.area
  area-by x q = ap (λ (y : Ended). y.area) (by ∙ q)

  pub ended-full : r ≡ None → (same ≡ false) × (roomy ≡ false) × (a ≡ l)
  unfolding pick
  ended-full q = let f = tests-full n same roomy (count None q) in (f.0, f.1, area-by (record { count = None; area = l }) (rw (f.0, f.1)))

  pub ended-fit : (m : ℕ) → r ≡ Some m → ((same ≡ true) × (m ≡ n) × (a ≡ l)) ⊎ ((same ≡ false) × (roomy ≡ true) × (m ≡ n + 1) × (a ≡ write w n (e ∷ []) l))
  unfolding pick
  ended-fit m q =
      ⊎_elim
      (λ f. inl (f.0, f.1, area-by (record { count = Some n; area = l }) (rw f.0 (sym (end_kept w n e l roomy)))))
      (λ f. inr (f.0, f.1, f.2, area-by (record { count = Some (n + 1); area = write w n (e ∷ []) l }) (rw (f.0, f.1))))
      (tests-fit n m same roomy (count (Some m) q))

-- entries appended where they are needed
pub puts_none : {A : Type 0} (need : Bool) (w n : ℕ) (es : List (List A)) (l : List A) → not need ≡ true → record { count = n; area = l } ≡ put_by w n (only_if need es) l
unfolding pick
puts_none need w n es l h = rw (not-true need h)

pub puts-some : {A : Type 0} (need : Bool) (w n c : ℕ) (es : List (List A)) (l a : List A) → not need ≡ false → c ≡ n + length es → a ≡ write w n es l → record { count = c; area = a } ≡ put_by w n (only_if need es) l
unfolding pick
puts-some need w n c es l a h count is = rw (not-false need h, ← count, ← is)

-- one entry, put at its place
pub put_one : {A : Type 0} (need : Bool) (w n p : ℕ) (e l a : List A) → not need ≡ false → p ≡ n * w → a ≡ put l p e → record { count = n + 1; area = a } ≡ put_by w n (only_if need (e ∷ [])) l
put_one need w n p e l a h at is = puts-some need w n (n + 1) (e ∷ []) l a h refl (is ∙ rw (at, write-one w n e l))
