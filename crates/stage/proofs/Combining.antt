-- A plan that appends an entry to one table unless the last entry equals it, by what became of the entry. Assumes nothing.
use mathlib.Core.Path.{◌≡◌}
use mathlib.Core.Logic.{⊎_elim}
use mathlib.Core.Bool.{Bool, true, false}
use lib.Dec.{leb}
use Prim.Native.Nat.{ℕ, ◌+◌, ◌≤◌}
use mathlib.Core.List.{List, [], ◌∷◌}
use lib.ListN.{length}
use lib.Ieee.{Float, eq}
use Rattle.std.specs.Prelude.{Option, Some, None}
use Rattle.areas.specs.Area.{entries, room, write, matches}
use Rattle.decide.specs.Append.{final}
use Rattle.decide.specs.Steps.{ended}
use Rattle.decide.proofs.Ends.{ended-fit, ended-full}
use Rattle.stage.specs.declared.State.{State}
use Rattle.stage.specs.declared.Counts.{Counts}
use Rattle.stage.specs.declared.Answer.{Answer}
use Rattle.stage.specs.declared.Answer.TheVariants.{NoRoom}
use Rattle.stage.specs.Answers.{number, values}
use Rattle.stage.specs.With.{with_counts}
use Rattle.stage.specs.Plan.{Edit, keep, grow, counted, Edits, does, table, after, appending, advance, outcome, carry}
use Rattle.stage.proofs.Appends.{append-kept, append-grew, append-full}

-- Table k, of n entries of w numbers in the area l, gets the entry e; E places its edit among those of the tables, t is the state then, and vs
-- is told. r and a are what `append` answered and left in the area.
module _ (vs : List ℕ) (k w n : ℕ) (E : Edit (List Float) → Edits) (g : Counts → Edits → List Float → List Float) (s t : State) (e l : List Float) (r : Option ℕ) (a : List Float)
    (did : record { count = r; area = a } ≡ ended w n e l)
    (place : (d : Edit (List Float)) → g s.counts (E d) l ≡ after w n d l) where
  -- an answer that is done and tells vs
  abbrev Tells : Answer → Type 0
  Tells q = (number q ≡ 0) × (values q ≡ vs)

  -- the entry was there last, or it was appended
  abbrev same : Bool
  same = matches eq (final (entries w n l)) e

  entry_kept : same ≡ true → a ≡ l → n ≤ room w (length l) → (q : Answer) → Tells q
      → outcome (record { state = with_counts t (advance (E keep) s.counts); answer = q }) a ≡ carry g (appending k (table w n l) e (λ d. does vs t (E d))) s l
  unfolding carry
  entry_kept x y h q d = rw (append-kept k w n l e (λ d. does vs t (E d)) x h, y, place keep, d.0, d.1)

  entry-grew : same ≡ false → leb (n + 1) (room w (length l)) ≡ true → a ≡ write w n (e ∷ []) l → (q : Answer) → Tells q
      → outcome (record { state = with_counts t (advance (E (grow (e ∷ []))) s.counts); answer = q }) a ≡ carry g (appending k (table w n l) e (λ d. does vs t (E d))) s l
  unfolding carry
  entry-grew x y z q d = rw (append-grew k w n l e (λ d. does vs t (E d)) x y, z, place (grow (e ∷ [])), d.0, d.1)

  pub entry-full : r ≡ None → outcome (record { state = s; answer = NoRoom k }) a ≡ carry g (appending k (table w n l) e (λ d. does vs t (E d))) s l
  unfolding carry
  entry-full q = let x = ended-full w n e l r a did q in rw (append-full k w n l e (λ d. does vs t (E d)) x.0 x.1, x.2)

  -- kept or appended, as code hands it back: x is the count then, which C places among those of the tables, and q the answer
  module _ (C : ℕ → Counts) (counts : (d : Edit (List Float)) → C (counted d n) ≡ advance (E d) s.counts) (fits : n ≤ room w (length l)) (q : Answer) (done : Tells q) (x : ℕ) where
    abbrev Comes : State → Type 0
    Comes y = outcome (record { state = y; answer = q }) a ≡ carry g (appending k (table w n l) e (λ d. does vs t (E d))) s l

    by-edit : (d : Edit (List Float)) → x ≡ counted d n → Comes (with_counts t (advance (E d) s.counts)) → Comes (with_counts t (C x))
    by-edit d y h = rw (y, counts d) h

    pub entry_new : r ≡ Some x → Comes (with_counts t (C x))
    entry_new o =
        ⊎_elim
        (λ h. by-edit keep h.1 (entry_kept h.0 h.2 fits q done))
        (λ h. by-edit (grow (e ∷ [])) h.2 (entry-grew h.0 h.1 h.3 q done))
        (ended-fit w n e l r a did x o)
