-- What a load settles before its vertices, table by table. Assumes nothing.
use mathlib.Core.Path.{◌≡◌, refl, sym, ap, ◌∙◌}
use Prim.Native.Nat.{ℕ, suc, ◌+◌, ◌-◌, ◌≤◌, ◌<◌}
use native.Mathlib.Omega.{arith}
use mathlib.Core.Bool.{Bool, true, false, not, ◌&&◌, false≢true}
use mathlib.Core.List.{List, [], ◌∷◌, ◌++◌}
use mathlib.Core.Option.{none, some}
use lib.ListN.{length, get_or, take, length-append}
use lib.Seq.{get_or-append_seam, drop_at, take_all}
use lib.Dec.{ltb}
use lib.IntN.{ℤ}
use lib.Ieee.{Float, eq}
use borrow.Author.Tests.{ltb-true, ltb-false, lt-ltb}
use Rattle.areas.specs.Area.{part, matches}
use Rattle.areas.proofs.Tables.{matches-eqbℤ}
use Rattle.decide.specs.Append.{final}
use Rattle.fold.specs.Decision.{refold}
use Rattle.fold.specs.Fog.{find}
use Rattle.fold.specs.Scales.{scale_entry, same_scale}
use Rattle.fold.proofs.Believe.{find_first}
use Rattle.stage.specs.declared.Lights.{Lights}
use Rattle.stage.specs.declared.Lookat.{Lookat}
use Rattle.stage.specs.Plan.{Edit, pick, counted, only_if}
use Rattle.stage.specs.With.{folded_lights, folded_lookat}
use Rattle.sequence.proofs.Turn.{edit}
use Rattle.finished.specs.Shown.{fog_shown}
use Rattle.finished.specs.Bench.{renewed, rescaled}
use Rattle.finished.proofs.Lists.{Longer, same, with-more, final-snoc}

-- entries appended where b says so: the table goes on
pub longer-if : {E : Type 0} (b : Bool) (es l : List E) → Longer l (edit (only_if b es) l)
unfolding pick
longer-if true es l = with-more l es
longer-if false es l = same l

-- its count, and its last place
pub last-place : {E : Type 0} (e : Edit E) (l : List E) (n : ℕ) → length (edit e l) ≡ counted e n → 0 < length (edit e l) → counted e n - 1 < length (edit e l)
last-place e l n h k = omega (arith, h)

-- ---- matrix

-- the product is appended where the combined matrix c was undefined and the last entry differs
pub matrix-settled : (ms : List (List Float)) (c m : List Float) (defined : Bool)
    → let now = pick defined c m in
    final (edit (only_if (not defined && not (matches eq (final ms) now)) (now ∷ [])) ms) ≡ pick defined (final ms) (renewed (final ms) m)
unfolding pick
matrix-settled ms c m true = refl
matrix-settled ms c m false = go (matches eq (final ms) m)
  where
    go : (b : Bool) → final (edit (only_if (not b) (m ∷ [])) ms) ≡ pick b (final ms) m
    go true = refl
    go false = final-snoc ms m

-- ---- scales

-- the last entry's first pair is that of e, where there is one
scales-same : (ss : List (List Float)) (sc tc : ℕ) → same_scale ss (scale_entry sc tc) ≡ matches eq (take 2 (final ss)) (take 2 (scale_entry sc tc))
unfolding same_scale matches
scales-same [] sc tc = refl
scales-same (x ∷ ss) sc tc = rw (lt-ltb 0 (length (x ∷ ss)) (omega arith)) refl

pub scale-settled : (ss : List (List Float)) (sc tc : ℕ) → let e = scale_entry sc tc in
    (final (edit (only_if (not (same_scale ss e)) (e ∷ [])) ss) ≡ rescaled (final ss) e) × (0 < length (edit (only_if (not (same_scale ss e)) (e ∷ [])) ss))
unfolding pick matches
scale-settled ss sc tc = rw (← (scales-same ss sc tc)) (go (same_scale ss e) refl)
  where
    e : List Float
    e = scale_entry sc tc

    go : (b : Bool) → same_scale ss e ≡ b → (final (edit (only_if (not b) (e ∷ [])) ss) ≡ pick b (final ss) e) × (0 < length (edit (only_if (not b) (e ∷ [])) ss))
    go true q = (refl, there ss q)
      where
        there : (ts : List (List Float)) → same_scale ts e ≡ true → 0 < length ts
        there [] z = absurd (false≢true (sym (scales-same [] sc tc) ∙ z))
        there (x ∷ ts) z = omega arith
    go false q = (final-snoc ss e, omega (arith, length-append ss (e ∷ [])))

-- ---- lights

-- a load does not fold anew: they have been folded, and are not marked changed
pub not-due : (folded changed : Bool) (top model : List Float) → refold folded changed top model ≡ false → (folded ≡ true) × (changed ≡ false)
unfolding refold
not-due true true top model e = absurd (false≢true (sym e))
not-due true false top model e = (refl, refl)
not-due false changed top model e = absurd (false≢true (sym e))

-- the lights l stand in the table as vs
abbrev pub LightsAt : List (List Float) → Lights → List (List Float) → Type 0
LightsAt ls l vs = (l.first + (l.number + 1) ≤ length ls) × (part ls l.first (l.number + 1) ≡ vs)

-- entries appended are the part behind what was there
part-behind : {A : Type 0} (l m : List A) → part (l ++ m) (length l) (length m) ≡ m
part-behind l m = rw (drop_at l m (length l) refl) (take_all (length m) m (omega arith))

module _ (ls es vs : List (List Float)) (l : Lights) (m : List Float) (n : ℕ) (ne : length ls ≡ n) (le : length es ≡ l.number + 1) where
  -- folded anew: they stand where they were appended
  anew : LightsAt (ls ++ es) (folded_lights l m n) es
  anew = (omega (arith, length-append ls es), rw (← ne, ← le) (part-behind ls es))

  -- what is known of lights that are folded and not marked holds then
  pub lights-settled : (b : Bool) → (l.folded ≡ true → l.changed ≡ false → LightsAt ls l vs)
      → let l' = pick b (folded_lights l m n) l in
      l'.folded ≡ true
      → l'.changed ≡ false → LightsAt (edit (only_if b es) ls) l' (pick b es vs)
  unfolding pick
  lights-settled true h f c = anew
  lights-settled false h f c = h f c

  -- the first light and the light count of a row: of a lit load those of the lights as they stand, else 0
  pub lights-shared : (lit : Bool) (model : List Float) → (l.folded ≡ true → l.changed ≡ false → LightsAt ls l vs)
      → let b = lit && refold l.folded l.changed l.top model in
      let first = pick lit (pick b (folded_lights l m n) l).first 0 in
      let count = pick lit (l.number + 1) 0 in
      let ls' = edit (only_if b es) ls in
      (first + count ≤ length ls') × (part ls' first count ≡ pick lit (pick b es vs) [])
  unfolding pick
  lights-shared false model h = (omega arith, refl)
  lights-shared true model h = go (refold l.folded l.changed l.top model) refl
    where
      go : (b : Bool) → refold l.folded l.changed l.top model ≡ b
          → let ls' = edit (only_if b es) ls in
          let first = (pick b (folded_lights l m n) l).first in
          (first + (l.number + 1) ≤ length ls') × (part ls' first (l.number + 1) ≡ pick b es vs)
      go true e = anew
      go false e = let d = not-due l.folded l.changed l.top model e in h d.0 d.1

-- ---- lookat

abbrev pub LookatAt : List (List Float) → Lookat → List Float → Type 0
LookatAt ls l v = (l.place < length ls) × (get_or ls l.place [] ≡ v)

module _ (ls : List (List Float)) (e v : List Float) (l : Lookat) (m : List Float) (n : ℕ) (ne : length ls ≡ n) where
  anew-look : LookatAt (ls ++ e ∷ []) (folded_lookat l m n) e
  anew-look = (omega (arith, length-append ls (e ∷ [])), rw (← ne) (get_or-append_seam ls e [] []))

  pub lookat-settled : (b : Bool) → (l.folded ≡ true → LookatAt ls l v)
      → let l' = pick b (folded_lookat l m n) l in
      l'.folded ≡ true
      → LookatAt (edit (only_if b (e ∷ [])) ls) l' (pick b e v)
  unfolding pick
  lookat-settled true h f = anew-look
  lookat-settled false h f = h f

  -- the lookat of a row, where there is texgen
  pub lookat-shared : (plain : Bool) (model : List Float) → plain ≡ false → (l.folded ≡ true → LookatAt ls l v)
      → let b = not plain && refold l.folded l.changed l.top model in
      let at = pick plain 0 (pick b (folded_lookat l m n) l).place in
      let ls' = edit (only_if b (e ∷ [])) ls in
      (at < length ls') × (get_or ls' at [] ≡ pick b e v)
  unfolding pick
  lookat-shared true model z h = absurd (false≢true (sym z))
  lookat-shared false model z h = go (refold l.folded l.changed l.top model) refl
    where
      go : (b : Bool) → refold l.folded l.changed l.top model ≡ b → LookatAt (edit (only_if b (e ∷ [])) ls) (pick b (folded_lookat l m n) l) (pick b e v)
      go true q = anew-look
      go false q = h (not-due l.folded l.changed l.top model q).0

-- ---- fog

-- a foggy load: the pair stands at its place
pub fog-settled : (fs : List (List ℤ)) (e : List ℤ) (foggy : Bool) → let fs' = edit (only_if (foggy && not (ltb (find fs e) (length fs))) (e ∷ [])) fs in
    let n = pick foggy (find fs e + 1) 0 in
    (n ≤ length fs') × (fog_shown fs' n ≡ pick foggy (some e) none)
unfolding pick
fog-settled fs e false = (omega arith, refl)
fog-settled fs e true = rw one_more (go (ltb p (length fs)) refl)
  where
    p : ℕ
    p = find fs e

    one_more : find fs e + 1 ≡ suc (find fs e)
    one_more = omega arith

    go : (b : Bool) → ltb p (length fs) ≡ b
        → (suc p ≤ length (edit (only_if (not b) (e ∷ [])) fs)) × (some (get_or (edit (only_if (not b) (e ∷ [])) fs) p []) ≡ some e)
    go true q =
        let h : p < length fs = ltb-true p (length fs) q in
        (h, ap some ((matches-eqbℤ (get_or fs p []) e).0 ((find_first fs e).here h)))
    go false q =
        let z : p ≡ length fs = omega (arith, ltb-false p (length fs) q, (find_first fs e).within) in
        (omega (arith, length-append fs (e ∷ [])), ap some (rw z (get_or-append_seam fs e [] [])))
