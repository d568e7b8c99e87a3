-- EACH INDEX IN USE IS HELD BY ONE RUN, and by no other; so the run of a triangle is a fact: `one-run` and `own-run` of proofs/Finished.antt. Assumes nothing.
use mathlib.Core.Path.{◌≡◌, refl, sym, ap, ◌∙◌}
use Prim.Native.Nat.{ℕ, zero, suc, ◌+◌, ◌*◌, ◌%◌, ◌≤◌, ◌<◌}
use native.Mathlib.Omega.{arith}
use mathlib.Core.Bool.{Bool, true, false}
use native.Mathlib.Decide.{dec_lt}
use mathlib.Core.List.{List, [], ◌∷◌}
use lib.ListN.{length, get_or, take}
use lib.Dec.{leb}
use borrow.Author.Tests.{le-leb, leb-true}
use Rattle.areas.specs.Widths.{settings_wide, start_field}
use Rattle.stage.proofs.Judged.{and_left, and_right}
use Rattle.finished.specs.Shown.{holds, settings_at}
use Rattle.finished.specs.Statement.{Has, HeldBy, OneRun}
use Rattle.finished.proofs.Lists.{and_both, pick_true, pick-false}
use Rattle.finished.proofs.Running.{reach, Tiled}

-- no run of some that lie behind each other begins before the first
tiled-start : (a : ℕ) (rs : List (List ℕ)) (n : ℕ) → Tiled a rs n → (m : ℕ) → m < length rs → a ≤ get_or (get_or rs m []) start_field 0
tiled-start a [] n t m h = absurd (omega arith)
tiled-start a (r ∷ rs) n t zero h = omega (arith, t.0)
tiled-start a (r ∷ rs) n t (suc m) h = omega (arith, t.0, tiled-start (reach 0 r) rs n t.2 m (omega arith))

-- each begins and ends at a whole triangle
tiled-three : (a : ℕ) (rs : List (List ℕ)) (n : ℕ) → Tiled a rs n → a % 3 ≡ 0 → (m : ℕ) → m < length rs
    → (get_or (get_or rs m []) start_field 0 % 3 ≡ 0) × (reach 0 (get_or rs m []) % 3 ≡ 0)
tiled-three a [] n t e m h = absurd (omega arith)
tiled-three a (r ∷ rs) n t e zero h = (omega (arith, t.0), omega (arith, t.0, t.1))
tiled-three a (r ∷ rs) n t e (suc m) h = tiled-three (reach 0 r) rs n t.2 (omega (arith, t.0, t.1)) m (omega arith)

pub tiled-one : (a : ℕ) (rs : List (List ℕ)) (n : ℕ) → Tiled a rs n → (i : ℕ) → a ≤ i → i < n → OneRun rs i
tiled-one a [] n t i low high = absurd (omega (arith, t))
tiled-one a (r ∷ rs) n t i low high = go (dec_lt i (reach 0 r)) (tiled-one (reach 0 r) rs n t.2 i)
  where
    here : i < reach 0 r → (m : ℕ) → m < length (r ∷ rs) → Has (get_or (r ∷ rs) m []) i → m ≡ 0
    here e zero h q = refl
    here e (suc m) h q = absurd (omega (arith, q.0, tiled-start (reach 0 r) rs n t.2 m (omega arith)))

    there : reach 0 r ≤ i → (R : OneRun rs i) (m : ℕ) → m < length (r ∷ rs) → Has (get_or (r ∷ rs) m []) i → m ≡ suc R.run
    there e R zero h q = absurd (omega (arith, q.1))
    there e R (suc m) h q = ap suc (R.held.only m (omega arith) q)

    go : Dec (i < reach 0 r) → (reach 0 r ≤ i → i < n → OneRun rs i) → OneRun (r ∷ rs) i
    go (yes e) f = record { run = 0; held = record { in_use = omega arith; has = (omega (arith, t.0), e); only = here e } }
    go (no e) f =
        let b : reach 0 r ≤ i = omega arith in
        let R : OneRun rs i = f b high in
        record { run = suc R.run; held = record { in_use = omega (arith, R.held.in_use); has = R.held.has; only = there b R } }

-- the settings at i are those of the only run that holds the three indices from i on
settings-of : (rs : List (List ℕ)) (i j : ℕ) → j < length rs → holds 0 (get_or rs j []) i ≡ true → ((m : ℕ) → m < length rs → holds 0 (get_or rs m []) i ≡ true → m ≡ j)
    → settings_at 0 rs i ≡ take settings_wide (get_or rs j [])
unfolding settings_at
settings-of [] i j h e only = absurd (omega arith)
settings-of (r ∷ rs) i zero h e only = pick_true (holds 0 r i) (take settings_wide r) (settings_at 0 rs i) e
settings-of (r ∷ rs) i (suc j) h e only =
    pick-false (holds 0 r i) (take settings_wide r) (settings_at 0 rs i) (not_first (holds 0 r i) refl)
    ∙ settings-of rs i j (omega arith) e (λ m k q. let z = only (suc m) (omega arith) q in omega (arith, z))
  where
    not_first : (b : Bool) → holds 0 r i ≡ b → holds 0 r i ≡ false
    not_first true q = absurd (let z = only 0 (omega arith) q in omega (arith, z))
    not_first false q = q

module _ (rs : List (List ℕ)) (n : ℕ) (t : Tiled 0 rs n) (k : ℕ) (low : 3 * k + 3 ≤ n) where
  -- the run that has the first of the three indices has all
  R : OneRun rs (3 * k)
  R = tiled-one 0 rs n t (3 * k) (omega arith) (omega arith)

  pub own : ℕ
  own = R.run

  abbrev r : List ℕ
  r = get_or rs own []

  spans : (get_or r start_field 0 ≤ 3 * k) × (3 * k + 3 ≤ reach 0 r)
  unfolding own
  spans =
      let z = tiled-three 0 rs n t (omega arith) R.run R.held.in_use in
      let q = R.held.has in
      (q.0, omega (arith, z.1, q.1))

  pub own_held : (i : ℕ) → i < 3 → HeldBy rs own (3 * k + i)
  unfolding own
  own_held i h =
      let S : OneRun rs (3 * k + i) = tiled-one 0 rs n t (3 * k + i) (omega arith) (omega arith) in
      let q : Has r (3 * k + i) = (omega (arith, spans.0), omega (arith, spans.1)) in
      record { in_use = R.held.in_use; has = q; only = λ m l z. S.held.only m l z ∙ sym (S.held.only R.run R.held.in_use q) }

  -- a run that holds the three has the first
  first-had : (m : ℕ) → holds 0 (get_or rs m []) (3 * k) ≡ true → Has (get_or rs m []) (3 * k)
  first-had m e =
      let a : Bool = leb (get_or (get_or rs m []) start_field 0) (3 * k) in
      let b : Bool = leb (3 * k + 3) (reach 0 (get_or rs m [])) in
      (leb-true _ _ (and_left a b e), omega (arith, leb-true (3 * k + 3) (reach 0 (get_or rs m [])) (and_right a b e)))

  pub own-settings : settings_at 0 rs (3 * k) ≡ take settings_wide (get_or rs own [])
  unfolding own
  own-settings =
      settings-of rs (3 * k) R.run R.held.in_use
      (and_both _ _ (le-leb (get_or r start_field 0) (3 * k) spans.0) (le-leb (3 * k + 3) (reach 0 r) spans.1)) (λ m l e. R.held.only m l (first-had m e))
