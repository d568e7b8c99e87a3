-- The runs of a draw: what holds a triangle goes on holding it, and the new one is held by its own settings. Assumes nothing.
use mathlib.Core.Path.{◌≡◌, refl, sym, ap, ◌∙◌}
use Prim.Native.Nat.{ℕ, zero, suc, ◌+◌, ◌-◌, ◌%◌, ◌≤◌, ◌<◌}
use native.Mathlib.Omega.{arith}
use mathlib.Core.Bool.{Bool, true, false, ◌&&◌, ◌||◌}
use mathlib.Core.List.{List, [], ◌∷◌, ◌++◌}
use lib.ListN.{length, take, drop, get_or, set, length-append, length-set, drop_of_length-le, get_or-eq_default}
use lib.Seq.{split_at, set_split, get_or-take, length-take-le, take_at, take-set-le, get_or-append_seam, get_or-append-add, get_or-set_same, get_or-set_other}
use lib.Dec.{leb, eqb}
use borrow.Author.Tests.{le-leb, lt-leb, eqb-true, ne_eqb}
use Rattle.areas.specs.Area.{matches}
use Rattle.areas.specs.Widths.{run_width, settings_wide, start_field, count_field}
use Rattle.areas.proofs.Tables.{matches-eqb}
use Rattle.decide.specs.Append.{final}
use Rattle.triangle.specs.Run.{run_of, longer, closed, same_run}
use Rattle.stage.specs.Plan.{pick}
use Rattle.stage.specs.Draw.{run_edit}
use Rattle.sequence.proofs.Turn.{edit}
use Rattle.finished.specs.Shown.{holds, settings_at}
use Rattle.finished.proofs.Lists.{pick_true, pick-false, pick-case, and_both, and-fails, snoc-cases}

-- where a run ends that begins at place o of its entry
abbrev pub reach : ℕ → List ℕ → ℕ
reach o r = get_or r (o + start_field) 0 + get_or r (o + count_field) 0

-- every run ends at n or before
abbrev pub Reached : ℕ → List (List ℕ) → ℕ → Type 0
Reached o rs n = (j : ℕ) → j < length rs → reach o (get_or rs j []) ≤ n

-- runs one behind the other from index a to n, each of whole triangles
abbrev pub Tiled : ℕ → List (List ℕ) → ℕ → Type 0
Tiled a [] n = a ≡ n
Tiled a (r ∷ rs) n = (get_or r start_field 0 ≡ a) × (get_or r count_field 0 % 3 ≡ 0) × Tiled (reach 0 r) rs n

-- so each ends at n or before
tiled-le : (a : ℕ) (rs : List (List ℕ)) (n : ℕ) → Tiled a rs n → a ≤ n
tiled-le a [] n t = omega (arith, t)
tiled-le a (r ∷ rs) n t = omega (arith, t.0, tiled-le (reach 0 r) rs n t.2)

tiled-reached : (a : ℕ) (rs : List (List ℕ)) (n : ℕ) → Tiled a rs n → Reached 0 rs n
tiled-reached a [] n t j h = absurd (omega arith)
tiled-reached a (r ∷ rs) n t zero h = tiled-le (reach 0 r) rs n t.2
tiled-reached a (r ∷ rs) n t (suc j) h = tiled-reached (reach 0 r) rs n t.2 j (omega arith)

-- one run more, or the last one longer by a triangle
tiled-grow : (a : ℕ) (rs : List (List ℕ)) (n : ℕ) (q : List ℕ) → Tiled a rs n → get_or q start_field 0 ≡ n → get_or q count_field 0 ≡ 3 → Tiled a (rs ++ q ∷ []) (n + 3)
tiled-grow a [] n q t s c = (s ∙ sym t, rw c, omega arith)
tiled-grow a (r ∷ rs) n q t s c = (t.0, t.1, tiled-grow (reach 0 r) rs n q t.2 s c)

tiled-last : (a : ℕ) (rs : List (List ℕ)) (n : ℕ) (r q : List ℕ) → Tiled a (rs ++ r ∷ []) n → get_or q start_field 0 ≡ get_or r start_field 0 → get_or q count_field 0 ≡ get_or r count_field 0 + 3
    → Tiled a (rs ++ q ∷ []) (n + 3)
tiled-last a [] n r q t s c = (s ∙ t.0, omega (arith, t.1, c), omega (arith, t.2, s, c))
tiled-last a (x ∷ rs) n r q t s c = (t.0, t.1, tiled-last (reach 0 x) rs n r q t.2 s c)

-- the settings of a run
abbrev own_of : ℕ → List ℕ → List ℕ
own_of o r = take settings_wide (drop o r)

module _ (o : ℕ) where
  settings-grow : (rs : List (List ℕ)) (r : List ℕ) (i : ℕ) → holds o r i ≡ false → settings_at o (rs ++ r ∷ []) i ≡ settings_at o rs i
  unfolding settings_at
  settings-grow [] r i e = pick-false (holds o r i) (own_of o r) [] e
  settings-grow (x ∷ rs) r i e = ap (pick (holds o x i) (own_of o x)) (settings-grow rs r i e)

  settings-last : (rs : List (List ℕ)) (r q : List ℕ) (i : ℕ) → holds o q i ≡ holds o r i → own_of o q ≡ own_of o r → settings_at o (rs ++ q ∷ []) i ≡ settings_at o (rs ++ r ∷ []) i
  unfolding settings_at
  settings-last [] r q i e f = rw (e, f)
  settings-last (x ∷ rs) r q i e f = ap (pick (holds o x i) (own_of o x)) (settings-last rs r q i e f)

  settings-new : (rs : List (List ℕ)) (q : List ℕ) (i : ℕ) → Reached o rs i → holds o q i ≡ true → settings_at o (rs ++ q ∷ []) i ≡ own_of o q
  unfolding settings_at
  settings-new [] q i h c = pick_true (holds o q i) (own_of o q) [] c
  settings-new (x ∷ rs) q i h c =
      pick-false (holds o x i) (own_of o x) _
      (and-fails (leb (get_or x (o + start_field) 0) i) (leb (i + 3) (reach o x)) (lt-leb (i + 3) (reach o x) (omega (arith, h 0 (omega arith)))))
      ∙ settings-new rs q i (λ j l. h (suc j) (omega arith)) c

-- every run has its numbers
abbrev pub Whole : List (List ℕ) → Type 0
Whole rs = (j : ℕ) → j < length rs → length (get_or rs j []) ≡ run_width

-- what a draw owes of the runs: rs before, qs after, n indices before it, its settings q
pub record Extended (rs qs : List (List ℕ)) (n : ℕ) (q : List ℕ) : Type 0 where
  pub tiled : Tiled 0 qs (n + 3)
  pub whole : Whole qs
  pub old : (i : ℕ) → i + 3 ≤ n → settings_at 0 qs i ≡ settings_at 0 rs i
  pub new : settings_at 0 qs n ≡ q

-- the numbers of a new run
run-start : (q : List ℕ) (n c : ℕ) → length q ≡ settings_wide → get_or (run_of q n c) start_field 0 ≡ n
run-start q n c l = ap (λ (k : ℕ). get_or (run_of q n c) k 0) (sym l) ∙ get_or-append_seam q n (c ∷ []) 0

run-count : (q : List ℕ) (n c : ℕ) → length q ≡ settings_wide → get_or (run_of q n c) count_field 0 ≡ c
run-count q n c l =
    let e : count_field ≡ length q + 1 = omega arith in
    ap (λ (k : ℕ). get_or (run_of q n c) k 0) e ∙ get_or-append-add q (n ∷ c ∷ []) 1 0

extended-grow : (rs : List (List ℕ)) (n : ℕ) (q : List ℕ) → length q ≡ settings_wide → Tiled 0 rs n → Whole rs → Extended rs (rs ++ run_of q n 3 ∷ []) n q
extended-grow rs n q l t w =
    let a = run-start q n 3 l in
    let b = run-count q n 3 l in
    record {
      tiled = tiled-grow 0 rs n (run_of q n 3) t a b;
      whole = snoc-cases (λ _ r. length r ≡ run_width) rs (run_of q n 3) [] w (omega (arith, length-append q (n ∷ 3 ∷ [])));
      old = λ i k. settings-grow 0 rs (run_of q n 3) i (and_first (leb (get_or (run_of q n 3) start_field 0) i) _ (lt-leb (get_or (run_of q n 3) start_field 0) i (omega arith)));
      new = settings-new 0 rs (run_of q n 3) n (tiled-reached 0 rs n t) (and_both _ _ (le-leb (get_or (run_of q n 3) start_field 0) n (omega arith)) (le-leb (n + 3) (reach 0 (run_of q n 3)) (omega arith)))
          ∙ take_at q (n ∷ 3 ∷ []) settings_wide l;
    }
  where
    and_first : (s t : Bool) → s ≡ false → s && t ≡ false
    and_first s t e = rw e

-- the last run, with one triangle more
module _ (rs : List (List ℕ)) (n : ℕ) (q : List ℕ) (t : Tiled 0 rs n) (some-run : 0 < length rs) (same : take settings_wide (final rs) ≡ q) (full : reach 0 (final rs) ≡ n) (whole : Whole rs) where
  wide : length (final rs) ≡ run_width
  wide = whole (length rs - 1) (omega arith)

  front-whole : Whole (take (length rs - 1) rs)
  front-whole j l =
      let k : j < length rs - 1 = omega (arith, length-take-le (length rs - 1) rs (omega arith)) in
      rw (get_or-take (length rs - 1) rs j [] k) (whole j (omega arith))

  r : List ℕ
  r = longer 0 (final rs)

  front : List (List ℕ)
  front = take (length rs - 1) rs

  rest : drop (suc (length rs - 1)) rs ≡ []
  rest = drop_of_length-le rs {i = suc (length rs - 1)} (omega arith)

  cut : rs ≡ front ++ final rs ∷ []
  unfolding front
  cut = split_at rs (length rs - 1) [] (omega arith) ∙ rw rest

  after : set rs (length rs - 1) r ≡ front ++ r ∷ []
  unfolding front r
  after = set_split rs (length rs - 1) (longer 0 (final rs)) (omega arith) ∙ rw rest

  front-reached : Reached 0 front n
  unfolding front
  front-reached j l =
      let k : j < length rs - 1 = omega (arith, length-take-le (length rs - 1) rs (omega arith)) in
      rw (get_or-take (length rs - 1) rs j [] k) (tiled-reached 0 rs n t j (omega arith))

  start : get_or r start_field 0 ≡ get_or (final rs) start_field 0
  unfolding r
  start = get_or-set_other (final rs) count_field start_field (get_or (final rs) count_field 0 + 3) 0 (λ e. omega (arith, e))

  count : get_or r count_field 0 ≡ get_or (final rs) count_field 0 + 3
  unfolding r
  count = get_or-set_same (final rs) count_field (get_or (final rs) count_field 0 + 3) 0 (omega (arith, wide))

  six : take settings_wide r ≡ take settings_wide (final rs)
  unfolding r
  six = take-set-le settings_wide (final rs) count_field (get_or (final rs) count_field 0 + 3) (omega arith)

  extended-last : Extended rs (set rs (length rs - 1) r) n q
  unfolding front r
  extended-last =
      rw after
      (record {
        tiled = tiled-last 0 front n (final rs) r (rw cut at t) start count;
        whole = snoc-cases (λ _ x. length x ≡ run_width) front r [] front-whole (simp length-set wide);
        old = λ i l.
            let e : holds 0 r i ≡ holds 0 (final rs) i =
            rw (start, count, le-leb (i + 3) (reach 0 (final rs)) (omega arith), le-leb (i + 3) (get_or (final rs) start_field 0 + (get_or (final rs) count_field 0 + 3)) (omega arith)) in
            settings-last 0 front (final rs) r i e six ∙ ap (λ (x : List (List ℕ)). settings_at 0 x i) (sym cut);
        new = settings-new 0 front r n front-reached (and_both _ _ (le-leb (get_or r start_field 0) n (omega (arith, start))) (le-leb (n + 3) (reach 0 r) (omega (arith, start, count)))) ∙ six ∙ same;
      })

-- what a draw does to the runs, where they are closed
pub extended : (rs : List (List ℕ)) (n : ℕ) (q : List ℕ) → length q ≡ settings_wide → Tiled 0 rs n → Whole rs → closed 0 rs n ≡ true
    → Extended rs (edit (run_edit rs n q) rs) n q
unfolding run_edit same_run closed r
extended rs n q l t w c = pick-case (λ e. Extended rs (edit e rs) n q) (matches eqb (take settings_wide (final rs)) q) (λ e. grows ((matches-eqb (take settings_wide (final rs)) q).0 e)) (λ _. extended-grow rs n q l t w)
  where
    some-run : take settings_wide (final rs) ≡ q → (k : ℕ) → length rs ≡ k → 0 < length rs
    some-run e zero z = absurd (omega (arith, l, ap length (sym e), none))
      where
        none : length (take settings_wide (final rs)) ≡ 0
        none = rw (get_or-eq_default rs [] {n = length rs - 1} (omega (arith, z)))
    some-run e (suc k) z = omega (arith, z)

    ends : 0 < length rs → reach 0 (final rs) ≡ n
    ends k = eqb-true _ _ (or_right (eqb (length rs) 0) (eqb (reach 0 (final rs)) n) (ne_eqb (length rs) 0 (λ z. omega (arith, z))) c)
      where
        or_right : (s t : Bool) → s ≡ false → s || t ≡ true → t ≡ true
        or_right s t e f = rw e at f

    grows : take settings_wide (final rs) ≡ q → Extended rs (set rs (length rs - 1) (longer 0 (final rs))) n q
    grows e = let k = some-run e (length rs) refl in extended-last rs n q t k e (ends k) w
