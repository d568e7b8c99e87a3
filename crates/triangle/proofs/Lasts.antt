-- The last run in use: what the code looks at is what the table holds, and what it writes is what the table gets. Assumes nothing.
use mathlib.Core.Path.{◌≡◌, refl, sym, ◌∙◌}
use Prim.Native.Nat.{ℕ, zero, suc, ◌+◌, ◌-◌, ◌*◌, ◌/◌, ◌≤◌}
use native.Mathlib.Omega.{arith}
use mathlib.Core.Bool.{true}
use mathlib.Core.List.{List, [], ◌∷◌, ◌++◌, append_assoc}
use lib.Dec.{eqb}
use lib.ListN.{length, get_or, set, drop, length-append}
use lib.Seq.{take-add, take-take, drop-drop, get_or-take, get_or-drop, set_at}
use borrow.Author.Tests.{le-leb, ne_eqb}
use Rattle.numbers.specs.Choice.{pick}
use Rattle.areas.specs.Widths.{run_width, settings_wide, start_field, count_field}
use Rattle.areas.specs.Area.{room, part, put, entries, write}
use Rattle.areas.proofs.Tables.{room_fits, length-entries, write-one, matches-length, matches-eqb}
use Rattle.decide.specs.Append.{final}
use Rattle.decide.proofs.Ends.{final-is}
use Rattle.triangle.specs.Run.{run_of, longer, closed, same_run}
use Rattle.std.proofs.Common.{Some}
use Rattle.triangle.specs.declared.run.Last.{Last}
use Rattle.triangle.specs.Steps.{seen, last_of, closes, grows}
use Rattle.triangle.proofs.Runs.{part-next}

module _ (w : ℕ) (m q : List ℕ) (some : 1 ≤ w) (r : w ≤ room run_width (length m)) where
  -- a run in use, in an area that holds those in use, is looked at where it lies
  last_is : last_of w m q ≡ Some (seen m ((w - 1) * run_width) q)
  unfolding last_of pick
  last_is = rw (le-leb 1 w some, le-leb w (length m / run_width) (omega arith))

  closes-some : (n : ℕ) → closes (last_of w m q) n ≡ closed 0 (entries run_width w m) n
  unfolding closes closed
  closes-some n =
      rw (
        last_is,
        final-is run_width w m some,
        length-entries run_width w m,
        ne_eqb w 0 (λ e. omega arith),
        get_or-take run_width (drop ((w - 1) * run_width) m) start_field 0 (omega arith),
        get_or-take run_width (drop ((w - 1) * run_width) m) count_field 0 (omega arith),
        get_or-drop ((w - 1) * run_width) m start_field 0,
        get_or-drop ((w - 1) * run_width) m count_field 0,
      )

  same_some : grows (last_of w m q) ≡ same_run 0 (entries run_width w m) q
  unfolding same_run
  same_some = rw (last_is, final-is run_width w m some, take-take settings_wide run_width (drop ((w - 1) * run_width) m) (omega arith))

-- the last run ends where the table says
pub last-closes : (w : ℕ) (m q : List ℕ) (n : ℕ) → w ≤ room run_width (length m) → closes (last_of w m q) n ≡ closed 0 (entries run_width w m) n
unfolding last_of pick closes closed
last-closes zero m q n r = refl
last-closes (suc w) m q n r = closes-some (suc w) m q (omega arith) r n

-- there is one that has the settings where the table says
pub last-same : (w : ℕ) (m q : List ℕ) → length q ≡ settings_wide → w ≤ room run_width (length m) → grows (last_of w m q) ≡ same_run 0 (entries run_width w m) q
unfolding last_of pick same_run
last-same zero m q long r = sym (matches-length eqb [] q (λ e. omega (arith, e)))
last-same (suc w) m q long r = same_some (suc w) m q (omega arith) r

-- a last run is in use
pub last-some-used : (w : ℕ) (m q : List ℕ) (r : Last) → last_of w m q ≡ Some r → 1 ≤ w
unfolding last_of pick
last-some-used zero m q r e = absurd (cc)
last-some-used (suc w) m q r e = omega arith

some-only : {A : Type 0} (x y : A) → Some x ≡ Some y → x ≡ y
some-only x y e = cc

-- ---- what is written

-- the numbers of a run at a place: those of the settings, the start, the count
eight_is : (m : List ℕ) (at : ℕ) → at + run_width ≤ length m → part m at run_width ≡ part m at settings_wide ++ get_or m (at + start_field) 0 ∷ get_or m (at + count_field) 0 ∷ []
eight_is m at h =
    take-add settings_wide 2 (drop at m)
    ∙ rw (drop-drop settings_wide at m, part-next m (at + start_field) (at + count_field) 1 (omega arith) (omega arith), part-next m (at + count_field) (at + run_width) 0 (omega arith) (omega arith))

-- a run of these settings with one triangle more
longer-is : (m q : List ℕ) (at : ℕ) → length q ≡ settings_wide → at + run_width ≤ length m → part m at settings_wide ≡ q → longer 0 (part m at run_width) ≡ run_of q (get_or m (at + start_field) 0) (get_or m (at + count_field) 0 + 3)
longer-is m q at long h e =
    let start = get_or m (at + start_field) 0 in
    let k = get_or m (at + count_field) 0 in
    let n : length (q ++ start ∷ []) ≡ count_field = rw (length-append, long) in
    let s : set ((q ++ start ∷ []) ++ k ∷ []) count_field (k + 3) ≡ (q ++ start ∷ []) ++ (k + 3) ∷ [] = set_at (q ++ start ∷ []) k [] (k + 3) count_field n in
    rw (get_or-take run_width (drop at m) count_field 0 (omega arith), get_or-drop at m count_field 0, eight_is m at h, e) (simp append_assoc at s)

-- the last run grows: the code writes it again whole
pub run-grows : (w : ℕ) (m q : List ℕ) (r : Last) → length q ≡ settings_wide → w ≤ room run_width (length m) → last_of w m q ≡ Some r → r.same ≡ true
    → write run_width (length (entries run_width w m) - 1) (longer 0 (final (entries run_width w m)) ∷ []) m ≡ put m ((w - 1) * run_width) (run_of q r.start (r.count + 3))
run-grows w m q r long fit is same =
    let some : 1 ≤ w = last-some-used w m q r is in
    let at = (w - 1) * run_width in
    let fits : at + run_width ≤ length m = omega (arith, room_fits run_width (length m) w fit) in
    let k : seen m at q ≡ r = some-only _ _ (sym (last_is w m q some fit) ∙ is) in
    let e : part m at settings_wide ≡ q = (matches-eqb (part m at settings_wide) q).0 (rw (← k) at same) in
    rw (← k, final-is run_width w m some, length-entries run_width w m, longer-is m q at long fits e) (write-one run_width (w - 1) _ m)
