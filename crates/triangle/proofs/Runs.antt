-- A run in an area, number by number. Assumes nothing.
use mathlib.Core.Path.{◌≡◌, refl}
use Prim.Native.Nat.{ℕ, suc, ◌+◌, ◌-◌, ◌*◌, ◌/◌, ◌≤◌, ◌<◌}
use native.Mathlib.Omega.{arith}
use mathlib.Core.Bool.{Bool, true, false, ◌&&◌, ◌||◌, and-true, and-false}
use mathlib.Core.List.{List, [], ◌∷◌}
use lib.Dec.{eqb, leb, ltb}
use borrow.Author.Tests.{le-leb, lt-leb, ltb-true, ltb-false, eqb-true, eqb-false}
use lib.ListN.{length, get_or, set}
use lib.Seq.{drop-cons}
use Rattle.numbers.specs.Choice.{pick}
use Rattle.areas.specs.Area.{part, put, matches}
use Rattle.areas.specs.Widths.{run_width}
use Rattle.triangle.specs.declared.run.Last.{Last}
use Rattle.triangle.specs.declared.run.Settings.{Settings}
use Rattle.std.proofs.Common.{None, Some}
use Rattle.triangle.specs.Steps.{six, seen, last_of}

-- the next number of a part
pub part-next : (l : List ℕ) (at k n : ℕ) → at < length l → suc at ≡ k → part l at (suc n) ≡ get_or l at 0 ∷ part l k n
part-next l at k n h e = rw (drop-cons l at 0 h, e)

-- settings are equal just where their numbers match
pub six-match : (p q : Settings) → eqb p.material q.material && (eqb p.mode q.mode && (eqb p.fog q.fog && (eqb p.depth q.depth && (eqb p.cull q.cull && eqb p.unclipped q.unclipped)))) ≡ matches eqb (six p) (six q)
unfolding matches
six-match p q = simp and-true

-- one store more behind those put
put_next : (l : List ℕ) (at k v : ℕ) (vs : List ℕ) → suc at ≡ k → put (set l at v) k vs ≡ put l at (v ∷ vs)
unfolding put
put_next l at k v vs e = rw (← e)

put_last : (l : List ℕ) (at v : ℕ) → set l at v ≡ put l at (v ∷ [])
unfolding put
put_last l at v = refl

-- stores of three numbers, and of eight, from a place on
pub put_three : (l : List ℕ) (at a b c : ℕ) → set (set (set l at a) (at + 1) b) (at + 2) c ≡ put l at (a ∷ b ∷ c ∷ [])
put_three l at a b c =
    rw (put_last _ (at + 2) c, put_next _ (at + 1) (at + 2) b _ (omega arith), put_next l at (at + 1) a _ (omega arith))

pub put-eight : (l : List ℕ) (at a b c d e f g h : ℕ)
    → set (set (set (set (set (set (set (set l at a) (at + 1) b) (at + 2) c) (at + 3) d) (at + 4) e) (at + 5) f) (at + 6) g) (at + 7) h
    ≡ put l at (a ∷ b ∷ c ∷ d ∷ e ∷ f ∷ g ∷ h ∷ [])
put-eight l at a b c d e f g h =
    rw (
      put_last _ (at + 7) h,
      put_next _ (at + 6) (at + 7) g _ (omega arith),
      put_next _ (at + 5) (at + 6) f _ (omega arith),
      put_next _ (at + 4) (at + 5) e _ (omega arith),
      put_next _ (at + 3) (at + 4) d _ (omega arith),
      put_next _ (at + 2) (at + 3) c _ (omega arith),
      put_next _ (at + 1) (at + 2) b _ (omega arith),
      put_next l at (at + 1) a _ (omega arith),
    )

-- the last run as the code finds it: none where none is in use, or the area holds fewer
pub last_none : (n : ℕ) (l q : List ℕ) → eqb n 0 || ltb (length l / run_width) n ≡ true → None ≡ last_of n l q
unfolding last_of pick
last_none n l q e = go (eqb n 0) (ltb (length l / run_width) n) refl refl e
  where
    go : (a b : Bool) → eqb n 0 ≡ a → ltb (length l / run_width) n ≡ b → a || b ≡ true → None ≡ pick (leb 1 n && leb n (length l / run_width)) (Some (seen l ((n - 1) * run_width) q)) None
    go true b ea eb e = rw (eqb-true n 0 ea)
    go false true ea eb e = rw (lt-leb n (length l / run_width) (ltb-true _ _ eb), and-false)
    go false false ea eb e = absurd (cc)

-- else there is one, and it lies in the area
pub some-run : (n len : ℕ) → eqb n 0 || ltb (len / run_width) n ≡ false → (1 ≤ n) × (n ≤ len / run_width)
some-run n len e = go (eqb n 0) (ltb (len / run_width) n) refl refl e
  where
    go : (a b : Bool) → eqb n 0 ≡ a → ltb (len / run_width) n ≡ b → a || b ≡ false → (1 ≤ n) × (n ≤ len / run_width)
    go true b ea eb e = absurd (cc)
    go false true ea eb e = absurd (cc)
    go false false ea eb e = let z = eqb-false n 0 ea in (omega arith, ltb-false _ _ eb)

pub last_some : (n p : ℕ) (l q : List ℕ) (r : Last) → eqb n 0 || ltb (length l / run_width) n ≡ false → p ≡ (n - 1) * run_width → r ≡ seen l p q → Some r ≡ last_of n l q
unfolding last_of pick
last_some n p l q r e at s = let f = some-run n (length l) e in rw (s, at, le-leb 1 n f.0, le-leb n (length l / run_width) f.1)
