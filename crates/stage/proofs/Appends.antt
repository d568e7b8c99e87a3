-- An entry appended unless the last one equals it, as a plan. Assumes nothing.
use mathlib.Core.Path.{◌≡◌}
use Prim.Native.Nat.{ℕ, ◌+◌, ◌≤◌}
use native.Mathlib.Nat.{add-zero}
use mathlib.Core.Bool.{true, false}
use mathlib.Core.List.{List, [], ◌∷◌}
use lib.ListN.{length}
use lib.Dec.{leb}
use lib.Ieee.{Float, eq}
use borrow.Author.Tests.{le-leb}
use Rattle.areas.specs.Area.{entries, room, matches}
use Rattle.areas.proofs.Tables.{length-entries}
use Rattle.decide.specs.Append.{final}
use Rattle.stage.specs.Plan.{Edit, keep, grow, Plan, refuse, unless, pick, table, appended, appending}

module _ (k w n : ℕ) (l e : List Float) (p : Edit (List Float) → Plan) where
  pub append-kept : matches eq (final (entries w n l)) e ≡ true → n ≤ room w (length l) → appending k (table w n l) e p ≡ p keep
  unfolding appending appended pick unless
  append-kept s h = rw (s, length-entries w n l, add-zero, le-leb n (room w (length l)) h)

  pub append-grew : matches eq (final (entries w n l)) e ≡ false → leb (n + 1) (room w (length l)) ≡ true → appending k (table w n l) e p ≡ p (grow (e ∷ []))
  unfolding appending appended pick unless
  append-grew s h = rw (s, length-entries w n l, h)

  pub append-full : matches eq (final (entries w n l)) e ≡ false → leb (n + 1) (room w (length l)) ≡ false → appending k (table w n l) e p ≡ refuse 9 (k ∷ [])
  unfolding appending appended pick unless
  append-full s h = rw (s, length-entries w n l, h)
