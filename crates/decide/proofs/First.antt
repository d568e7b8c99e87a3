-- The first entries of two tables, by the tests that the code makes. Assumes nothing.
use mathlib.Core.Path.{◌≡◌, refl}
use Prim.Native.Nat.{ℕ, ◌≤◌, ◌<◌}
use mathlib.Core.Bool.{Bool, true, false, ◌&&◌}
use mathlib.Core.List.{List}
use lib.Dec.{leb}
use lib.Ieee.{Float}
use borrow.Author.Tests.{le-leb, lt-leb}
use Rattle.numbers.specs.Choice.{pick, unless}
use Rattle.areas.specs.Area.{room}

-- a table with nothing in use has room for one entry, or has not
pub no_room : (w len m : ℕ) → m ≡ room w len → m < 1 → leb 1 (room w len) ≡ false
no_room w len m e h = rw (← e) (lt-leb 1 m h)

pub some-room : (w len m : ℕ) → m ≡ room w len → 1 ≤ m → leb 1 (room w len) ≡ true
some-room w len m e h = rw (← e) (le-leb 1 m h)

-- a and b: the first table has room, and the second; r is answered, and of the areas m and v come m' and v', or x and y where both have room
module _ (a b : Bool) (m v x y : List Float) where
  abbrev Put : ℕ → List Float → List Float → Type 0
  Put r m' v' = (r ≡ unless a 1 (unless b 2 0)) × ((m' ≡ pick (a && b) x m) × (v' ≡ pick (a && b) y v))

  pub short-one : a ≡ false → Put 1 m v
  unfolding pick unless
  short-one e = rw e (refl, (refl, refl))

  pub short-two : a ≡ true → b ≡ false → Put 2 m v
  unfolding pick unless
  short-two e f = rw (e, f) (refl, (refl, refl))

  pub put_both : a ≡ true → b ≡ true → (m' v' : List Float) → m' ≡ x → v' ≡ y → Put 0 m' v'
  unfolding pick unless
  put_both e f m' v' p q = rw (e, f) (refl, (p, q))
