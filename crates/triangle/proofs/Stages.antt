-- A judge in stages: what a test of the code says of the test that a stage is defined by, and how the stage goes by it. Assumes nothing.
use mathlib.Core.Path.{◌≡◌, refl, sym, ◌∙◌}
use mathlib.Core.Bool.{Bool, true, false}
use mathlib.Core.List.{List}
use Prim.Native.Nat.{ℕ, ◌+◌, ◌≤◌}
use native.Mathlib.Omega.{arith}
use lib.Dec.{leb}
use borrow.Author.Tests.{not-true, not-false, eqb-true, leb-true}
use Rattle.numbers.specs.Choice.{pick, unless}
use Rattle.areas.specs.Area.{room}
use Rattle.areas.specs.Widths.{most, index_width}
use Rattle.triangle.specs.declared.run.Last.{Last}
use Rattle.triangle.specs.declared.verdict.Tables.{Tables}
use Rattle.std.proofs.Common.{Option, None, Some, Ok}
use Rattle.triangle.specs.Steps.{closes, grows, begun, run_for}

-- `if !f() {` was taken, or left, where f answers b
pub no : (r b : Bool) → r ≡ false → r ≡ b → b ≡ false
no r b p q = sym q ∙ p

pub yes : (r b : Bool) → r ≡ true → r ≡ b → b ≡ true
yes r b p q = sym q ∙ p

-- a stage answers its own where its test fails, and goes on where it holds
pub unless-no : {A : Type 0} (b : Bool) (v rest : A) → b ≡ false → v ≡ unless b v rest
unfolding unless
unless-no b v rest e = rw e

pub unless-yes : {A : Type 0} (b : Bool) (v w rest : A) → b ≡ true → v ≡ rest → v ≡ unless b w rest
unfolding unless
unless-yes b v w rest e h = rw e h

pub pick_yes : {A : Type 0} (b : Bool) (v rest : A) → b ≡ true → v ≡ pick b v rest
unfolding pick
pick_yes b v rest e = rw e

pub pick_no : {A : Type 0} (b : Bool) (v w rest : A) → b ≡ false → v ≡ rest → v ≡ pick b w rest
unfolding pick
pick_no b v w rest e h = rw e h

pub ruleset stages = (no, yes, not-true, not-false, unless-no, unless-yes, pick_yes, pick_no)

-- the last run grows, or the triangle gets a run of its own
pub run-grown : (rows : List ℕ) (t : Tables) (last : Option Last) (r : Last) → last ≡ Some r → r.same ≡ true → Ok (record { rows = rows; more = 0; start = r.start; count = r.count + 3 }) ≡ run_for rows t last
unfolding pick
run-grown rows t last r e s = rw (e, s)

pub run-begun : (rows : List ℕ) (t : Tables) (last : Option Last) → grows last ≡ false → run_for rows t last ≡ begun rows t
unfolding pick
run-begun rows t None e = refl
run-begun rows t (Some r) e = rw e

-- a run that is to grow has a count that may grow
pub grow-fits : (last : Option Last) (r : Last) (n len : ℕ) → last ≡ Some r → closes last n ≡ true → leb (n + 3) (room index_width len) ≡ true → r.count + 3 ≤ most
unfolding closes
grow-fits last r n len is e f =
    let sum : r.start + r.count ≡ n = eqb-true (r.start + r.count) n (rw is at e) in
    let fits : n + 3 ≤ room index_width len = leb-true (n + 3) (room index_width len) f in
    omega arith
