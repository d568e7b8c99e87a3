-- Opening: each way out, by which table has no room. Assumes nothing.
use mathlib.Core.Path.{◌≡◌, refl, sym, ◌∙◌}
use Prim.Native.Nat.{ℕ}
use mathlib.Core.Bool.{Bool, true, false, ◌&&◌}
use mathlib.Core.List.{List}
use lib.ListN.{length}
use lib.Dec.{leb}
use lib.Ieee.{Float}
use Rattle.std.specs.Prelude.{Result, Ok, Err}
use Rattle.areas.specs.Area.{room, put}
use Rattle.areas.specs.Widths.{matrix_width, viewport_width}
use Rattle.areas.proofs.Tables.{write-one}
use Rattle.matrix.specs.Math.{identity, laid}
use Rattle.stage.specs.declared.State.{State}
use Rattle.stage.specs.declared.Answer.{Answer}
use Rattle.stage.specs.declared.Answer.TheVariants.{Done, NoRoom}
use Rattle.stage.specs.With.{with_counts}
use Rattle.stage.specs.Plan.{pick, unless, advance, outcome, carry}
use Rattle.stage.specs.Opening.{zeros, blank, opening_edits, opened, opening_plan, areas12}
use Rattle.stage.proofs.Cascade.{refused, passed}

-- no table has room and has none
refused-kept : {k : ℕ} → ◌≡◌ {A = Result (Unit {0}) ℕ} (Ok tt) (Err k) → ⊥
refused-kept e = cc

-- the areas m and v became m' and v', and r was answered
module _ (m v m' v' : List Float) (r : Result (Unit {0}) ℕ) where
  abbrev Opens : State → Answer → Type 0
  Opens s q = outcome (record { state = s; answer = q }) (m', v') ≡ carry areas12 (opening_plan m v) (blank false) (m, v)

  -- where the first table has room as a says, and the second as b says
  abbrev Put : Bool → Bool → Type 0
  Put a b = (r ≡ unless a (Err 1) (unless b (Err 2) (Ok tt))) × ((m' ≡ pick (a && b) (put m 0 (laid identity)) m) × (v' ≡ pick (a && b) (put v 0 (zeros 6)) v))

  refuses : (a b : Bool) (k : ℕ) → leb 1 (room matrix_width (length m)) ≡ a → leb 1 (room viewport_width (length v)) ≡ b → Put a b → r ≡ Err k → Opens (blank false) (NoRoom k)
  unfolding pick unless opening_plan
  refuses false b k e f (h, (p, q)) n = let x : k ≡ 1 = cc in rw (x, p, q) (refused areas12 _ _ _ _ (NoRoom 1) e)
  refuses true false k e f (h, (p, q)) n = let x : k ≡ 2 = cc in rw (x, p, q) (passed areas12 _ _ _ _ _ _ _ e (refused areas12 _ _ _ _ (NoRoom 2) f))
  refuses true true k e f (h, (p, q)) n = absurd (refused-kept (sym h ∙ n))

  opens : (a b : Bool) → leb 1 (room matrix_width (length m)) ≡ a → leb 1 (room viewport_width (length v)) ≡ b → Put a b → r ≡ Ok tt → Opens (with_counts opened (advance opening_edits (blank false).counts)) Done
  unfolding pick unless opening_plan carry blank
  opens false b e f (h, (p, q)) n = absurd (refused-kept (sym n ∙ h))
  opens true false e f (h, (p, q)) n = absurd (refused-kept (sym n ∙ h))
  opens true true e f (h, (p, q)) n = rw (p, q) (passed areas12 _ _ _ _ _ _ _ e (passed areas12 _ _ _ _ _ _ _ f (rw (write-one matrix_width 0 (laid identity) m, write-one viewport_width 0 (zeros 6) v))))

  module _ (h : Put (leb 1 (room matrix_width (length m))) (leb 1 (room viewport_width (length v)))) (s : State) where
    pub opening-refused : (k : ℕ) → r ≡ Err k → s ≡ with_counts (blank false) (record { matrices = 0; viewports = 0; scales = 0; lights = 0; lookats = 0; fogs = 0; rows = 0; indices = 0; runs = 0 }) → Opens s (NoRoom k)
    unfolding blank
    opening-refused k n e = rw e (refuses _ _ k refl refl h n)

    pub opening-done : r ≡ Ok tt → s ≡ with_counts opened (advance opening_edits (blank false).counts) → Opens s Done
    opening-done n e = rw e (opens _ _ refl refl h n)
