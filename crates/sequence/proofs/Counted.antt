-- The counts of a state are the lengths of what is in use, and stay so. Assumes nothing.
use mathlib.Core.Path.{◌≡◌}
use Prim.Native.Nat.{ℕ}
use lib.ListN.{length, length-append, length-set}
use mathlib.Core.List.{List}
use Rattle.stage.specs.declared.State.{State}
use Rattle.stage.specs.Plan.{Edit, keep, grow, patch, Edits, counted}
use Rattle.sequence.specs.Sequence.{Book}
pub use Rattle.sequence.specs.Counted.{lengths, CountsAre, Counted}
use Rattle.sequence.proofs.Turn.{edit, enter}

pub edit-counted : {E : Type 0} (e : Edit E) (t : List E) (n : ℕ) → length t ≡ n → length (edit e t) ≡ counted e n
edit-counted keep t n h = h
edit-counted (grow es) t n h = rw (length-append t es, h)
edit-counted (patch i x) t n h = rw (length-set t i x, h)

-- they are so after any edits
pub counted-then : (k : Book) (t : State) (e : Edits) → Counted k → Counted (enter t e k)
counted-then k t e c =
    record {
      matrices = edit-counted e.matrices k.matrices.used _ c.matrices;
      viewports = edit-counted e.viewports k.viewports.used _ c.viewports;
      scales = edit-counted e.scales k.scales.used _ c.scales;
      lights = edit-counted e.lights k.lights.used _ c.lights;
      lookats = edit-counted e.lookats k.lookats.used _ c.lookats;
      fogs = edit-counted e.fogs k.fogs.used _ c.fogs;
      rows = edit-counted e.rows k.rows.used _ c.rows;
      indices = edit-counted e.drawing.indices k.drawing.indices.used _ c.indices;
      runs = edit-counted e.drawing.runs k.drawing.runs.used _ c.runs;
    }
