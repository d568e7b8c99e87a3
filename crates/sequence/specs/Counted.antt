-- The counts of a state are the lengths of what is in use. Definitions only.
use Rattle.std.specs.Prelude.{◌≡◌, length}
use Rattle.stage.specs.declared.Counts.{Counts}
use Rattle.sequence.specs.Sequence.{Book}

-- how many entries of each table are in use
abbrev pub lengths : Book → Counts
lengths k =
    record {
      matrices = length k.matrices.used;
      viewports = length k.viewports.used;
      scales = length k.scales.used;
      lights = length k.lights.used;
      lookats = length k.lookats.used;
      fogs = length k.fogs.used;
      rows = length k.rows.used;
      indices = length k.drawing.indices.used;
      runs = length k.drawing.runs.used;
    }

-- the counts c are the lengths n
pub record CountsAre (c n : Counts) : Type 0 where
  pub matrices : n.matrices ≡ c.matrices
  pub viewports : n.viewports ≡ c.viewports
  pub scales : n.scales ≡ c.scales
  pub lights : n.lights ≡ c.lights
  pub lookats : n.lookats ≡ c.lookats
  pub fogs : n.fogs ≡ c.fogs
  pub rows : n.rows ≡ c.rows
  pub indices : n.indices ≡ c.indices
  pub runs : n.runs ≡ c.runs

-- the counts are the lengths of what is in use
abbrev pub Counted : Book → Type 0
Counted k = CountsAre k.state.counts (lengths k)
