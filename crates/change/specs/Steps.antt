-- This file serves private steps of the code: who reads the promises need not read it. Definitions only.
-- The judge of a change: what is refused, in the order of REFERENCE 3.2, and the numbers that an accepted change comes to.
use Rattle.std.specs.Prelude.{◌≡◌, ◌≤◌, List, [], ◌∷◌, ℕ, ◌+◌, ◌-◌, ◌*◌, min, length, Float, leb, ltb, Option, Some, None, Result, Ok, Err}
use Rattle.numbers.specs.Choice.{pick, unless}
use Rattle.areas.specs.Area.{room, part, write}
use Rattle.areas.specs.Widths.{most, scale_width, float_width, word_width}
use Rattle.change.specs.Decoded.{appends, floats_after, words_after, unit_entry}
use Rattle.change.specs.declared.Change.{Change}
use Rattle.change.specs.declared.judge.Slot.{Slot}
use Rattle.change.specs.declared.judge.Tables.{Tables}
use Rattle.change.specs.declared.judge.Moved.{Moved}
use Rattle.change.specs.declared.judge.Refusal.{Refusal}
use Rattle.change.specs.declared.judge.Refusal.TheVariants.{Unknown, NoRow, Short, Full}

-- what the judge finds: the change and what it comes to, or why it is refused
abbrev pub Verdict : Type 0
Verdict = Result (Change × Moved) Refusal

-- how many rows two areas of so many numbers have room for: the lesser room counts
abbrev pub row_room : ℕ → ℕ → ℕ
row_room floats words = min (room float_width floats) (room word_width words)

-- the counts of the two tables are in their range, as a sound state's are
abbrev pub InRange : Tables → Type 0
InRange t = (t.scales ≤ most) × (t.rows ≤ most)

-- a drawn slot's row is the copy at the end of the rows; a texture change has the unit entry, at the end of the scales where it is new
unfoldable pub comes_to : Change → Slot → Tables → Moved
comes_to c s t =
    record {
      row = pick s.drawn t.rows s.row;
      rows = pick s.drawn (t.rows + 1) t.rows;
      scales = pick (appends c t.unit) (t.scales + 1) t.scales;
      unit = pick (appends c t.unit) (t.scales + 1) t.unit;
    }

-- 8 for tables 3 and 7, then 9 for both
unfoldable pub roomy : Change → Slot → Tables → Verdict
roomy c s t =
    unless (leb t.scales t.scaleroom) (Err (Short 3))
    (unless (leb t.rows t.rowroom) (Err (Short 7))
    (unless (leb (comes_to c s t).scales t.scaleroom) (Err (Full 3))
    (unless (leb (comes_to c s t).rows t.rowroom) (Err (Full 7))
    (Ok (c, comes_to c s t)))))

-- 5, then 10 for the slot's row, then the areas
unfoldable pub change_judged : Option Change → Slot → Tables → Verdict
change_judged None s t = Err Unknown
change_judged (Some c) s t = unless s.loaded (Err Unknown) (unless (ltb s.row t.rows) (Err NoRow) (roomy c s t))

-- the judge was told the rooms of these areas: scales, and the two of the rows
abbrev pub RoomsOf : Tables → List Float → List Float → List ℕ → Type 0
RoomsOf t l f w = (t.scaleroom ≡ room scale_width (length l)) × (t.rowroom ≡ row_room (length f) (length w))

-- the three areas once a verdict is carried out
abbrev pub remade : Verdict → Slot → Tables → List Float × List Float × List ℕ → List Float × List Float × List ℕ
remade (Err r) s t a = a
remade (Ok (c, m)) s t (l, f, w) = (
  pick (ltb t.scales m.scales) (write scale_width t.scales (unit_entry ∷ []) l) l,
  write float_width m.row (floats_after c (part f (s.row * float_width) float_width) ∷ []) f,
  write word_width m.row (words_after c (m.unit - 1) (part w (s.row * word_width) word_width) ∷ []) w,
)
