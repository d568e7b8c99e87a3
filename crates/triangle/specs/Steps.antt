-- This file serves private steps of the code: who reads the promises need not read it. Definitions only.
-- What a draw looks at, as the code holds it, and the judge over those numbers, in the order of REFERENCE 3.2.
use Rattle.std.specs.Prelude.{ℕ, ◌+◌, ◌-◌, ◌*◌, ◌/◌, Bool, true, false, ◌&&◌, List, [], ◌∷◌, Option, Some, None, ok_or, Result, Ok, Err, length, get_or, leb, ltb, eqb}
use Rattle.std.specs.Bool.{then_some}
use Rattle.numbers.specs.Choice.{pick, unless}
use Rattle.areas.specs.Area.{room, part, matches}
use Rattle.areas.specs.Widths.{index_width, run_width, settings_wide, start_field, count_field}
use Rattle.decide.specs.declared.family.Family.{Family}
use Rattle.triangle.specs.declared.run.Settings.{Settings}
use Rattle.triangle.specs.declared.run.Last.{Last}
use Rattle.triangle.specs.declared.slot.Corner.{Corner}
use Rattle.triangle.specs.declared.slot.Sides.{Sides}
use Rattle.triangle.specs.declared.verdict.Tables.{Tables}
use Rattle.triangle.specs.declared.verdict.Record.{Record}
use Rattle.triangle.specs.declared.verdict.Refusal.{Refusal}
use Rattle.triangle.specs.declared.verdict.Refusal.TheVariants.{Unsound, Never, Short, Full}
use Rattle.triangle.specs.Slot.{both, culls, swaps}

-- ---- what the code looks at

-- the six settings as a list
abbrev pub six : Settings → List ℕ
six q = q.material ∷ q.mode ∷ q.fog ∷ q.depth ∷ q.cull ∷ q.unclipped ∷ []

-- the run at a place of the area l, looked at with the settings q
abbrev pub seen : List ℕ → ℕ → List ℕ → Last
seen l at q =
    record {
      start = get_or l (at + start_field) 0;
      count = get_or l (at + count_field) 0;
      same = matches eqb (part l at settings_wide) q;
    }

-- the last of n runs in the area l, if there is one and the area holds them
unfoldable pub last_of : ℕ → List ℕ → List ℕ → Option Last
last_of n l q = pick (leb 1 n && leb n (length l / run_width)) (Some (seen l ((n - 1) * run_width) q)) None

-- the cull bits of a geometry mode word
abbrev pub sides_of : Family → ℕ → Sides
sides_of f g = record { both = both f g; cull = culls f g; swap = swaps f g }

-- the corner at slot i by its row, which counts only where the slot is known
abbrev pub corner : ℕ → Bool → ℕ → Corner
corner i known row = record { slot = i; row = then_some known row }

-- the corner at slot i, one of so many, with a mark and a row
abbrev pub corner_at : ℕ → ℕ → Bool → ℕ → Corner
corner_at slots i mark row = corner i (ltb i slots && mark) row

-- the tables of a draw
abbrev pub draw_tables : ℕ → ℕ → ℕ → ℕ → ℕ → Tables
draw_tables rows indices runs indexlen runlen =
    record { rows = rows; indices = indices; runs = runs; indexlen = indexlen; runlen = runlen }

-- ---- the judge

-- the last run, if there is one, ends where the indices in use do
unfoldable pub closes : Option Last → ℕ → Bool
closes None indices = true
closes (Some last) indices = eqb (last.start + last.count) indices

-- the last run has the settings of the draw
abbrev pub grows : Option Last → Bool
grows None = false
grows (Some last) = last.same

-- a run of its own for the triangle of these rows: table 9 needs 1
abbrev pub begun : List ℕ → Tables → Result Record Refusal
begun rows t = unless (leb (t.runs + 1) (room run_width t.runlen)) (Err (Full 9)) (Ok (record { rows = rows; more = 1; start = t.indices; count = 3 }))

-- the run of the triangle: the last one grows where it has the settings
abbrev pub run_for : List ℕ → Tables → Option Last → Result Record Refusal
run_for rows t None = begun rows t
run_for rows t (Some last) = pick last.same (Ok (record { rows = rows; more = 0; start = last.start; count = last.count + 3 })) (begun rows t)

-- the last run, and room for the triangle: table 8 needs 3
unfoldable pub draw_last : List ℕ → Tables → Option Last → Result Record Refusal
draw_last rows t last =
    unless (closes last t.indices) (Err Unsound)
    (unless (leb (t.indices + 3) (room index_width t.indexlen)) (Err (Full 8))
    (run_for rows t last))

-- the areas hold what is in use
unfoldable pub draw_areas : List ℕ → Tables → Option Last → Result Record Refusal
draw_areas rows t last =
    unless (leb (t.indices + 0) (room index_width t.indexlen)) (Err (Short 8))
    (unless (leb (t.runs + 0) (room run_width t.runlen)) (Err (Short 9))
    (draw_last rows t last))

-- the row of a corner, or the refusal of its slot
abbrev pub loaded : Corner → Result ℕ Refusal
loaded c = ok_or c.row (Never c.slot)

-- a step that may be refused, and what follows
infixl 10 ◌>>=◌
abbrev pub ◌>>=◌ : {A B : Type 0} → Result A Refusal → (A → Result B Refusal) → Result B Refusal
Ok x >>= f = f x
Err e >>= f = Err e

-- the first of the three slots that was never loaded; then their rows are in use
unfoldable pub draw_slots : Corner → Corner → Corner → Tables → Option Last → Result Record Refusal
draw_slots a b c t last = do
  x ← loaded a
  y ← loaded b
  z ← loaded c
  unless (ltb x t.rows && ltb y t.rows && ltb z t.rows) (Err Unsound) (draw_areas (x ∷ y ∷ z ∷ []) t last)

-- the state's own numbers, and the cull of both sides, which draws nothing
unfoldable pub draw_judged : Bool → Bool → Corner → Corner → Corner → Tables → Option Last → Result (Option Record) Refusal
draw_judged sound both a b c t last = unless sound (Err Unsound) (pick both (Ok None) (draw_slots a b c t last >>= (λ r. Ok (Some r))))
