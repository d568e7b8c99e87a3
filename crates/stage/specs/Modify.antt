-- The meaning of modify and of the ink count. Definitions only.
use Rattle.std.specs.Prelude.{ℕ, ◌+◌, ◌-◌, Bool, false, ◌&&◌, List, [], ◌∷◌, map, get_or, set, ltb, Float, Option, Some, None}
use Rattle.std.specs.Float.{nan}
use Rattle.change.specs.declared.Change.{Change}
use Rattle.change.specs.declared.judge.Moved.{Moved}
use Rattle.change.specs.Decoded.{decoded, floats_after, words_after, depth_after, unit_entry, appends}
use Rattle.ink.specs.Ink.{ink_of}
use Rattle.stage.specs.declared.State.{State}
use Rattle.stage.specs.declared.Counts.{Counts}
use Rattle.stage.specs.Plan.{Table, Edit, keep, grow, patch, Row, Edits, Plan, refuse, does, unless, pick, lent, judge, untouched, undrawn, row_table, row_words, scale_area, float_area, word_area, table_in, after_in, Outcome, carry}
use Rattle.stage.specs.Sound.{sound, limit}
use Rattle.stage.specs.With.{with_unit, with_row, with_drawn, with_z}

-- edits of tables 3 and 7 alone
abbrev pub edits37 : Edit (List Float) → Edit Row → Edits
edits37 e r = record { matrices = keep; viewports = keep; scales = e; lights = keep; lookats = keep; fogs = keep; rows = r; drawing = undrawn }

-- the areas of a command that is lent tables 3 and 7: scales, and the two of the rows
abbrev pub areas37 : Counts → Edits → List Float × List Float × List ℕ → List Float × List Float × List ℕ
areas37 c e l = (after_in scale_area c e l.0, after_in float_area c e l.1, after_in word_area c e l.2)

-- ---- modify

-- refusal 5 for an attribute that asks for no change, else what is planned with the change
unfoldable pub asking : Option Change → ℕ → ℕ → (Change → Plan) → Plan
asking None slot attribute p = refuse 5 (slot ∷ attribute ∷ [])
asking (Some c) slot attribute p = p c

-- what a change of a slot comes to: a drawn slot's row is the copy at the end of the rows; a texture change has the unit scale entry, at the end
-- of the scales where it is new; unit is its place plus 1
unfoldable pub moved : Change → State → ℕ → Moved
moved c s slot =
    let drawn = get_or s.drawn slot false in
    let new = appends c s.unit in
    record {
      row = pick drawn s.counts.rows (get_or s.row slot 0);
      rows = pick drawn (s.counts.rows + 1) s.counts.rows;
      scales = pick new (s.counts.scales + 1) s.counts.scales;
      unit = pick new (s.counts.scales + 1) s.unit;
    }

-- the unit scale entry is appended once per opening
abbrev pub scale_edit : Change → State → Edit (List Float)
scale_edit c s = pick (appends c s.unit) (grow (unit_entry ∷ [])) keep

-- the row with the change made in it; u is the mark of the unit scale entry, its place plus 1
abbrev pub row_after : Change → ℕ → Row → Row
row_after c u r = record { floats = floats_after c r.floats; words = words_after c (u - 1) r.words }

-- a slot that was drawn since its row was made gets a copy of the row at the end; the change is made in the copy, or in the row itself
abbrev pub row_edit : Bool → ℕ → Row → Edit Row
row_edit drawn i r = pick drawn (grow (r ∷ [])) (patch i r)

-- the slot stands at its row, which no draw has used; its screen z becomes that of a depth, if it had one; the unit scale entry is remembered
unfoldable pub changed : Change → Moved → State → ℕ → State
changed c m s slot =
    with_unit
    (with_z (with_drawn (with_row s (set s.row slot m.row)) (set s.drawn slot false)) (set s.z slot (depth_after c (get_or s.deep slot false) (get_or s.z slot nan))))
    m.unit

-- what the change does to table 7, and to tables 3 and 7
abbrev pub row_change : Change → Moved → State → Table Row → ℕ → Edit Row
row_change c m s rows slot =
    let i = get_or s.row slot 0 in
    row_edit (get_or s.drawn slot false) i (row_after c m.unit (get_or rows.used i (record { floats = []; words = [] })))

-- a change of a slot: 5, 10 for the slot's row, then tables 3 and 7
unfoldable pub change_plan : ℕ → State → Table (List Float) → Table Row → ℕ → ℕ → Change → Plan
change_plan slots s scales rows slot attribute c =
    let m = moved c s slot in
    unless (ltb slot slots && get_or s.loaded slot false) (refuse 5 (slot ∷ attribute ∷ []))
    (unless (ltb (get_or s.row slot 0) s.counts.rows) (refuse 10 [])
    (judge 8 (lent 3 scales keep ∷ lent 7 rows keep ∷ [])
    (judge 9 (lent 3 scales (scale_edit c s) ∷ lent 7 rows (row_change c m s rows slot) ∷ [])
    (does [] (changed c m s slot) (edits37 (scale_edit c s) (row_change c m s rows slot))))))

-- Modify: a slot, an attribute and a value word
unfoldable pub modify_plan : ℕ → State → Table (List Float) → Table Row → ℕ → ℕ → ℕ → Plan
modify_plan slots s scales rows slot attribute value = sound s (asking (decoded attribute value) slot attribute (change_plan slots s scales rows slot attribute))

-- what a modify comes to, for any state and areas
abbrev pub modify_means : State → ℕ → ℕ → ℕ → List Float × List Float × List ℕ → Outcome (List Float × List Float × List ℕ)
modify_means s slot attribute value l = carry areas37 (modify_plan (limit s) s (table_in scale_area s.counts l.0) (row_table s.counts.rows l.1 l.2) slot attribute value) s l

-- ---- ink count

-- Ink count: the indices in use whose row has the ink asked, which only an unlit row can have; an index beyond the rows is not counted
unfoldable pub ink_plan : State → Table Row → Table (List ℕ) → ℕ → Plan
ink_plan s rows indices colour =
    sound s
    (judge 8 (lent 7 rows keep ∷ lent 8 indices keep ∷ [])
    (does (ink_of colour (map row_words rows.used) indices.used ∷ []) s untouched))
