-- The meaning of the cull test, its explainer, the depth test and draw (REFERENCE 13, 14). The number of slots is a parameter. Definitions only.
use Rattle.std.specs.Prelude.{ℕ, ◌-◌, Bool, true, false, ◌&&◌, List, [], ◌∷◌, map, length, get_or, set, leb, ltb, pos}
use Rattle.std.specs.Float.{nan, binary64}
use Rattle.std.specs.Float.Ieee.{le}
use Rattle.decide.specs.Append.{final}
use Rattle.decide.specs.declared.family.Family.{Family}
use Rattle.decide.specs.Family.{family_of}
use Rattle.numbers.specs.Ratio.{of_ratio}
pub use Rattle.reason.specs.Reason.{slots_from, slots_to, codes_at, anded, culled}
use Rattle.reason.specs.Reason.{reason}
use Rattle.triangle.specs.Run.{settings, run_of, longer, closed, same_run}
use Rattle.triangle.specs.Slot.{bit, held, corners, both, culls, swaps}
use Rattle.stage.specs.declared.State.{State}
use Rattle.stage.specs.declared.Counts.{Counts}
use Rattle.stage.specs.Plan.{Table, Edit, keep, grow, patch, Edits, Plan, refuse, does, unless, pick, lent, judge, telling, untouched, index_area, run_area, table_in, after_in, Outcome, carry}
use Rattle.stage.specs.Sound.{sound, limit}
use Rattle.stage.specs.With.{with_drawn}

-- ---- cull test

-- the slots in turn: 3 where one is not loaded, 4 where it has no clip code
abbrev pub judge_codes : State → List ℕ → Plan → Plan
judge_codes s [] p = p
judge_codes s (i ∷ is) p =
    unless (get_or s.loaded i false) (refuse 3 (i ∷ []))
    (unless (get_or s.coded i false) (refuse 4 (i ∷ []))
    (judge_codes s is p))

-- the clip codes of some slots
abbrev pub codes_of : State → List ℕ → List ℕ
codes_of s is = codes_at s.code is

-- Cull: slots in order, first refusal wins; yes exactly if they are culled
unfoldable pub cull_plan : ℕ → State → ℕ → ℕ → Plan
cull_plan slots s first last =
    sound s
    (unless (leb first last && ltb last slots) (refuse 2 (first ∷ last ∷ []))
    (judge_codes s (slots_to first last)
    (does (bit (culled (codes_of s (slots_to first last))) ∷ []) s untouched)))

-- Explain cull: the cull test, with the reason told in place of yes or no; for a refusal what the test gives
unfoldable pub explain_plan : ℕ → State → ℕ → ℕ → Plan
explain_plan slots s first last = telling (reason first (codes_of s (slots_to first last))) (cull_plan slots s first last)

-- ---- depth test

-- the slot's screen z is at most threshold/65536
abbrev pub near : State → ℕ → ℕ → Bool
near s slot threshold = le (get_or s.z slot nan) (of_ratio binary64 (pos threshold) 65536)

-- Depth test: yes exactly if the slot's screen z is at most threshold/65536
unfoldable pub depth_plan : ℕ → State → ℕ → ℕ → Plan
depth_plan slots s slot threshold =
    sound s
    (unless (held slots s.loaded slot) (refuse 3 (slot ∷ []))
    (unless (get_or s.deep slot false) (refuse 4 (slot ∷ []))
    (does (bit (near s slot threshold) ∷ []) s untouched)))

-- ---- draw

-- edits of tables 8 and 9 alone
abbrev pub edits89 : Edit (List ℕ) → Edit (List ℕ) → Edits
edits89 e r = record { matrices = keep; viewports = keep; scales = keep; lights = keep; lookats = keep; fogs = keep; rows = keep; drawing = record { indices = e; runs = r } }

-- the areas of a command that is lent tables 8 and 9
abbrev pub areas89 : Counts → Edits → List ℕ × List ℕ → List ℕ × List ℕ
areas89 c e l = (after_in index_area c e l.0, after_in run_area c e l.1)

-- 6 with the first of some slots that was never loaded since opening
abbrev pub judge_ever : ℕ → State → List ℕ → Plan → Plan
judge_ever slots s [] p = p
judge_ever slots s (i ∷ is) p = unless (held slots s.ever i) (refuse 6 (i ∷ [])) (judge_ever slots s is p)

-- the row of a slot
abbrev pub row_of : State → ℕ → ℕ
row_of s i = get_or s.row i 0

-- the rows of some slots are below the row count
abbrev pub placed : State → List ℕ → Bool
placed s [] = true
placed s (i ∷ is) = ltb (row_of s i) s.counts.rows && placed s is

-- marks with those of some slots set
abbrev pub mark : List Bool → List ℕ → List Bool
mark d [] = d
mark d (i ∷ is) = mark (set d i true) is

-- what table 8 gets: the rows of the three slots, a and c exchanged where the front only is culled
abbrev pub triangle : Family → State → ℕ → ℕ → ℕ → List (List ℕ)
triangle f s a b c = map (λ (r : ℕ). r ∷ []) (corners (swaps f s.geometry) (row_of s a) (row_of s b) (row_of s c))

-- what table 9 gets: the last run grows by 3 if its six settings match, else a run is appended, of 3 from index n on
unfoldable pub run_edit : List (List ℕ) → ℕ → List ℕ → Edit (List ℕ)
run_edit us n q = pick (same_run 0 us q) (patch (length us - 1) (longer 0 (final us))) (grow (run_of q n 3 ∷ []))

-- Draw: slots a, b, c, and the caller's material, render mode, fog colour and primitive depth
unfoldable pub draw_plan : Family → ℕ → State → Table (List ℕ) → Table (List ℕ) → ℕ → ℕ → ℕ → List ℕ → Plan
draw_plan f slots s t u a b c asked =
    let e = grow (triangle f s a b c) in
    let r = run_edit u.used (length t.used) (settings asked (culls f s.geometry) s.microcode) in
    sound s
    (pick (both f s.geometry) (does [] s untouched)
    (judge_ever slots s (a ∷ b ∷ c ∷ [])
    (unless (placed s (a ∷ b ∷ c ∷ [])) (refuse 10 [])
    (judge 8 (lent 8 t keep ∷ lent 9 u keep ∷ [])
    (unless (closed 0 u.used (length t.used)) (refuse 10 [])
    (judge 9 (lent 8 t e ∷ lent 9 u r ∷ [])
    (does [] (with_drawn s (mark s.drawn (a ∷ b ∷ c ∷ []))) (edits89 e r))))))))

-- what a draw comes to, for any state and areas
abbrev pub draw_means : State → ℕ → ℕ → ℕ → List ℕ → List ℕ × List ℕ → Outcome (List ℕ × List ℕ)
draw_means s a b c asked l = carry areas89 (draw_plan (family_of s.microcode) (limit s) s (table_in index_area s.counts l.0) (table_in run_area s.counts l.1) a b c asked) s l
