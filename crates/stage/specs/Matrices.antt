-- The meaning of matrix, forced matrix, pop, viewport and geometry mode (REFERENCE 6, 7). Definitions only.
use Rattle.std.specs.Prelude.{ℕ, ◌-◌, ◌*◌, Bool, true, ◌||◌, List, [], ◌∷◌, ◌++◌, eqb, Float}
use Rattle.areas.specs.Area.{put}
use Rattle.areas.specs.Widths.{matrix_width}
use Rattle.matrix.specs.Math.{rows, laid, times}
use Rattle.layout.specs.Layout.{matrix_at, inexact_at, viewport_at}
use Rattle.stage.specs.declared.State.{State}
use Rattle.stage.specs.declared.Counts.{Counts}
use Rattle.decide.specs.declared.family.Family.{Family}
use Rattle.decide.specs.Family.{flag}
use Rattle.mode.specs.Word.{geometry_after}
use Rattle.decide.specs.Stack.{made, pushed, popped, relit}
use Rattle.stage.specs.Plan.{Table, Edit, keep, Edits, Plan, does, pick, lent, judge, appending, needs, telling, untouched, undrawn, matrix_area, viewport_area, after_in}
use Rattle.stage.specs.Sound.{sound}
use Rattle.stage.specs.With.{with_geometry, with_model, with_projection, with_combined, with_viewport, with_lights, marked}

-- edits of table 1 alone, and of table 2 alone
abbrev pub edits1 : Edit (List Float) → Edits
edits1 e = record { matrices = e; viewports = keep; scales = keep; lights = keep; lookats = keep; fogs = keep; rows = keep; drawing = undrawn }

abbrev pub edits2 : Edit (List Float) → Edits
edits2 e = record { matrices = keep; viewports = e; scales = keep; lights = keep; lookats = keep; fogs = keep; rows = keep; drawing = undrawn }

-- the areas of a command that is lent table 1 alone, or table 2 alone
abbrev pub area1 : Counts → Edits → List Float → List Float
area1 = after_in matrix_area

abbrev pub area2 : Counts → Edits → List Float → List Float
area2 = after_in viewport_area

-- ---- matrices

-- the top of the model stack
abbrev pub model_top : State → List (List Float)
model_top s = rows s.stack (matrix_width * (s.depth - 1))

-- the model top times projection
abbrev pub product : State → List Float
product s = laid (times (model_top s) (rows s.projection 0))

-- m becomes the combined matrix, which is defined then, and is appended to table 1 unless the last entry equals it
unfoldable pub combine : State → Table (List Float) → List Float → Plan
combine s t m = appending 1 t m (λ e. does [] (with_combined s m true) (edits1 e))

-- the combined matrix is that product
abbrev pub recombine : State → Table (List Float) → Plan
recombine s t = combine s t (product s)

-- the new projection; or the new top, in its place of the stack (a push copies the top, so what is made is made from the same matrix)
unfoldable pub turned : Bool → Bool → Bool → State → List (List Float) → State
turned push load projection s m =
    pick projection
    (with_projection s (laid (made load m (rows s.projection 0))))
    (with_model s (pushed push s.depth) (put s.stack (matrix_width * (pushed push s.depth - 1)) (laid (made load m (model_top s)))))

-- what matrix refuses and stores: flags push, load, projection; 64 bytes
unfoldable pub matrix_stores : Family → State → Table (List Float) → ℕ → List ℕ → ℕ → Plan
matrix_stores f s t flags bytes at =
    sound s
    (needs 64 at bytes
    (judge 8 (lent 1 t keep ∷ [])
    (recombine (turned (flag f.push flags) (flag f.load flags) (flag f.projection flags) s (matrix_at bytes at)) t)))

-- Matrix: it refuses and stores that, and tells how many of the sixteen entries that it read are not exact
unfoldable pub matrix_plan : Family → State → Table (List Float) → ℕ → List ℕ → ℕ → Plan
matrix_plan f s t flags bytes at = telling (inexact_at bytes at ∷ []) (matrix_stores f s t flags bytes at)

-- what forced matrix refuses and stores: 64 bytes become the combined matrix
unfoldable pub force_stores : State → Table (List Float) → List ℕ → ℕ → Plan
force_stores s t bytes at = sound s (needs 64 at bytes (judge 8 (lent 1 t keep ∷ []) (combine s t (laid (matrix_at bytes at)))))

-- Forced matrix: it refuses and stores that, and tells as matrix does
unfoldable pub force_plan : State → Table (List Float) → List ℕ → ℕ → Plan
force_plan s t bytes at = telling (inexact_at bytes at ∷ []) (force_stores s t bytes at)

-- Pop: the depth lowered by count, never below 1; only a changed depth recomputes
unfoldable pub pop_plan : State → Table (List Float) → ℕ → Plan
pop_plan s t count =
    let d = popped count s.depth in
    sound s
    (judge 8 (lent 1 t keep ∷ [])
    (pick (eqb d s.depth) (does [] s untouched) (recombine (with_model s d s.stack) t)))

-- ---- viewport and geometry mode

-- the six numbers of an entry of table 2: scale, translation
abbrev pub viewport_entry : List ℕ → ℕ → List Float
viewport_entry bytes at = (viewport_at bytes at).scale ++ (viewport_at bytes at).translation

-- v becomes the viewport in force, and is appended to table 2 unless the last entry equals it
unfoldable pub viewing : State → Table (List Float) → List Float → Plan
viewing s t v = appending 2 t v (λ e. does [] (with_viewport s v) (edits2 e))

-- Viewport: 16 bytes
unfoldable pub viewport_plan : State → Table (List Float) → List ℕ → ℕ → Plan
viewport_plan s t bytes at = sound s (needs 16 at bytes (judge 8 (lent 2 t keep ∷ []) (viewing s t (viewport_entry bytes at))))

-- Geometry mode: a change of the lighting bit marks lights changed
unfoldable pub geometry_plan : Family → State → ℕ → ℕ → Plan
geometry_plan f s off on =
    let g = geometry_after off on s.geometry in
    sound s (does [] (with_lights (with_geometry s g) (marked s.lights (s.lights.changed || relit f s.geometry g))) untouched)
