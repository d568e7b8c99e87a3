-- Matrix, forced matrix, pop and viewport: each way out, by what the steps of its code answered. Assumes nothing.
use mathlib.Core.Path.{◌≡◌, refl, sym, ap, ap₂, ◌∙◌}
use Prim.Native.Nat.{ℕ, ◌-◌, ◌*◌, ◌≤◌}
use mathlib.Core.Bool.{true, false}
use mathlib.Core.List.{List, [], ◌∷◌}
use lib.ListN.{length, get_or}
use lib.Dec.{eqb}
use lib.Ieee.{Float, nan}
use Rattle.std.specs.Prelude.{Option, Some, None, Err}
use Rattle.areas.specs.Area.{room, put}
use Rattle.areas.specs.Widths.{matrix_width, viewport_width}
use Rattle.matrix.specs.Math.{rows, laid, times}
use Rattle.layout.specs.declared.records.Viewport.{Viewport}
use Rattle.layout.specs.Layout.{matrix_at, inexact_at, viewport_at, triple_at}
use Rattle.decide.specs.Family.{family_of, flag}
use Rattle.decide.specs.declared.family.Family.{Family}
use Rattle.decide.specs.Stack.{made, pushed, popped}
use Rattle.decide.specs.Steps.{ended}
use Rattle.stage.specs.declared.State.{State}
use Rattle.stage.specs.declared.Counts.{Counts}
use Rattle.stage.specs.declared.Answer.{Answer}
use Rattle.stage.specs.declared.Answer.TheVariants.{Done, Told, NoRoom}
use Rattle.stage.specs.Answers.{number, values}
use Rattle.stage.specs.With.{with_counts, with_stack, with_model, with_projection, with_combined, with_viewport}
use Rattle.stage.specs.Plan.{Plan, pick, does, appending, telling, untouched, matrix_area, viewport_area, table_in, Outcome, outcome, carry}
use Rattle.stage.specs.Matrices.{edits1, edits2, area1, area2, product, combine, recombine, turned, viewing, viewport_entry, matrix_stores, matrix_plan, force_stores, force_plan, pop_plan, viewport_plan}
use Rattle.stage.specs.Steps.{early_in}
use Rattle.stage.proofs.Cascade.{picked, left}
use Rattle.stage.proofs.Combining.{entry_new, entry-full}
use Rattle.stage.proofs.Early.{tested, Clear, early-refused, passed_on, telling-tested, bare}
use Rattle.stage.proofs.Telling.{telling-appending}
use Rattle.stage.proofs.Turning.{turned-is}

-- ---- one entry of table 1 or 2

-- another count of table 1, or of table 2
abbrev counts1 : Counts → ℕ → Counts
counts1 c n = record { matrices = n; viewports = c.viewports; scales = c.scales; lights = c.lights; lookats = c.lookats; fogs = c.fogs; rows = c.rows; indices = c.indices; runs = c.runs }

abbrev counts2 : Counts → ℕ → Counts
counts2 c n = record { matrices = c.matrices; viewports = n; scales = c.scales; lights = c.lights; lookats = c.lookats; fogs = c.fogs; rows = c.rows; indices = c.indices; runs = c.runs }

-- m became the combined matrix of t, as it is planned to of u, and vs is told
module _ (vs : List ℕ) (s t u : State) (m v l : List Float) (r : Option ℕ) (a : List Float) (is-next : t ≡ u) (is-entry : m ≡ v) (did : record { count = r; area = a } ≡ ended matrix_width s.counts.matrices m l) where
  abbrev combining : State → List Float → Plan
  combining x y = appending 1 (table_in matrix_area s.counts l) y (λ e. does vs (with_combined x y true) (edits1 e))

  as-planned : carry area1 (combining t m) s l ≡ carry area1 (combining u v) s l
  as-planned = ap₂ (λ (x : State) (y : List Float). carry area1 (combining x y) s l) is-next is-entry

  combined-new : s.counts.matrices ≤ room matrix_width (length l) → (q : Answer) → (number q ≡ 0) × (values q ≡ vs) → (x : ℕ) → r ≡ Some x
      → outcome (record { state = with_counts (with_combined t m true) (counts1 s.counts x); answer = q }) a ≡ carry area1 (combining u v) s l
  combined-new h q d x e = entry_new vs 1 matrix_width s.counts.matrices edits1 area1 s (with_combined t m true) m l r a did (λ d. refl) (counts1 s.counts) (λ d. refl) h q d x e ∙ as-planned

  combined-full : r ≡ None → outcome (record { state = s; answer = NoRoom 1 }) a ≡ carry area1 (combining u v) s l
  combined-full f = entry-full vs 1 matrix_width s.counts.matrices edits1 area1 s (with_combined t m true) m l r a did (λ d. refl) f ∙ as-planned

-- ---- a matrix read: its 64 bytes, of which n is told, give the state u and the combined matrix v

module _ (s : State) (l : List Float) (at : ℕ) (bytes : List ℕ) (n : ℕ) (u : State) (v : List Float) where
  abbrev reading : Plan
  reading = telling (n ∷ []) (tested s 1 matrix_width s.counts.matrices 64 at bytes l (combine u (table_in matrix_area s.counts l) v))

  abbrev Reads : State → Answer → List Float → Type 0
  Reads t q a = outcome (record { state = t; answer = q }) a ≡ carry area1 reading s l

  -- what is told is told with what follows the first tests
  told : tested s 1 matrix_width s.counts.matrices 64 at bytes l (appending 1 (table_in matrix_area s.counts l) v (λ e. does (n ∷ []) (with_combined u v true) (edits1 e))) ≡ reading
  unfolding combine telling
  told =
      ap (tested s 1 matrix_width s.counts.matrices 64 at bytes l) (sym (telling-appending (n ∷ []) 1 (table_in matrix_area s.counts l) v (λ e. does [] (with_combined u v true) (edits1 e))))
      ∙ sym (telling-tested (n ∷ []) s 1 matrix_width s.counts.matrices 64 at bytes l (appending 1 (table_in matrix_area s.counts l) v (λ e. does [] (with_combined u v true) (edits1 e))))

  told-as : (o : Outcome (List Float))
      → o ≡ carry area1 (tested s 1 matrix_width s.counts.matrices 64 at bytes l (appending 1 (table_in matrix_area s.counts l) v (λ e. does (n ∷ []) (with_combined u v true) (edits1 e)))) s l → o ≡ carry area1 reading s l
  told-as o h = h ∙ ap (λ (p : Plan). carry area1 p s l) told

  reads-refused : (m : ℕ) (a : Answer) → m ≡ room matrix_width (length l) → Err a ≡ early_in s (length bytes) at 64 1 s.counts.matrices m → Reads s a l
  reads-refused m a e h = told-as _ (early-refused s 1 matrix_width s.counts.matrices 64 at bytes l m e a area1 _ h)

  module _ (clear : Clear s matrix_width s.counts.matrices 64 at bytes l) (t : State) (m : List Float) (r : Option ℕ) (a : List Float) (is-next : t ≡ u) (is-entry : m ≡ v)
      (did : record { count = r; area = a } ≡ ended matrix_width s.counts.matrices m l) where
    reads-new : (k : ℕ) → k ≡ n → (x : ℕ) → r ≡ Some x → Reads (with_counts (with_combined t m true) (counts1 s.counts x)) (Told k) a
    reads-new k d x e =
        told-as _ (passed_on s 1 _ _ _ _ _ l clear area1 _ _ (combined-new (n ∷ []) s t u m v l r a is-next is-entry did clear.fits (Told k) (refl, ap (λ (z : ℕ). z ∷ []) d) x e))

    reads-full : r ≡ None → Reads s (NoRoom 1) a
    reads-full h = told-as _ (passed_on s 1 _ _ _ _ _ l clear area1 _ _ (combined-full (n ∷ []) s t u m v l r a is-next is-entry did h))

-- ---- matrix

pub matrix-refused : (s : State) (l : List Float) (flags at : ℕ) (bytes : List ℕ) (m : ℕ) (a : Answer) → m ≡ room matrix_width (length l) → Err a ≡ early_in s (length bytes) at 64 1 s.counts.matrices m
    → outcome (record { state = s; answer = a }) l ≡ carry area1 (matrix_plan (family_of s.microcode) s (table_in matrix_area s.counts l) flags bytes at) s l
unfolding matrix_plan matrix_stores
matrix-refused s l flags at bytes m a e h = reads-refused s l at bytes (inexact_at bytes at) _ _ m a e h

-- past the first tests: what the code read, took and combined, and what became of the entry
module _ (s : State) (l : List Float) (flags at : ℕ) (bytes : List ℕ) (clear : Clear s matrix_width s.counts.matrices 64 at bytes l)
    (f : Family) (given : List (List Float)) (depth : ℕ) (projection stack m : List Float) (r : Option ℕ) (a : List Float)
    (is-family : f ≡ family_of s.microcode)
    (is-data : given ≡ matrix_at bytes at)
    (is-depth : depth ≡ pick (flag f.projection flags) s.depth (pushed (flag f.push flags) s.depth))
    (is-projection : projection ≡ pick (flag f.projection flags) (laid (made (flag f.load flags) given (rows s.projection 0))) s.projection)
    (is-stack : stack ≡ pick (flag f.projection flags) s.stack (put s.stack (matrix_width * (pushed (flag f.push flags) s.depth - 1)) (laid (made (flag f.load flags) given (rows s.stack (matrix_width * (s.depth - 1)))))))
    (is-product : m ≡ laid (times (rows stack (matrix_width * (depth - 1))) (rows projection 0)))
    (did : record { count = r; area = a } ≡ ended matrix_width s.counts.matrices m l) where
  abbrev taken : State
  taken = with_model (with_projection s projection) depth stack

  abbrev turned_by : Family → List (List Float) → State
  turned_by g x = turned (flag g.push flags) (flag g.load flags) (flag g.projection flags) s x

  abbrev planned : State
  planned = turned_by (family_of s.microcode) (matrix_at bytes at)

  is-taken : taken ≡ planned
  is-taken = turned-is _ _ _ s given depth projection stack is-depth is-projection is-stack ∙ ap₂ turned_by is-family is-data

  is-combined : m ≡ product planned
  is-combined = is-product ∙ ap product is-taken

  pub matrix-new : (k : ℕ) → k ≡ inexact_at bytes at → (x : ℕ) → r ≡ Some x
      → outcome (record { state = with_counts (with_combined taken m true) (counts1 s.counts x); answer = Told k }) a ≡ carry area1 (matrix_plan (family_of s.microcode) s (table_in matrix_area s.counts l) flags bytes at) s l
  unfolding matrix_plan matrix_stores
  matrix-new k d x e = reads-new s l at bytes (inexact_at bytes at) planned (product planned) clear taken m r a is-taken is-combined did k d x e

  pub matrix-full : r ≡ None → outcome (record { state = s; answer = NoRoom 1 }) a ≡ carry area1 (matrix_plan (family_of s.microcode) s (table_in matrix_area s.counts l) flags bytes at) s l
  unfolding matrix_plan matrix_stores
  matrix-full h = reads-full s l at bytes (inexact_at bytes at) planned (product planned) clear taken m r a is-taken is-combined did h

-- what is handed back where branches join, by what one of them set
pub came_from : (s t : State) (h k : List Float) (q r : Answer) (a b : List Float) (o : Outcome (List Float)) → s ≡ t → a ≡ b → q ≡ r → h ≡ k
    → outcome (record { state = with_stack t k; answer = r }) b ≡ o → outcome (record { state = with_stack s h; answer = q }) a ≡ o
came_from s t h k q r a b o is_state is-area is-answer is-stack e = (λ i. outcome (record { state = with_stack (is_state i) (is-stack i); answer = is-answer i }) (is-area i)) ∙ e

-- ---- forced matrix

pub force-refused : (s : State) (l : List Float) (at : ℕ) (bytes : List ℕ) (m : ℕ) (a : Answer) → m ≡ room matrix_width (length l) → Err a ≡ early_in s (length bytes) at 64 1 s.counts.matrices m
    → outcome (record { state = s; answer = a }) l ≡ carry area1 (force_plan s (table_in matrix_area s.counts l) bytes at) s l
unfolding force_plan force_stores
force-refused s l at bytes m a e h = reads-refused s l at bytes (inexact_at bytes at) _ _ m a e h

-- past the first tests: what the code read, and what became of the entry
module _ (s : State) (l : List Float) (at : ℕ) (bytes : List ℕ) (clear : Clear s matrix_width s.counts.matrices 64 at bytes l)
    (given : List (List Float)) (m : List Float) (r : Option ℕ) (a : List Float)
    (is-data : given ≡ matrix_at bytes at)
    (is-flat : m ≡ laid given)
    (did : record { count = r; area = a } ≡ ended matrix_width s.counts.matrices m l) where
  pub force-new : (k : ℕ) → k ≡ inexact_at bytes at → (x : ℕ) → r ≡ Some x
      → outcome (record { state = with_counts (with_combined s m true) (counts1 s.counts x); answer = Told k }) a ≡ carry area1 (force_plan s (table_in matrix_area s.counts l) bytes at) s l
  unfolding force_plan force_stores
  force-new k d x e = reads-new s l at bytes (inexact_at bytes at) s (laid (matrix_at bytes at)) clear s m r a refl (is-flat ∙ ap laid is-data) did k d x e

  pub force-full : r ≡ None → outcome (record { state = s; answer = NoRoom 1 }) a ≡ carry area1 (force_plan s (table_in matrix_area s.counts l) bytes at) s l
  unfolding force_plan force_stores
  force-full h = reads-full s l at bytes (inexact_at bytes at) s (laid (matrix_at bytes at)) clear s m r a refl (is-flat ∙ ap laid is-data) did h

-- ---- pop

module _ (s : State) (l : List Float) (count : ℕ) where
  abbrev Pops : State → Answer → List Float → Type 0
  Pops t q a = outcome (record { state = t; answer = q }) a ≡ carry area1 (pop_plan s (table_in matrix_area s.counts l) count) s l

  pub pop-refused : (m : ℕ) (a : Answer) → m ≡ room matrix_width (length l) → Err a ≡ early_in s 0 0 0 1 s.counts.matrices m → Pops s a l
  unfolding pop_plan
  pop-refused m a e h = bare s 1 matrix_width s.counts.matrices l area1 _ _ (early-refused s 1 matrix_width s.counts.matrices 0 0 [] l m e a area1 _ h)

  -- past the first tests: the depth then
  module _ (clear : Clear s matrix_width s.counts.matrices 0 0 [] l) (depth : ℕ) (is-depth : depth ≡ popped count s.depth) where
    past : (p : Plan) (o : Outcome (List Float)) → pick (eqb (popped count s.depth) s.depth) (does [] s untouched) (recombine (with_model s (popped count s.depth) s.stack) (table_in matrix_area s.counts l)) ≡ p
        → o ≡ carry area1 p s l → o ≡ carry area1 (pop_plan s (table_in matrix_area s.counts l) count) s l
    unfolding pop_plan
    past p o e h = bare s 1 matrix_width s.counts.matrices l area1 _ o (passed_on s 1 matrix_width s.counts.matrices 0 0 [] l clear area1 _ o (rw e h))

    -- the depth stays
    pub pop-none : eqb depth s.depth ≡ true → Pops s Done l
    unfolding carry
    pop-none h = past (does [] s untouched) _ (picked _ _ _ (sym (ap (λ (x : ℕ). eqb x s.depth) is-depth) ∙ h)) refl

    -- it changes: what the code combined, and what became of the entry
    module _ (changed : eqb depth s.depth ≡ false) (top : List (List Float)) (m : List Float) (r : Option ℕ) (a : List Float)
        (is-top : top ≡ rows s.stack (matrix_width * (depth - 1)))
        (is-product : m ≡ laid (times top (rows s.projection 0)))
        (did : record { count = r; area = a } ≡ ended matrix_width s.counts.matrices m l) where
      abbrev lowered : ℕ → State
      lowered d = with_model s d s.stack

      abbrev to : State
      to = lowered (popped count s.depth)

      recombines : (o : Outcome (List Float)) → o ≡ carry area1 (recombine to (table_in matrix_area s.counts l)) s l → o ≡ carry area1 (pop_plan s (table_in matrix_area s.counts l) count) s l
      recombines o h = past _ o (left _ _ _ (sym (ap (λ (x : ℕ). eqb x s.depth) is-depth) ∙ changed)) h

      is-popped : m ≡ product to
      is-popped = is-product ∙ ap (λ (x : List (List Float)). laid (times x (rows s.projection 0))) is-top ∙ ap (λ (d : ℕ). product (lowered d)) is-depth

      pub pop-new : (x : ℕ) → r ≡ Some x → Pops (with_counts (with_combined (lowered depth) m true) (counts1 s.counts x)) Done a
      unfolding combine
      pop-new x e = recombines _ (combined-new [] s (lowered depth) to m (product to) l r a (ap lowered is-depth) is-popped did clear.fits Done (refl, refl) x e)

      pub pop-full : r ≡ None → Pops s (NoRoom 1) a
      unfolding combine
      pop-full h = recombines _ (combined-full [] s (lowered depth) to m (product to) l r a (ap lowered is-depth) is-popped did h)

-- ---- viewport

-- the six numbers of an entry, as the code reads them
abbrev pub six_of : Viewport → List Float
six_of v = get_or v.scale 0 nan ∷ get_or v.scale 1 nan ∷ get_or v.scale 2 nan ∷ get_or v.translation 0 nan ∷ get_or v.translation 1 nan ∷ get_or v.translation 2 nan ∷ []

pub six : (bytes : List ℕ) (at : ℕ) → six_of (viewport_at bytes at) ≡ viewport_entry bytes at
unfolding viewport_at triple_at
six bytes at = refl

pub viewport-refused : (s : State) (l : List Float) (at : ℕ) (bytes : List ℕ) (m : ℕ) (a : Answer) → m ≡ room viewport_width (length l) → Err a ≡ early_in s (length bytes) at 16 2 s.counts.viewports m
    → outcome (record { state = s; answer = a }) l ≡ carry area2 (viewport_plan s (table_in viewport_area s.counts l) bytes at) s l
unfolding viewport_plan
viewport-refused s l at bytes m a e h = early-refused s 2 viewport_width s.counts.viewports 16 at bytes l m e a area2 _ h

-- past the first tests: what the code read, and what became of the entry
module _ (s : State) (l : List Float) (at : ℕ) (bytes : List ℕ) (clear : Clear s viewport_width s.counts.viewports 16 at bytes l)
    (v : List Float) (r : Option ℕ) (a : List Float)
    (is-data : v ≡ viewport_entry bytes at)
    (did : record { count = r; area = a } ≡ ended viewport_width s.counts.viewports v l) where
  views : (o : Outcome (List Float)) → o ≡ carry area2 (viewing s (table_in viewport_area s.counts l) v) s l → o ≡ carry area2 (viewport_plan s (table_in viewport_area s.counts l) bytes at) s l
  unfolding viewport_plan
  views o h = passed_on s 2 _ _ _ _ _ l clear area2 _ o (h ∙ ap (λ (x : List Float). carry area2 (viewing s (table_in viewport_area s.counts l) x) s l) is-data)

  pub viewport-new : (x : ℕ) → r ≡ Some x
      → outcome (record { state = with_counts (with_viewport s v) (counts2 s.counts x); answer = Done }) a ≡ carry area2 (viewport_plan s (table_in viewport_area s.counts l) bytes at) s l
  unfolding viewing
  viewport-new x e = views _ (entry_new [] 2 viewport_width s.counts.viewports edits2 area2 s (with_viewport s v) v l r a did (λ d. refl) (counts2 s.counts) (λ d. refl) clear.fits Done (refl, refl) x e)

  pub viewport-full : r ≡ None → outcome (record { state = s; answer = NoRoom 2 }) a ≡ carry area2 (viewport_plan s (table_in viewport_area s.counts l) bytes at) s l
  unfolding viewing
  viewport-full h = views _ (entry-full [] 2 viewport_width s.counts.viewports edits2 area2 s (with_viewport s v) v l r a did (λ d. refl) h)
