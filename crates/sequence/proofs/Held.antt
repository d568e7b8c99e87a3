-- THE AREAS HOLD THE BOOK: what a command writes into the areas is what its plan enters into the book of them. So what a run leaves in use, and
-- every answer, hang on what was in use before and on the areas' lengths alone. Assumes nothing.
use mathlib.Core.Path.{◌≡◌, refl, sym, ap, ◌∙◌}
use Prim.Native.Nat.{ℕ, zero, suc, ◌+◌, ◌*◌, ◌≤◌, min}
use native.Mathlib.Nat.{add-zero}
use native.Mathlib.Omega.{arith}
use mathlib.Core.List.{List, [], ◌∷◌, ◌++◌, map}
use lib.ListN.{length, set, length-map}
use lib.Ieee.{Float}
use Rattle.areas.specs.Area.{entries, room}
use Rattle.areas.proofs.Tables.{length-entries, length-write, entries-grow, entries-set}
use Rattle.areas.specs.Widths.{matrix_width, viewport_width, scale_width, light_width, lookat_width, fog_width, float_width, word_width, index_width, run_width}
use Rattle.decide.specs.declared.family.Family.{Family}
use Rattle.stage.specs.declared.State.{State}
use Rattle.stage.specs.Plan.{table, Edit, keep, grow, patch, Row, rows_of, row_table, row_floats, row_words, only, Edits, Plan, refuse, does, more, counted, advance, after, carry}
use Rattle.stage.specs.With.{with_counts}
use Rattle.sequence.specs.Sequence.{Command, Areas, Port, Alike, book, plan, after_all, result, step, run}
use Rattle.sequence.proofs.Turn.{edit, edited, enter, turn, course}
use Rattle.sequence.proofs.Accepts.{Accepted}
use Rattle.sequence.proofs.Sized.{Sized, AllSized, Sizes, sized-plan}
pub use Rattle.sequence.proofs.Sized.{Fits}

-- ---- one table

-- the count after an edit is as many more as it appends
counted-more : {E : Type 0} (ed : Edit E) (n : ℕ) → counted ed n ≡ n + more ed
counted-more keep n = sym (add-zero n)
counted-more (grow es) n = refl
counted-more (patch i e) n = sym (add-zero n)

module _ {A : Type 0} (w n : ℕ) where
  -- an edit leaves the area's length
  pub length-after : (ed : Edit (List A)) (l : List A) → length (after w n ed l) ≡ length l
  length-after keep l = refl
  length-after (grow es) l = length-write w n es l
  length-after (patch i e) l = length-write w i (e ∷ []) l

  -- the entries in use after a sized edit lie in the area
  fits_after : (ed : Edit (List A)) (l : List A) → Sized w n ed l → counted ed n * w ≤ length (after w n ed l)
  fits_after ed l z = rw (counted-more ed n, length-after ed l) z.room

  -- what is read after a sized edit of the area is the edit of what was read
  entries-after : (ed : Edit (List A)) (l : List A) → Sized w n ed l → n * w ≤ length l → entries w (counted ed n) (after w n ed l) ≡ edit ed (entries w n l)
  entries-after keep l z h = refl
  entries-after (grow es) l z h = entries-grow w n es l z.wide z.room
  entries-after (patch i e) l z h = entries-set w n i e l z.wide.0 z.wide.1 h

  -- so the table after it is the table edited
  table-after : (ed : Edit (List A)) (l : List A) → Sized w n ed l → n * w ≤ length l → table w (counted ed n) (after w n ed l) ≡ edited ed (table w n l)
  table-after ed l z h = λ i. record { used = entries-after ed l z h i; room = room w (length-after ed l i) }

-- ---- table 7 in its two areas

-- the rows of their own numbers are they
rows_split : (rs : List Row) → rows_of (map row_floats rs) (map row_words rs) ≡ rs
rows_split [] = refl
rows_split (r ∷ rs) = ap (λ (l : List Row). r ∷ l) (rows_split rs)

-- rows appended
rows_append : (a b : List (List Float)) (c d : List (List ℕ)) → length a ≡ length c → rows_of (a ++ b) (c ++ d) ≡ rows_of a c ++ rows_of b d
rows_append [] b [] d e = refl
rows_append [] b (y ∷ c) d e = absurd (let z : ◌≡◌ {A = ℕ} 0 1 = cc in omega arith)
rows_append (x ∷ a) b [] d e = absurd (let z : ◌≡◌ {A = ℕ} 0 1 = cc in omega arith)
rows_append (x ∷ a) b (y ∷ c) d e = ap (λ (l : List Row). record { floats = x; words = y } ∷ l) (rows_append a b c d (cc))

-- a row replaced
rows-set : (a : List (List Float)) (c : List (List ℕ)) (i : ℕ) (r : Row) → rows_of (set a i r.floats) (set c i r.words) ≡ set (rows_of a c) i r
rows-set [] c i r = refl
rows-set (x ∷ a) [] zero r = refl
rows-set (x ∷ a) [] (suc i) r = refl
rows-set (x ∷ a) (y ∷ c) zero r = refl
rows-set (x ∷ a) (y ∷ c) (suc i) r = ap (λ (l : List Row). record { floats = x; words = y } ∷ l) (rows-set a c i r)

-- an edit of both kinds of numbers is the edit of the rows
rows-edit : (ed : Edit Row) (a : List (List Float)) (c : List (List ℕ)) → length a ≡ length c → rows_of (edit (only row_floats ed) a) (edit (only row_words ed) c) ≡ edit ed (rows_of a c)
rows-edit keep a c e = refl
rows-edit (grow rs) a c e = rw (rows_append a (map row_floats rs) c (map row_words rs) e, rows_split rs)
rows-edit (patch i r) a c e = rows-set a c i r

-- an edit of rows counts as its edit of one area does
counted-only : {E F : Type 0} (f : E → F) (ed : Edit E) (n : ℕ) → counted (only f ed) n ≡ counted ed n
counted-only f keep n = refl
counted-only f (grow es) n = rw (length-map es f)
counted-only f (patch i e) n = refl

module _ (n : ℕ) (ed : Edit Row) (x : List Float) (y : List ℕ) (a : Sized float_width n (only row_floats ed) x) (b : Sized word_width n (only row_words ed) y) where
  -- the rows in use after it lie in both areas
  rows_fit : (counted ed n * float_width ≤ length (after float_width n (only row_floats ed) x)) × (counted ed n * word_width ≤ length (after word_width n (only row_words ed) y))
  rows_fit = (
    rw (counted-only row_floats ed n) at (fits_after float_width n (only row_floats ed) x a),
    rw (counted-only row_words ed n) at (fits_after word_width n (only row_words ed) y b),
  )

  -- the table after an edit of both areas is the table edited
  rows-after : n * float_width ≤ length x → n * word_width ≤ length y → row_table (counted ed n) (after float_width n (only row_floats ed) x) (after word_width n (only row_words ed) y) ≡ edited ed (row_table n x y)
  rows-after h k =
      let p : entries float_width (counted ed n) (after float_width n (only row_floats ed) x) ≡ edit (only row_floats ed) (entries float_width n x) =
      rw (counted-only row_floats ed n) at (entries-after float_width n (only row_floats ed) x a h) in
      let q : entries word_width (counted ed n) (after word_width n (only row_words ed) y) ≡ edit (only row_words ed) (entries word_width n y) =
      rw (counted-only row_words ed n) at (entries-after word_width n (only row_words ed) y b k) in
      let u = rows-edit ed (entries float_width n x) (entries word_width n y) (length-entries float_width n x ∙ sym (length-entries word_width n y)) in
      let v : rows_of (entries float_width (counted ed n) (after float_width n (only row_floats ed) x)) (entries word_width (counted ed n) (after word_width n (only row_words ed) y)) ≡ edit ed (rows_of (entries float_width n x) (entries word_width n y)) =
      (λ i. rows_of (p i) (q i)) ∙ u in
      λ i. record { used = v i; room = min (room float_width (length-after float_width n (only row_floats ed) x i)) (room word_width (length-after word_width n (only row_words ed) y i)) }

-- ---- the whole port

-- the port after a plan
abbrev pub port_after : Plan → Port → Port
port_after q p = record { state = (carry after_all q p.state p.areas).state; areas = (carry after_all q p.state p.areas).areas }

module _ (p : Port) (h : Fits p) (vs : List ℕ) (t : State) (e : Edits) (z : AllSized p.state.counts e p.areas) where
  -- what is done leaves the counted entries in the areas
  done-fits : Fits (port_after (does vs t e) p)
  unfolding carry
  done-fits =
      let c = p.state.counts in
      let l = p.areas in
      let r = rows_fit c.rows e.rows l.floats l.words z.floats z.words in
      record {
        matrices = fits_after matrix_width _ _ _ z.matrices;
        viewports = fits_after viewport_width _ _ _ z.viewports;
        scales = fits_after scale_width _ _ _ z.scales;
        lights = fits_after light_width _ _ _ z.lights;
        lookats = fits_after lookat_width _ _ _ z.lookats;
        fogs = fits_after fog_width _ _ _ z.fogs;
        floats = r.0;
        words = r.1;
        indices = fits_after index_width _ _ _ z.indices;
        runs = fits_after run_width _ _ _ z.runs;
      }

  -- no area changes its length
  done-alike : Alike (port_after (does vs t e) p).areas p.areas
  unfolding carry
  done-alike =
      record {
        matrices = length-after matrix_width _ e.matrices _;
        viewports = length-after viewport_width _ e.viewports _;
        scales = length-after scale_width _ e.scales _;
        lights = length-after light_width _ e.lights _;
        lookats = length-after lookat_width _ e.lookats _;
        fogs = length-after fog_width _ e.fogs _;
        floats = length-after float_width _ (only row_floats e.rows) _;
        words = length-after word_width _ (only row_words e.rows) _;
        indices = length-after index_width _ e.drawing.indices _;
        runs = length-after run_width _ e.drawing.runs _;
      }

  -- the areas then hold the book with the edits entered
  done-book : book (port_after (does vs t e) p) ≡ enter t e (book p)
  unfolding carry book
  done-book =
      let c = p.state.counts in
      let l = p.areas in
      λ i.
      record {
        state = with_counts t (advance e c);
        matrices = table-after matrix_width c.matrices e.matrices l.matrices z.matrices h.matrices i;
        viewports = table-after viewport_width c.viewports e.viewports l.viewports z.viewports h.viewports i;
        scales = table-after scale_width c.scales e.scales l.scales z.scales h.scales i;
        lights = table-after light_width c.lights e.lights l.lights z.lights h.lights i;
        lookats = table-after lookat_width c.lookats e.lookats l.lookats z.lookats h.lookats i;
        fogs = table-after fog_width c.fogs e.fogs l.fogs z.fogs h.fogs i;
        rows = rows-after c.rows e.rows l.floats l.words z.floats z.words h.floats h.words i;
        drawing =
            record {
              indices = table-after index_width c.indices e.drawing.indices l.drawing.indices z.indices h.indices i;
              runs = table-after run_width c.runs e.drawing.runs l.drawing.runs z.runs h.runs i;
            };
      }

-- areas are as long as themselves
pub alike_self : (l : Areas) → Alike l l
alike_self l =
    record {
      matrices = refl;
      viewports = refl;
      scales = refl;
      lights = refl;
      lookats = refl;
      fogs = refl;
      floats = refl;
      words = refl;
      indices = refl;
      runs = refl;
    }

-- a plan on the port and on its book
pub carried : (p : Port) → Fits p → (q : Plan) → Accepted (Sizes p) q → Fits (port_after q p) × Alike (port_after q p).areas p.areas × (book (port_after q p) ≡ turn q (book p))
unfolding carry turn Accepted
carried p h (refuse n vs) z = (h, alike_self p.areas, refl)
carried p h (does vs t e) z = (done-fits p h vs t e z, done-alike p h vs t e z, done-book p h vs t e z)

-- ---- commands

-- ONE COMMAND on the port, and on its book
pub step-book : (F : ℕ → Family) (limit : State → ℕ) (c : Command) (p : Port)
    → Fits p
    → Fits (step (plan F limit) c p) × Alike (step (plan F limit) c p).areas p.areas × (book (step (plan F limit) c p) ≡ turn (plan F limit c (book p)) (book p))
unfolding step result
step-book F limit c p h = carried p h (plan F limit c (book p)) (sized-plan p h F limit c)

-- A SEQUENCE on the port, and on its book
pub run-book : (F : ℕ → Family) (limit : State → ℕ) (cs : List Command) (p : Port) → Fits p → Fits (run (plan F limit) cs p) × (book (run (plan F limit) cs p) ≡ course (plan F limit) cs (book p))
unfolding run course
run-book F limit [] p h = (h, refl)
run-book F limit (c ∷ cs) p h =
    let s = step-book F limit c p h in
    let r = run-book F limit cs (step (plan F limit) c p) s.0 in
    (r.0, r.1 ∙ ap (course (plan F limit) cs) s.2)

-- two sequences run as one
pub run-append : (F : ℕ → Family) (limit : State → ℕ) (cs ds : List Command) (p : Port) → run (plan F limit) (cs ++ ds) p ≡ run (plan F limit) ds (run (plan F limit) cs p)
unfolding run
run-append F limit [] ds p = refl
run-append F limit (c ∷ cs) ds p = run-append F limit cs ds (step (plan F limit) c p)
