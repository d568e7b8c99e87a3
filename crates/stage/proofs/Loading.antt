-- The load, put together: its judges, and what it leaves. Assumes nothing.
use mathlib.Core.Path.{◌≡◌, refl, sym, ap, ◌∙◌, subst}
use Prim.Native.Nat.{ℕ, zero, suc, ◌+◌, ◌*◌, ◌≤◌, min}
use native.Mathlib.Omega.{arith}
use mathlib.Core.Bool.{Bool, true, false, ◌&&◌}
use lib.Dec.{leb}
use borrow.Author.Tests.{leb-true}
use mathlib.Core.Logic.{⊎_elim}
use mathlib.Core.List.{List, [], ◌∷◌, map}
use lib.ListN.{length, length-map}
use lib.IntN.{ℤ}
use lib.Ieee.{Float}
use Rattle.std.specs.Prelude.{Option, Some, None, Result, Ok, Err}
use Rattle.areas.specs.Widths.{most, matrix_width, scale_width, fog_width, float_width, word_width}
use Rattle.areas.specs.Area.{entries, room, write}
use Rattle.areas.proofs.Tables.{length-entries, room_fits}
use Rattle.matrix.specs.Math.{rows}
use Rattle.layout.specs.declared.records.Vertex.{Vertex}
use Rattle.decide.specs.Family.{family_of}
use Rattle.decide.specs.Judge.{Lent}
use Rattle.decide.specs.Steps.{first_short}
use Rattle.fold.specs.Lights.{light_entries}
use Rattle.fold.specs.Fog.{find}
use Rattle.fold.specs.Lookat.{lookat_entry}
use Rattle.fold.proofs.Believe.{length-lights, find_first}
use Rattle.vertex.specs.declared.Shared.{Shared}
use Rattle.vertex.specs.Steps.{RowsFit, Laid, Marked}
use Rattle.vertex.specs.Vertices.{floats_of, words_of, vertices_at}
use Rattle.vertex.proofs.Believe.{length-vertices}
use Rattle.stage.specs.declared.State.{State}
use Rattle.stage.specs.declared.Counts.{Counts}
use Rattle.stage.specs.declared.Lights.{Lights}
use Rattle.stage.specs.declared.Lookat.{Lookat}
use Rattle.stage.specs.declared.Answer.{Answer}
use Rattle.stage.specs.declared.Answer.TheVariants.{Told, BadState, BadLoad, ShortData, ShortArea, NoRoom}
use Rattle.stage.proofs.Filling.{loaded-by}
use Rattle.stage.specs.declared.load.Settled.{Settled}
use Rattle.stage.specs.declared.load.More.{More}
use Rattle.stage.specs.declared.load.Rooms.{Rooms}
use Rattle.stage.specs.Plan.{Edits, only_if, Plan, judge, more, pick, rows_of, untouched, advance, Outcome, outcome, carry}
use Rattle.stage.specs.Load.{settled, settled_state, lights_then, lookat_then, shared_by, load_edits, load_done, load_plan, vertex_row, LoadAreas, load_tables, load_lent, areas_load, fog_pair, load_areas}
use Rattle.stage.specs.Sound.{state_sound, limit}
use Rattle.stage.specs.Rows.{fill_slots}
use Rattle.stage.specs.With.{with_counts, with_combined, with_lights, with_lookat, Slots, with_slots}
use Rattle.stage.specs.Steps.{six_lent, rooms_of, more_by, no_more, unless_short, early_answer, late_answer, advance_tables, Ranged, TablesAre, RowsLaid, settled_in, Refused, Ready}
use Rattle.stage.specs.declared.load.Prepared.{Prepared}
use Rattle.stage.proofs.Judged.{Ranges, ranges, and_right}
use Rattle.stage.proofs.Tabled.{fits-first, table-refused, table-passed}
use Rattle.stage.proofs.Cascade.{refused, passed, same_refusal, refused-not}

-- ---- the tables, as the code judges them

length-rows : (n : ℕ) (f : List Float) (w : List ℕ) → length (rows_of (entries float_width n f) (entries word_width n w)) ≡ n
length-rows zero f w = refl
length-rows (suc n) f w = ap suc (length-rows n (lib.ListN.drop float_width f) (lib.ListN.drop word_width w))

six-lent : (c : Counts) (l : LoadAreas) (e : Edits) (m : More) (r : Rooms)
    → r ≡ rooms_of (length l.matrices) (length l.scales) (length l.lights) (length l.lookats) (length l.fogs) (length l.floats) (length l.words)
    → record { matrices = more e.matrices; scales = more e.scales; lights = more e.lights; lookats = more e.lookats; fogs = more e.fogs; rows = more e.rows } ≡ m
    → load_lent (load_tables c l) e ≡ six_lent c m r
unfolding rooms_of
six-lent c l e m r a b = rw (a, ← b, length-entries matrix_width c.matrices l.matrices, length-entries scale_width c.scales l.scales, length-entries 6 c.lights l.lights, length-entries 6 c.lookats l.lookats, length-entries fog_width c.fogs l.fogs, length-rows c.rows l.floats l.words)

-- how many entries each edit appends
more-if : {E : Type 0} (b : Bool) (es : List E) (k : ℕ) → length es ≡ k → more (only_if b es) ≡ pick b k 0
unfolding pick
more-if true es k e = e
more-if false es k e = refl

load-more : (d : Settled) (s : State) (vs : List Vertex) (count : ℕ) → length vs ≡ count
    → record { matrices = more (load_edits d s vs).matrices; scales = more (load_edits d s vs).scales; lights = more (load_edits d s vs).lights; lookats = more (load_edits d s vs).lookats; fogs = more (load_edits d s vs).fogs; rows = more (load_edits d s vs).rows } ≡ more_by d s count
unfolding load_edits more_by
load-more d s vs count h = λ i. record {
  matrices = more-if d.newmatrix (d.combined ∷ []) 1 refl i;
  scales = more-if d.newscale (d.scales ∷ []) 1 refl i;
  lights = more-if d.newlights (light_entries (rows d.model 0) s.lights.directions s.lights.colours s.lights.ambient s.lights.number) (s.lights.number + 1) (length-lights (rows d.model 0) s.lights.directions s.lights.colours s.lights.ambient s.lights.number) i;
  lookats = more-if d.newlookat (lookat_entry (rows d.model 0) s.lookat.axes ∷ []) 1 refl i;
  fogs = more-if d.newfog (fog_pair s ∷ []) 1 refl i;
  rows = (length-map vs (vertex_row (shared_by d s)) ∙ h) i;
}

-- table 7 has room for the rows
rows-room : (c : Counts) (m : More) (r : Rooms) → first_short (six_lent c m r) ≡ None → c.rows + m.rows ≤ r.rows
rows-room c m r e =
    let a = fits-first _ _ e in
    let b = fits-first _ _ a.1 in
    let d = fits-first _ _ b.1 in
    let f = fits-first _ _ d.1 in
    let g = fits-first _ _ f.1 in
    (fits-first _ _ g.1).0

-- ---- what has been judged by the time the rows are written

fits-rows : (c : Counts) (d : Settled) (s : State) (m : More) (r : Rooms) (count f w : ℕ) → m ≡ more_by d s count → r.rows ≡ min (room float_width f) (room word_width w) → first_short (six_lent c m r) ≡ None
    → (c.rows + count ≤ most) × ((c.rows + count) * float_width ≤ f) × ((c.rows + count) * word_width ≤ w)
unfolding more_by
fits-rows c d s m r count f w e g h =
    let k : c.rows + count ≤ min (room float_width f) (room word_width w) = subst (λ (n : ℕ). c.rows + n ≤ min (room float_width f) (room word_width w)) (ap (λ (x : More). x.rows) e) (subst (λ (n : ℕ). c.rows + m.rows ≤ n) g (rows-room c m r h)) in
    let a = room_fits float_width f (c.rows + count) (omega arith) in
    let b = room_fits word_width w (c.rows + count) (omega arith) in
    (a.1, a.0, b.0)

pub ranged : (s : State) (d : Settled) (x y : List (List Float)) (n : ℕ) (l : List ℤ) → n ≡ s.counts.fogs → d ≡ settled (family_of s.microcode) s x y (entries fog_width n l) → Ranges s → Ranged s d
unfolding settled
ranged s d x y n l g e r =
    record {
      matrices = r.matrices;
      scales = r.scales;
      lights = r.folded;
      lookats = r.lookats;
      fogs = r.fogs;
      number = r.lights;
      place =
          let p : d.fogat ≡ find (entries fog_width n l) (fog_pair s) = ap (λ (x : Settled). x.fogat) e in
          let w : find (entries fog_width n l) (fog_pair s) ≤ length (entries fog_width n l) = (find_first (entries fog_width n l) (fog_pair s)).within in
          let z : length (entries fog_width n l) ≡ n = length-entries fog_width n l in
          let u = r.fogs in
          omega arith;
    }

-- ---- what the load leaves

rows-floats : (e : Shared) (vs : List Vertex) → map (λ r. r.floats) (map (vertex_row e) vs) ≡ map floats_of vs
rows-floats e [] = refl
rows-floats e (v ∷ vs) = ap (λ (r : List (List Float)). floats_of v ∷ r) (rows-floats e vs)

rows_words : (e : Shared) (vs : List Vertex) → map (λ r. r.words) (map (vertex_row e) vs) ≡ map (words_of e) vs
rows_words e [] = refl
rows_words e (v ∷ vs) = ap (λ (r : List (List ℕ)). words_of e v ∷ r) (rows_words e vs)

module _ (s s' t : State) (d : Settled) (e : Shared) (m : List (List Float)) (c : Counts) (vs : List Vertex) (first count : ℕ) (n : ℕ) (l k : LoadAreas)
    (is_state : s' ≡ settled_state d s)
    (is_shared : e ≡ shared_by d s)
    (is-matrix : m ≡ rows d.combined 0)
    (tables : TablesAre d s count (load_edits d s []) c l.matrices l.scales l.lights l.lookats l.fogs k.matrices k.scales k.lights k.lookats k.fogs)
    (laid : RowsLaid s' m e first vs l.floats l.words t k.floats k.words)
    (is-notice : n ≡ pick s.defined 0 1)
    (is-count : length vs ≡ count) where
  kept : s'.counts ≡ s.counts
  unfolding settled_state
  kept = ap (λ (x : State). x.counts) is_state

  base : s'.counts.rows ≡ s.counts.rows
  base = ap (λ (x : Counts). x.rows) kept

  counts-then : c ≡ advance (load_edits d s vs) s.counts
  unfolding load_edits
  counts-then = tables.counts ∙ ap (λ (n : ℕ). advance_tables (load_edits d s []) n s.counts) (sym is-count ∙ sym (length-map vs (vertex_row (shared_by d s))))

  state-then : t ≡ fill_slots (settled_state d s) (rows d.combined 0) (shared_by d s) first s.counts.rows vs
  state-then =
      laid.state
      ∙ ap (λ (x : State). fill_slots x m e first s'.counts.rows vs) is_state
      ∙ ap (λ (n : ℕ). fill_slots (settled_state d s) m e first n vs) base
      ∙ ap (λ (x : Shared). fill_slots (settled_state d s) m x first s.counts.rows vs) is_shared
      ∙ ap (λ (x : List (List Float)). fill_slots (settled_state d s) x (shared_by d s) first s.counts.rows vs) is-matrix

  floats-then : k.floats ≡ write float_width s.counts.rows (map (λ r. r.floats) (map (vertex_row (shared_by d s)) vs)) l.floats
  floats-then =
      laid.floats
      ∙ ap (λ (n : ℕ). write float_width n (map floats_of vs) l.floats) base
      ∙ ap (λ (es : List (List Float)). write float_width s.counts.rows es l.floats) (sym (rows-floats (shared_by d s) vs))

  words-then : k.words ≡ write word_width s.counts.rows (map (λ r. r.words) (map (vertex_row (shared_by d s)) vs)) l.words
  words-then =
      laid.words
      ∙ ap (λ (n : ℕ). write word_width n (map (words_of e) vs) l.words) base
      ∙ ap (λ (x : Shared). write word_width s.counts.rows (map (words_of x) vs) l.words) is_shared
      ∙ ap (λ (es : List (List ℕ)). write word_width s.counts.rows es l.words) (sym (rows_words (shared_by d s) vs))

  pub load-done : outcome (record { state = with_counts t c; answer = Told n }) k ≡ carry areas_load (load_done d s first vs) s l
  unfolding carry load_edits
  load-done =
      ap (λ (x : ℕ). outcome (record { state = with_counts t c; answer = Told x }) k) is-notice
      ∙ λ i. record {
        state = with_counts (state-then i) (counts-then i);
        number = 0;
        values = pick s.defined 0 1 ∷ [];
        areas = record {
          matrices = tables.matrices i;
          scales = tables.scales i;
          lights = tables.lights i;
          lookats = tables.lookats i;
          fogs = tables.fogs i;
          floats = floats-then i;
          words = words-then i;
        };
      }

-- ---- what the tests of a load show, in their order

-- the first three: the state is sound, the slots are there, the bytes reach
pub record Judged (s : State) (first count at : ℕ) (bytes : List ℕ) : Type 0 where
  pub sound : state_sound s ≡ true
  pub slots : (leb count 256 && leb (first + count) 256) ≡ true
  pub reach : leb (at + 16 * count) (length bytes) ≡ true

-- these, and the rooms are the areas'
pub record Roomed (s : State) (l : LoadAreas) (first count at : ℕ) (bytes : List ℕ) (rooms : Rooms) : Type 0 where
  pub judged : Judged s first count at bytes
  pub is-rooms : rooms ≡ rooms_of (length l.matrices) (length l.scales) (length l.lights) (length l.lookats) (length l.fogs) (length l.floats) (length l.words)

-- the first table that has less room than it holds
abbrev pub short_of : State → Rooms → Option ℕ
short_of s r = first_short (six_lent s.counts no_more r)

-- the first table that has less room than it is to hold
abbrev pub full_of : State → Settled → ℕ → Rooms → Option ℕ
full_of s d count r = first_short (six_lent s.counts (more_by d s count) r)

-- these, no table is short, and all is settled
pub record Sized (s : State) (l : LoadAreas) (first count at : ℕ) (bytes : List ℕ) (rooms : Rooms) (d : Settled) : Type 0 where
  pub roomed : Roomed s l first count at bytes rooms
  pub fits : short_of s rooms ≡ None
  pub is-settled : d ≡ settled (family_of s.microcode) s (entries matrix_width s.counts.matrices l.matrices) (entries scale_width s.counts.scales l.scales) (entries fog_width s.counts.fogs l.fogs)

-- the tags of every answer but Told
abbrev pub untold : List ℕ
untold = 0 ∷ 2 ∷ 3 ∷ 4 ∷ 5 ∷ 6 ∷ 7 ∷ 8 ∷ 9 ∷ 10 ∷ 11 ∷ 12 ∷ 13 ∷ []

-- ---- the load's ways out, each by the tests that lead there
module _ (s : State) (l : LoadAreas) (first count at : ℕ) (bytes : List ℕ) where
  abbrev load-plan : Plan
  load-plan = load_plan (family_of s.microcode) (limit s) s (load_tables s.counts l) first count bytes at

  abbrev Refuses : Answer → Type 0
  Refuses a = outcome (record { state = s; answer = a }) l ≡ carry areas_load load-plan s l

  way-state : state_sound s ≡ false → outcome (record { state = s; answer = BadState }) l ≡ carry areas_load load-plan s l
  unfolding load_plan
  way-state h = refused areas_load s l _ _ BadState h

  way-slots : state_sound s ≡ true → (leb count 256 && leb (first + count) 256) ≡ false → outcome (record { state = s; answer = BadLoad count first }) l ≡ carry areas_load load-plan s l
  unfolding load_plan
  way-slots sound h = passed areas_load s l _ _ _ _ _ sound (refused areas_load s l _ _ (BadLoad count first) h)

  way-data : state_sound s ≡ true → (leb count 256 && leb (first + count) 256) ≡ true → leb (at + 16 * count) (length bytes) ≡ false
      → outcome (record { state = s; answer = ShortData (16 * count) }) l ≡ carry areas_load load-plan s l
  unfolding load_plan
  way-data sound slots h = passed areas_load s l _ _ _ _ _ sound (passed areas_load s l _ _ _ _ _ slots (refused areas_load s l _ _ (ShortData (16 * count)) h))

  abbrev tables : Edits → List Lent
  tables e = load_lent (load_tables s.counts l) e

  module _ (r : Rooms) (t : Roomed s l first count at bytes r) where
    eight : tables untouched ≡ six_lent s.counts no_more r
    eight = six-lent s.counts l untouched no_more r t.is-rooms refl

    way-short : (k : ℕ) → short_of s r ≡ Some k → Refuses (ShortArea k)
    unfolding load_plan
    way-short k h =
        passed areas_load s l _ _ _ _ _ t.judged.sound
        (passed areas_load s l _ _ _ _ _ t.judged.slots
        (passed areas_load s l _ _ _ _ _ t.judged.reach
        (table-refused areas_load s l 8 (tables untouched) _ (ShortArea k) k (ap first_short eight ∙ h) refl refl)))

    to-eight : short_of s r ≡ None → (p : Plan) (o : Outcome LoadAreas) → o ≡ carry areas_load p s l → o ≡ carry areas_load (judge 8 (tables untouched) p) s l
    to-eight z p o h = table-passed areas_load s l 8 (tables untouched) p o (ap first_short eight ∙ z) h

  -- the early answer, by its four tests
  module _ (r : Rooms) (is-rooms : r ≡ rooms_of (length l.matrices) (length l.scales) (length l.lights) (length l.lookats) (length l.fogs) (length l.floats) (length l.words)) where
    abbrev answered : Bool → Bool → Bool → Option ℕ → Result (Unit {0}) Answer
    answered b₁ b₂ b₃ o = pick b₁ (pick b₂ (pick b₃ (unless_short o ShortArea tt) (Err (ShortData (16 * count)))) (Err (BadLoad count first))) (Err BadState)

    abbrev judgement : state_sound s ≡ true → (leb count 256 && leb (first + count) 256) ≡ true → leb (at + 16 * count) (length bytes) ≡ true → Roomed s l first count at bytes r
    judgement e₁ e₂ e₃ = record { judged = record { sound = e₁; slots = e₂; reach = e₃ }; is-rooms = is-rooms }

    refuses : (b₁ b₂ b₃ : Bool) (o : Option ℕ) → state_sound s ≡ b₁ → (leb count 256 && leb (first + count) 256) ≡ b₂ → leb (at + 16 * count) (length bytes) ≡ b₃ → short_of s r ≡ o
        → (a : Answer) → answered b₁ b₂ b₃ o ≡ Err a → Refuses a
    unfolding pick
    refuses false b₂ b₃ o e₁ e₂ e₃ e₄ a q = subst Refuses (same_refusal _ _ q) (way-state e₁)
    refuses true false b₃ o e₁ e₂ e₃ e₄ a q = subst Refuses (same_refusal _ _ q) (way-slots e₁ e₂)
    refuses true true false o e₁ e₂ e₃ e₄ a q = subst Refuses (same_refusal _ _ q) (way-data e₁ e₂ e₃)
    refuses true true true (Some k) e₁ e₂ e₃ e₄ a q = subst Refuses (same_refusal _ _ q) (way-short r (judgement e₁ e₂ e₃) k e₄)
    refuses true true true None e₁ e₂ e₃ e₄ a q = absurd (refused-not _ _ q)

    goes_on : (b₁ b₂ b₃ : Bool) (o : Option ℕ) → state_sound s ≡ b₁ → (leb count 256 && leb (first + count) 256) ≡ b₂ → leb (at + 16 * count) (length bytes) ≡ b₃ → short_of s r ≡ o
        → answered b₁ b₂ b₃ o ≡ Ok tt → Judged s first count at bytes × (short_of s r ≡ None)
    unfolding pick
    goes_on false b₂ b₃ o e₁ e₂ e₃ e₄ q = absurd (refused-not _ _ (sym q))
    goes_on true false b₃ o e₁ e₂ e₃ e₄ q = absurd (refused-not _ _ (sym q))
    goes_on true true false o e₁ e₂ e₃ e₄ q = absurd (refused-not _ _ (sym q))
    goes_on true true true (Some k) e₁ e₂ e₃ e₄ q = absurd (refused-not _ _ (sym q))
    goes_on true true true None e₁ e₂ e₃ e₄ q = (record { sound = e₁; slots = e₂; reach = e₃ }, e₄)

    -- an early refusal is the load's
    pub way-early : (a : Answer) → early_answer s first count (length bytes) at r ≡ Err a → Refuses a
    unfolding early_answer
    way-early a q = refuses _ _ _ _ refl refl refl refl a q

    -- where there is none, all four tests are passed
    pub passed-early : early_answer s first count (length bytes) at r ≡ Ok tt → Judged s first count at bytes × (short_of s r ≡ None)
    unfolding early_answer
    passed-early q = goes_on _ _ _ _ refl refl refl refl q

  module _ (r : Rooms) (d : Settled) (z : Sized s l first count at bytes r d) where
    abbrev vs : List Vertex
    vs = vertices_at bytes at count

    abbrev full : Option ℕ
    full = full_of s d count r

    nine : tables (load_edits d s vs) ≡ six_lent s.counts (more_by d s count) r
    nine = six-lent s.counts l (load_edits d s vs) (more_by d s count) r z.roomed.is-rooms (load-more d s vs count (length-vertices bytes at count))

    abbrev judged-nine : Settled → Plan
    judged-nine x = judge 9 (tables (load_edits x s vs)) (load_done x s first vs)

    to-nine : (o : Outcome LoadAreas) → o ≡ carry areas_load (judged-nine d) s l → o ≡ carry areas_load load-plan s l
    unfolding load_plan
    to-nine o h =
        let j = z.roomed.judged in
        passed areas_load s l _ _ _ _ o j.sound
        (passed areas_load s l _ _ _ _ o j.slots
        (passed areas_load s l _ _ _ _ o j.reach
        (to-eight r z.roomed z.fits _ o
        (h ∙ ap (λ (x : Settled). carry areas_load (judged-nine x) s l) z.is-settled))))

    way-full : (k : ℕ) → full ≡ Some k → Refuses (NoRoom k)
    way-full k h = to-nine _ (table-refused areas_load s l 9 (tables (load_edits d s vs)) (load_done d s first vs) (NoRoom k) k (ap first_short nine ∙ h) refl refl)

    pub way-done : full ≡ None → (o : Outcome LoadAreas) → o ≡ carry areas_load (load_done d s first vs) s l → o ≡ carry areas_load load-plan s l
    way-done e o h = to-nine o (table-passed areas_load s l 9 (tables (load_edits d s vs)) (load_done d s first vs) o (ap first_short nine ∙ e) h)

    -- a late refusal is the load's
    late-refuses : (o : Option ℕ) → full ≡ o → (a : Answer) → unless_short {A = ℕ} o NoRoom (pick s.defined 0 1) ≡ Err a → Refuses a
    late-refuses (Some k) e a q = subst Refuses (same_refusal _ _ q) (way-full k e)
    late-refuses None e a q = absurd (refused-not _ _ q)

    pub way-late : (a : Answer) → late_answer d s count r ≡ Err a → Refuses a
    unfolding late_answer
    way-late a q = late-refuses _ refl a q

    -- what the writing half asks for
    pub load-ready : full ≡ None → Ranged s d × RowsFit s.counts.rows first count at bytes l.floats l.words
    unfolding rooms_of
    load-ready e =
        let j = z.roomed.judged in
        let g = fits-rows s.counts d s (more_by d s count) r count (length l.floats) (length l.words) refl (ap (λ (x : Rooms). x.rows) z.roomed.is-rooms) e in (
          ranged s d _ _ _ _ refl z.is-settled (ranges s j.sound),
          record {
            slots = leb-true _ _ (and_right (leb count 256) (leb (first + count) 256) j.slots);
            bytes = leb-true _ _ j.reach;
            rows = g.0;
            floats = g.1;
            words = g.2;
          },
        )

-- ---- what the writing half needs on its way

-- the state then, as the code sets it
pub settled-then : (s : State) (d : Settled) {l : Lights} {o : Lookat} → l ≡ lights_then d s → o ≡ lookat_then d s
    → with_lookat (with_lights (with_combined s d.combined s.defined) l) o ≡ settled_state d s
unfolding settled_state
settled-then s d p q = λ i. with_lookat (with_lights (with_combined s d.combined s.defined) (p i)) (q i)

-- ---- what a load that is not refused has shown

module _ (s : State) (first count len at : ℕ) (r : Rooms) where
  early-sound : (b : Bool) (x : Result (Unit {0}) Answer) → state_sound s ≡ b → pick b x (Err BadState) ≡ Ok tt → state_sound s ≡ true
  unfolding pick
  early-sound false x e q = absurd (refused-not _ _ (sym q))
  early-sound true x e q = e

  -- the state's own numbers are in their ranges
  pub sound-early : early_answer s first count len at r ≡ Ok tt → Ranges s
  unfolding early_answer
  sound-early q = ranges s (early-sound _ _ refl q)

module _ (s : State) (d : Settled) (count : ℕ) (r : Rooms) (n : ℕ) where
  late-by : (o : Option ℕ) → full_of s d count r ≡ o → unless_short {A = ℕ} o NoRoom (pick s.defined 0 1) ≡ Ok n → (full_of s d count r ≡ None) × (n ≡ pick s.defined 0 1)
  late-by (Some k) e q = absurd (refused-not _ _ (sym q))
  late-by None e q = (e, cc)

  -- no table is full, and it tells of the matrix
  pub passed-late : late_answer d s count r ≡ Ok n → (full_of s d count r ≡ None) × (n ≡ pick s.defined 0 1)
  unfolding late_answer
  passed-late q = late-by _ refl q

  -- the rows are not too many
  pub rows-count : late_answer d s count r ≡ Ok n → (f w : ℕ) → r.rows ≡ min (room float_width f) (room word_width w) → s.counts.rows + count ≤ most
  rows-count q f w e = (fits-rows s.counts d s (more_by d s count) r count f w refl e (passed-late q).0).0

-- ---- the ways out of a load by what is prepared of it
module _ (s : State) (l : LoadAreas) (first count at : ℕ) (bytes : List ℕ) (r : Rooms)
    (is-rooms : r ≡ rooms_of (length l.matrices) (length l.scales) (length l.lights) (length l.lookats) (length l.fogs) (length l.floats) (length l.words)) where
  abbrev d : Settled
  d = settled_in s l.matrices l.scales l.fogs

  sized : early_answer s first count (length bytes) at r ≡ Ok tt → Sized s l first count at bytes r d
  sized h =
      let j = passed-early s l first count at bytes r is-rooms h in
      record { roomed = record { judged = j.0; is-rooms = is-rooms }; fits = j.1; is-settled = refl }

  -- it is refused
  pub refused-load : (a : Answer) → Refused s d first count (length bytes) at r a → outcome (record { state = s; answer = a }) l ≡ carry areas_load (load-plan s l first count at bytes) s l
  refused-load a h =
      ⊎_elim
      (λ e. way-early s l first count at bytes r is-rooms a e)
      (λ e. way-late s l first count at bytes r d (sized e.0) a e.1)
      h

  -- it is ready
  module _ (p : Prepared) (x : LoadAreas)
      (h : Ready s d first count (length bytes) at r l.matrices l.scales l.lights l.lookats l.fogs x.matrices x.scales x.lights x.lookats x.fogs p) where
    passes : (full_of s d count r ≡ None) × (p.notice ≡ pick s.defined 0 1)
    passes = passed-late s d count r p.notice h.late

    -- there is place for its rows
    pub rows_fit : RowsFit s.counts.rows first count at bytes l.floats l.words
    rows_fit = (load-ready s l first count at bytes r d (sized h.early) passes.0).1

    -- the state before its rows and counts, as the code sets it
    abbrev settling : State
    settling = with_lookat (with_lights (with_combined s p.combined s.defined) p.lights) p.lookat

    settles : settling ≡ settled_state d s
    settles = (λ i. with_lookat (with_lights (with_combined s (h.combined i) s.defined) p.lights) p.lookat) ∙ settled-then s d h.lights h.lookat

    -- with its rows and slots it is done
    pub done-load : (m : List (List Float)) (q : Slots)
        → m ≡ rows p.combined 0
        → Laid m p.shared bytes at first s.counts.rows count l.floats l.words s.coded s.code s.deep s.z x.floats x.words q.coded q.code q.deep q.z
        → Marked first s.counts.rows count s.row s.ever s.loaded s.drawn q.row q.ever q.loaded q.drawn
        → outcome (record { state = with_slots (with_counts settling p.counts) q; answer = Told p.notice }) x ≡ carry areas_load (load-plan s l first count at bytes) s l
    done-load m q is-matrix laid marked =
        way-done s l first count at bytes r d (sized h.early) passes.0 _
        (load-done s settling (with_slots settling q) d p.shared m p.counts (vertices_at bytes at count) first count p.notice l x settles h.shared
        (is-matrix ∙ ap (λ (c : List Float). rows c 0) h.combined)
        h.tables (loaded-by {s = settling} {l = q} laid marked) passes.1 (length-vertices bytes at count))

-- what a load leaves is known by the state, its columns, its answer and its areas, each by itself
module _ (g g' : State) (c c' : Slots) (a a' : Answer) (k k' : LoadAreas) where
  pub left : {o : Outcome LoadAreas}
      → g ≡ g'
      → c.row ≡ c'.row
      → c.ever ≡ c'.ever
      → c.loaded ≡ c'.loaded
      → c.drawn ≡ c'.drawn
      → c.coded ≡ c'.coded
      → c.code ≡ c'.code
      → c.deep ≡ c'.deep
      → c.z ≡ c'.z
      → a ≡ a'
      → k.matrices ≡ k'.matrices
      → k.scales ≡ k'.scales
      → k.lights ≡ k'.lights
      → k.lookats ≡ k'.lookats
      → k.fogs ≡ k'.fogs
      → k.floats ≡ k'.floats
      → k.words ≡ k'.words
      → outcome (record { state = with_slots g' c'; answer = a' }) k' ≡ o
      → outcome (record { state = with_slots g c; answer = a }) k ≡ o
  left eg e₁ e₂ e₃ e₄ e₅ e₆ e₇ e₈ ea x₁ x₂ x₃ x₄ x₅ x₆ x₇ h =
      (λ i. outcome (record { state = with_slots (eg i) (record { row = e₁ i; ever = e₂ i; loaded = e₃ i; drawn = e₄ i; coded = e₅ i; code = e₆ i; deep = e₇ i; z = e₈ i }); answer = ea i }) (load_areas (x₁ i) (x₂ i) (x₃ i) (x₄ i) (x₅ i) (x₆ i) (x₇ i)))
      ∙ h
