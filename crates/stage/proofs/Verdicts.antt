-- A draw by its verdict: the plan that a verdict stands for, and what a recorded triangle comes to. Assumes nothing.
use mathlib.Core.Path.{◌≡◌, refl, sym, ap, ◌∙◌}
use Prim.Native.Nat.{ℕ, ◌+◌, ◌-◌, ◌*◌, ◌%◌, ◌≤◌}
use native.Mathlib.Nat.{add-zero, mul-one}
use native.Mathlib.Omega.{arith}
use mathlib.Core.Bool.{Bool, true, false, ◌&&◌, cond, and_assoc, and-true}
use mathlib.Core.List.{List, [], ◌∷◌}
use mathlib.Core.Logic.{◌⊎◌, ⊎_elim}
use lib.Dec.{leb, ltb}
use lib.ListN.{length, get_or, set, length-append}
use borrow.Author.Tests.{le-leb, leb-true}
use Rattle.areas.specs.Area.{room, entries, put, write}
use Rattle.areas.specs.Widths.{index_width, run_width, settings_wide}
use Rattle.areas.proofs.Tables.{length-entries, write-one}
use Rattle.decide.specs.declared.family.Family.{Family}
use Rattle.triangle.specs.declared.run.Last.{Last}
use Rattle.triangle.specs.declared.run.Settings.{Settings}
use Rattle.triangle.specs.declared.slot.Corner.{Corner}
use Rattle.triangle.specs.declared.slot.Sides.{Sides}
use Rattle.triangle.specs.declared.verdict.Tables.{Tables}
use Rattle.triangle.specs.declared.verdict.Record.{Record}
use Rattle.triangle.specs.declared.verdict.Refusal.{Refusal}
use Rattle.triangle.specs.declared.verdict.Refusal.TheVariants.{Unsound, Never, Short, Full}
use Rattle.triangle.specs.Run.{settings, run_of, closed, same_run}
use Rattle.triangle.specs.Slot.{held, corners, both, culls, swaps}
use Rattle.triangle.specs.Steps.{six, last_of, sides_of, corner, corner_at, grows, loaded, ◌>>=◌, begun, run_for, draw_tables, draw_last, draw_areas, draw_slots, draw_judged}
use Rattle.triangle.proofs.Lasts.{last-closes, last-same, run-grows}
use Rattle.triangle.proofs.Recording.{Grown, Begun, Recorded, recorded, Rooms, rooms}
use Rattle.triangle.proofs.Slots.{held-read, held_place, held_reads}
use Rattle.std.proofs.Common.{Option, None, Some, Result, Ok, Err}
use Rattle.std.specs.Bool.{then_some}
use Rattle.stage.specs.declared.State.{State}
use Rattle.stage.specs.declared.Counts.{Counts}
use Rattle.stage.specs.declared.Answer.{Answer}
use Rattle.stage.specs.declared.Answer.TheVariants.{Done}
use Rattle.stage.specs.Sound.{state_sound}
use Rattle.stage.specs.Plan.{keep, grow, Plan, refuse, does, unless, pick, more, lent, judge, table, counted, after, untouched, outcome, carry}
use Rattle.stage.specs.With.{with_drawn, with_counts}
use Rattle.stage.specs.Draw.{edits89, areas89, row_of, placed, mark, triangle, run_edit, draw_plan}
use Rattle.stage.specs.Steps.{draw_answer}

-- ---- the plan by the verdict

-- the plan that a refusal stands for
abbrev pub by_refusal : Refusal → Plan
by_refusal Unsound = refuse 10 []
by_refusal (Never i) = refuse 6 (i ∷ [])
by_refusal (Short i) = refuse 8 (i ∷ [])
by_refusal (Full i) = refuse 9 (i ∷ [])

-- the plan that a stage of the judge stands for; k is what is planned where a triangle is recorded
abbrev pub by_stage : Plan → Result Record Refusal → Plan
by_stage k (Ok r) = k
by_stage k (Err e) = by_refusal e

-- the plan that a verdict stands for
abbrev pub by_verdict : State → Plan → Result (Option Record) Refusal → Plan
by_verdict s k (Ok None) = does [] s untouched
by_verdict s k (Ok (Some r)) = k
by_verdict s k (Err e) = by_refusal e

-- a test of the plan and the same test of the judge
step : {A : Type 0} (by : Result A Refusal → Plan) (b d : Bool) (e : Refusal) (rest : Result A Refusal) (n : ℕ) (vs : List ℕ) (p : Plan) → b ≡ d → by (Err e) ≡ refuse n vs → (d ≡ true → p ≡ by rest)
    → unless b (refuse n vs) p ≡ by (unless d (Err e) rest)
unfolding unless
step by b true e rest n vs p q r h = rw q (h refl)
step by b false e rest n vs p q r h = rw q (sym r)

-- the test of a slot and the row that the judge takes of it
slot_step : (k : Plan) (i : ℕ) (b : Bool) (x : ℕ) (f : ℕ → Result Record Refusal) (p : Plan) → (b ≡ true → p ≡ by_stage k (f x)) → unless b (refuse 6 (i ∷ [])) p ≡ by_stage k (loaded (corner i b x) >>= f)
unfolding unless
slot_step k i true x f p h = h refl
slot_step k i false x f p h = refl

-- both sides culled
exit : (s : State) (k : Plan) (b : Bool) (rest : Result Record Refusal) (p : Plan) → p ≡ by_stage k rest
    → pick b (does [] s untouched) p ≡ by_verdict s k (pick b (Ok None) (rest >>= (λ (r : Record). Ok (Some r))))
unfolding pick
exit s k true rest p h = refl
exit s k false (Ok r) p h = h
exit s k false (Err e) p h = h

-- what table 9 needs: nothing where the last run grows
run_step : (k : Plan) (rows : List ℕ) (t : Tables) (last : Option Last) (us : List (List ℕ)) (n : ℕ) (q : List ℕ) → same_run 0 us q ≡ grows last → leb (t.runs + 0) (room run_width t.runlen) ≡ true
    → unless (leb (t.runs + more (run_edit us n q)) (room run_width t.runlen)) (refuse 9 (9 ∷ [])) k ≡ by_stage k (run_for rows t last)
unfolding run_edit pick unless
run_step k rows t None us n q e h = rw e (step (by_stage k) _ _ (Full 9) _ _ _ _ refl refl (λ _. refl))
run_step k rows t (Some l) us n q e h = go l.same e
  where
    go : (b : Bool) → same_run 0 us q ≡ b → unless (leb (t.runs + more (run_edit us n q)) (room run_width t.runlen)) (refuse 9 (9 ∷ [])) k ≡ by_stage k (pick b (Ok (record { rows = rows; more = 0; start = l.start; count = l.count + 3 })) (begun rows t))
    go true e = rw (e, h)
    go false e = rw e (step (by_stage k) _ _ (Full 9) _ _ _ _ refl refl (λ _. refl))

-- the judge's tests are those of the plan, stage by stage. n indices and w runs are in use, k is planned where a triangle is recorded, and q
-- are its settings, x its rows
module _ (k : Plan) (l m : List ℕ) (n w rows : ℕ) (x q : List ℕ) (long : length q ≡ settings_wide) where
  room-plan : (es : List (List ℕ)) → length es ≡ 3 → w ≤ room run_width (length m)
      → unless (closed 0 (entries run_width w m) (length (entries index_width n l))) (refuse 10 [])
      (judge 9 (lent 8 (table index_width n l) (grow es) ∷ lent 9 (table run_width w m) (run_edit (entries run_width w m) (length (entries index_width n l)) q) ∷ []) k)
      ≡ by_stage k (draw_last x (draw_tables rows n w (length l) (length m)) (last_of w m q))
  unfolding draw_last
  room-plan es three r =
      step (by_stage k) _ _ _ _ _ _ _ (rw (length-entries index_width n l) (sym (last-closes w m q n r))) refl
      (λ _. step (by_stage k) _ _ _ _ _ _ _ (rw (length-entries index_width n l, three)) refl
      (λ _. rw (length-entries run_width w m) (run_step k x (draw_tables rows n w (length l) (length m)) (last_of w m q) (entries run_width w m) (length (entries index_width n l)) q (sym (last-same w m q long r)) (le-leb (w + 0) (room run_width (length m)) (omega arith)))))

  areas-plan : (es : List (List ℕ)) → length es ≡ 3
      → judge 8 (lent 8 (table index_width n l) keep ∷ lent 9 (table run_width w m) keep ∷ [])
      (unless (closed 0 (entries run_width w m) (length (entries index_width n l))) (refuse 10 [])
      (judge 9 (lent 8 (table index_width n l) (grow es) ∷ lent 9 (table run_width w m) (run_edit (entries run_width w m) (length (entries index_width n l)) q) ∷ []) k))
      ≡ by_stage k (draw_areas x (draw_tables rows n w (length l) (length m)) (last_of w m q))
  unfolding draw_areas
  areas-plan es three =
      step (by_stage k) _ _ _ _ _ _ _ (rw (length-entries index_width n l)) refl
      (λ _. step (by_stage k) _ _ _ _ _ _ _ (rw (length-entries run_width w m)) refl
      (λ h. let r : w + 0 ≤ room run_width (length m) = leb-true (w + 0) (room run_width (length m)) h in room-plan es three (omega arith)))

-- the rows as the code reads them are those of the slots, where the slots are known
placed-is : (s : State) (a b c x y z : ℕ) → x ≡ row_of s a → y ≡ row_of s b → z ≡ row_of s c
    → placed s (a ∷ b ∷ c ∷ []) ≡ ltb x s.counts.rows && ltb y s.counts.rows && ltb z s.counts.rows
placed-is s a b c x y z ex ey ez = rw (ex, ey, ez) (simp (cond, and_assoc, and-true))

-- THE PLAN OF A DRAW IS THE ONE ITS VERDICT STANDS FOR. x, y and z are what the code reads of the three slots' rows
module _ (f : Family) (slots : ℕ) (s : State) (l m : List ℕ) (a b c : ℕ) (asked : List ℕ) (x y z : ℕ) where
  -- the settings asked for
  abbrev pub asks : List ℕ
  asks = settings asked (culls f s.geometry) s.microcode

  -- what is planned where the triangle is recorded
  abbrev pub recording : Plan
  recording =
      does []
      (with_drawn s (mark s.drawn (a ∷ b ∷ c ∷ [])))
      (edits89 (grow (triangle f s a b c)) (run_edit (entries run_width s.counts.runs m) (length (entries index_width s.counts.indices l)) asks))

  -- the verdict
  unfoldable pub verdict : Result (Option Record) Refusal
  verdict =
      draw_judged (state_sound s) (both f s.geometry)
      (corner a (held slots s.ever a) x)
      (corner b (held slots s.ever b) y)
      (corner c (held slots s.ever c) z)
      (draw_tables s.counts.rows s.counts.indices s.counts.runs (length l) (length m))
      (last_of s.counts.runs m asks)

  pub plan-is : length asks ≡ settings_wide
      → (held slots s.ever a ≡ true → x ≡ row_of s a)
      → (held slots s.ever b ≡ true → y ≡ row_of s b)
      → (held slots s.ever c ≡ true → z ≡ row_of s c)
      → draw_plan f slots s (table index_width s.counts.indices l) (table run_width s.counts.runs m) a b c asked ≡ by_verdict s recording verdict
  unfolding draw_plan verdict draw_judged draw_slots
  plan-is long rx ry rz =
      step (by_verdict s recording) _ _ _ _ _ _ _ refl refl
      (λ _. exit s recording _ _ _
      (slot_step recording a _ x _ _
      (λ ha. slot_step recording b _ y _ _
      (λ hb. slot_step recording c _ z _ _
      (λ hc. step (by_stage recording) _ _ _ _ _ _ _ (placed-is s a b c x y z (rx ha) (ry hb) (rz hc)) refl
      (λ _. areas-plan recording l m s.counts.indices s.counts.runs s.counts.rows (x ∷ y ∷ z ∷ []) asks long (triangle f s a b c) refl))))))

  -- the verdict as the code finds it, from what it reads at each slot's number modulo the number of slots
  pub verdict-is : (sd : Sides) (p q r : Corner) (t : Tables) (set : Settings) (d : Option Last) (ok : Bool) (v : Result (Option Record) Refusal)
      → sd ≡ sides_of f s.geometry
      → p ≡ corner_at slots a (get_or s.ever (a % slots) false) x
      → q ≡ corner_at slots b (get_or s.ever (b % slots) false) y
      → r ≡ corner_at slots c (get_or s.ever (c % slots) false) z
      → t ≡ draw_tables s.counts.rows s.counts.indices s.counts.runs (length l) (length m)
      → six set ≡ settings asked sd.cull s.microcode
      → d ≡ last_of s.counts.runs m (six set)
      → ok ≡ state_sound s
      → v ≡ draw_judged ok sd.both p q r t d
      → v ≡ verdict
  unfolding verdict
  verdict-is sd p q r t set d ok v esd ep eq er et eset ed eok ev =
      ev ∙ rw (eok, ep, eq, er, et, ed, eset, esd, held-read slots s.ever a, held-read slots s.ever b, held-read slots s.ever c)

  -- what a verdict to record has passed
  abbrev pub Passed : Record → Type 0
  Passed r =
      Recorded
      (corner a (held slots s.ever a) x)
      (corner b (held slots s.ever b) y)
      (corner c (held slots s.ever c) z)
      (draw_tables s.counts.rows s.counts.indices s.counts.runs (length l) (length m))
      (last_of s.counts.runs m asks)
      r.rows r.more r.start r.count

  pub passes : (v : Result (Option Record) Refusal) (r : Record) → v ≡ verdict → v ≡ Ok (Some r) → Passed r
  unfolding verdict
  passes v r e h = recorded _ _ _ _ _ _ _ _ (sym e ∙ h)

-- ---- what a draw comes to

-- a draw that is refused hands back the state and the areas as given
refused : (s : State) (l : List ℕ × List ℕ) (e : Refusal) → outcome (record { state = s; answer = draw_answer e }) l ≡ carry areas89 (by_refusal e) s l
unfolding carry
refused s l Unsound = refl
refused s l (Never i) = refl
refused s l (Short i) = refl
refused s l (Full i) = refl

-- a row that is there only where the mark is
marked : (b : Bool) (x y : ℕ) → then_some b x ≡ Some y → (b ≡ true) × (y ≡ x)
marked true x y e = (refl, cc)
marked false x y e = absurd (cc)

-- what the runs get: their count, and the run that the code writes
run-effect : (w n x y z : ℕ) (m q : List ℕ) (t : Tables) → length q ≡ settings_wide → w ≤ room run_width (length m) → t.indices ≡ n
    → Grown (last_of w m q) x y z ⊎ Begun t (last_of w m q) x y z
    → (counted (run_edit (entries run_width w m) n q) w ≡ w + x) × (after run_width w (run_edit (entries run_width w m) n q) m ≡ put m ((w + x - 1) * run_width) (run_of q y z))
unfolding run_edit pick
run-effect w n x y z m q t long r at how =
    ⊎_elim
    (λ g.
    let same : same_run 0 (entries run_width w m) q ≡ true = sym (last-same w m q long r) ∙ rw g.is g.same in
    let p : w - 1 ≡ w + 0 - 1 = omega arith in
    (rw (same, g.none) (sym (add-zero w)), rw (same, g.none, g.begins, g.counts, ← p) (run-grows w m q g.run long r g.is g.same)))
    (λ g.
    let same : same_run 0 (entries run_width w m) q ≡ false = sym (last-same w m q long r) ∙ g.other in
    let p : w ≡ w + 1 - 1 = omega arith in
    (rw (same, g.one), rw (same, g.one, g.begins, g.counts, at, ← p) (write-one run_width w (run_of q n 3) m)))
    how

-- the run that the code writes, by the settings asked for
pub run-written : (f : Family) (s : State) (m asked : List ℕ) (set : Settings) (sd : Sides) (at p y z : ℕ) (g : List ℕ) → sd ≡ sides_of f s.geometry
    → six set ≡ settings asked sd.cull s.microcode → at ≡ p
    → g ≡ put m at (run_of (six set) y z) → g ≡ put m p (run_of (settings asked (culls f s.geometry) s.microcode) y z)
run-written f s m asked set sd at p y z g esd es ea eg =
    let q : six set ≡ settings asked (culls f s.geometry) s.microcode = es ∙ rw esd in
    rw ea at (eg ∙ ap (λ (k : List ℕ). put m at (run_of k y z)) q)

-- the counts with three indices more, and k runs
abbrev pub longer_by : ℕ → Counts → Counts
longer_by k c =
    record {
      matrices = c.matrices;
      viewports = c.viewports;
      scales = c.scales;
      lights = c.lights;
      lookats = c.lookats;
      fogs = c.fogs;
      rows = c.rows;
      indices = c.indices + 3;
      runs = c.runs + k;
    }

module _ (f : Family) (slots : ℕ) (s : State) (l m : List ℕ) (a b c : ℕ) (asked : List ℕ) (four : length asked ≡ 4) where
  -- the row of a slot as the code reads it
  abbrev pub read : ℕ → ℕ
  read i = get_or s.row (i % slots) 0

  -- the verdict, from what the code reads
  abbrev pub judgement : Result (Option Record) Refusal
  judgement = verdict f slots s l m a b c asked (read a) (read b) (read c)

  -- what is planned, and what it is by the verdict
  abbrev pub planned : Plan
  planned = draw_plan f slots s (table index_width s.counts.indices l) (table run_width s.counts.runs m) a b c asked

  long : length (asks f slots s l m a b c asked (read a) (read b) (read c)) ≡ settings_wide
  long = rw (length-append, four)

  reads : (i : ℕ) → held slots s.ever i ≡ true → read i ≡ row_of s i
  reads i h = held_reads slots s.ever i s.row 0 h

  plan : planned ≡ by_verdict s (recording f slots s l m a b c asked (read a) (read b) (read c)) judgement
  plan = plan-is f slots s l m a b c asked (read a) (read b) (read c) long (reads a) (reads b) (reads c)

  -- WHERE NOTHING IS RECORDED, the state and the areas are as given, and the answer is the refusal's, or that it is done
  pub draws-refused : (e : Refusal) → Err e ≡ judgement → (t : State) (i r : List ℕ) (an : Answer) → t ≡ s → i ≡ l → r ≡ m → an ≡ draw_answer e
      → outcome (record { state = t; answer = an }) (i, r) ≡ carry areas89 planned s (l, m)
  draws-refused e ev t i r an et ei er ea = rw (et, ei, er, ea, plan, ← ev) (refused s (l, m) e)

  pub draws-nothing : Ok None ≡ judgement → (t : State) (i r : List ℕ) → t ≡ s → i ≡ l → r ≡ m
      → outcome (record { state = t; answer = Done }) (i, r) ≡ carry areas89 planned s (l, m)
  unfolding carry
  draws-nothing ev t i r et ei er = rw (et, ei, er, plan, ← ev)

  -- a triangle is recorded only where it has room
  pub has_room : (r : Record) (v : Result (Option Record) Refusal) → v ≡ judgement → v ≡ Ok (Some r) → Rooms s.counts.indices s.counts.runs r.more (length l) (length m)
  has_room r v ev er = rooms _ _ _ _ _ _ _ _ _ _ _ _ _ (passes f slots s l m a b c asked (read a) (read b) (read c) v r ev er)

  -- the rows that the code writes are the entries that table run_width gets
  index-effect : held slots s.ever a ≡ true → held slots s.ever b ≡ true → held slots s.ever c ≡ true → (n : ℕ)
      → put l n (corners (swaps f s.geometry) (read a) (read b) (read c)) ≡ after index_width n (grow (triangle f s a b c)) l
  unfolding write
  index-effect ha hb hc n = rw (reads a ha, reads b hb, reads c hc, mul-one n)

  -- WHERE A TRIANGLE IS RECORDED, the three slots are drawn, and the areas and counts are those planned
  pub draws : (r : Record) (v : Result (Option Record) Refusal) → v ≡ judgement → v ≡ Ok (Some r)
      → (t : State) → t ≡ with_counts (with_drawn s (set (set (set s.drawn (a % slots) true) (b % slots) true) (c % slots) true)) (longer_by r.more s.counts)
      → (i : List ℕ) → i ≡ put l s.counts.indices (corners (swaps f s.geometry) (get_or r.rows 0 0) (get_or r.rows 1 0) (get_or r.rows 2 0))
      → (g : List ℕ) → g ≡ put m ((s.counts.runs + r.more - 1) * run_width) (run_of (settings asked (culls f s.geometry) s.microcode) r.start r.count)
      → outcome (record { state = t; answer = Done }) (i, g) ≡ carry areas89 planned s (l, m)
  unfolding carry
  draws r v ev er t et i ei g eg =
      let h = passes f slots s l m a b c asked (read a) (read b) (read c) v r ev er in
      let ha = marked _ _ _ h.first in
      let hb = marked _ _ _ h.second in
      let hc = marked _ _ _ h.third in
      let e = run-effect s.counts.runs s.counts.indices r.more r.start r.count m _ _ long h.runs refl h.how in
      rw (
        et,
        ei,
        ha.1,
        hb.1,
        hc.1,
        index-effect ha.0 hb.0 hc.0 s.counts.indices,
        eg,
        plan,
        ← ev,
        er,
        held_place slots s.ever a ha.0,
        held_place slots s.ever b hb.0,
        held_place slots s.ever c hc.0,
        length-entries index_width s.counts.indices l,
        e.0,
        e.1,
      )
