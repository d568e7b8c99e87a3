-- What a draw that is recorded has passed. Assumes nothing.
use mathlib.Core.Path.{◌≡◌, refl, ap}
use Prim.Native.Nat.{ℕ, ◌+◌, ◌-◌, ◌*◌, ◌≤◌}
use native.Mathlib.Omega.{arith}
use mathlib.Core.Bool.{Bool, true, false}
use mathlib.Core.Logic.{◌⊎◌, inl, inr, ⊎_elim}
use mathlib.Core.List.{List}
use lib.ListN.{length, get_or}
use borrow.Author.Tests.{leb-true}
use Rattle.numbers.specs.Choice.{pick, unless}
use Rattle.areas.specs.Area.{room}
use Rattle.areas.specs.Widths.{most, index_width, run_width}
use Rattle.areas.proofs.Tables.{room_fits}
use Rattle.triangle.specs.declared.run.Last.{Last}
use Rattle.triangle.specs.declared.slot.Corner.{Corner}
use Rattle.triangle.specs.declared.verdict.Tables.{Tables}
use Rattle.triangle.specs.declared.verdict.Record.{Record}
use Rattle.triangle.specs.declared.verdict.Refusal.{Refusal}
use Rattle.triangle.specs.declared.verdict.Refusal.TheVariants.{Never}
use Rattle.std.proofs.Common.{Option, None, Some, Result, Ok, Err, ok_or}
use Rattle.triangle.proofs.Lasts.{last-some-used}
use Rattle.triangle.specs.Steps.{last_of, grows, begun, run_for, loaded, ◌>>=◌, draw_tables, draw_judged, draw_slots, draw_areas, draw_last}

-- the last run grows by one triangle
pub record Grown (last : Option Last) (more start count : ℕ) : Type 0 where
  pub run : Last
  pub is : last ≡ Some run
  pub same : run.same ≡ true
  pub none : more ≡ 0
  pub begins : start ≡ run.start
  pub counts : count ≡ run.count + 3

-- a run is appended, from the indices in use on
pub record Begun (t : Tables) (last : Option Last) (more start count : ℕ) : Type 0 where
  pub other : grows last ≡ false
  pub one : more ≡ 1
  pub begins : start ≡ t.indices
  pub counts : count ≡ 3
  pub room : t.runs + 1 ≤ room run_width t.runlen

-- the slots are known, their rows are the record's, the areas have room, and the runs get one of the two
pub record Recorded (a b c : Corner) (t : Tables) (last : Option Last) (rows : List ℕ) (more start count : ℕ) : Type 0 where
  pub first : a.row ≡ Some (get_or rows 0 0)
  pub second : b.row ≡ Some (get_or rows 1 0)
  pub third : c.row ≡ Some (get_or rows 2 0)
  pub indices : t.indices + 3 ≤ room index_width t.indexlen
  pub runs : t.runs ≤ room run_width t.runlen
  pub how : Grown last more start count ⊎ Begun t last more start count

-- a stage that leads to a record is passed
went : {A : Type 0} (b : Bool) (e : Refusal) (rest : Result A Refusal) (r : A) → unless b (Err e) rest ≡ Ok r → (b ≡ true) × (rest ≡ Ok r)
unfolding unless
went true e rest r h = (refl, h)
went false e rest r h = absurd (cc)

-- not both sides are culled
sided : (b : Bool) (rest : Result Record Refusal) (r : Record) → pick b (Ok None) (rest >>= (λ (x : Record). Ok (Some x))) ≡ Ok (Some r) → rest ≡ Ok r
unfolding pick
sided true rest r e = absurd (cc)
sided false (Ok x) r e = cc
sided false (Err e) r h = absurd (cc)

-- a corner's row is there, and what follows it answers the record
stood : (c : Corner) (f : ℕ → Result Record Refusal) (r : Record) → loaded c >>= f ≡ Ok r → (x : ℕ) × (c.row ≡ Some x) × (f x ≡ Ok r)
stood c f r e = go c.row e
  where
    go : (o : Option ℕ) → ok_or o (Never c.slot) >>= f ≡ Ok r → (x : ℕ) × (o ≡ Some x) × (f x ≡ Ok r)
    go None e = absurd (cc)
    go (Some x) e = (x, refl, e)

-- a run of its own
own : (rows : List ℕ) (t : Tables) (last : Option Last) (r : Record) → grows last ≡ false → begun rows t ≡ Ok r → (r.rows ≡ rows) × Begun t last r.more r.start r.count
own rows t last r g e =
    let w = went _ _ _ r e in (
      ap (λ (x : Record). x.rows) (back w.1),
      record { other = g; one = ap (λ (x : Record). x.more) (back w.1); begins = ap (λ (x : Record). x.start) (back w.1); counts = ap (λ (x : Record). x.count) (back w.1); room = leb-true (t.runs + 1) (room run_width t.runlen) w.0 },
    )
  where
    back : {x : Record} → ◌≡◌ {A = Result Record Refusal} (Ok x) (Ok r) → r ≡ x
    back h = cc

-- the way to record, by whether the last run grows
way : (rows : List ℕ) (t : Tables) (last : Option Last) (r : Record) → run_for rows t last ≡ Ok r → (r.rows ≡ rows) × (Grown last r.more r.start r.count ⊎ Begun t last r.more r.start r.count)
unfolding pick
way rows t None r e = let o = own rows t None r refl e in (o.0, inr o.1)
way rows t (Some l) r e = go l.same refl e
  where
    go : (b : Bool) → l.same ≡ b → pick b (Ok (record { rows = rows; more = 0; start = l.start; count = l.count + 3 })) (begun rows t) ≡ Ok r → (r.rows ≡ rows) × (Grown (Some l) r.more r.start r.count ⊎ Begun t (Some l) r.more r.start r.count)
    go true s h =
        let k : r ≡ record { rows = rows; more = 0; start = l.start; count = l.count + 3 } = cc in (
          ap (λ (x : Record). x.rows) k,
          inl record { run = l; is = refl; same = s; none = ap (λ (x : Record). x.more) k; begins = ap (λ (x : Record). x.start) k; counts = ap (λ (x : Record). x.count) k },
        )
    go false s h = let o = own rows t (Some l) r s h in (o.0, inr o.1)

-- WHAT A RECORDED DRAW HAS PASSED
pub recorded : (sound both : Bool) (a b c : Corner) (t : Tables) (last : Option Last) (r : Record) → draw_judged sound both a b c t last ≡ Ok (Some r) → Recorded a b c t last r.rows r.more r.start r.count
unfolding draw_judged draw_slots draw_areas draw_last
recorded sound both a b c t last r e0 =
    let e1 = (went _ _ _ (Some r) e0).1 in
    let e2 = stood a _ r (sided both _ r e1) in
    let e3 = stood b _ r e2.2 in
    let e4 = stood c _ r e3.2 in
    let e5 = (went _ _ _ r e4.2).1 in
    let e6 = (went _ _ _ r e5).1 in
    let e7 = went _ _ _ r e6 in
    let e8 = (went _ _ _ r e7.1).1 in
    let e9 = went _ _ _ r e8 in
    let w = way _ t last r e9.1 in
    let used : t.runs + 0 ≤ room run_width t.runlen = leb-true (t.runs + 0) (room run_width t.runlen) e7.0 in
    record {
      first = rw w.0 e2.1;
      second = rw w.0 e3.1;
      third = rw w.0 e4.1;
      indices = leb-true (t.indices + 3) (room index_width t.indexlen) e9.0;
      runs = omega arith;
      how = w.1;
    }

-- where the code writes lies in the areas, and the counts stay in their ranges: n indices and w runs are in use, x runs are appended, and
-- the areas have i and r numbers
pub record Rooms (n w x i r : ℕ) : Type 0 where
  pub index_count : n + 3 ≤ most
  pub index-end : n + 3 ≤ i
  pub run-some : 1 ≤ w + x
  pub run-count : w + x ≤ most
  pub run_end : (w + x - 1) * run_width + run_width ≤ r

pub rooms : (rows n w i : ℕ) (m q : List ℕ) (a b c : Corner) (k : List ℕ) (x y z : ℕ) → Recorded a b c (draw_tables rows n w i (length m)) (last_of w m q) k x y z → Rooms n w x i (length m)
rooms rows n w i m q a b c k x y z r =
    let runs : (1 ≤ w + x) × (w + x ≤ most) × ((w + x - 1) * run_width + run_width ≤ length m) =
    ⊎_elim
    (λ g. let some : 1 ≤ w = last-some-used w m q g.run g.is in omega (arith, g.none, room_fits run_width (length m) w r.runs))
    (λ g. omega (arith, g.one, room_fits run_width (length m) (w + 1) g.room))
    r.how in
    omega (arith, room_fits index_width i (n + 3) r.indices)
