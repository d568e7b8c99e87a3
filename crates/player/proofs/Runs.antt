-- WHAT REPLAY LEAVES IS A RUN: over all of each area an op is its act, and the acts of a script, one by one, come to what it leaves. Assumes nothing.
use mathlib.Core.Path.{◌≡◌, refl, sym, ap, ◌∙◌, subst}
use Prim.Native.Nat.{ℕ, zero, suc, min}
use native.Mathlib.Omega.{arith}
use mathlib.Core.Bool.{Bool, true, false}
use mathlib.Core.List.{List, [], ◌∷◌, ◌++◌, map, append-nil}
use lib.ListN.{length, drop, length-replicate}
use lib.Seq.{take-length, drop-length}
use lib.Dec.{eqb, ltb}
use lib.IntN.{pos}
use lib.Ieee.{Float}
use borrow.Author.Tests.{eqb-true, ne_eqb}
use Rattle.std.specs.Prelude.{Result, Ok, Err}
use Rattle.numbers.specs.Choice.{pick}
use Rattle.stage.specs.declared.State.{State}
use Rattle.stage.specs.declared.Counts.{Counts}
use Rattle.stage.specs.Plan.{Edits, Area, Plan, refuse, does, after_in, Outcome, carry, matrix_area, viewport_area, scale_area, light_area, lookat_area, fog_area, float_area, word_area, index_area, run_area}
use Rattle.stage.specs.Opening.{blank, opening_plan, areas12}
use Rattle.sequence.specs.Sequence.{Command, Areas, Port, book, after_all, result, step, run, with12, opening}
use Rattle.sequence.proofs.Held.{length-after}
use Rattle.trace.specs.declared.rooms.Lengths.{Lengths}
use Rattle.trace.specs.declared.script.Call.{Call}
use Rattle.trace.specs.Acts.{length_list, lent_after, written_to}
use Rattle.trace.specs.Header.{header_size, lengths_of}
use Rattle.trace.specs.declared.ops.Cut.{Cut}
use Rattle.trace.specs.Script.{call_at, read_or}
use Rattle.trace.specs.Shapes.{op_of}
use Rattle.player.specs.Ops.{Act, opens, sends, pokes, rests, stage, acted, act_is, act_of, lesser, firsts, behind, lend_by, written_by, step_by}
use Rattle.player.specs.Play.{port_of, lengths_in, data_of, play_from}
use Rattle.player.specs.Replay.{seven, made, acts_from, Plain, after_acts, ReplayRuns, ReplayActs}

-- ---- all of each area lent

-- how many numbers each area has
abbrev pub sizes : Areas → Lengths
sizes l =
    record {
      matrices = length l.matrices;
      viewports = length l.viewports;
      scales = length l.scales;
      lights = length l.lights;
      lookats = length l.lookats;
      fogs = length l.fogs;
      floats = length l.floats;
      words = length l.words;
      indices = length l.drawing.indices;
      runs = length l.drawing.runs;
    }

-- what is lent is all there is, and nothing lies behind it
min-same : (n : ℕ) → min n n ≡ n
min-same n = omega arith

none-behind : {A : Type 0} (l x : List A) → x ++ drop (length l) l ≡ x
none-behind {A} l x = ap (λ (k : List A). x ++ k) (drop-length l) ∙ append-nil x

lesser-is : (l : Areas) → lesser (sizes l) l ≡ sizes l
lesser-is l =
    λ i.
    record {
      matrices = min-same (length l.matrices) i;
      viewports = min-same (length l.viewports) i;
      scales = min-same (length l.scales) i;
      lights = min-same (length l.lights) i;
      lookats = min-same (length l.lookats) i;
      fogs = min-same (length l.fogs) i;
      floats = min-same (length l.floats) i;
      words = min-same (length l.words) i;
      indices = min-same (length l.drawing.indices) i;
      runs = min-same (length l.drawing.runs) i;
    }

firsts-is : (l : Areas) → firsts (sizes l) l ≡ l
firsts-is l =
    λ i.
    record {
      matrices = take-length l.matrices i;
      viewports = take-length l.viewports i;
      scales = take-length l.scales i;
      lights = take-length l.lights i;
      lookats = take-length l.lookats i;
      fogs = take-length l.fogs i;
      floats = take-length l.floats i;
      words = take-length l.words i;
      drawing = record { indices = take-length l.drawing.indices i; runs = take-length l.drawing.runs i };
    }

behind-is : (l x : Areas) → behind (sizes l) l x ≡ x
behind-is l x =
    λ i.
    record {
      matrices = none-behind l.matrices x.matrices i;
      viewports = none-behind l.viewports x.viewports i;
      scales = none-behind l.scales x.scales i;
      lights = none-behind l.lights x.lights i;
      lookats = none-behind l.lookats x.lookats i;
      fogs = none-behind l.fogs x.fogs i;
      floats = none-behind l.floats x.floats i;
      words = none-behind l.words x.words i;
      drawing = record { indices = none-behind l.drawing.indices x.drawing.indices i; runs = none-behind l.drawing.runs x.drawing.runs i };
    }

-- an op that is no write leaves what is not lent
unwritten : (c : Call) (l : Areas) → eqb c.op 0x23 ≡ false → written_by c l ≡ l
unfolding written_to pick
unwritten c l e = rw e

-- AN OP OVER ALL OF EACH AREA, but for a write, is its act: answer, state and areas
pub whole-step : (c : Call) (d : List ℕ) (p : Port) → (c.op ≡ 0x23 → ⊥) → step_by c d (sizes p.areas) p ≡ acted (act_of c d) p
unfolding step_by lend_by
whole-step c d p h = ap written (ap by (lesser-is l) ∙ ap over (firsts-is l) ∙ back) ∙ kept
  where
    l : Areas
    l = p.areas

    -- the act on the areas x
    on : Areas → Outcome Areas
    on x = acted (act_of c d) (record { state = p.state; areas = x })

    -- with so much of each lent
    by : Lengths → Outcome Areas
    by k = record { state = (on (firsts k l)).state; number = (on (firsts k l)).number; values = (on (firsts k l)).values; areas = behind k l (on (firsts k l)).areas }

    -- with all of each lent, of which x is what there is
    over : Areas → Outcome Areas
    over x = record { state = (on x).state; number = (on x).number; values = (on x).values; areas = behind (sizes l) l (on x).areas }

    back : over l ≡ on l
    back = λ i. record { state = (on l).state; number = (on l).number; values = (on l).values; areas = behind-is l (on l).areas i }

    written : Outcome Areas → Outcome Areas
    written o = record { state = o.state; number = o.number; values = o.values; areas = written_by c o.areas }

    kept : written (on l) ≡ on l
    kept = λ i. record { state = (on l).state; number = (on l).number; values = (on l).values; areas = unwritten c (on l).areas (ne_eqb c.op 0x23 h) i }

-- ---- no act changes a length

-- of one area, by a command's edits
length-in : {A : Type 0} (k : Area A) (c : Counts) (e : Edits) (l : List A) → length (after_in k c e l) ≡ length l
length-in k c e l = length-after k.width (k.count c) (k.edit e) l

-- of all, by a plan
sizes-carried : (q : Plan) (s : State) (l : Areas) → sizes (carry after_all q s l).areas ≡ sizes l
unfolding carry
sizes-carried (refuse n vs) s l = refl
sizes-carried (does vs t e) s l =
    let c = s.counts in
    λ i.
    record {
      matrices = length-in matrix_area c e l.matrices i;
      viewports = length-in viewport_area c e l.viewports i;
      scales = length-in scale_area c e l.scales i;
      lights = length-in light_area c e l.lights i;
      lookats = length-in lookat_area c e l.lookats i;
      fogs = length-in fog_area c e l.fogs i;
      floats = length-in float_area c e l.floats i;
      words = length-in word_area c e l.words i;
      indices = length-in index_area c e l.drawing.indices i;
      runs = length-in run_area c e l.drawing.runs i;
    }

-- by a plan of opening
sizes-opened : (q : Plan) (s : State) (l : Areas)
    → let x : List Float × List Float = (l.matrices, l.viewports) in
    sizes (with12 l (carry areas12 q s x).areas) ≡ sizes l
unfolding carry
sizes-opened (refuse n vs) s l = refl
sizes-opened (does vs t e) s l =
    let c = s.counts in
    λ i.
    record {
      matrices = length-in matrix_area c e l.matrices i;
      viewports = length-in viewport_area c e l.viewports i;
      scales = length l.scales;
      lights = length l.lights;
      lookats = length l.lookats;
      fogs = length l.fogs;
      floats = length l.floats;
      words = length l.words;
      indices = length l.drawing.indices;
      runs = length l.drawing.runs;
    }

-- by any act
sizes-acted : (a : Act) (p : Port) → sizes (acted a p).areas ≡ sizes p.areas
unfolding acted result
sizes-acted opens p = sizes-opened (opening_plan p.areas.matrices p.areas.viewports) (blank false) p.areas
sizes-acted (sends m) p = sizes-carried (stage m (book p)) p.state p.areas
sizes-acted (pokes f i v) p = refl
sizes-acted rests p = refl

-- ---- the driver's own ops

module _ (c : Call) (d : List ℕ) where
  lend-rests : c.op ≡ 0x20 → act_of c d ≡ rests
  unfolding op_of act_is pick
  lend-rests e = rw e

  mark-rests : c.op ≡ 0x21 → act_of c d ≡ rests
  unfolding op_of act_is pick
  mark-rests e = rw e

  write-rests : c.op ≡ 0x23 → act_of c d ≡ rests
  unfolding op_of act_is pick
  write-rests e = rw e

-- an op that is no lend leaves what is lent
unlent : (c : Call) (n : Lengths) → eqb c.op 0x20 ≡ false → lengths_in (lent_after c (length_list n)) ≡ n
unfolding lent_after pick
unlent c n e = rw e

-- the first of plain acts does not rest
awake : (a : Act) (xs : List Act) → Plain (a ∷ xs) → a ≡ rests → ⊥
awake a xs h e = subst (λ (x : Act). Plain (x ∷ xs)) e h

-- and those behind it are plain
plain-behind : (a : Act) (xs : List Act) → Plain (a ∷ xs) → Plain xs
plain-behind opens xs h = h
plain-behind (sends m) xs h = h
plain-behind (pokes f i v) xs h = h
plain-behind rests xs h = absurd h

-- ---- a script

-- the port after an op
abbrev port_after : Call → List ℕ → Lengths → Port → Port
port_after c d n p = port_of (step_by c d n p).state (step_by c d n p).areas

-- the port after an act
abbrev act_port : Act → Port → Port
act_port a p = port_of (acted a p).state (acted a p).areas

module _ (c : Call) (d : List ℕ) (n : Lengths) (p : Port) (e : n ≡ sizes p.areas) where
  -- an op that is no write leaves what its act leaves
  by-act : (c.op ≡ 0x23 → ⊥) → port_after c d n p ≡ act_port (act_of c d) p
  by-act h =
      let o : step_by c d n p ≡ acted (act_of c d) p = ap (λ (k : Lengths). step_by c d k p) e ∙ whole-step c d p h in
      λ i. port_of (o i).state (o i).areas

  -- a mark leaves all as it is
  by-mark : c.op ≡ 0x21 → port_after c d n p ≡ p
  unfolding acted
  by-mark h = by-act (λ z. omega (arith, h, z)) ∙ ap (λ (a : Act). act_port a p) (mark-rests c d h)

-- ops of which n at most, from a place on, with all of each area lent, leave what their acts leave
abbrev ActsLeft : ℕ → List ℕ → Lengths → Type 0
ActsLeft n s lent = (at : ℕ) (p : Port) → lent ≡ sizes p.areas → Plain (acts_from n s at) → play_from n s at lent p ≡ after_acts (acts_from n s at) p

-- one op more
one_more : (n : ℕ) (s : List ℕ) (lent : Lengths) → ActsLeft n s lent → ActsLeft (suc n) s lent
unfolding play_from acts_from pick
one_more n s lent f at p e h = there (ltb at (length s)) h
  where
    later : Call → List Act
    later c = acts_from n s c.to

    act : Call → Act
    act c = act_of c (data_of s c)

    acts : Call → List Act
    acts c = pick (eqb c.op 0x21) (later c) (act c ∷ later c)

    -- what is left behind an op
    left : Call → Port
    left c = play_from n s c.to (lengths_in (lent_after c (length_list lent))) (port_after c (data_of s c) lent p)

    -- where the op leaves q, and what is lent
    next : (c : Call) (q : Port) → (c.op ≡ 0x20 → ⊥) → port_after c (data_of s c) lent p ≡ q → sizes q.areas ≡ sizes p.areas → Plain (later c) → left c ≡ after_acts (later c) q
    next c q g o z k =
        let u : lengths_in (lent_after c (length_list lent)) ≡ lent = unlent c lent (ne_eqb c.op 0x20 g) in
        (λ i. play_from n s c.to (u i) (o i)) ∙ f c.to q (e ∙ sym z) k

    -- an op, a mark or not
    whole : (c : Call) (b : Bool) → eqb c.op 0x21 ≡ b → Plain (pick b (later c) (act c ∷ later c)) → left c ≡ after_acts (pick b (later c) (act c ∷ later c)) p
    whole c true m k =
        let g = eqb-true c.op 0x21 m in
        next c p (λ z. omega (arith, g, z)) (by-mark c (data_of s c) lent p e g) refl k
    whole c false m k =
        let d = data_of s c in
        let w = awake (act c) (later c) k in
        next c (act_port (act c) p) (λ z. w (lend-rests c d z)) (by-act c d lent p e (λ z. w (write-rests c d z))) (sizes-acted (act c) p) (plain-behind (act c) (later c) k)

    -- an op, read or not
    read : (r : Result Call Cut) → Plain (read_or [] acts r) → read_or p left r ≡ after_acts (read_or [] acts r) p
    read (Ok c) k = whole c (eqb c.op 0x21) refl k
    read (Err x) k = refl

    there : (b : Bool) → Plain (pick b (read_or [] acts (call_at s at)) []) → pick b (read_or p left (call_at s at)) p ≡ after_acts (pick b (read_or [] acts (call_at s at)) []) p
    there true k = read (call_at s at) k
    there false k = refl

-- so any number of them
acts-left : (n : ℕ) (s : List ℕ) (lent : Lengths) → ActsLeft n s lent
unfolding play_from acts_from
acts-left zero s lent = λ at p e h. refl
acts-left (suc n) s lent = one_more n s lent (acts-left n s lent)

-- areas that are made have the lengths asked
sizes-made : (n : Lengths) → n ≡ sizes (made n)
sizes-made n =
    λ i.
    record {
      matrices = sym (length-replicate n.matrices seven) i;
      viewports = sym (length-replicate n.viewports seven) i;
      scales = sym (length-replicate n.scales seven) i;
      lights = sym (length-replicate n.lights seven) i;
      lookats = sym (length-replicate n.lookats seven) i;
      fogs = sym (length-replicate n.fogs (pos 7)) i;
      floats = sym (length-replicate n.floats seven) i;
      words = sym (length-replicate {A = ℕ} n.words 7) i;
      indices = sym (length-replicate {A = ℕ} n.indices 7) i;
      runs = sym (length-replicate {A = ℕ} n.runs 7) i;
    }

-- WHAT A SCRIPT THAT NEITHER LENDS NOR WRITES LEAVES
pub replay-acts : ReplayActs
replay-acts s h = acts-left (length s) s (lengths_of s) (header_size s) (port_of (blank false) (made (lengths_of s))) (sizes-made (lengths_of s)) h

-- ---- commands alone

-- commands are plain
plain-sends : (cs : List Command) → Plain (map sends cs)
plain-sends [] = tt
plain-sends (c ∷ cs) = plain-sends cs

-- acts that send commands come to the run of these
acts-run : (cs : List Command) (p : Port) → after_acts (map sends cs) p ≡ run stage cs p
unfolding run step acted
acts-run [] p = refl
acts-run (c ∷ cs) p = acts-run cs (step stage c p)

-- WHAT REPLAY LEAVES IS A RUN
pub replay-runs : ReplayRuns
unfolding opening acted
replay-runs s cs e =
    let l = made (lengths_of s) in
    replay-acts s (subst Plain (sym e) (plain-sends cs)) ∙ ap (λ (xs : List Act). after_acts xs (port_of (blank false) l)) e ∙ acts-run cs (opening l)
