-- Opening, by the areas' lengths alone; and a state that is not opened: every command refuses it and changes nothing. Assumes nothing.
use mathlib.Core.Path.{◌≡◌, refl, ap, ◌∙◌}
use Prim.Native.Nat.{ℕ, ◌≤◌, min}
use native.Mathlib.Omega.{arith}
use mathlib.Core.Bool.{Bool, true, false, ◌&&◌, false≢true}
use mathlib.Core.List.{List, [], ◌∷◌}
use lib.ListN.{length}
use lib.Dec.{leb}
use lib.Ieee.{Float}
use borrow.Author.Tests.{le-leb}
use Rattle.areas.specs.Area.{room}
use Rattle.areas.specs.Widths.{matrix_width, viewport_width, scale_width, light_width, lookat_width, fog_width, float_width, word_width, index_width, run_width}
use Rattle.decide.specs.declared.family.Family.{Family}
use Rattle.matrix.specs.Math.{identity, laid}
use Rattle.matrix.proofs.Believe.{length-laid}
use Rattle.stage.specs.declared.State.{State}
use Rattle.stage.specs.declared.Counts.{Counts}
use Rattle.stage.specs.Plan.{grow, Plan, refuse, does, unless, carry, telling}
use Rattle.stage.specs.Sound.{state_sound, sound}
use Rattle.numbers.specs.Choice.{all}
use Rattle.stage.specs.With.{with_counts}
use Rattle.stage.specs.Opening.{zeros, blank, opened, opening_edits, opening_plan, areas12}
use Rattle.stage.specs.Matrices.{matrix_stores, matrix_plan, force_stores, force_plan, pop_plan, viewport_plan, geometry_plan}
use Rattle.stage.specs.Lights.{texture_plan, fog_plan, number_plan, light_plan, lookat_plan, microcode_plan}
use Rattle.stage.specs.Load.{load_plan}
use Rattle.stage.specs.Modify.{modify_plan, ink_plan}
use Rattle.stage.specs.Draw.{cull_plan, explain_plan, depth_plan, draw_plan}
use Rattle.sequence.specs.Sequence.{Command, matrix, force, pop, viewport, geometry, texture, fog, number, light, lookat, microcode, load, cull, explain, depth, modify, draw, ink, Areas, Port, Book, Alike, book, plan, result, step, run, with12, opening}
use Rattle.sequence.proofs.Turn.{turn}
use Rattle.sequence.proofs.Accepts.{Accepted}
use Rattle.sequence.proofs.Sized.{Fits, AllSized, kept, fitted}
use Rattle.sequence.proofs.Held.{port_after, carried}

-- ---- opening

-- one entry in tables 1 and 2
abbrev pub opened-counts : Counts
opened-counts = record { matrices = 1; viewports = 1; scales = 0; lights = 0; lookats = 0; fogs = 0; rows = 0; indices = 0; runs = 0 }

-- the book of areas that were opened
abbrev pub opened-book : Areas → Book
opened-book l =
    record {
      state = with_counts opened opened-counts;
      matrices = record { used = laid identity ∷ []; room = room matrix_width (length l.matrices) };
      viewports = record { used = zeros viewport_width ∷ []; room = room viewport_width (length l.viewports) };
      scales = record { used = []; room = room scale_width (length l.scales) };
      lights = record { used = []; room = room light_width (length l.lights) };
      lookats = record { used = []; room = room lookat_width (length l.lookats) };
      fogs = record { used = []; room = room fog_width (length l.fogs) };
      rows = record { used = []; room = min (room float_width (length l.floats)) (room word_width (length l.words)) };
      drawing = record { indices = record { used = []; room = room index_width (length l.drawing.indices) }; runs = record { used = []; room = room run_width (length l.drawing.runs) } };
    }

-- areas of equal lengths open to the same book
pub opened-alike : (x y : Areas) → Alike x y → opened-book x ≡ opened-book y
opened-alike x y e =
    λ i.
    record {
      state = with_counts opened opened-counts;
      matrices = record { used = laid identity ∷ []; room = room matrix_width (e.matrices i) };
      viewports = record { used = zeros viewport_width ∷ []; room = room viewport_width (e.viewports i) };
      scales = record { used = []; room = room scale_width (e.scales i) };
      lights = record { used = []; room = room light_width (e.lights i) };
      lookats = record { used = []; room = room lookat_width (e.lookats i) };
      fogs = record { used = []; room = room fog_width (e.fogs i) };
      rows = record { used = []; room = min (room float_width (e.floats i)) (room word_width (e.words i)) };
      drawing = record { indices = record { used = []; room = room index_width (e.indices i) }; runs = record { used = []; room = room run_width (e.runs i) } };
    }

-- the areas before they are opened
abbrev pub unopened : Areas → Port
unopened l = record { state = blank false; areas = l }

-- nothing is in use there
none-used : (l : Areas) → Fits (unopened l)
unfolding blank
none-used l =
    record {
      matrices = omega arith;
      viewports = omega arith;
      scales = omega arith;
      lights = omega arith;
      lookats = omega arith;
      fogs = omega arith;
      floats = omega arith;
      words = omega arith;
      indices = omega arith;
      runs = omega arith;
    }

module _ (l : Areas) (h : 1 ≤ room matrix_width (length l.matrices)) (k : 1 ≤ room viewport_width (length l.viewports)) where
  -- where there is room for both entries opening is accepted
  open-plan : opening_plan l.matrices l.viewports ≡ does [] opened opening_edits
  unfolding opening_plan unless
  open-plan = rw (le-leb 1 (room matrix_width (length l.matrices)) h, le-leb 1 (room viewport_width (length l.viewports)) k)

  -- it is a plan on the areas before
  open_done : opening l ≡ port_after (does [] opened opening_edits) (unopened l)
  unfolding opening carry
  open_done = rw open-plan

  -- its edits are sized
  open-sized : AllSized (blank false).counts opening_edits l
  unfolding blank
  open-sized =
      let z = none-used l in
      record {
        matrices = fitted matrix_width 0 (grow (laid identity ∷ [])) l.matrices (length-laid identity, tt) h;
        viewports = fitted viewport_width 0 (grow (zeros viewport_width ∷ [])) l.viewports (refl, tt) k;
        scales = kept scale_width 0 _ z.scales;
        lights = kept light_width 0 _ z.lights;
        lookats = kept lookat_width 0 _ z.lookats;
        fogs = kept fog_width 0 _ z.fogs;
        floats = kept float_width 0 _ z.floats;
        words = kept word_width 0 _ z.words;
        indices = kept index_width 0 _ z.indices;
        runs = kept run_width 0 _ z.runs;
      }

  -- what is entered into an empty book
  open_turn : turn (does [] opened opening_edits) (book (unopened l)) ≡ opened-book l
  unfolding turn book blank
  open_turn = refl

-- THE BOOK OF AN OPENING
pub open-book : (l : Areas) → 1 ≤ room matrix_width (length l.matrices) → 1 ≤ room viewport_width (length l.viewports) → Fits (opening l) × (book (opening l) ≡ opened-book l)
unfolding Accepted
open-book l h k =
    let c = carried (unopened l) (none-used l) (does [] opened opening_edits) (open-sized l h k) in
    rw (open_done l h k) (c.0, c.2 ∙ open_turn l h k)

-- two tests of which one fails refuse
refused : (a b : Bool) (vs ws : List ℕ) (q : Plan) (l : Areas) → a && b ≡ false
    → let x : List Float × List Float = (l.matrices, l.viewports) in
    let o = carry areas12 (unless a (refuse 9 vs) (unless b (refuse 9 ws) q)) (blank false) x in
    record { state = o.state; areas = with12 l o.areas } ≡ unopened l
unfolding carry unless
refused true true vs ws q l e = absurd (false≢true (cc))
refused true false vs ws q l e = refl
refused false b vs ws q l e = refl

-- AN OPENING THAT IS REFUSED leaves state and areas as they were
pub open-refused : (l : Areas) → leb 1 (room matrix_width (length l.matrices)) && leb 1 (room viewport_width (length l.viewports)) ≡ false → opening l ≡ record { state = blank false; areas = l }
unfolding opening opening_plan
open-refused l e = refused _ _ _ _ _ l e

-- ---- a state that is not opened

-- it is refused before anything else is looked at
unsound : (s : State) (q : Plan) → s.opened ≡ false → sound s q ≡ refuse 10 []
unfolding state_sound all unless
unsound s q h = rw h

-- so it is where values are told
told-unsound : (vs : List ℕ) (s : State) (q : Plan) → s.opened ≡ false → telling vs (sound s q) ≡ refuse 10 []
unfolding telling
told-unsound vs s q h = ap (telling vs) (unsound s q h)

-- every command refuses it
pub shut-plan : (F : ℕ → Family) (limit : State → ℕ) (c : Command) (k : Book) → k.state.opened ≡ false → plan F limit c k ≡ refuse 10 []
unfolding plan matrix_plan matrix_stores force_plan force_stores pop_plan viewport_plan geometry_plan texture_plan fog_plan number_plan light_plan lookat_plan microcode_plan load_plan cull_plan explain_plan depth_plan modify_plan draw_plan ink_plan
shut-plan F limit (matrix flags bytes at) k h = told-unsound _ k.state _ h
shut-plan F limit (force bytes at) k h = told-unsound _ k.state _ h
shut-plan F limit (pop count) k h = unsound k.state _ h
shut-plan F limit (viewport bytes at) k h = unsound k.state _ h
shut-plan F limit (geometry off on) k h = unsound k.state _ h
shut-plan F limit (texture tile level on sc tc) k h = unsound k.state _ h
shut-plan F limit (fog multiplier offset) k h = unsound k.state _ h
shut-plan F limit (number bytes) k h = unsound k.state _ h
shut-plan F limit (light slot bytes at) k h = unsound k.state _ h
shut-plan F limit (lookat slot bytes at) k h = unsound k.state _ h
shut-plan F limit (microcode to) k h = unsound k.state _ h
shut-plan F limit (load first count bytes at) k h = unsound k.state _ h
shut-plan F limit (cull first last) k h = unsound k.state _ h
shut-plan F limit (explain first last) k h = told-unsound _ k.state _ h
shut-plan F limit (depth slot threshold) k h = unsound k.state _ h
shut-plan F limit (modify slot attribute value) k h = unsound k.state _ h
shut-plan F limit (draw a b c material mode colour prim) k h = unsound k.state _ h
shut-plan F limit (ink colour) k h = unsound k.state _ h

-- and leaves it and the areas
pub shut : (F : ℕ → Family) (limit : State → ℕ) (c : Command) (p : Port) → p.state.opened ≡ false → step (plan F limit) c p ≡ p
unfolding step result carry book
shut F limit c p h = rw (shut-plan F limit c (book p) h)

-- so does a sequence of commands
pub run-shut : (F : ℕ → Family) (limit : State → ℕ) (cs : List Command) (p : Port) → p.state.opened ≡ false → run (plan F limit) cs p ≡ p
unfolding run
run-shut F limit [] p h = refl
run-shut F limit (c ∷ cs) p h = ap (run (plan F limit) cs) (shut F limit c p h) ∙ run-shut F limit cs p h
