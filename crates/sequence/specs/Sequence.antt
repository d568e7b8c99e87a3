-- A sequence of commands, each given the state that the one before handed back and the same ten areas. Definitions only.
-- What a command does is its plan of the stage's specs/, the one that its contract cites; the laws of proofs/Joined.antt say so.
use Rattle.std.specs.Prelude.{ℕ, Bool, true, false, List, [], ◌∷◌, ◌≡◌, length, ℤ, Float}
use Rattle.decide.specs.declared.family.Family.{Family}
use Rattle.decide.specs.Lights.{light_number}
use Rattle.stage.specs.declared.State.{State}
use Rattle.stage.specs.declared.Counts.{Counts}
use Rattle.stage.specs.declared.settings.Microcode.{Microcode}
use Rattle.stage.specs.Plan.{Table, row_table, Row, Drawing, Edits, Plan, refuse, does, pick, Outcome, carry, matrix_area, viewport_area, scale_area, light_area, lookat_area, fog_area, float_area, word_area, index_area, run_area, table_in, after_in}
use Rattle.stage.specs.Opening.{blank, opening_plan, areas12}
use Rattle.stage.specs.Matrices.{matrix_plan, force_plan, pop_plan, viewport_plan, geometry_plan}
use Rattle.stage.specs.Lights.{texture_plan, fog_plan, number_plan, light_plan, lookat_plan, microcode_plan}
use Rattle.stage.specs.Load.{LoadTables, load_plan}
use Rattle.stage.specs.Modify.{modify_plan, ink_plan}
use Rattle.stage.specs.Draw.{cull_plan, explain_plan, depth_plan, draw_plan}

-- every public command but opening, with its arguments; data is bytes and the place from which they are read
pub data Command : Type 0 where
  -- flags, data
  matrix : ℕ → List ℕ → ℕ → Command
  force : List ℕ → ℕ → Command
  -- count
  pop : ℕ → Command
  viewport : List ℕ → ℕ → Command
  -- off, on
  geometry : ℕ → ℕ → Command
  -- tile, level, on, sc, tc
  texture : ℕ → ℕ → Bool → ℕ → ℕ → Command
  -- multiplier, offset
  fog : ℤ → ℤ → Command
  -- bytes
  number : ℕ → Command
  -- slot, data
  light : ℕ → List ℕ → ℕ → Command
  lookat : ℕ → List ℕ → ℕ → Command
  microcode : Microcode → Command
  -- first slot, count, data
  load : ℕ → ℕ → List ℕ → ℕ → Command
  -- first, last
  cull : ℕ → ℕ → Command
  explain : ℕ → ℕ → Command
  -- slot, threshold
  depth : ℕ → ℕ → Command
  -- slot, attribute, value
  modify : ℕ → ℕ → ℕ → Command
  -- slots a, b, c; material, render mode, fog colour, primitive depth
  draw : ℕ → ℕ → ℕ → ℕ → ℕ → ℕ → ℕ → Command
  -- colour word
  ink : ℕ → Command

-- the ten areas lent by the caller, table 7 in two
pub record Areas : Type 0 where
  pub matrices : List Float
  pub viewports : List Float
  pub scales : List Float
  pub lights : List Float
  pub lookats : List Float
  pub fogs : List ℤ
  pub floats : List Float
  pub words : List ℕ
  pub drawing : Drawing (List ℕ)

-- a state, and the areas that are lent with it
pub record Port : Type 0 where
  pub state : State
  pub areas : Areas

-- a state, and what is in use of the nine tables
pub record Book : Type 0 where
  pub state : State
  pub matrices : Table (List Float)
  pub viewports : Table (List Float)
  pub scales : Table (List Float)
  pub lights : Table (List Float)
  pub lookats : Table (List Float)
  pub fogs : Table (List ℤ)
  pub rows : Table Row
  pub drawing : Drawing (Table (List ℕ))

-- the book of a port: its counts say how much of each area is in use
unfoldable pub book : Port → Book
book p =
    let c = p.state.counts in
    let l = p.areas in
    record {
      state = p.state;
      matrices = table_in matrix_area c l.matrices;
      viewports = table_in viewport_area c l.viewports;
      scales = table_in scale_area c l.scales;
      lights = table_in light_area c l.lights;
      lookats = table_in lookat_area c l.lookats;
      fogs = table_in fog_area c l.fogs;
      rows = row_table c.rows l.floats l.words;
      drawing = record { indices = table_in index_area c l.drawing.indices; runs = table_in run_area c l.drawing.runs };
    }

-- the tables of a load
abbrev pub load_of : Book → LoadTables
load_of k = record { matrices = k.matrices; scales = k.scales; lights = k.lights; lookats = k.lookats; fogs = k.fogs; rows = k.rows }

-- the plan of each command: F is the family of each microcode, limit how many slots a command may name in a state
unfoldable pub plan : (ℕ → Family) → (State → ℕ) → Command → Book → Plan
plan F limit (matrix flags bytes at) k = matrix_plan (F k.state.microcode) k.state k.matrices flags bytes at
plan F limit (force bytes at) k = force_plan k.state k.matrices bytes at
plan F limit (pop count) k = pop_plan k.state k.matrices count
plan F limit (viewport bytes at) k = viewport_plan k.state k.viewports bytes at
plan F limit (geometry off on) k = geometry_plan (F k.state.microcode) k.state off on
plan F limit (texture tile level on sc tc) k = texture_plan k.state tile level on sc tc
plan F limit (fog multiplier offset) k = fog_plan k.state multiplier offset
plan F limit (number bytes) k = number_plan k.state (light_number bytes)
plan F limit (light slot bytes at) k = light_plan k.state slot bytes at
plan F limit (lookat slot bytes at) k = lookat_plan k.state slot bytes at
plan F limit (microcode to) k = microcode_plan k.state to
plan F limit (load first count bytes at) k = load_plan (F k.state.microcode) (limit k.state) k.state (load_of k) first count bytes at
plan F limit (cull first last) k = cull_plan (limit k.state) k.state first last
plan F limit (explain first last) k = explain_plan (limit k.state) k.state first last
plan F limit (depth slot threshold) k = depth_plan (limit k.state) k.state slot threshold
plan F limit (modify slot attribute value) k = modify_plan (limit k.state) k.state k.scales k.rows slot attribute value
plan F limit (draw a b c material mode colour prim) k =
    draw_plan (F k.state.microcode) (limit k.state) k.state k.drawing.indices k.drawing.runs a b c (material ∷ mode ∷ colour ∷ prim ∷ [])
plan F limit (ink colour) k = ink_plan k.state k.rows k.drawing.indices colour

-- all ten areas after a command's edits; a number that no edit names stays
abbrev pub after_all : Counts → Edits → Areas → Areas
after_all c e l =
    record {
      matrices = after_in matrix_area c e l.matrices;
      viewports = after_in viewport_area c e l.viewports;
      scales = after_in scale_area c e l.scales;
      lights = after_in light_area c e l.lights;
      lookats = after_in lookat_area c e l.lookats;
      fogs = after_in fog_area c e l.fogs;
      floats = after_in float_area c e l.floats;
      words = after_in word_area c e l.words;
      drawing = record { indices = after_in index_area c e l.drawing.indices; runs = after_in run_area c e l.drawing.runs };
    }

-- a machine says what each command does to a book; the stage is `plan F limit`
abbrev pub Machine : Type 0
Machine = Command → Book → Plan

-- what a command comes to: answer, state and areas
unfoldable pub result : Machine → Command → Port → Outcome Areas
result m c p = carry after_all (m c (book p)) p.state p.areas

-- the port after a command
unfoldable pub step : Machine → Command → Port → Port
step m c p = record { state = (result m c p).state; areas = (result m c p).areas }

-- the port after a sequence of commands
unfoldable pub run : Machine → List Command → Port → Port
run m [] p = p
run m (c ∷ cs) p = run m cs (step m c p)

-- a plan that is accepted
abbrev pub is_done : Plan → Bool
is_done (refuse n vs) = false
is_done (does vs t e) = true

-- the commands of a sequence that are accepted, each where it comes
unfoldable pub accepted : Machine → List Command → Port → List Command
accepted m [] p = []
accepted m (c ∷ cs) p = pick (is_done (m c (book p))) (c ∷ accepted m cs (step m c p)) (accepted m cs (step m c p))

-- the areas with tables 1 and 2 replaced
abbrev pub with12 : Areas → List Float × List Float → Areas
with12 l x =
    record {
      matrices = x.0;
      viewports = x.1;
      scales = l.scales;
      lights = l.lights;
      lookats = l.lookats;
      fogs = l.fogs;
      floats = l.floats;
      words = l.words;
      drawing = l.drawing;
    }

-- the port after opening, also where opening is refused: then the state is not opened
unfoldable pub opening : Areas → Port
opening l =
    let x : List Float × List Float = (l.matrices, l.viewports) in
    let o = carry areas12 (opening_plan l.matrices l.viewports) (blank false) x in
    record { state = o.state; areas = with12 l o.areas }

-- areas of equal lengths, whatever stands in them
pub record Alike (x y : Areas) : Type 0 where
  pub matrices : length x.matrices ≡ length y.matrices
  pub viewports : length x.viewports ≡ length y.viewports
  pub scales : length x.scales ≡ length y.scales
  pub lights : length x.lights ≡ length y.lights
  pub lookats : length x.lookats ≡ length y.lookats
  pub fogs : length x.fogs ≡ length y.fogs
  pub floats : length x.floats ≡ length y.floats
  pub words : length x.words ≡ length y.words
  pub indices : length x.drawing.indices ≡ length y.drawing.indices
  pub runs : length x.drawing.runs ≡ length y.drawing.runs
