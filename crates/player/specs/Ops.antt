-- What an op of a trace does: its command, as sequences have it, or an act of the driver's own. Definitions only.
use Rattle.std.specs.Prelude.{ℕ, ◌%◌, min, ◌≡◌, false, List, [], ◌++◌, length, take, drop, eqb, ℤ, Float}
use Rattle.numbers.specs.Ratio.{signed}
use Rattle.decide.specs.Family.{family_of}
use Rattle.stage.specs.Sound.{limit}
use Rattle.numbers.specs.Choice.{pick}
use Rattle.stage.specs.declared.State.{State}
use Rattle.stage.specs.declared.settings.Microcode.{Microcode}
use Rattle.stage.specs.declared.settings.Microcode.TheVariants.{F3dex2, F3dex2NoN}
use Rattle.stage.specs.Plan.{Outcome, carry}
use Rattle.stage.specs.Opening.{blank, opening_plan, areas12}
use Rattle.sequence.specs.Sequence.{Command, matrix, force, pop, viewport, geometry, texture, fog, number, light, lookat, microcode, load, cull, explain, depth, modify, draw, ink, Areas, Port, Machine, plan, result, with12}
use Rattle.trace.specs.declared.rooms.Lengths.{Lengths}
use Rattle.trace.specs.declared.script.Args.{Args}
use Rattle.trace.specs.declared.script.Call.{Call}
use Rattle.trace.specs.declared.ops.Op.{Op}
use Rattle.trace.specs.declared.ops.Op.TheVariants.{Open, Matrix, Force, Pop, Geom, Viewport, Texture, Fog, Lightnum, Light, Lookat, Load, Cull, Depth, Modify, Draw, Ucode, Ink, Explain, Lend, Mark, Poke, Write}
use Rattle.trace.specs.declared.rooms.Areas.{Areas as Slices}
use Rattle.trace.specs.Acts.{written_to}
use Rattle.trace.specs.Script.{read_or}
use Rattle.trace.specs.Shapes.{op_of}
use Rattle.player.specs.Acts.{poked_state}

-- the stage: F3DEX2's flags and 256 slots
abbrev pub stage : Machine
stage = plan family_of limit

-- what an op is to the stage
pub data Act : Type 0 where
  opens : Act
  sends : Command → Act
  -- field, index, value
  pokes : ℕ → ℕ → ℕ → Act
  -- lend and write, which the driver does by itself, mark, and what is no op
  rests : Act

-- done with the state s, and no area changed
abbrev pub leaves : State → Port → Outcome Areas
leaves s p = record { state = s; number = 0; values = []; areas = p.areas }

-- what an act comes to: a command as sequences have it, an opening whatever the state
unfoldable pub acted : Act → Port → Outcome Areas
acted opens p =
    let x : List Float × List Float = (p.areas.matrices, p.areas.viewports) in
    let o = carry areas12 (opening_plan p.areas.matrices p.areas.viewports) (blank false) x in
    record { state = o.state; number = o.number; values = o.values; areas = with12 p.areas o.areas }
acted (sends m) p = result stage m p
acted (pokes f i v) p = leaves (poked_state p.state f i v) p
acted rests p = leaves p.state p

-- the microcode of a word: its lowest bit
abbrev pub microcode_of : ℕ → Microcode
microcode_of n = pick (eqb (n % 2) 0) F3dex2 F3dex2NoN

-- WHAT EVERY OP IS, with its arguments x and its data d
unfoldable pub act_is : Op → Args → List ℕ → Act
act_is Open x d = opens
act_is Matrix x d = sends (matrix (x.a % 256) d 0)
act_is Force x d = sends (force d 0)
act_is Pop x d = sends (pop x.a)
act_is Geom x d = sends (geometry x.a x.b)
act_is Viewport x d = sends (viewport d 0)
act_is Texture x d = sends (texture (x.a % 256) (x.b % 256) (eqb (x.c % 2) 1) (x.d % 65536) (x.e % 65536))
act_is Fog x d = sends (fog (signed 16 (x.a % 65536)) (signed 16 (x.b % 65536)))
act_is Lightnum x d = sends (number x.a)
act_is Light x d = sends (light x.a d 0)
act_is Lookat x d = sends (lookat x.a d 0)
act_is Load x d = sends (load x.a x.b d 0)
act_is Cull x d = sends (cull x.a x.b)
act_is Depth x d = sends (depth x.a x.b)
act_is Modify x d = sends (modify x.a x.b x.c)
act_is Draw x d = sends (draw x.a x.b x.c x.d x.e x.f x.g)
act_is Ucode x d = sends (microcode (microcode_of x.a))
act_is Ink x d = sends (ink x.a)
act_is Explain x d = sends (explain x.a x.b)
act_is Poke x d = pokes x.a x.b x.c
act_is Lend x d = rests
act_is Mark x d = rests
act_is Write x d = rests

-- a call with its data, by its number: where no op has that, it rests
abbrev pub act_of : Call → List ℕ → Act
act_of c d = read_or rests (λ o. act_is o c.args d) (op_of c.op)

-- ---- what is lent

-- ten areas as a record
abbrev pub areas_of : List Float → List Float → List Float → List Float → List Float → List ℤ → List Float → List ℕ → List ℕ → List ℕ → Areas
areas_of m v s l k g f w i r =
    record {
      matrices = m;
      viewports = v;
      scales = s;
      lights = l;
      lookats = k;
      fogs = g;
      floats = f;
      words = w;
      drawing = record { indices = i; runs = r };
    }

-- what ten slices hold
abbrev pub held : Slices → Areas
held x =
    areas_of x.matrices.now x.viewports.now x.scales.now x.lights.now x.lookats.now x.fogs.now x.floats.now x.words.now x.indices.now
    x.runs.now

-- they are still the same slices, whatever they hold
pub record SameSlices (x y : Slices) : Type 0 where
  pub matrices : x.matrices.ghost_name ≡ y.matrices.ghost_name
  pub viewports : x.viewports.ghost_name ≡ y.viewports.ghost_name
  pub scales : x.scales.ghost_name ≡ y.scales.ghost_name
  pub lights : x.lights.ghost_name ≡ y.lights.ghost_name
  pub lookats : x.lookats.ghost_name ≡ y.lookats.ghost_name
  pub fogs : x.fogs.ghost_name ≡ y.fogs.ghost_name
  pub floats : x.floats.ghost_name ≡ y.floats.ghost_name
  pub words : x.words.ghost_name ≡ y.words.ghost_name
  pub indices : x.indices.ghost_name ≡ y.indices.ghost_name
  pub runs : x.runs.ghost_name ≡ y.runs.ghost_name

-- as much of each area as is asked, or all of it
abbrev pub lesser : Lengths → Areas → Lengths
lesser n l =
    record {
      matrices = min n.matrices (length l.matrices);
      viewports = min n.viewports (length l.viewports);
      scales = min n.scales (length l.scales);
      lights = min n.lights (length l.lights);
      lookats = min n.lookats (length l.lookats);
      fogs = min n.fogs (length l.fogs);
      floats = min n.floats (length l.floats);
      words = min n.words (length l.words);
      indices = min n.indices (length l.drawing.indices);
      runs = min n.runs (length l.drawing.runs);
    }

-- so many of the first numbers of each area
abbrev pub firsts : Lengths → Areas → Areas
firsts n l =
    record {
      matrices = take n.matrices l.matrices;
      viewports = take n.viewports l.viewports;
      scales = take n.scales l.scales;
      lights = take n.lights l.lights;
      lookats = take n.lookats l.lookats;
      fogs = take n.fogs l.fogs;
      floats = take n.floats l.floats;
      words = take n.words l.words;
      drawing = record { indices = take n.indices l.drawing.indices; runs = take n.runs l.drawing.runs };
    }

-- the areas l with x in front of what lies behind those
abbrev pub behind : Lengths → Areas → Areas → Areas
behind n l x =
    record {
      matrices = x.matrices ++ drop n.matrices l.matrices;
      viewports = x.viewports ++ drop n.viewports l.viewports;
      scales = x.scales ++ drop n.scales l.scales;
      lights = x.lights ++ drop n.lights l.lights;
      lookats = x.lookats ++ drop n.lookats l.lookats;
      fogs = x.fogs ++ drop n.fogs l.fogs;
      floats = x.floats ++ drop n.floats l.floats;
      words = x.words ++ drop n.words l.words;
      drawing = record { indices = x.drawing.indices ++ drop n.indices l.drawing.indices; runs = x.drawing.runs ++ drop n.runs l.drawing.runs };
    }

-- an op over what is lent
unfoldable pub lend_by : Call → List ℕ → Lengths → Port → Outcome Areas
lend_by c d n p =
    let k = lesser n p.areas in
    let o = acted (act_of c d) (record { state = p.state; areas = firsts k p.areas }) in
    record { state = o.state; number = o.number; values = o.values; areas = behind k p.areas o.areas }

-- the areas after what `write` stores, lent or not
abbrev pub written_by : Call → Areas → Areas
written_by c l =
    areas_of l.matrices l.viewports l.scales l.lights l.lookats (written_to 5 c (signed 16 (c.args.c % 65536)) l.fogs) l.floats
    (written_to 7 c c.args.c l.words) (written_to 8 c c.args.c l.drawing.indices) (written_to 9 c c.args.c l.drawing.runs)

-- EVERY OP: what it answers, and the state and areas that it leaves
unfoldable pub step_by : Call → List ℕ → Lengths → Port → Outcome Areas
step_by c d n p =
    let o = lend_by c d n p in
    record { state = o.state; number = o.number; values = o.values; areas = written_by c o.areas }
