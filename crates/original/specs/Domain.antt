-- The domain of comparison (REFERENCE 18), and what it is that the two sides agree on a command. Definitions only.
use Rattle.std.specs.Prelude.{ℕ, ◌+◌, ◌-◌, ◌*◌, ◌≤◌, ◌<◌, ◌≡◌, List, [], ◌∷◌, ◌++◌, map, Bool, true, false, cond, length, get_or, ℤ, Float}
use Rattle.std.specs.Float.Ieee.{eq}
use Rattle.areas.specs.Area.{room, matches}
use Rattle.areas.specs.Widths.{matrix_width, viewport_width}
use Rattle.decide.specs.Append.{final}
use Rattle.decide.specs.Family.{family_of}
use Rattle.fold.specs.Scales.{scale_entry, same_scale}
use Rattle.stage.specs.declared.settings.Microcode.{Microcode}
use Rattle.stage.specs.declared.settings.Microcode.TheVariants.{F3dex2, F3dex2NoN}
use Rattle.stage.specs.Sound.{limit}
use Rattle.stage.specs.Plan.{Plan, refuse, does}
use Rattle.stage.specs.Opening.{zeros}
use Rattle.stage.specs.Matrices.{viewport_entry}
use Rattle.sequence.specs.Sequence.{Command, matrix, force, pop, viewport, geometry, texture, fog, number, light, lookat, microcode, load, cull, explain, depth, modify, draw, ink, Areas, Port, Book, book, plan, result, step, run, accepted, opening}
use Rattle.original.specs.Rsp.{default}
use Rattle.original.specs.Drawing.{DiagKind, InvalidCullRange, InvalidConditionalVertex, InvalidVertexTransform, InvalidModifyVertex, Result, Ok, Err}
use Rattle.original.specs.Walk.{World, Went, begun, execute}
use Rattle.original.specs.Relation.{Offsets, joined, fours, Same, CornersSame}

-- data is bytes, at most 16 MiB of them: beyond that the original's addresses begin again
pub record Data (b : List ℕ) : Type 0 where
  pub bytes : (i : ℕ) → get_or b i 0 < 256
  pub short : length b ≤ 16777216

-- arguments of the original's types; the explainer and an ink count are not sent to it
abbrev pub Within : Command → Type 0
Within (matrix flags bytes at) = Data bytes
Within (force bytes at) = Data bytes
Within (pop count) = Unit {0}
Within (viewport bytes at) = Data bytes
Within (geometry off on) = Unit {0}
Within (texture tile level on sc tc) = (sc < 65536) × (tc < 65536)
Within (fog multiplier offset) = Unit {0}
Within (number bytes) = Unit {0}
Within (light slot bytes at) = Data bytes
Within (lookat slot bytes at) = Data bytes
Within (microcode to) = Unit {0}
Within (load first count bytes at) = Data bytes
Within (cull first last) = Unit {0}
Within (explain first last) = Unit {0}
Within (depth slot threshold) = threshold < 4294967296
Within (modify slot attribute value) = value < 4294967296
Within (draw a b c material mode colour prim) = Unit {0}
Within (ink colour) = Unit {0}

-- the original is done, tells the same values, and what it leaves is in the relation S to the book k
abbrev pub Agrees : (Book → World → Type 0) → List ℕ → Book → Result Went → Type 0
Agrees S vs k (Ok g) = (vs ≡ g.values) × S k g.world
Agrees S vs k (Err d) = ⊥

-- ---- lists of commands

-- a plan that is accepted
abbrev pub IsDone : Plan → Type 0
IsDone (refuse n vs) = ⊥
IsDone (does vs t e) = Unit {0}

-- the stage, F3DEX2's flags and 256 slots
abbrev pub stage : Command → Book → Plan
stage c k = plan family_of limit c k

-- the stage accepts each command, one after the other
abbrev pub AllDone : List Command → Port → Type 0
AllDone [] p = Unit {0}
AllDone (c ∷ cs) p = IsDone (stage c (book p)) × AllDone cs (step stage c p)

-- the explainer and the ink count, the two commands that the original does not have
abbrev pub ours : Command → Bool
ours (matrix flags bytes at) = false
ours (force bytes at) = false
ours (pop count) = false
ours (viewport bytes at) = false
ours (geometry off on) = false
ours (texture tile level on sc tc) = false
ours (fog multiplier offset) = false
ours (number bytes) = false
ours (light slot bytes at) = false
ours (lookat slot bytes at) = false
ours (microcode to) = false
ours (load first count bytes at) = false
ours (cull first last) = false
ours (explain first last) = true
ours (depth slot threshold) = false
ours (modify slot attribute value) = false
ours (draw a b c material mode colour prim) = false
ours (ink colour) = true

-- the commands that the original is sent: all but those two
abbrev pub sent : List Command → List Command
sent [] = []
sent (c ∷ cs) = cond (ours c) (sent cs) (c ∷ sent cs)

-- of an answer's values, those that the original tells too: it does not count a matrix's entries that are not exact, so that number is left aside
abbrev pub also_told : Command → List ℕ → List ℕ
also_told (matrix flags bytes at) vs = []
also_told (force bytes at) vs = []
also_told (pop count) vs = vs
also_told (viewport bytes at) vs = vs
also_told (geometry off on) vs = vs
also_told (texture tile level on sc tc) vs = vs
also_told (fog multiplier offset) vs = vs
also_told (number bytes) vs = vs
also_told (light slot bytes at) vs = vs
also_told (lookat slot bytes at) vs = vs
also_told (microcode to) vs = vs
also_told (load first count bytes at) vs = vs
also_told (cull first last) vs = vs
also_told (explain first last) vs = vs
also_told (depth slot threshold) vs = vs
also_told (modify slot attribute value) vs = vs
also_told (draw a b c material mode colour prim) vs = vs
also_told (ink colour) vs = vs

-- those values of each answer that the stage, sent them all, gives to the commands that are sent
abbrev pub told : List Command → Port → List (List ℕ)
told [] p = []
told (c ∷ cs) p = cond (ours c) (told cs (step stage c p)) (also_told c (result stage c p).values ∷ told cs (step stage c p))

-- each is within the domain
abbrev pub AllWithin : List Command → Type 0
AllWithin [] = Unit {0}
AllWithin (c ∷ cs) = Within c × AllWithin cs

-- the original executes a list of commands, and stops at the first that it refuses
pub record Walked : Type 0 where
  pub values : List (List ℕ)
  pub world : World

abbrev pub and_then : Result Went → (Went → Result Walked) → Result Walked
and_then (Err d) f = Err d
and_then (Ok g) f = f g

abbrev pub behind : List ℕ → Result Walked → Result Walked
behind vs (Err d) = Err d
behind vs (Ok r) = Ok (record { values = vs ∷ r.values; world = r.world })

unfoldable pub walk : List Command → World → Result Walked
walk [] w = Ok (record { values = []; world = w })
walk (c ∷ cs) w = and_then (execute c w) (λ (g : Went). behind g.values (walk cs g.world))

-- ---- the prologue

-- data, and the place from which it is read
pub record Bytes : Type 0 where
  pub bytes : List ℕ
  pub at : ℕ

-- its arguments: eight lights of which the last is the ambient colour, two lookat axes, and a slot with its vertex
pub record Prologue : Type 0 where
  pub modelview : Bytes
  pub projection : Bytes
  pub viewport : Bytes
  pub geometry : ℕ
  pub tile : ℕ
  pub level : ℕ
  pub on : Bool
  pub sc : ℕ
  pub tc : ℕ
  pub multiplier : ℤ
  pub offset : ℤ
  pub light : ℕ → Bytes
  pub lookat : ℕ → Bytes
  pub slot : ℕ
  pub vertex : Bytes

-- pop 32; modelview and projection loaded; viewport; geometry mode with off 0; texture; fog; 7 lights; slots 0 to 7; both lookat slots; one vertex
abbrev pub prologue : Prologue → List Command
prologue p =
    pop 32
    ∷ matrix 2 p.modelview.bytes p.modelview.at
    ∷ matrix 6 p.projection.bytes p.projection.at
    ∷ viewport p.viewport.bytes p.viewport.at
    ∷ geometry 0 p.geometry
    ∷ texture p.tile p.level p.on p.sc p.tc
    ∷ fog p.multiplier p.offset
    ∷ number 168
    ∷ light 0 (p.light 0).bytes (p.light 0).at
    ∷ light 1 (p.light 1).bytes (p.light 1).at
    ∷ light 2 (p.light 2).bytes (p.light 2).at
    ∷ light 3 (p.light 3).bytes (p.light 3).at
    ∷ light 4 (p.light 4).bytes (p.light 4).at
    ∷ light 5 (p.light 5).bytes (p.light 5).at
    ∷ light 6 (p.light 6).bytes (p.light 6).at
    ∷ light 7 (p.light 7).bytes (p.light 7).at
    ∷ lookat 0 (p.lookat 0).bytes (p.lookat 0).at
    ∷ lookat 1 (p.lookat 1).bytes (p.lookat 1).at
    ∷ load p.slot 1 p.vertex.bytes p.vertex.at
    ∷ []

-- ---- the point from which the entries of tables 2 and 3 are counted

-- how many entries a table of the entries es has in front of e, which it gets at its end unless its last entry is the same
abbrev pub in_front : (List (List Float) → List Float → Bool) → List (List Float) → List Float → ℕ
in_front same es e = cond (same es e) (length es - 1) (length es)

-- the last entry equals e by float comparison
abbrev pub same_view : List (List Float) → List Float → Bool
same_view es e = matches eq (final es) e

-- in table 2 of the stage, in front of the prologue's viewport: of opening's entry, six zeros
abbrev pub port_views : Bytes → ℕ
port_views v = in_front same_view (zeros viewport_width ∷ []) (viewport_entry v.bytes v.at)

-- in table 2 of the original: of default's entry, half a screen as scale and as translation
abbrev pub rust_views : Bytes → ℕ
rust_views v = in_front same_view (map joined default.viewports.viewport_table) (viewport_entry v.bytes v.at)

-- in table 3 of the stage, in front of the scales of the prologue's load: of none
abbrev pub port_scales : ℕ → ℕ → ℕ
port_scales sc tc = in_front same_scale [] (scale_entry sc tc)

-- in table 3 of the original: of default's entry, both pairs zero
abbrev pub rust_scales : ℕ → ℕ → ℕ
rust_scales sc tc = in_front same_scale (fours default.texcoords.texcoord_table default.texcoords.texgen_scale_table) (scale_entry sc tc)

-- THE POINT: how many entries each side had before those that the prologue's viewport and load made, or found there
abbrev pub before : Prologue → Offsets
before p = record { port2 = port_views p.viewport; rust2 = rust_views p.viewport; port3 = port_scales p.sc p.tc; rust3 = rust_scales p.sc p.tc }

-- each side has one entry more of tables 2 and 3
pub record OneMore (o : Offsets) (k : Book) (w : World) : Type 0 where
  pub port2 : length k.viewports.used ≡ o.port2 + 1
  pub rust2 : length w.rsp.viewports.viewport_table ≡ o.rust2 + 1
  pub port3 : length k.scales.used ≡ o.port3 + 1
  pub rust3 : length w.rsp.texcoords.texcoord_table ≡ o.rust3 + 1

-- ---- demand 2

-- the original, sent them but for the ink counts, has done each, has told what the stage told but for the count of a matrix's entries that are
-- not exact, and has left the same from the offsets on;
-- and without the ink counts the stage leaves the very state and areas that it leaves with them
pub record Equals (o : Offsets) (cs : List Command) (p : Port) (w : World) : Type 0 where
  pub walked : Walked
  pub is : walk (sent cs) w ≡ Ok walked
  pub values : told cs p ≡ walked.values
  pub after : Same o (book (run stage cs p)) walked.world
  pub corners : CornersSame (book (run stage cs p)) walked.world
  pub unmoved : run stage (sent cs) p ≡ run stage cs p

-- areas with room for an opening
abbrev pub Opens : Areas → Type 0
Opens l = (1 ≤ room matrix_width (length l.matrices)) × (1 ≤ room viewport_width (length l.viewports))

-- the stage opened, which is as F3dex2; where the original is begun as F3dex2NoN, the stage is sent that microcode change first
abbrev pub opened_as : Microcode → Areas → Port
opened_as F3dex2 l = opening l
opened_as F3dex2NoN l = step stage (microcode F3dex2NoN) (opening l)

-- DEMAND 2: begun with either microcode on any areas, after the prologue with any arguments, for every list of commands of the domain that the stage accepts
abbrev pub Demand2 : Type 0
Demand2 =
    (u : Microcode) (l : Areas) → Opens l → (p : Prologue) (cs : List Command)
    → AllWithin (prologue p ++ cs) → AllDone (prologue p ++ cs) (opened_as u l) → Equals (before p) (prologue p ++ cs) (opened_as u l) (begun u)

-- what `before` counts: at the end of the prologue each side has one entry more
abbrev pub BeforeIs : Type 0
BeforeIs =
    (u : Microcode) (l : Areas) → Opens l → (p : Prologue) → AllWithin (prologue p) → AllDone (prologue p) (opened_as u l)
    → (r : Walked) → walk (prologue p) (begun u) ≡ Ok r → OneMore (before p) (book (run stage (prologue p) (opened_as u l))) r.world

-- refused commands among the others, whatever they are: the original is sent those that are accepted, and the stage leaves what it leaves without the rest
abbrev pub Demand2AmongRefusals : Type 0
Demand2AmongRefusals =
    (u : Microcode) (l : Areas) → Opens l → (p : Prologue) (cs : List Command)
    → let o = opened_as u l in
    let ds = accepted stage cs (run stage (prologue p) o) in
    AllWithin (prologue p ++ ds) → AllDone (prologue p) o → Equals (before p) (prologue p ++ ds) o (begun u) × (run stage (prologue p ++ ds) o ≡ run stage (prologue p ++ cs) o)

-- the premises can be met: areas, arguments of the prologue and further commands, all accepted, that record n triangles
pub record Inhabited (u : Microcode) (n : ℕ) : Type 0 where
  pub areas : Areas
  pub opens : Opens areas
  pub arguments : Prologue
  pub commands : List Command
  pub within : AllWithin (prologue arguments ++ commands)
  pub done : AllDone (prologue arguments ++ commands) (opened_as u areas)
  pub triangles : length (book (run stage (prologue arguments ++ commands) (opened_as u areas))).drawing.indices.used ≡ 3 * n

-- ---- refusals that are the original's too

-- the stage's number and values (REFERENCE 3) for what the original answers
abbrev pub diag_number : DiagKind → ℕ
diag_number (InvalidCullRange first last) = 2
diag_number (InvalidConditionalVertex index) = 3
diag_number (InvalidVertexTransform index) = 4
diag_number (InvalidModifyVertex index attribute) = 5

abbrev pub diag_values : DiagKind → List ℕ
diag_values (InvalidCullRange first last) = first ∷ last ∷ []
diag_values (InvalidConditionalVertex index) = index ∷ []
diag_values (InvalidVertexTransform index) = index ∷ []
diag_values (InvalidModifyVertex index attribute) = index ∷ attribute ∷ []

-- the original refuses with the same number and the same values
abbrev pub Beside : ℕ → List ℕ → Result Went → Type 0
Beside n vs (Ok g) = ⊥
Beside n vs (Err d) = (diag_number d ≡ n) × (diag_values d ≡ vs)
