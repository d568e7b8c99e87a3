-- What the theorem of demand 3 speaks of: two sequences from one opening, the bench beside them, and a triangle that stands. Definitions only.
-- Machines that it refuses stand in Broken.antt.
use Rattle.std.specs.Prelude.{ℕ, ◌+◌, ◌*◌, ◌/◌, ◌≤◌, ◌<◌, ◌≡◌, List, [], ◌++◌, length, get_or, take}
use Rattle.areas.specs.Widths.{settings_wide, start_field, count_field}
use Rattle.decide.specs.declared.family.Family.{Family}
use Rattle.stage.specs.declared.State.{State}
use Rattle.sequence.specs.Sequence.{Command, Areas, Port, Book, Machine, Alike, book, plan, run, accepted, opening}
use Rattle.finished.specs.Shown.{Triangle, triangle_at}
use Rattle.finished.specs.Bench.{Bench, bench0, bench}

-- the port after the commands cs of the machine m, from the opening of the areas l
abbrev pub after : Machine → Areas → List Command → Port
after m l cs = run m cs (opening l)

-- the bench beside it: of the port it hears only which commands were accepted
abbrev pub beside : (ℕ → Family) → Machine → ℕ → Areas → List Command → Bench
beside F m seats l cs = bench F (accepted m cs (opening l)) (bench0 seats)

-- the triangles recorded: three indices each
abbrev pub recorded : Port → ℕ
recorded p = p.state.counts.indices / 3

-- what the bench gave as triangle n
abbrev pub no_triangle : Triangle
no_triangle = record { corners = []; settings = [] }

abbrev pub gave : Bench → ℕ → Triangle
gave h n = get_or h.triangles n no_triangle

-- triangle n of a port is recorded, and shows T
pub record Stands (p : Port) (n : ℕ) (T : Triangle) : Type 0 where
  pub in_use : n < recorded p
  pub shows : triangle_at (book p) n ≡ T

-- A RECORDED TRIANGLE IS FINISHED. x and y: the areas of two sequences, whatever stands in them. cs: what the two have in common. ds and es: what
-- each goes on with. Triangle n, recorded by the end of cs, shows at the end of both what the bench gave when it was drawn
abbrev pub Finished : (ℕ → Family) → Machine → ℕ → (x y : Areas) (cs ds es : List Command) (n : ℕ) → Type 0
Finished F m seats x y cs ds es n =
    n < recorded (after m x cs)
    → Stands (after m x (cs ++ ds)) n (gave (beside F m seats x cs) n) × Stands (after m y (cs ++ es)) n (gave (beside F m seats x cs) n)

-- DEMAND 3, of the stage: whatever family of flag values each microcode has, and however many slots a state lets a command name, none above the
-- bench's seats and these not above 256; for all areas of equal lengths, whatever stands in them and however little room they have; for all commands
abbrev pub Demand3 : Type 0
Demand3 =
    (F : ℕ → Family) (limit : State → ℕ) (seats : ℕ) → ((s : State) → limit s ≤ seats) → seats ≤ 256
    → (x y : Areas) → Alike x y → (cs ds es : List Command) (n : ℕ)
    → Finished F (plan F limit) seats x y cs ds es n

-- ---- the run of an index, and of a triangle

-- the run r has index i
abbrev pub Has : List ℕ → ℕ → Type 0
Has r i = (get_or r start_field 0 ≤ i) × (i < get_or r start_field 0 + get_or r count_field 0)

-- run j has index i, and no other has
pub record HeldBy (runs : List (List ℕ)) (j i : ℕ) : Type 0 where
  pub in_use : j < length runs
  pub has : Has (get_or runs j []) i
  pub only : (m : ℕ) → m < length runs → Has (get_or runs m []) i → m ≡ j

-- one run, and no other
pub record OneRun (runs : List (List ℕ)) (i : ℕ) : Type 0 where
  pub run : ℕ
  pub held : HeldBy runs run i

-- the run of triangle n: it has the three indices, no other has one of them, and the triangle shows its settings
pub record RunOf (k : Book) (n : ℕ) : Type 0 where
  pub run : ℕ
  pub held : (i : ℕ) → i < 3 → HeldBy k.drawing.runs.used run (3 * n + i)
  pub settings : (triangle_at k n).settings ≡ take settings_wide (get_or k.drawing.runs.used run [])
