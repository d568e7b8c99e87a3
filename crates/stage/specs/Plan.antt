-- The vocabulary in which the meaning of each command is said: a plan, made of the state, of what is in use of the lent tables and of the
-- arguments alone, and what the state, the answer and the areas are after it. Definitions only.
use Rattle.std.specs.Prelude.{◌≡◌, ℕ, ◌+◌, min, List, [], ◌∷◌, map, length, ℤ, leb, Float}
use Rattle.areas.specs.Area.{entries, room}
use Rattle.areas.specs.Widths.{matrix_width, viewport_width, scale_width, light_width, lookat_width, fog_width, float_width, word_width, index_width, run_width}
pub use Rattle.areas.specs.Table.{Table, table, Edit, keep, grow, patch, more, counted, after}
pub use Rattle.decide.specs.Append.{only_if}
unfoldable pub use Rattle.decide.specs.Append.{appended}
use Rattle.decide.specs.Judge.{Lent, fits}
unfoldable pub use Rattle.numbers.specs.Choice.{pick, unless}
use Rattle.stage.specs.declared.State.{State}
use Rattle.stage.specs.declared.Counts.{Counts}
use Rattle.stage.specs.declared.Answered.{Answered}
use Rattle.stage.specs.Answers.{number, values}
use Rattle.stage.specs.With.{with_counts}

-- ---- tables

-- an entry of table 7: its f32 and its u32
pub record Row : Type 0 where
  pub floats : List Float
  pub words : List ℕ

-- the entries of table 7, from those of its two areas
abbrev pub rows_of : List (List Float) → List (List ℕ) → List Row
rows_of [] ws = []
rows_of (f ∷ fs) [] = []
rows_of (f ∷ fs) (w ∷ ws) = record { floats = f; words = w } ∷ rows_of fs ws

-- table 7 of n rows in use, in the areas f and w; the lesser room counts
abbrev pub row_table : ℕ → List Float → List ℕ → Table Row
row_table n f w = record { used = rows_of (entries float_width n f) (entries word_width n w); room = min (room float_width (length f)) (room word_width (length w)) }

-- the numbers of one kind of a row
abbrev pub row_floats : Row → List Float
row_floats r = r.floats

abbrev pub row_words : Row → List ℕ
row_words r = r.words

-- an edit of rows, as an edit of one of their two areas: f gives the numbers of one kind
abbrev pub only : {E F : Type 0} → (E → F) → Edit E → Edit F
only f keep = keep
only f (grow es) = grow (map f es)
only f (patch i e) = patch i (f e)

-- tables 8 and 9, which drawing fills: of each the same thing
pub record Drawing (E : Type 0) : Type 0 where
  pub indices : E
  pub runs : E

-- what a command does to each table, 1 to 9
pub record Edits : Type 0 where
  pub matrices : Edit (List Float)
  pub viewports : Edit (List Float)
  pub scales : Edit (List Float)
  pub lights : Edit (List Float)
  pub lookats : Edit (List Float)
  pub fogs : Edit (List ℤ)
  pub rows : Edit Row
  pub drawing : Drawing (Edit (List ℕ))

-- nothing drawn
abbrev pub undrawn : Drawing (Edit (List ℕ))
undrawn = record { indices = keep; runs = keep }

-- no table changes
abbrev pub untouched : Edits
untouched = record { matrices = keep; viewports = keep; scales = keep; lights = keep; lookats = keep; fogs = keep; rows = keep; drawing = undrawn }

-- ---- the ten areas

-- a lent area: how many numbers an entry has, which count says how many are in use, and which edit changes it
pub record Area (A : Type 0) : Type 0 where
  pub width : ℕ
  pub count : Counts → ℕ
  pub edit : Edits → Edit (List A)

-- those of tables 1 to 9, by their names; table 7 has two
abbrev pub matrix_area : Area Float
matrix_area = record { width = matrix_width; count = λ c. c.matrices; edit = λ e. e.matrices }

abbrev pub viewport_area : Area Float
viewport_area = record { width = viewport_width; count = λ c. c.viewports; edit = λ e. e.viewports }

abbrev pub scale_area : Area Float
scale_area = record { width = scale_width; count = λ c. c.scales; edit = λ e. e.scales }

abbrev pub light_area : Area Float
light_area = record { width = light_width; count = λ c. c.lights; edit = λ e. e.lights }

abbrev pub lookat_area : Area Float
lookat_area = record { width = lookat_width; count = λ c. c.lookats; edit = λ e. e.lookats }

abbrev pub fog_area : Area ℤ
fog_area = record { width = fog_width; count = λ c. c.fogs; edit = λ e. e.fogs }

abbrev pub float_area : Area Float
float_area = record { width = float_width; count = λ c. c.rows; edit = λ e. only row_floats e.rows }

abbrev pub word_area : Area ℕ
word_area = record { width = word_width; count = λ c. c.rows; edit = λ e. only row_words e.rows }

abbrev pub index_area : Area ℕ
index_area = record { width = index_width; count = λ c. c.indices; edit = λ e. e.drawing.indices }

abbrev pub run_area : Area ℕ
run_area = record { width = run_width; count = λ c. c.runs; edit = λ e. e.drawing.runs }

-- the table in such an area, for the counts c
abbrev pub table_in : {A : Type 0} → Area A → Counts → List A → Table (List A)
table_in k c l = table k.width (k.count c) l

-- such an area after a command's edits, for the counts c before it
abbrev pub after_in : {A : Type 0} → Area A → Counts → Edits → List A → List A
after_in k c e l = after k.width (k.count c) (k.edit e) l

-- ---- plans

-- a refusal, by number and values; or done, with the values told, the new state but for its counts, and what the tables get
pub data Plan : Type 0 where
  refuse : ℕ → List ℕ → Plan
  does : List ℕ → State → Edits → Plan

-- a lent table as refusals 8 and 9 judge it, under its number
abbrev pub lent : {E : Type 0} → ℕ → Table E → Edit E → Lent
lent k t e = record { number = k; used = length t.used; more = more e; room = t.room }

-- refusal n with the first table, the lowest, that has less room than what it is to hold
abbrev pub judge : ℕ → List Lent → Plan → Plan
judge n [] p = p
judge n (t ∷ ts) p = unless (fits t) (refuse n (t.number ∷ [])) (judge n ts p)

-- table k gets the entry unless the last one compares equal to it, or refusal 9; p is what is planned with that edit
unfoldable pub appending : ℕ → Table (List Float) → List Float → (Edit (List Float) → Plan) → Plan
appending k t e p = judge 9 (lent k t (appended t e) ∷ []) (p (appended t e))

-- refusal 7 where the bytes from place at on are fewer than needed
abbrev pub needs : ℕ → ℕ → List ℕ → Plan → Plan
needs n at bytes p = unless (leb (at + n) (length bytes)) (refuse 7 (n ∷ [])) p

-- the plan p with vs told: where p is done, vs is what it tells; where p refuses, nothing is added
unfoldable pub telling : List ℕ → Plan → Plan
telling vs (refuse n ws) = refuse n ws
telling vs (does ws t e) = does vs t e

-- ---- outcomes

-- all counts after a command's edits: they are the lengths of what is in use
abbrev pub advance : Edits → Counts → Counts
advance e c =
    record {
      matrices = counted e.matrices c.matrices;
      viewports = counted e.viewports c.viewports;
      scales = counted e.scales c.scales;
      lights = counted e.lights c.lights;
      lookats = counted e.lookats c.lookats;
      fogs = counted e.fogs c.fogs;
      rows = counted e.rows c.rows;
      indices = counted e.drawing.indices c.indices;
      runs = counted e.drawing.runs c.runs;
    }

-- what a command hands back, the answer by number and values, and what its areas hold then
pub record Outcome (A : Type 0) : Type 0 where
  pub state : State
  pub number : ℕ
  pub values : List ℕ
  pub areas : A

-- the answer of an outcome: number n, with the values vs
abbrev pub Answers : {A : Type 0} → Outcome A → ℕ → List ℕ → Type 0
Answers o n vs = (o.number ≡ n) × (o.values ≡ vs)

abbrev pub outcome : {A : Type 0} → Answered → A → Outcome A
outcome r l = record { state = r.state; number = number r.answer; values = values r.answer; areas = l }

-- what a plan comes to, for the state s and the areas l; f says how edits change those areas. A refusal changes nothing
unfoldable pub carry : {A : Type 0} → (Counts → Edits → A → A) → Plan → State → A → Outcome A
carry f (refuse n vs) s l = record { state = s; number = n; values = vs; areas = l }
carry f (does vs t e) s l = record { state = with_counts t (advance e s.counts); number = 0; values = vs; areas = f s.counts e l }

-- the areas of a command that is lent none
abbrev pub nothing : Counts → Edits → Unit {0} → Unit {0}
nothing c e l = l
