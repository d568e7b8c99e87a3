-- What serves private steps of the code only: no promise of a command is said in these words. Definitions only.
use Rattle.std.specs.Prelude.{ℕ, ◌+◌, ◌≤◌, Bool, not, List, [], ◌∷◌, leb, Float, Option, Some, None}
use Rattle.std.specs.Float.Ieee.{eq}
use Rattle.numbers.specs.Choice.{pick, unless}
use Rattle.areas.specs.Area.{matches}
use Rattle.areas.specs.Table.{table, Edit, counted, after}
use Rattle.decide.specs.Append.{final, appended}
use Rattle.decide.specs.Judge.{Lent, fits}
use Rattle.decide.specs.declared.judge.Fill.{Fill}

-- the count of a table, and its area
pub record Put (A : Type 0) : Type 0 where
  pub count : ℕ
  pub area : List A

-- what an edit leaves of a table of n entries of w numbers in the area l
abbrev pub put_by : {A : Type 0} → ℕ → ℕ → Edit (List A) → List A → Put A
put_by w n ed l = record { count = counted ed n; area = after w n ed l }

-- the count of a table, unless it had no room for an entry, and the area then
pub record Ended : Type 0 where
  pub count : Option ℕ
  pub area : List Float

-- the entry e appended, unless it is there last, where a table of n entries of w numbers in the area l has room for one more
unfoldable pub ended : ℕ → ℕ → List Float → List Float → Ended
ended w n e l =
    let t = table w n l in
    let roomy = leb (n + 1) t.room in
    record {
      count = pick (matches eq (final t.used) e) (Some n) (pick roomy (Some (n + 1)) None);
      area = pick roomy (after w n (appended t e) l) l;
    }

-- a depth of the model stack, which holds 1 to 32 matrices
abbrev pub Deep : ℕ → Type 0
Deep depth = (1 ≤ depth) × (depth ≤ 32)

-- the number of the first table that does not fit
unfoldable pub first_short : List Lent → Option ℕ
first_short [] = None
first_short (t ∷ ts) = unless (fits t) (Some t.number) (first_short ts)

-- a table, as the code has it
abbrev pub fill_of : Fill → Lent
fill_of t = record { number = t.number; used = t.used; more = t.more; room = t.room }

-- it has less room than it is to hold
abbrev pub short_of : Fill → Bool
short_of t = not (fits (fill_of t))
