-- What the driver does by itself to a state. Definitions only.
use Rattle.std.specs.Prelude.{ℕ, zero, suc, ◌%◌, true, List, [], ◌∷◌, set, get_or, eqb}
use Rattle.stage.specs.declared.State.{State}
use Rattle.stage.specs.declared.Counts.{Counts}
use Rattle.stage.specs.With.{with_opened, with_model, with_lights, with_number, with_counts, with_row, with_ever, with_loaded}

-- the nine counts, table 1's first
abbrev pub count_list : Counts → List ℕ
count_list c =
    c.matrices ∷ c.viewports ∷ c.scales ∷ c.lights ∷ c.lookats ∷ c.fogs ∷ c.rows ∷ c.indices ∷ c.runs ∷ []

-- n for the count of a table, where there is a table of that number
abbrev pub count_after : ℕ → ℕ → List ℕ → List ℕ
count_after zero n l = l
count_after (suc k) n l = set l k n

-- nine counts as a record
abbrev pub counts_of : List ℕ → Counts
counts_of l =
    record {
      matrices = get_or l 0 0;
      viewports = get_or l 1 0;
      scales = get_or l 2 0;
      lights = get_or l 3 0;
      lookats = get_or l 4 0;
      fogs = get_or l 5 0;
      rows = get_or l 6 0;
      indices = get_or l 7 0;
      runs = get_or l 8 0;
    }

-- what `poke` makes of a state, by field: opened, stack depth, light count, entries in use of table i, row of slot i, none, none, loaded mark of slot i
abbrev pub poked_states : State → ℕ → ℕ → List State
poked_states s i v =
    with_opened s (eqb (v % 2) 1)
    ∷ with_model s v s.stack
    ∷ with_lights s (with_number s.lights v)
    ∷ with_counts s (counts_of (count_after i v (count_list s.counts)))
    ∷ with_ever (with_row s (set s.row (i % 256) v)) (set s.ever (i % 256) true)
    ∷ s
    ∷ s
    ∷ with_loaded s (set s.loaded (i % 256) (eqb (v % 2) 1))
    ∷ []

-- a field that there is not leaves the state as it is
unfoldable pub poked_state : State → ℕ → ℕ → ℕ → State
poked_state s f i v = get_or (poked_states s i v) f s
