-- A plan entered into a book, as `carry` enters it into state and areas. Definitions only.
use mathlib.Core.List.{List, [], ◌∷◌, ◌++◌}
use lib.ListN.{set}
use Rattle.stage.specs.declared.State.{State}
use Rattle.stage.specs.Plan.{Table, Edit, keep, grow, patch, Edits, Plan, refuse, does, advance}
use Rattle.stage.specs.With.{with_counts}
use Rattle.sequence.specs.Sequence.{Command, Book, Machine}

module _ {E : Type 0} where
  -- entries after an edit
  abbrev pub edit : Edit E → List E → List E
  edit keep t = t
  edit (grow es) t = t ++ es
  edit (patch i e) t = set t i e

  -- a table after an edit
  abbrev pub edited : Edit E → Table E → Table E
  edited e t = record { used = edit e t.used; room = t.room }

-- a book after a command's edits, with the state t
abbrev pub enter : State → Edits → Book → Book
enter t e k =
    record {
      state = with_counts t (advance e k.state.counts);
      matrices = edited e.matrices k.matrices;
      viewports = edited e.viewports k.viewports;
      scales = edited e.scales k.scales;
      lights = edited e.lights k.lights;
      lookats = edited e.lookats k.lookats;
      fogs = edited e.fogs k.fogs;
      rows = edited e.rows k.rows;
      drawing = record { indices = edited e.drawing.indices k.drawing.indices; runs = edited e.drawing.runs k.drawing.runs };
    }

-- a book after a plan
unfoldable pub turn : Plan → Book → Book
turn (refuse n vs) k = k
turn (does vs t e) k = enter t e k

-- a book after a sequence of commands
unfoldable pub course : Machine → List Command → Book → Book
course m [] k = k
course m (c ∷ cs) k = course m cs (turn (m c k) k)
