-- The state's own numbers: what refusal 10 asks of them, before anything else is looked at.
use Rattle.std.specs.Prelude.{Bool, List, [], ◌∷◌, ℕ, leb}
use Rattle.numbers.specs.Choice.{all}
use Rattle.areas.specs.Widths.{most}
use Rattle.stage.specs.declared.State.{State}
use Rattle.stage.specs.declared.Counts.{Counts}
use Rattle.stage.specs.Plan.{Plan, refuse, unless}

-- table counts to 1,048,576, from 1 in tables 1 and 2
abbrev pub count_tests : Counts → List Bool
count_tests c =
    leb 1 c.matrices
    ∷ leb c.matrices most
    ∷ leb 1 c.viewports
    ∷ leb c.viewports most
    ∷ leb c.scales most
    ∷ leb c.lights most
    ∷ leb c.lookats most
    ∷ leb c.fogs most
    ∷ leb c.rows most
    ∷ leb c.indices most
    ∷ leb c.runs most
    ∷ []

-- opened, stack depth 1 to 32, light number 0 to 7, table counts
unfoldable pub state_sound : State → Bool
state_sound s = all (s.opened ∷ leb 1 s.depth ∷ leb s.depth 32 ∷ leb s.lights.number 7 ∷ count_tests s.counts)

-- refusal 10 for the state's own numbers, else what comes after
abbrev pub sound : State → Plan → Plan
sound s p = unless (state_sound s) (refuse 10 []) p

-- how many slots a command may name
abbrev pub limit : State → ℕ
limit s = 256
