-- What a trace's own acts do to the lengths and to the areas. Definitions only.
use Rattle.std.specs.Prelude.{ℕ, ◌&&◌, List, [], ◌∷◌, set, eqb}
use Rattle.areas.specs.Area.{put}
use Rattle.numbers.specs.Choice.{pick}
use Rattle.trace.specs.declared.rooms.Lengths.{Lengths}
use Rattle.trace.specs.declared.script.Call.{Call}

-- the ten lengths by their areas' numbers
abbrev pub length_list : Lengths → List ℕ
length_list l =
    l.matrices
    ∷ l.viewports
    ∷ l.scales
    ∷ l.lights
    ∷ l.lookats
    ∷ l.fogs
    ∷ l.floats
    ∷ l.words
    ∷ l.indices
    ∷ l.runs
    ∷ []

-- the lengths lent after an op
unfoldable pub lent_after : Call → List ℕ → List ℕ
lent_after c l = pick (eqb c.op 32) (set l c.args.a c.args.b) l

-- the numbers of an area after an op: `write` puts the number v there, where its place lies in the area
unfoldable pub written_to : {A : Type 0} → ℕ → Call → A → List A → List A
written_to k c v l = pick (eqb c.op 35 && eqb c.args.a k) (put l c.args.b (v ∷ [])) l
