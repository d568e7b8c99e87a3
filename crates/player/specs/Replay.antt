-- What the program `replay` leaves of a trace, and what is promised of it. Definitions only.
use Rattle.std.specs.Prelude.{ℕ, zero, suc, ◌≡◌, false, List, [], ◌∷◌, map, length, replicate, eqb, ltb, pos, Float}
use Rattle.std.specs.Float.{fin}
use Rattle.numbers.specs.Choice.{pick}
use Rattle.stage.specs.Opening.{blank}
use Rattle.sequence.specs.Sequence.{Command, Areas, Port, run, opening}
use Rattle.trace.specs.declared.rooms.Lengths.{Lengths}
use Rattle.trace.specs.Header.{header_size, lengths_of}
use Rattle.trace.specs.declared.script.Call.{Call}
use Rattle.trace.specs.Script.{call_at, read_or}
use Rattle.player.specs.Ops.{Act, opens, sends, pokes, rests, stage, acted, act_of, areas_of}
use Rattle.player.specs.Play.{port_of, data_of, played}

-- ---- what is left

-- 7.0
abbrev pub seven : Float
seven = fin false 7 (pos 0)

-- areas of these lengths as the program makes them: every number is 7
abbrev pub made : Lengths → Areas
made n =
    areas_of (replicate n.matrices seven) (replicate n.viewports seven) (replicate n.scales seven) (replicate n.lights seven)
    (replicate n.lookats seven) (replicate n.fogs (pos 7)) (replicate n.floats seven) (replicate n.words 7) (replicate n.indices 7)
    (replicate n.runs 7)

-- WHAT THE PROGRAM DUMPS of a script: areas of the lengths in its header are made, and all of each is lent
abbrev pub replayed : List ℕ → Port
replayed s = played s (lengths_of s) (made (lengths_of s))

-- ---- what a script asks for

-- the acts of the ops from a place on, n of them at most. Where no op is read the script ends; a mark only shows something, and is no act
unfoldable pub acts_from : ℕ → List ℕ → ℕ → List Act
acts_from zero s at = []
acts_from (suc n) s at =
    let acts : Call → List Act =
    λ c. let later = acts_from n s c.to in
    pick (eqb c.op 0x21) later (act_of c (data_of s c) ∷ later)
    in
    pick (ltb at (length s)) (read_or [] acts (call_at s at)) []

-- those of a script behind its header
abbrev pub acts_of : List ℕ → List Act
acts_of s = acts_from (length s) s (header_size s)

-- A TRACE OF COMMANDS ALONE: the script opens, and then sends the commands cs
abbrev pub Sends : List ℕ → List Command → Type 0
Sends s cs = acts_of s ≡ opens ∷ map sends cs

-- no act is a lend or a write
abbrev pub Plain : List Act → Type 0
Plain [] = Unit {0}
Plain (opens ∷ xs) = Plain xs
Plain (sends m ∷ xs) = Plain xs
Plain (pokes f i v ∷ xs) = Plain xs
Plain (rests ∷ xs) = ⊥

-- the port after acts, one after the other
abbrev pub after_acts : List Act → Port → Port
after_acts [] p = p
after_acts (a ∷ xs) p = after_acts xs (port_of (acted a p).state (acted a p).areas)

-- ---- what is promised

-- WHAT REPLAY LEAVES IS A RUN: of a trace of commands alone the program dumps what the sequence of those commands leaves after opening
abbrev pub ReplayRuns : Type 0
ReplayRuns = (s : List ℕ) (cs : List Command) → Sends s cs → replayed s ≡ run stage cs (opening (made (lengths_of s)))

-- and of one that neither lends nor writes, but may open again and poke, what its acts leave one by one
abbrev pub ReplayActs : Type 0
ReplayActs = (s : List ℕ) → Plain (acts_of s) → replayed s ≡ after_acts (acts_of s) (port_of (blank false) (made (lengths_of s)))
