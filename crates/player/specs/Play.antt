-- What a script comes to: its ops one after the other. Definitions only.
use Rattle.std.specs.Prelude.{ℕ, zero, suc, ◌-◌, false, List, length, take, drop, get_or, ltb}
use Rattle.numbers.specs.Choice.{pick}
use Rattle.stage.specs.declared.State.{State}
use Rattle.stage.specs.Opening.{blank}
use Rattle.sequence.specs.Sequence.{Areas, Port}
use Rattle.trace.specs.declared.rooms.Lengths.{Lengths}
use Rattle.trace.specs.declared.script.Call.{Call}
use Rattle.trace.specs.Header.{header_size}
use Rattle.trace.specs.Script.{call_at, read_or}
use Rattle.trace.specs.Acts.{length_list, lent_after}
use Rattle.player.specs.Ops.{step_by}

-- a state with its areas
abbrev pub port_of : State → Areas → Port
port_of s l = record { state = s; areas = l }

-- ten lengths as a record
abbrev pub lengths_in : List ℕ → Lengths
lengths_in l =
    record {
      matrices = get_or l 0 0;
      viewports = get_or l 1 0;
      scales = get_or l 2 0;
      lights = get_or l 3 0;
      lookats = get_or l 4 0;
      fogs = get_or l 5 0;
      floats = get_or l 6 0;
      words = get_or l 7 0;
      indices = get_or l 8 0;
      runs = get_or l 9 0;
    }

-- the bytes of an op's data
abbrev pub data_of : List ℕ → Call → List ℕ
data_of s c = take (c.to - c.from) (drop c.from s)

-- what the ops from a place on leave, n of them at most. Where no op is read the script ends
unfoldable pub play_from : ℕ → List ℕ → ℕ → Lengths → Port → Port
play_from zero s at lent p = p
play_from (suc n) s at lent p =
    let after : Call → Port =
    λ c. let o = step_by c (data_of s c) lent p in
    play_from n s c.to (lengths_in (lent_after c (length_list lent))) (port_of o.state o.areas)
    in
    pick (ltb at (length s)) (read_or p after (call_at s at)) p

-- a script behind its header, from areas that nothing has opened; every op takes a byte at least
abbrev pub played : List ℕ → Lengths → Areas → Port
played s own l = play_from (length s) s (header_size s) own (port_of (blank false) l)
