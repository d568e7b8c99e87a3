-- A script whose acts are a sequence of commands, behind each of the two headers, read by computing. Assumes nothing.
use mathlib.Core.Path.{◌≡◌, refl}
use Prim.Native.Nat.{ℕ}
use mathlib.Core.List.{List, [], ◌∷◌, ◌++◌}
use lib.ListN.{replicate}
use Rattle.numbers.specs.Choice.{pick}
use Rattle.sequence.specs.Sequence.{Command, load, draw}
use Rattle.trace.specs.Header.{is_second, header_size, first_length, lengths_of}
use Rattle.trace.specs.Script.{size_of, data_of, call_of, call_at}
use Rattle.trace.specs.Shapes.{op_of}
use Rattle.player.specs.Ops.{act_is}
use Rattle.player.specs.Replay.{acts_from, Sends}

-- a word of small value
abbrev word : ℕ → List ℕ
word n = n ∷ 0 ∷ 0 ∷ 0 ∷ []

-- the lengths of the ten areas
abbrev lengths : List ℕ
lengths = word 64 ++ word 12 ++ word 8 ++ word 48 ++ word 12 ++ word 4 ++ word 18 ++ word 20 ++ word 6 ++ word 16

-- open; load a vertex into slot 0; mark; draw it with material 7
abbrev ops : List ℕ
ops = 0x01 ∷ 0x0c ∷ word 0 ++ word 1 ++ word 16 ++ replicate 16 0 ++ (0x21 ∷ 0x10 ∷ word 0 ++ word 0 ++ word 0 ++ word 7 ++ word 0 ++ word 0 ++ word 0)

-- these behind GST1 and the ten lengths
abbrev script : List ℕ
script = 71 ∷ 83 ∷ 84 ∷ 49 ∷ lengths ++ ops

-- and behind GST2, the requests and the thirteen lengths
abbrev second : List ℕ
second = 71 ∷ 83 ∷ 84 ∷ 50 ∷ word 3 ++ lengths ++ word 8 ++ word 9 ++ word 1 ++ ops

-- a load and a draw
abbrev commands : List Command
commands = load 0 1 (replicate 16 0) 0 ∷ draw 0 0 0 7 0 0 0 ∷ []

-- the two commands are what it sends
pub two-sent : Sends script commands
unfolding is_second header_size acts_from call_at call_of op_of size_of data_of act_is pick
two-sent = refl

-- and with a draw behind them that is cut short
pub cut-unsent : Sends (script ++ (0x10 ∷ word 0)) commands
unfolding is_second header_size acts_from call_at call_of op_of size_of data_of act_is pick
cut-unsent = refl

-- behind GST2 they are the same two
pub second-sent : Sends second commands
unfolding is_second header_size acts_from call_at call_of op_of size_of data_of act_is pick
second-sent = refl

-- and the areas have the same lengths
pub second-asks : lengths_of second ≡ lengths_of script
unfolding is_second first_length pick
second-asks = refl
