-- How an op is read from a script. Definitions only.
use Rattle.std.specs.Prelude.{ℕ, ◌+◌, ◌*◌, ◌-◌, ◌≤◌, ◌<◌, List, length, drop, get_or, leb, Result, Ok, Err}
pub use Rattle.input.specs.Words.{word_at}
use Rattle.numbers.specs.Choice.{pick}
use Rattle.trace.specs.declared.ops.Op.{Op}
use Rattle.trace.specs.declared.ops.Cut.{Cut}
use Rattle.trace.specs.declared.ops.Cut.TheVariants.{Short}
use Rattle.trace.specs.declared.ops.Shape.{Shape}
use Rattle.trace.specs.declared.script.Args.{Args}
use Rattle.trace.specs.declared.script.Call.{Call}
use Rattle.trace.specs.Shapes.{op_of, shape_of}

-- the first seven words
abbrev pub args_of : List ℕ → Args
args_of s =
    record {
      a = word_at s 0;
      b = word_at s 1;
      c = word_at s 2;
      d = word_at s 3;
      e = word_at s 4;
      f = word_at s 5;
      g = word_at s 6;
    }

-- how many bytes an op's words take: a word for each argument, and one for the length of its data
unfoldable pub size_of : Shape → ℕ
size_of h = 4 * h.arguments + pick h.bytes 4 0

-- how many bytes of data there are, which the word after the arguments says
unfoldable pub data_of : Shape → List ℕ → ℕ
data_of h s = pick h.bytes (word_at s h.arguments) 0

-- an op with m bytes of data from a place on
abbrev pub whole_of : ℕ → Args → ℕ → ℕ → Call
whole_of o x at m = record { op = o; args = x; from = at; to = at + m }

-- the op at a place, of a given shape: none where the script ends before its words or its data do
unfoldable pub call_of : Shape → List ℕ → ℕ → Result Call Cut
call_of h s at =
    let t = drop (at + 1) s in
    pick (leb (size_of h) (length t))
    (pick (leb (data_of h t) (length t - size_of h)) (Ok (whole_of (get_or s at 0) (args_of t) (at + 1 + size_of h) (data_of h t))) (Err Short))
    (Err Short)

-- of the shape of an op, if there is one
abbrev pub read_as : List ℕ → ℕ → Result Op Cut → Result Call Cut
read_as s at (Ok o) = call_of (shape_of o) s at
read_as s at (Err e) = Err e

-- and of that which its number says: none where no op has the number
unfoldable pub call_at : List ℕ → ℕ → Result Call Cut
call_at s at = read_as s at (op_of (get_or s at 0))

-- what f makes of what is read, and x where nothing is
abbrev pub read_or : {A B : Type 0} → B → (A → B) → Result A Cut → B
read_or x f (Ok a) = f a
read_or x f (Err e) = x

-- the next op stands behind this one, in a script of n bytes, and the data in front of it
pub record Ahead (at n : ℕ) (c : Call) : Type 0 where
  pub past : at < c.to
  pub order : c.from ≤ c.to
  pub inside : c.to ≤ n
