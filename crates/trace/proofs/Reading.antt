-- How an op is read, case by case, and where the next one stands; the front of a list. Assumes nothing.
use mathlib.Core.Path.{◌≡◌, sym, ap}
use mathlib.Core.List.{List}
use Prim.Native.Nat.{ℕ, ◌+◌, ◌-◌, ◌≤◌, ◌<◌}
use native.Mathlib.Omega.{arith}
use borrow.Author.Tests.{le-leb, lt-leb}
use lib.ListN.{length, take, drop, get_or, length-drop}
use lib.Seq.{length-take-le, take_all}
use Rattle.numbers.specs.Choice.{pick}
use Rattle.std.specs.Prelude.{Result, Ok, Err}
use Rattle.trace.specs.declared.ops.Op.{Op}
use Rattle.trace.specs.declared.ops.Shape.{Shape}
use Rattle.trace.specs.declared.ops.Cut.{Cut}
use Rattle.trace.specs.declared.ops.Cut.TheVariants.{Short}
use Rattle.trace.specs.Shapes.{op_of}
use Rattle.trace.specs.Script.{args_of, size_of, data_of, whole_of, call_of, read_as, call_at}

pub front : {A : Type 0} (n : ℕ) (l : List A) → n ≤ length l → n ≡ length (take n l)
front n l h = sym (length-take-le n l h)

-- the part of a list from a place up to its end
pub tail-is : (l : List ℕ) (n : ℕ) → take (length l - n) (drop n l) ≡ drop n l
tail-is l n = take_all (length l - n) (drop n l) (omega (arith, length-drop n l))

-- an op whose number stands at a place
pub known : (s : List ℕ) (at : ℕ) (r : Result Op Cut) → r ≡ op_of (get_or s at 0) → read_as s at r ≡ call_at s at
unfolding call_at
known s at r e = ap (read_as s at) e

module _ (h : Shape) (s : List ℕ) (at : ℕ) where
  abbrev rest : List ℕ
  rest = drop (at + 1) s

  pub short-words : length rest < size_of h → Err Short ≡ call_of h s at
  unfolding call_of pick size_of
  short-words f = rw (lt-leb (size_of h) (length rest) f)

  pub short-data : size_of h ≤ length rest → length rest - size_of h < data_of h rest → Err Short ≡ call_of h s at
  unfolding call_of pick size_of data_of
  short-data f g = rw (le-leb (size_of h) (length rest) f, lt-leb (data_of h rest) (length rest - size_of h) g)

  pub all_there :
      size_of h ≤ length rest →
      data_of h rest ≤ length rest - size_of h →
      Ok (whole_of (get_or s at 0) (args_of rest) (at + 1 + size_of h) (data_of h rest)) ≡ call_of h s at
  unfolding call_of pick size_of data_of
  all_there f g = rw (le-leb (size_of h) (length rest) f, le-leb (data_of h rest) (length rest - size_of h) g)
