-- `trace::script::call_of` meets its contract. Assumes nothing.
use native.Mathlib.Omega.{arith}
use Prim.Native.Nat.{◌+◌}
use lib.ListN.{length-drop}
use Rattle.trace.proofs.Reading.{tail-is, short-words, short-data, all_there}
use Rattle.trace.proofs.script.call_of.Goals as goal

pub returns-then-rest-size-clause-value : goal.returns-then-rest-size-clause-value
returns-then-rest-size-clause-value c =
    let a = c.args in
    let z = c.size_of-size.ensures in
    short-words a.h a.s.now a.at (omega (arith, z, c.if-rest-size.true, length-drop (a.at + 1) a.s.now))

pub returns-then-rest-size-2-clause-value : goal.returns-then-rest-size-2-clause-value
returns-then-rest-size-2-clause-value c =
    let a = c.args in
    let z = c.size_of-size.ensures in
    let n = rw (tail-is a.s.now (a.at + 1)) at c.data_of-n.ensures in
    short-data a.h a.s.now a.at (omega (arith, z, length-drop (a.at + 1) a.s.now)) (omega (arith, z, n, length-drop (a.at + 1) a.s.now))

pub returns-clause-value : goal.returns-clause-value
returns-clause-value c =
    let a = c.args in
    let z = c.size_of-size.ensures in
    let n = rw (tail-is a.s.now (a.at + 1)) at c.data_of-n.ensures in
    rw (c.args_of.ensures, z, n, tail-is a.s.now (a.at + 1)) (all_there a.h a.s.now a.at (omega (arith, z, length-drop (a.at + 1) a.s.now)) (omega (arith, z, n, length-drop (a.at + 1) a.s.now)))
