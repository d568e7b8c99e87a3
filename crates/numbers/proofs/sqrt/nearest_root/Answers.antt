-- `numbers::sqrt::nearest_root` meets its contract. Assumes nothing.
use Rattle.std.proofs.Common.{arith}
use Rattle.numbers.proofs.Turns.{start, turn_odd, turn_even, end-up, end-down}
use Rattle.numbers.proofs.sqrt.nearest_root.Goals as goal
use Rattle.numbers.proofs.sqrt.nearest_root.Goals.{then-odd-next, else-odd-next}

pub loop-init : goal.loop-init
loop-init c = start c.args.a c.ranges.a.fits

pub loop-preserved : goal.loop-preserved
loop-preserved c =
    let v = c.loop in
    let a = c.args.a in
    elim c.if-odd-next.branch [
      | then-odd-next w ↦ turn_odd a v.root v.rest v.left v.counter _ _ v.invariant c.loop-test.true w.if-odd-next.true w.root-is w.rest-is
      | else-odd-next w ↦ turn_even a v.root v.rest v.left v.counter _ _ v.invariant c.loop-test.true w.if-odd-next.false w.root-is w.rest-is
    ]

pub returns-then-rest-root : goal.returns-then-rest-root
returns-then-rest-root c =
    let v = c.loop in
    end-up c.args.a v.root v.rest v.left v.counter c.requires v.invariant c.loop-test.false (omega (arith, c.if-rest-root.true))

pub returns-else-rest-root : goal.returns-else-rest-root
returns-else-rest-root c =
    let v = c.loop in
    end-down c.args.a v.root v.rest v.left v.counter c.requires v.invariant c.loop-test.false (omega (arith, c.if-rest-root.false))
