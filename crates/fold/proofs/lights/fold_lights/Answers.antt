-- `fold::lights::fold_lights` meets its contract. After k turns the entries of the first k lights are written. Assumes nothing.
use mathlib.Core.Path.{◌≡◌}
use native.Mathlib.Omega.{arith}
use borrow.Author.Rules.{rules}
use Rattle.fold.proofs.Laid.{lit-none, lit-more, lit-all}
use Rattle.fold.proofs.lights.fold_lights.Goals as goal

pub loop-k-init : goal.loop-k-init
loop-k-init c = (lit-none, search rules)

pub loop-k-preserved : goal.loop-k-preserved
loop-k-preserved c = (lit-more _ _ _ _ c.loop-k.invariant.0 c.place-first.ensures c.place.ensures c.put.ensures c.light_entry-entry.ensures, omega arith)

pub returns : goal.returns
returns c =
    let e : c.loop-k.k ≡ c.args.number = omega arith in
    lit-all _ _ _ _ (rw e at c.loop-k.invariant.0) c.place-first.ensures c.place-2.ensures c.put-2.ensures _ c.ambient_entry-last.ensures
