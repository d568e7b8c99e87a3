-- `decide::stack::take` meets its contract: what the turn says, by what the flags are. Assumes nothing.
use Rattle.decide.proofs.Turning.{turned-in}
use Rattle.decide.proofs.stack.take.Goals as goal

pub top_at-requires : goal.top_at-requires
top_at-requires c = turned-in _ _ _ _ c.turn-d.ensures.0 c.requires

pub returns : goal.returns
returns c =
    let projects = c.has_flag-projecting.ensures in
    let loads = c.has_flag-load.ensures in
    let pushes = c.has_flag-push.ensures in
    record {
      depth = rw (projects, pushes) at c.turn-d.ensures.0;
      projection = rw (projects, loads) at c.turn-d.ensures.1;
      stack = rw (projects, pushes, loads) at c.turn-d.ensures.2;
      product = rw c.top_at.ensures at c.product_of-product.ensures;
    }
