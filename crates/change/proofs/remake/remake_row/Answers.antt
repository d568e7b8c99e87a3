-- `change::remake::remake_row` meets its contract. Assumes nothing.
use Prim.Native.Nat.{◌-◌}
use mathlib.Core.Path.{refl}
use Rattle.change.proofs.Storing.{remade}
use Rattle.change.proofs.remake.remake_row.Goals as goal

pub returns : goal.returns
returns g c =
    let a = c.args in
    let at = rw c.WIDTH.ensures at c.place-at.ensures in
    remade (g.T.RowNumber.after a.c (a.unit - 1)) a.area.now _ _ g.T.RowNumber.WIDTH a.from a.to _ _ _ c.requires c.WIDTH-width.ensures
    refl at (rw (at, c.WIDTH-width.ensures) c.move_row.ensures)
    (rw c.saturating_sub.ensures at c.change.ensures) c.change.auto.row
