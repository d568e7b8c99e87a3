-- `numbers::entry::matrix_entry` meets its contract. Assumes nothing.
use Rattle.numbers.proofs.Parts.{entry-is, exact-is}
use Rattle.numbers.proofs.entry.matrix_entry.Goals as goal

pub returns : goal.returns
returns c =
    let g = c.args in
    let h = c.ranges in
    let a = c.to_f32-a in
    let b = c.by-b in
    let value = entry-is g.whole g.fraction h.whole h.fraction a.result b.result a.ensures.value b.ensures in
    let exact = exact-is g.whole g.fraction h.whole h.fraction a.result b.result a.ensures.value b.ensures in
    λ i. record { value = value i; exact = exact i }
