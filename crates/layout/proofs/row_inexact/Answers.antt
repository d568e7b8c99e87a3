-- `layout::row_inexact` meets its contract. Assumes nothing.
use mathlib.Core.Path.{◌≡◌, ap, ◌∙◌}
use Prim.Native.Nat.{ℕ}
use mathlib.Core.List.{List}
use native.Mathlib.Omega.{arith}
use Rattle.std.proofs.Common.{slice_index_or}
use Rattle.numbers.specs.Choice.{pick}
use Rattle.numbers.specs.declared.entry.Entry.{Entry}
use Rattle.layout.specs.Layout.{exact_at, entries_at, marked_at}
use Rattle.layout.proofs.Counting.{noes-four}
use Rattle.layout.proofs.row_inexact.Goals as goal

-- what is counted of entry j of a row is its mark
mark : (j : ℕ) (d : Entry) {e f : List Entry} {r : ℕ} → r ≡ pick (slice_index_or e j d).exact 0 1 → e ≡ f → r ≡ pick (slice_index_or f j d).exact 0 1
mark j d h q = h ∙ ap (λ (x : List Entry). pick (slice_index_or x j d).exact 0 1) q

pub returns : goal.returns
unfolding entries_at marked_at
returns c =
    let g = c.args in
    let e = c.entries.ensures in
    let p = c.lost.ensures in
    let q = c.lost-2.ensures in
    let r = c.lost-3.ensures in
    let t = c.lost-4.ensures in (
      noes-four (exact_at g.s.now g.at) g.k _ _ _ _ (mark 0 _ p.0 e) (mark 1 _ q.0 e) (mark 2 _ r.0 e) (mark 3 _ t.0 e),
      omega (arith, p.1, q.1, r.1, t.1),
    )
