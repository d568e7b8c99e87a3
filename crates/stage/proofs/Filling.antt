-- The slots of a load, a column at a time: what the loops of `vertex` leave is what a load's rows leave in the state. Assumes nothing.
use Prim.Native.Nat.{ℕ, zero, suc, ◌+◌, ◌*◌}
use native.Mathlib.Nat.{add-zero}
use native.Mathlib.Numerals.{add-one}
use native.Mathlib.Omega.{arith}
use mathlib.Core.Bool.{true, false}
use mathlib.Core.Path.{◌≡◌, refl, sym, ap, ◌∙◌}
use mathlib.Core.List.{List, [], ◌∷◌, ◌++◌}
use lib.ListN.{length}
use lib.Ieee.{Float}
use Rattle.std.specs.Prelude.{is_some, unwrap_or}
use Rattle.matrix.specs.Math as math
use Rattle.layout.specs.Layout.{vertex_at}
use Rattle.layout.specs.declared.records.Vertex.{Vertex}
use Rattle.vertex.specs.declared.Shared.{Shared}
use Rattle.vertex.specs.Vertices.{slot_of, vertices_at}
use Rattle.vertex.specs.Steps.{filled, slot_at_turn, Laid, Marked}
use Rattle.vertex.proofs.Believe.{length-vertices, vertices-snoc}
use Rattle.stage.specs.declared.State.{State}
use Rattle.stage.specs.Rows.{fill_slot, fill_slots}
use Rattle.stage.specs.Steps.{RowsLaid}
use Rattle.stage.specs.With.{Slots, with_slots}

-- one more vertex fills one more slot
pub fill-snoc : (s : State) (m : List (List Float)) (e : Shared) (k r : ℕ) (vs : List Vertex) (v : Vertex)
    → fill_slots s m e k r (vs ++ v ∷ []) ≡ fill_slot (fill_slots s m e k r vs) (k + length vs) (r + length vs) (slot_of m e v)
unfolding fill_slots
fill-snoc s m e k r [] v = rw (add-zero k, add-zero r)
fill-snoc s m e k r (u ∷ vs) v =
    let a : k + length (u ∷ vs) ≡ k + 1 + length vs = omega arith in
    let b : r + length (u ∷ vs) ≡ r + 1 + length vs = omega arith in
    rw (a, b) (fill-snoc (fill_slot s k r (slot_of m e u)) m e (k + 1) (r + 1) vs v)

module _ (s : State) (m : List (List Float)) (e : Shared) (k r at : ℕ) (b : List ℕ) where
  -- the columns once n slots from k on have the rows from r on, and what they get of the vertices from place at on
  abbrev pub columns : ℕ → Slots
  columns n =
      record {
        row = filled (λ (i : ℕ). r + i) s.row k n;
        ever = filled (λ (i : ℕ). true) s.ever k n;
        loaded = filled (λ (i : ℕ). true) s.loaded k n;
        drawn = filled (λ (i : ℕ). false) s.drawn k n;
        coded = filled (λ (i : ℕ). is_some (slot_at_turn m e b at i).code) s.coded k n;
        code = filled (λ (i : ℕ). unwrap_or (slot_at_turn m e b at i).code 0) s.code k n;
        deep = filled (λ (i : ℕ). is_some (slot_at_turn m e b at i).z) s.deep k n;
        z = filled (λ (i : ℕ). unwrap_or (slot_at_turn m e b at i).z math.zero) s.z k n;
      }

  -- one more of them
  column-more : (n : ℕ) → fill_slot (with_slots s (columns n)) (k + n) (r + n) (slot_at_turn m e b at n) ≡ with_slots s (columns (suc n))
  unfolding filled fill_slot
  column-more n = refl

  -- slot by slot, as a load means it, and column by column come to the same
  pub by-columns : (n : ℕ) → fill_slots s m e k r (vertices_at b at n) ≡ with_slots s (columns n)
  unfolding fill_slots filled vertices_at
  by-columns zero = refl
  by-columns (suc n) =
      let v = vertex_at b (at + 16 * n) in
      ap (λ (vs : List Vertex). fill_slots s m e k r vs) (ap (vertices_at b at) (sym (add-one n)) ∙ vertices-snoc b at n)
      ∙ fill-snoc s m e k r (vertices_at b at n) v
      ∙ ap (λ (l : ℕ). fill_slot (fill_slots s m e k r (vertices_at b at n)) (k + l) (r + l) (slot_of m e v)) (length-vertices b at n)
      ∙ ap (λ (t : State). fill_slot t (k + n) (r + n) (slot_of m e v)) (by-columns n)
      ∙ column-more n

-- what the two loops leave is what the rows of a load leave
pub loaded-by : {s : State} {m : List (List Float)} {e : Shared} {first at count : ℕ} {b : List ℕ} {f f' : List Float} {w w' : List ℕ} {l : Slots}
    → Laid m e b at first s.counts.rows count f w s.coded s.code s.deep s.z f' w' l.coded l.code l.deep l.z
    → Marked first s.counts.rows count s.row s.ever s.loaded s.drawn l.row l.ever l.loaded l.drawn
    → RowsLaid s m e first (vertices_at b at count) f w (with_slots s l) f' w'
loaded-by {s} {m} {e} {first} {at} {count} {b} y x =
    record {
      state = (λ i. with_slots s (record { row = x.rows i; ever = x.evers i; loaded = x.loadeds i; drawn = x.drawns i; coded = y.codeds i; code = y.codes i; deep = y.deeps i; z = y.zs i })) ∙ sym (by-columns s m e first s.counts.rows at b count);
      floats = y.floats;
      words = y.words;
    }
