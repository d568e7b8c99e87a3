-- Rows of the two sides: one more, and one changed. Assumes nothing.
use mathlib.Core.Path.{◌≡◌, ap, ◌∙◌}
use Prim.Native.Nat.{ℕ, zero, suc, ◌<◌}
use native.Mathlib.Omega.{arith}
use mathlib.Core.List.{List, [], ◌∷◌, ◌++◌, map}
use lib.ListN.{length, get_or, set, length-map}
use Rattle.stage.specs.Plan.{Row}
use Rattle.finished.specs.Shown.{no_row}
use Rattle.original.specs.Drawing.{Columns, Made, push, made_at}
use Rattle.original.specs.Relation.{Offsets, made_of, Since, RowsSame}
use Rattle.original.proofs.Stacks.{get_or_map, map_snoc}
use Rattle.original.proofs.Draws.{map-set}

-- an element replaced in every list
abbrev pub set-made : Columns → ℕ → Made → Columns
set-made c i m =
    record {
      raw_pos = set c.raw_pos i m.pos;
      modify_flags = set c.modify_flags i m.flags;
      modify_screen = set c.modify_screen i m.screen;
      mtx_index = set c.mtx_index i m.mtx;
      viewport_index = set c.viewport_index i m.viewport;
      raw_st = set c.raw_st i m.st;
      texcoord_index = set c.texcoord_index i m.texcoord;
      cn = set c.cn i m.colour;
      light_index = set c.light_index i m.light;
      light_count = set c.light_count i m.count;
      texgen_mode = set c.texgen_mode i m.texgen;
      fog = set c.fog i m.fog;
      lookat_index = set c.lookat_index i m.lookat;
    }

-- what holds of every row, and of the one appended
snoc-rows : (P : Row → Type 0) (rs : List Row) (r : Row) → ((i : ℕ) → i < length rs → P (get_or rs i no_row)) → P r → (i : ℕ) → i < length (rs ++ r ∷ []) → P (get_or (rs ++ r ∷ []) i no_row)
snoc-rows P [] r h p zero k = p
snoc-rows P [] r h p (suc i) k = absurd (omega arith)
snoc-rows P (x ∷ rs) r h p zero k = h 0 (omega arith)
snoc-rows P (x ∷ rs) r h p (suc i) k = snoc-rows P rs r (λ j m. h (suc j) (omega arith)) p i (omega arith)

set-rows : (P : Row → Type 0) (rs : List Row) (n : ℕ) (r : Row) → ((i : ℕ) → i < length rs → P (get_or rs i no_row)) → P r → (i : ℕ) → i < length (set rs n r) → P (get_or (set rs n r) i no_row)
set-rows P [] n r h p i k = absurd (omega arith)
set-rows P (x ∷ rs) zero r h p zero k = p
set-rows P (x ∷ rs) zero r h p (suc i) k = h (suc i) k
set-rows P (x ∷ rs) (suc n) r h p zero k = h 0 (omega arith)
set-rows P (x ∷ rs) (suc n) r h p (suc i) k = set-rows P rs n r (λ j m. h (suc j) (omega arith)) p i (omega arith)

module _ {o : Offsets} {rs : List Row} {c : Columns} (S : RowsSame o rs c) where
  -- a row more
  pub row_pushed : (r : Row) → Since o r → RowsSame o (rs ++ r ∷ []) (push c (made_of o r))
  unfolding push
  row_pushed r h = record { each = snoc-rows (Since o) rs r S.each h; columns = rw S.columns (simp map_snoc) }

  -- a row replaced
  pub row-set : (n : ℕ) (r : Row) → Since o r → RowsSame o (set rs n r) (set-made c n (made_of o r))
  row-set n r h = record { each = set-rows (Since o) rs n r S.each h; columns = rw S.columns (simp map-set) }

  -- what the original reads of a row
  pub row_read : (n : ℕ) → n < length rs → made_at c n ≡ made_of o (get_or rs n no_row)
  unfolding made_at
  row_read n h = rw S.columns (simp read)
    where
      read : {A : Type 0} (g : Row → A) (e : A) → get_or (map g rs) n e ≡ g (get_or rs n no_row)
      read g e = get_or_map g rs n no_row e h

  -- as many
  pub rows-count : length c.raw_pos ≡ length rs
  rows-count = ap (λ (x : Columns). length x.raw_pos) S.columns ∙ length-map rs _
