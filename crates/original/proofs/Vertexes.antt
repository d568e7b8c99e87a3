-- The vertices of a load, on the two sides: slots and rows. Assumes nothing.
use mathlib.Core.Path.{◌≡◌, refl, sym, ap, ap₂, ◌∙◌}
use Prim.Native.Nat.{ℕ, zero, suc, ◌+◌, ◌*◌, ◌≤◌}
use native.Mathlib.Omega.{arith}
use mathlib.Core.Bool.{Bool, true, false}
use mathlib.Core.List.{List, [], ◌∷◌, ◌++◌, map, append-nil, append_assoc}
use lib.ListN.{length, get_or, set}
use lib.IntN.{pos}
use lib.Ieee.{Float, binary32, of_int}
use Rattle.std.specs.Prelude as here
use Rattle.matrix.specs.Math as math
use Rattle.matrix.specs.Math.{at, one, row_times, rows, laid}
use Rattle.matrix.specs.Clip.{code_of, depth_of}
use Rattle.layout.specs.declared.records.Vertex.{Vertex}
use Rattle.layout.specs.Layout.{vertex_at}
use Rattle.vertex.specs.declared.Shared.{Shared}
use Rattle.vertex.specs.Vertices.{floats_of, words_of, clip_of, slot_at, slot_of, vertices_at}
use Rattle.vertex.proofs.Believe.{floats-size, words_size}
use Rattle.stage.specs.declared.State.{State}
use Rattle.stage.specs.Plan.{Row}
use Rattle.stage.specs.Load.{vertex_row}
use Rattle.stage.specs.Rows.{fill_slot, fill_slots}
use Rattle.original.specs.Math.{Mat4, f0, f1, ix, mul_row_vec4}
use Rattle.original.specs.Memory.{RawVertex, read_vertex}
use Rattle.original.specs.Rsp.{Slots}
use Rattle.original.specs.Drawing.{Columns, push, clip_code, Sharing, from_le, slot_then, made_by, vertices, slots_then, columns_then}
use Rattle.original.specs.Relation.{over, Offsets, is_some, or_else, SlotsSame, made_of, RowsSame}
use Rattle.original.specs.Domain.{Data}
use Rattle.original.proofs.Alike.{row_same, told, code_same, screen-same}
use Rattle.original.proofs.Readers.{vertex-same}
use Rattle.original.proofs.Draws.{map-set}
use Rattle.original.proofs.RowsOf.{row_pushed}

-- what the rows share, by the names that each side has for it
pub record ShareSame (o : Offsets) (e : Shared) (x : Sharing) : Type 0 where
  pub matrix : e.matrix ≡ x.cur_mvp_index
  pub viewport : over o.port2 o.rust2 e.viewport ≡ x.cur_viewport_index
  pub scale : over o.port3 o.rust3 e.scale ≡ x.cur_texcoord_index
  pub light : e.light ≡ x.light_index
  pub lights : e.lights ≡ x.light_count
  pub texgen : e.texgen ≡ x.texgen_mode
  pub fog : e.fog ≡ x.fog_index
  pub lookat : e.lookat ≡ x.lookat_index
  pub zscale : e.zscale ≡ ix x.vp_scale 2
  pub ztranslation : e.ztranslation ≡ ix x.vp_trans 2
  pub since2 : o.port2 ≤ e.viewport
  pub since3 : o.port3 ≤ e.scale

-- whether the original's option has a value, and the value or d, are what the stage's says
told-mark : {A : Type 0} (o : here.Option A) → is_some (told o) ≡ here.is_some o
told-mark here.None = refl
told-mark (here.Some x) = refl

told-value : {A : Type 0} (d : A) (o : here.Option A) → or_else d (told o) ≡ here.unwrap_or o d
told-value d here.None = refl
told-value d (here.Some x) = refl

-- a matrix laid out and read again is the same to a point
point-laid : (v : List Float) (m : Mat4) → row_times v (rows (laid m) 0) ≡ row_times v m
unfolding row_times rows laid
point-laid v m = refl

module _ (o : Offsets) (e : Shared) (x : Sharing) (H : ShareSame o e x) (m : List (List Float)) (M : m ≡ rows (laid x.mvp) 0) (b : List ℕ) (I : Data b) where
  module _ (p : ℕ) (fits : p + 16 ≤ length b) where
    abbrev v : Vertex
    v = vertex_at b p

    abbrev rv : RawVertex
    rv = read_vertex b p

    read : (rv.pos ≡ v.pos) × (of_int binary32 (get_or rv.st 0 (pos 0)) ∷ of_int binary32 (get_or rv.st 1 (pos 0)) ∷ [] ≡ v.st) × (from_le rv.rgba ≡ v.colour)
    read = vertex-same b p I.bytes I.short fits

    -- the position in clip space
    clip-same : mul_row_vec4 (ix rv.pos 0 ∷ ix rv.pos 1 ∷ ix rv.pos 2 ∷ f1 ∷ []) x.mvp ≡ clip_of m v
    unfolding clip_of
    clip-same =
        ap (λ (q : List Float). mul_row_vec4 (ix q 0 ∷ ix q 1 ∷ ix q 2 ∷ f1 ∷ []) x.mvp) read.0
        ∙ row_same _ x.mvp
        ∙ sym (ap (row_times (at v.pos 0 ∷ at v.pos 1 ∷ at v.pos 2 ∷ one ∷ [])) M ∙ point-laid _ x.mvp)

    -- the slot
    slot_same : {r : List ℕ} {l d c : List Bool} {q : List ℕ} {g : List Bool} {f : List Float} {y : Slots} → SlotsSame r l d c q g f y → (k n : ℕ)
        → let s = slot_of m e v in
        SlotsSame (set r k n) (set l k true) (set d k false) (set c k (here.is_some s.code)) (set q k (here.unwrap_or s.code 0)) (set g k (here.is_some s.z)) (set f k (here.unwrap_or s.z math.zero)) (slot_then x rv k n y)
    unfolding slot_then slot_of slot_at
    slot_same {r} {l} {d} {c} {q} {g} {f} {y} S k n =
        let code = code_of (clip_of m v) in
        let depth = depth_of (clip_of m v) (here.is_some code) (ix x.vp_scale 2) (ix x.vp_trans 2) in
        let a = code_same (clip_of m v) in
        let z = screen-same (clip_of m v) x.vp_scale x.vp_trans in
        rw (clip-same, H.zscale, H.ztranslation)
        (record {
          row = ap (λ (t : List ℕ). set t k n) S.row;
          loaded = ap (λ (t : List Bool). set t k true) S.loaded;
          drawn = ap (λ (t : List Bool). set t k false) S.drawn;
          coded = ap₂ (λ (t : List Bool) (u : Bool). set t k u) S.coded (sym (ap is_some a ∙ told-mark code)) ∙ sym (map-set is_some y.clip_codes k (clip_code (clip_of m v)));
          code = ap₂ (λ (t : List ℕ) (u : ℕ). set t k u) S.code (sym (ap (or_else 0) a ∙ told-value 0 code)) ∙ sym (map-set (or_else 0) y.clip_codes k (clip_code (clip_of m v)));
          deep = ap₂ (λ (t : List Bool) (u : Bool). set t k u) S.deep (sym (ap is_some z ∙ told-mark depth)) ∙ sym (map-set is_some y.screen_z k _);
          z = ap₂ (λ (t : List Float) (u : Float). set t k u) S.z (sym (ap (or_else math.zero) z ∙ told-value math.zero depth)) ∙ sym (map-set (or_else math.zero) y.screen_z k _);
        })

    -- the row
    made-same : made_by x rv ≡ made_of o (vertex_row e v)
    unfolding made_by made_of words_of floats_of vertex_at
    made-same = λ i.
        record {
          pos = read.0 i;
          flags = 0;
          screen = f0 ∷ f0 ∷ f0 ∷ f0 ∷ [];
          mtx = sym H.matrix i;
          viewport = sym H.viewport i;
          st = read.1 i;
          texcoord = sym H.scale i;
          colour = read.2 i;
          light = sym H.light i;
          count = sym H.lights i;
          texgen = sym H.texgen i;
          fog = sym H.fog i;
          lookat = sym H.lookat i;
        }

  -- a state's columns, as the slots of the original
  abbrev SlotsOf : State → Slots → Type 0
  SlotsOf s y = SlotsSame s.row s.loaded s.drawn s.coded s.code s.deep s.z y

  pub slots_filled : (n p k row : ℕ) (s : State) (y : Slots) → p + 16 * n ≤ length b → SlotsOf s y → SlotsOf (fill_slots s m e k row (vertices_at b p n)) (slots_then x (vertices b p n) k row y)
  unfolding fill_slots slots_then vertices vertices_at fill_slot
  slots_filled zero p k row s y h S = S
  slots_filled (suc n) p k row s y h S = slots_filled n (p + 16) (k + 1) (row + 1) (fill_slot s k row (slot_of m e (vertex_at b p))) (slot_then x (read_vertex b p) k row y) (omega arith) (slot_same p (omega arith) S k row)

  pub rows-filled : (n p : ℕ) (rs : List Row) (c : Columns) → p + 16 * n ≤ length b → RowsSame o rs c → RowsSame o (rs ++ map (vertex_row e) (vertices_at b p n)) (columns_then x (vertices b p n) c)
  unfolding columns_then vertices vertices_at words_of
  rows-filled zero p rs c h S = rw (append-nil rs) S
  rows-filled (suc n) p rs c h S =
      let T : RowsSame o (rs ++ vertex_row e (vertex_at b p) ∷ []) (push c (made_by x (read_vertex b p))) = rw (made-same p (omega arith)) (row_pushed S (vertex_row e (vertex_at b p)) (record { floats = floats-size (vertex_at b p); words = words_size e (vertex_at b p); viewport = H.since2; scale = H.since3 })) in
      let K = rows-filled n (p + 16) (rs ++ vertex_row e (vertex_at b p) ∷ []) (push c (made_by x (read_vertex b p))) (omega arith) T in
      rw (append_assoc rs (vertex_row e (vertex_at b p) ∷ []) (map (vertex_row e) (vertices_at b (p + 16) n))) at K
