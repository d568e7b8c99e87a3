-- Modify of the two sides. Assumes nothing.
use mathlib.Core.Path.{◌≡◌, refl, sym, ap, ◌∙◌, subst}
use mathlib.Core.Logic.{inr}
use Prim.Native.Nat.{ℕ, zero, suc, ◌+◌, ◌-◌, ◌≤◌, ◌<◌}
use native.Mathlib.Omega.{arith}
use mathlib.Core.Bool.{Bool, true, false, not, ◌&&◌, ◌||◌, cond, false≢true}
use mathlib.Core.List.{List, [], ◌∷◌, ◌++◌, map}
use mathlib.Core.Option.{Option, none, some}
use lib.ListN.{length, get_or, set, length-append, length-set}
use lib.Seq.{get_or-append_seam, set-append_seam, get_or-set_same, get_or-set_other, set-get_or, set_out}
use lib.Bits.{bit_or}
use lib.Dec.{eqb, leb, ltb}
use lib.IntN.{pos}
use lib.Ieee.{Float, nan, binary32, binary64}
use borrow.Author.Tests.{ltb-true, ltb-false, lt-leb, eqb-true, eqb-false, ne_eqb}
use Rattle.areas.specs.Widths.{viewport_word, scale_word}
use Rattle.numbers.specs.Ratio.{of_ratio}
use Rattle.matrix.specs.Math as math
use Rattle.decide.specs.Family.{family_of}
use Rattle.stage.specs.Sound.{limit}
use Rattle.change.specs.declared.Change.{Change}
use Rattle.change.specs.declared.Change.TheVariants.{Colour, Texture, Screen, Depth}
use Rattle.std.specs.Prelude.{Option as Option', Some, None}
use Rattle.change.specs.declared.judge.Moved.{Moved}
use Rattle.change.specs.Decoded.{reversed, high_by, low_by, decoded, floats_after, words_after, depth_after, unit_entry, appends}
use Rattle.stage.specs.Modify.{moved, edits37, scale_edit, row_after, row_edit, row_change, changed}
use Rattle.change.proofs.Kept.{floats-kept, words-kept}
use Rattle.stage.specs.Plan.{Row, Edits, keep, grow, pick}
use Rattle.sequence.specs.Sequence.{modify, Book, plan}
use Rattle.sequence.proofs.Turn.{edit, enter}
use Rattle.sequence.proofs.Accepts.{Accepted, on-modify}
use Rattle.finished.specs.Shown.{no_row, row_word}
use Rattle.original.specs.Math.{f0, f1}
use Rattle.original.specs.Rsp.{Slots, Viewports, Texcoords, Rsp}
use Rattle.original.specs.Drawing.{Columns, Scene, Made, push, made_at, unit_index, unit_then, modify_colour, modify_texture, modify_screen_at, map_some, copied_slots, with_screen_z, with_modified, with_columns, change_at, known, modify_vertex}
use Rattle.original.specs.Walk.{World, with_both, execute}
use Rattle.original.specs.Relation.{over, Offsets, UnitSame, ScaleSame, is_some, or_else, SlotsSame, made_of, Since, RowsSame, Near}
use Rattle.original.specs.Domain.{Agrees}
use Rattle.original.proofs.Readers.{halves-same, depth_same, wide-same, swap-same}
use Rattle.original.proofs.Views.{meets-more, next-number, fours-snoc, length-fours, snoc-pairs}
use Rattle.original.proofs.Draws.{map-set}
use Rattle.original.proofs.RowsOf.{set-made, row_pushed, row-set, row_read, rows-count}
use Rattle.original.proofs.Nears.{held-near}
use Rattle.original.proofs.Choices.{chosen}

-- ---- what a change does on the original's side

-- to what it holds of a row; u is its number for the unit entry
abbrev altered : Change → ℕ → Made → Made
altered (Colour w) u m =
    record { pos = m.pos; flags = m.flags; screen = m.screen; mtx = m.mtx; viewport = m.viewport; st = m.st; texcoord = m.texcoord; colour = w; light = 0; count = 0; texgen = m.texgen; fog = 0; lookat = m.lookat }
altered (Texture x y) u m =
    record { pos = m.pos; flags = m.flags; screen = m.screen; mtx = m.mtx; viewport = m.viewport; st = x ∷ y ∷ []; texcoord = u; colour = m.colour; light = m.light; count = m.count; texgen = 0; fog = m.fog; lookat = 0 }
altered (Screen x y) u m =
    record { pos = m.pos; flags = bit_or m.flags 1; screen = set (set m.screen 0 x) 1 y; mtx = m.mtx; viewport = m.viewport; st = m.st; texcoord = m.texcoord; colour = m.colour; light = m.light; count = m.count; texgen = m.texgen; fog = m.fog; lookat = m.lookat }
altered (Depth z own) u m =
    record { pos = m.pos; flags = bit_or m.flags 2; screen = set m.screen 2 z; mtx = m.mtx; viewport = m.viewport; st = m.st; texcoord = m.texcoord; colour = m.colour; light = m.light; count = m.count; texgen = m.texgen; fog = m.fog; lookat = m.lookat }

-- to the slot's screen z: the one that it gets, if it had one
abbrev depth-of : Change → Option Float
depth-of (Colour w) = none
depth-of (Texture x y) = none
depth-of (Screen x y) = none
depth-of (Depth z own) = some own

-- and whether it needs the unit entry
abbrev needs : Change → Bool
needs (Colour w) = false
needs (Texture x y) = true
needs (Screen x y) = false
needs (Depth z own) = false

-- a slot's screen z, by what a change has for it: as the original keeps it, and as the stage does
abbrev z-by : Option Float → ℕ → List (Option Float) → List (Option Float)
z-by none slot l = l
z-by (some z) slot l = set l slot (map_some z (get_or l slot none))

abbrev depth-by : Option Float → Bool → Float → Float
depth-by none deep old = old
depth-by (some z) deep old = cond deep z old

-- slots and texture tables, and the change made at row gi
abbrev slots-by : Change → ℕ → Slots → Slots
slots-by c slot s = with_screen_z s (z-by (depth-of c) slot s.screen_z)

abbrev texcoords-by : Bool → Texcoords → Texcoords
texcoords-by need t = cond need (unit_then t.modify_unit_texcoord_index t) t

abbrev changed-by : Change → ℕ → ℕ → Rsp × Scene → Rsp × Scene
changed-by c slot gi w =
    let x = w.1.columns in
    (with_modified w.0 (slots-by c slot w.0.slots) (texcoords-by (needs c) w.0.texcoords), with_columns w.1 (set-made x gi (altered c (unit_index w.0.texcoords.modify_unit_texcoord_index w.0.texcoords) (made_at x gi))))

-- ---- the four kinds

-- an element after one is set
get_or_set : {A : Type 0} (l : List A) (i j : ℕ) (a d : A) → get_or (set l i a) j d ≡ cond (eqb i j && ltb i (length l)) a (get_or l j d)
get_or_set {A} l i j a d = go (eqb i j) refl
  where
    inside : (b : Bool) → ltb i (length l) ≡ b → get_or (set l i a) i d ≡ cond b a (get_or l i d)
    inside true e = get_or-set_same l i a d (ltb-true i (length l) e)
    inside false e = ap (λ (t : List A). get_or t i d) (set_out l i a (ltb-false i (length l) e))

    go : (b : Bool) → eqb i j ≡ b → get_or (set l i a) j d ≡ cond (b && ltb i (length l)) a (get_or l j d)
    go true e = rw (← (eqb-true i j e)) (inside (ltb i (length l)) refl)
    go false e = get_or-set_other l i j a d (λ q. eqb-false i j e (sym q))

-- a row stays whole
whole : (c : Change) (o : Offsets) (u : ℕ) (r : Row) → Since o r → o.port2 ≤ row_word (row_after c u r) viewport_word → o.port3 ≤ row_word (row_after c u r) scale_word → Since o (row_after c u r)
whole c o u r h v s = record { floats = floats-kept c r.floats ∙ h.floats; words = words-kept c (u - 1) r.words ∙ h.words; viewport = v; scale = s }

-- all that is shown of a kind of change by itself: a row of ours, changed, is the original's row altered, and names entries that came at the
-- point or since; the slot's depth; the unit entry, whose number matters to a change that needs it
record Kind (c : Change) : Type 0 where
  row : (o : Offsets) (u : ℕ) (r : Row) → Since o r → made_of o (row_after c u r) ≡ altered c (over o.port3 o.rust3 (u - 1)) (made_of o r)
  since : (o : Offsets) (u : ℕ) (r : Row) → (needs c ≡ true → o.port3 ≤ u - 1) → Since o r → Since o (row_after c u r)
  depth : (deep : Bool) (old : Float) → depth_after c deep old ≡ depth-by (depth-of c) deep old
  new : (u : ℕ) → appends c u ≡ needs c && eqb u 0
  idle : (u v : ℕ) → (needs c ≡ true → u ≡ v) → (m : Made) → altered c u m ≡ altered c v m

kind : (c : Change) → Kind c
unfolding made_of floats_after words_after depth_after appends pick
kind (Colour w) =
    record { row = λ o u r h. simp (get_or_set, length-set, h.words); since = λ o u r p h. whole (Colour w) o u r h (simp get_or_set h.viewport) (simp get_or_set h.scale); depth = λ _ _. refl; new = λ _. refl; idle = λ _ _ _ _. refl }
kind (Texture x y) =
    record { row = λ o u r h. simp (get_or_set, length-set, h.floats, h.words); since = λ o u r p h. whole (Texture x y) o u r h (simp get_or_set h.viewport) (simp (get_or_set, h.words) (p refl)); depth = λ _ _. refl; new = λ _. refl; idle = λ u v e m. ap (λ (n : ℕ). altered (Texture x y) n m) (e refl) }
kind (Screen x y) =
    record { row = λ o u r h. simp (get_or_set, length-set, h.floats, h.words); since = λ o u r p h. whole (Screen x y) o u r h (simp get_or_set h.viewport) (simp get_or_set h.scale); depth = λ _ _. refl; new = λ _. refl; idle = λ _ _ _ _. refl }
kind (Depth z own) =
    record { row = λ o u r h. simp (get_or_set, h.floats, h.words); since = λ o u r p h. whole (Depth z own) o u r h (simp get_or_set h.viewport) (simp get_or_set h.scale); depth = λ deep old. sym (chosen deep own old); new = λ _. refl; idle = λ _ _ _ _. refl }

-- ---- what is asked for

-- the change, by four tests of the attribute
abbrev asks : Bool → Bool → Bool → Bool → ℕ → Option' Change
asks a b c d value =
    pick a (Some (Colour (reversed value)))
    (pick b (Some (Texture (high_by 32 value) (low_by 32 value)))
    (pick c (Some (Screen (high_by 4 value) (low_by 4 value)))
    (pick d (Some (Depth (of_ratio binary32 (pos value) 67108864) (of_ratio binary64 (pos value) 65536)))
    None)))

-- an attribute is known where a change is asked for
abbrev pub is_known : Option' Change → Bool
is_known None = false
is_known (Some c) = true

pub known_is : (attr value : ℕ) → known attr ≡ is_known (decoded attr value)
unfolding decoded pick
known_is attr value = go (eqb attr 0x10) (eqb attr 0x14) (eqb attr 0x18) (eqb attr 0x1C)
  where
    go : (a b c d : Bool) → a || (b || (c || d)) ≡ is_known (asks a b c d value)
    go true b c d = refl
    go false true c d = refl
    go false false true d = refl
    go false false false true = refl
    go false false false false = refl

-- what is said of a change, where one is asked for
abbrev OnChange : (Change → Type 0) → Option' Change → Type 0
OnChange P None = Unit {0}
OnChange P (Some c) = P c

-- the original makes the change that is decoded; the columns that no rule names stay
module _ (slot gi attr value : ℕ) (h : value < 4294967296) (w : Rsp × Scene) where
  abbrev Made-so : Change → Type 0
  Made-so c = change_at slot gi attr value w ≡ changed-by c slot gi w

  changes : OnChange Made-so (decoded attr value)
  unfolding decoded change_at modify_colour modify_texture modify_screen_at made_at pick
  changes = go (eqb attr 0x10) (eqb attr 0x14) (eqb attr 0x18) (eqb attr 0x1C) refl refl refl refl
    where
      go : (a b c d : Bool) → eqb attr 0x10 ≡ a → eqb attr 0x14 ≡ b → eqb attr 0x18 ≡ c → eqb attr 0x1C ≡ d → OnChange Made-so (asks a b c d value)
      go true b c d p _ _ _ = simp (p, swap-same value, set-get_or)
      go false true c d p q _ _ = simp (p, q, (halves-same value h).0, (halves-same value h).1, set-get_or)
      go false false true d p q r _ = simp (p, q, r, (halves-same value h).2, (halves-same value h).3, set-get_or)
      go false false false true p q r s = simp (p, q, r, depth_same value h, wide-same value h, set-get_or)
      go false false false false p q r s = tt

-- ---- the slot's screen z

-- the mark of an option
pub mark-at : {A : Type 0} (l : List (Option A)) (i : ℕ) → get_or (map is_some l) i false ≡ is_some (get_or l i none)
mark-at [] i = refl
mark-at (x ∷ l) zero = refl
mark-at (x ∷ l) (suc i) = mark-at l i

z-same : (o : Option Float) (l : List (Option Float)) (slot : ℕ)
    → (set (map (or_else math.zero) l) slot (depth-by o (get_or (map is_some l) slot false) (get_or (map (or_else math.zero) l) slot nan)) ≡ map (or_else math.zero) (z-by o slot l)) × (map is_some l ≡ map is_some (z-by o slot l))
z-same none l slot = (set-get_or (map (or_else math.zero) l) slot nan, refl)
z-same (some z) l slot = go (get_or l slot none) refl
  where
    go : (o : Option Float) → get_or l slot none ≡ o
        → (set (map (or_else math.zero) l) slot (cond (get_or (map is_some l) slot false) z (get_or (map (or_else math.zero) l) slot nan)) ≡ map (or_else math.zero) (set l slot (map_some z (get_or l slot none))))
        × (map is_some l ≡ map is_some (set l slot (map_some z (get_or l slot none))))
    go none e =
        let q : set l slot none ≡ l = ap (set l slot) (sym e) ∙ set-get_or l slot none in
        rw (mark-at l slot, e, q) (set-get_or (map (or_else math.zero) l) slot nan, refl)
    go (some x) e =
        rw (mark-at l slot, e) (
          sym (map-set (or_else math.zero) l slot (some z)),
          sym (map-set is_some l slot (some z) ∙ ap (set (map is_some l) slot) (sym (mark-at l slot ∙ ap is_some e)) ∙ set-get_or (map is_some l) slot false),
        )

module _ {r : List ℕ} {l d c : List Bool} {q : List ℕ} {e : List Bool} {f : List Float} {x : Slots} (S : SlotsSame r l d c q e f x) (slot : ℕ) (ch : Change) where
  -- the slot at another row on both sides, or at the one that it had; no draw has used that
  slots-changed : {r' : List ℕ} {i : List ℕ} {d' : List Bool} {v : List Bool} → r' ≡ i → d' ≡ v
      → SlotsSame r' l d' c q e (set f slot (depth_after ch (get_or e slot false) (get_or f slot nan))) (slots-by ch slot (record { cache_global_index = i; loaded = x.loaded; clip_codes = x.clip_codes; screen_z = x.screen_z; used = v }))
  slots-changed row drawn =
      record {
        row = row;
        loaded = S.loaded;
        drawn = drawn;
        coded = S.coded;
        code = S.code;
        deep = S.deep ∙ (z-same (depth-of ch) x.screen_z slot).1;
        z = rw ((kind ch).depth (get_or e slot false) (get_or f slot nan), S.z, S.deep) (z-same (depth-of ch) x.screen_z slot).0;
      }

-- ---- the unit scale entry

module _ {a b u : ℕ} {t : List (List Float)} {x : Texcoords} (S : ScaleSame a b u t x) (n : ℕ) (h : length t ≡ n) where
  -- the number of the next entry
  next : (length x.texcoord_table ≡ over a b n) × (a ≤ n)
  next =
      let q = next-number S.table in
      (sym (length-fours x.texcoord_table x.texgen_scale_table S.beside) ∙ q.0 ∙ ap (over a b) h, rw (← h) q.1)

  unit-new : ScaleSame a b (n + 1) (t ++ unit_entry ∷ []) (unit_then none x)
  unfolding unit_then
  unit-new =
      let k : n + 1 - 1 ≡ n = omega arith in
      record {
        table = rw (fours-snoc x.texcoord_table x.texgen_scale_table (f1 ∷ f1 ∷ []) (f0 ∷ f0 ∷ []) S.beside) (meets-more S.table unit_entry);
        beside = rw (length-append, length-append, S.beside);
        pairs = snoc-pairs x.texcoord_table (f1 ∷ f1 ∷ []) S.pairs refl;
        current = inr (ap (λ (i : ℕ). get_or (x.texcoord_table ++ (f1 ∷ f1 ∷ []) ∷ []) i []) (last-place x.texcoord_table) ∙ get_or-append_seam x.texcoord_table (f1 ∷ f1 ∷ []) [] []);
        unit = (λ z. omega (arith, z), rw k next.1, rw k next.0);
      }
    where
      last-place : (l : List (List Float)) → length (l ++ (f1 ∷ f1 ∷ []) ∷ []) - 1 ≡ length l
      last-place l = omega (arith, length-append l ((f1 ∷ f1 ∷ []) ∷ []))

  -- where a change needs the unit entry it is there, and came at the point or since; else all stays
  record UnitThen (need : Bool) (o : Option ℕ) (y : Texcoords) : Type 0 where
    same : ScaleSame a b (pick (need && eqb u 0) (n + 1) u) (edit (pick (need && eqb u 0) (grow (unit_entry ∷ [])) keep) t) y
    number : need ≡ true → over a b (pick (need && eqb u 0) (n + 1) u - 1) ≡ unit_index o x
    since : need ≡ true → a ≤ pick (need && eqb u 0) (n + 1) u - 1

  unit-by : (need : Bool) → UnitThen need x.modify_unit_texcoord_index (texcoords-by need x)
  unfolding unit_then unit_index pick
  unit-by false = record { same = S; number = λ e. absurd (false≢true e); since = λ e. absurd (false≢true e) }
  unit-by true = go x.modify_unit_texcoord_index S.unit
    where
      go : (o : Option ℕ) → UnitSame a b u o → UnitThen true o (unit_then o x)
      go none e =
          let k : n + 1 - 1 ≡ n = omega arith in
          record { same = rw e unit-new; number = λ _. rw (e, k) (sym next.0); since = λ _. rw (e, k) next.1 }
      go (some i) e = let k = ne_eqb u 0 e.0 in record { same = rw k S; number = λ _. rw k (sym e.2); since = λ _. rw k e.1 }

-- ---- the rows

module _ {o : Offsets} {rs : List Row} {x : Columns} (S : RowsSame o rs x) (c : Change) (u v : ℕ) (same : needs c ≡ true → over o.port3 o.rust3 (u - 1) ≡ v) (unit : needs c ≡ true → o.port3 ≤ u - 1) where
  -- a row changed where it stands
  rows-in-place : (i : ℕ) → i < length rs → RowsSame o (set rs i (row_after c u (get_or rs i no_row))) (set-made x i (altered c v (made_at x i)))
  rows-in-place i h =
      let q : made_of o (row_after c u (get_or rs i no_row)) ≡ altered c v (made_at x i) =
      (kind c).row o u (get_or rs i no_row) (S.each i h) ∙ (kind c).idle _ v same (made_of o (get_or rs i no_row)) ∙ ap (altered c v) (sym (row_read S i h)) in
      subst (λ (m : Made). RowsSame o (set rs i (row_after c u (get_or rs i no_row))) (set-made x i m)) q (row-set S i (row_after c u (get_or rs i no_row)) ((kind c).since o u (get_or rs i no_row) unit (S.each i h)))

-- a row copied to the end, and the copy changed
rows-copied : {o : Offsets} {rs : List Row} {x : Columns} → RowsSame o rs x → (c : Change) (u v : ℕ) → (needs c ≡ true → over o.port3 o.rust3 (u - 1) ≡ v) → (needs c ≡ true → o.port3 ≤ u - 1) → (i : ℕ) → i < length rs
    → let y = push x (made_at x i) in
    RowsSame o (rs ++ row_after c u (get_or rs i no_row) ∷ []) (set-made y (length rs) (altered c v (made_at y (length rs))))
rows-copied {o} {rs} {x} S c u v same unit i h =
    let T : RowsSame o (rs ++ get_or rs i no_row ∷ []) (push x (made_at x i)) = rw (row_read S i h) (row_pushed S (get_or rs i no_row) (S.each i h)) in
    let e : get_or (rs ++ get_or rs i no_row ∷ []) (length rs) no_row ≡ get_or rs i no_row = get_or-append_seam rs (get_or rs i no_row) [] no_row in
    let K = rows-in-place T c u v same unit (length rs) (omega (arith, length-append rs (get_or rs i no_row ∷ []))) in
    rw (e, set-append_seam rs (get_or rs i no_row) [] (row_after c u (get_or rs i no_row))) at K

-- ---- the command

module _ {D : Bool → Bool → Type 0} {G : ℕ → ℕ → Type 0} {P : List Float → List (List Float) → Viewports → Type 0} {o : Offsets} {k : Book} {w : World} (N : Near D G P (ScaleSame o.port3 o.rust3) (RowsSame o) k w)
    (slot attribute value : ℕ) (small : value < 4294967296) (c : Change) (asked : decoded attribute value ≡ Some c) (inside : slot < 256) (lo : get_or k.state.loaded slot false ≡ true) (below : get_or k.state.row slot 0 < k.state.counts.rows) where
  abbrev S : Book → World → Type 0
  S = Near D G P (ScaleSame o.port3 o.rust3) (RowsSame o)

  abbrev m : Moved
  m = moved c k.state slot

  -- the slot's row, by the name that each side has for it
  abbrev i : ℕ
  i = get_or k.state.row slot 0

  row_is : get_or w.rsp.slots.cache_global_index slot 0 ≡ i
  row_is = ap (λ (l : List ℕ). get_or l slot 0) (sym N.held.slots.row)

  i-below : i < length k.rows.used
  i-below = rw N.count.rows below

  -- the tests that the original makes
  accepts : leb 256 slot || (not (get_or w.rsp.slots.loaded slot false) || not (known attribute)) ≡ false
  accepts =
      let a : get_or w.rsp.slots.loaded slot false ≡ true = ap (λ (l : List Bool). get_or l slot false) (sym N.held.slots.loaded) ∙ lo in
      let b : known attribute ≡ true = known_is attribute value ∙ ap is_known asked in
      rw (lt-leb 256 slot inside, a, b)

  made_so : (gi : ℕ) (v : Rsp × Scene) → change_at slot gi attribute value v ≡ changed-by c slot gi v
  made_so gi v = subst (OnChange (Made-so slot gi attribute value small v)) asked (changes slot gi attribute value small v)

  -- the unit entry
  units : UnitThen N.held.scales k.state.counts.scales N.count.scales (needs c) w.rsp.texcoords.modify_unit_texcoord_index (texcoords-by (needs c) w.rsp.texcoords)
  units = unit-by N.held.scales k.state.counts.scales N.count.scales (needs c)

  -- its place, as the judge has it
  place : m.unit ≡ pick (needs c && eqb k.state.unit 0) (k.state.counts.scales + 1) k.state.unit
  unfolding moved
  place = ap (λ (b : Bool). pick b (k.state.counts.scales + 1) k.state.unit) ((kind c).new k.state.unit)

  scales-then : ScaleSame o.port3 o.rust3 m.unit (edit (scale_edit c k.state) k.scales.used) (texcoords-by (needs c) w.rsp.texcoords)
  scales-then = rw (place, (kind c).new k.state.unit) units.same

  abbrev edits : Edits
  edits = edits37 (scale_edit c k.state) (row_change c m k.state k.rows slot)

  abbrev x : Columns
  x = w.scene.columns

  abbrev v : ℕ
  v = unit_index w.rsp.texcoords.modify_unit_texcoord_index w.rsp.texcoords

  -- the number of rows, and the columns with a copy of the row behind them
  abbrev n : ℕ
  n = length w.scene.columns.raw_pos

  abbrev y : Columns
  y = push x (made_at x i)

  rows_then : (b : Bool) → RowsSame o (edit (row_edit b i (row_after c m.unit (get_or k.rows.used i no_row))) k.rows.used) (cond b (set-made y n (altered c v (made_at y n))) (set-made x i (altered c v (made_at x i))))
  unfolding pick
  rows_then true = rw (rows-count N.held.rows) (rows-copied N.held.rows c m.unit v (rw place units.number) (rw place units.since) i i-below)
  rows_then false = rows-in-place N.held.rows c m.unit v (rw place units.number) (rw place units.since) i i-below

  slots_then : (b : Bool) → get_or k.state.drawn slot false ≡ b
      → SlotsSame (set k.state.row slot (pick b k.state.counts.rows i)) k.state.loaded (set k.state.drawn slot false) k.state.coded k.state.code k.state.deep (set k.state.z slot (depth_after c (get_or k.state.deep slot false) (get_or k.state.z slot nan)))
      (cond b (slots-by c slot (copied_slots slot n w.rsp.slots)) (slots-by c slot w.rsp.slots))
  unfolding copied_slots pick
  slots_then true d = slots-changed N.held.slots slot c (rw (rows-count N.held.rows, N.count.rows, N.held.slots.row)) (ap (λ (l : List Bool). set l slot false) N.held.slots.drawn)
  slots_then false d = slots-changed N.held.slots slot c (set-get_or k.state.row slot 0 ∙ N.held.slots.row) (ap (set k.state.drawn slot) (sym d) ∙ set-get_or k.state.drawn slot false ∙ N.held.slots.drawn)

  -- both ways in one: the slots and the columns by whether the slot was drawn
  abbrev either : Bool → Rsp × Scene
  either b =
      (with_modified w.rsp (cond b (slots-by c slot (copied_slots slot n w.rsp.slots)) (slots-by c slot w.rsp.slots)) (texcoords-by (needs c) w.rsp.texcoords), with_columns w.scene (cond b (set-made y n (altered c v (made_at y n))) (set-made x i (altered c v (made_at x i)))))

  split : (b : Bool) → cond b (changed-by c slot n (with_modified w.rsp (copied_slots slot n w.rsp.slots) w.rsp.texcoords, with_columns w.scene y)) (changed-by c slot i (w.rsp, w.scene)) ≡ either b
  split true = refl
  split false = refl

  modified : S (enter (changed c m k.state slot) edits k) (with_both w (either (get_or k.state.drawn slot false)))
  unfolding changed moved
  modified = held-near N edits (slots_then (get_or k.state.drawn slot false) refl) scales-then (rows_then (get_or k.state.drawn slot false)) N.held.recorded

  modify-owes : Agrees S [] (enter (changed c m k.state slot) edits k) (execute (modify slot attribute value) w)
  unfolding execute modify_vertex
  modify-owes =
      let used : get_or w.rsp.slots.used slot false ≡ get_or k.state.drawn slot false = ap (λ (l : List Bool). get_or l slot false) (sym N.held.slots.drawn) in
      rw (accepts, row_is, made_so n _, made_so i _, used, split (get_or k.state.drawn slot false)) (refl, modified)

pub modify-agrees : {D : Bool → Bool → Type 0} {G : ℕ → ℕ → Type 0} {P : List Float → List (List Float) → Viewports → Type 0} {o : Offsets} {k : Book} {w : World} → Near D G P (ScaleSame o.port3 o.rust3) (RowsSame o) k w → (slot attribute value : ℕ) → value < 4294967296
    → Accepted (λ vs t e. Agrees (Near D G P (ScaleSame o.port3 o.rust3) (RowsSame o)) vs (enter t e k) (execute (modify slot attribute value) w)) (plan family_of limit (modify slot attribute value) k)
unfolding plan
modify-agrees {D} {G} {P} {o} {k} {w} N slot attribute value small =
    on-modify _ 256 k.state k.scales k.rows slot attribute value (λ c a inside lo below _. modify-owes N slot attribute value small c a inside lo below)
