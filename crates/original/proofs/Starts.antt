-- The start, and the prologue: after it the two sides are the same. Assumes nothing.
use mathlib.Core.Path.{◌≡◌, refl, sym, ap, ap₂, ◌∙◌}
use Prim.Native.Nat.{ℕ, zero, suc, ◌+◌, ◌*◌, ◌≤◌, ◌<◌}
use native.Mathlib.Omega.{arith}
use mathlib.Core.Bool.{Bool, true, false, not, cond}
use mathlib.Core.List.{List, [], ◌∷◌, ◌++◌}
use mathlib.Core.Option.{none}
use lib.ListN.{length, get_or, replicate, get_or-replicate, length-append, length-replicate}
use Rattle.matrix.proofs.Believe.{length-laid}
use lib.Ieee.{Float, nan, eq}
use Rattle.areas.specs.Area.{matches}
use Rattle.areas.specs.Widths.{matrix_width, viewport_width}
use Rattle.matrix.specs.Math as math
use Rattle.matrix.specs.Math.{rows, laid, identity as identity'}
use Rattle.decide.specs.Family.{f3dex2, family_of}
use Rattle.mode.specs.Word.{geometry_after}
use Rattle.decide.specs.Stack.{relit}
use Rattle.numbers.specs.Choice.{all}
use Rattle.stage.specs.declared.settings.Microcode.{Microcode}
use Rattle.stage.specs.declared.settings.Microcode.TheVariants.{F3dex2, F3dex2NoN}
use Rattle.stage.specs.Sound.{state_sound, limit}
use Rattle.fold.specs.Scales.{scale_entry, same_scale}
use Rattle.fold.specs.Direction.{three}
use Rattle.layout.specs.Layout.{viewport_at}
use Rattle.stage.specs.Plan.{keep, grow, Row, does, unless, pick, only_if, untouched}
use Rattle.stage.specs.Lights.{switched, microcode_plan}
use Rattle.stage.specs.Opening.{zeros, blank, opened}
use Rattle.stage.specs.Matrices.{viewport_entry}
use Rattle.sequence.specs.Sequence.{viewport, microcode, Areas, Book, book, plan, opening}
use Rattle.sequence.proofs.Turn.{edit, enter, turn}
use Rattle.sequence.proofs.Held.{Fits, step-book}
use Rattle.sequence.proofs.Accepts.{Accepted, on-viewport}
use Rattle.sequence.proofs.Opened.{opened-book, open-book}
use Rattle.original.specs.Math.{f0, identity}
use Rattle.original.specs.Rsp.{Viewports, TextureState, Texcoords, default, half_screen, g_clipping, last_is, vp3, eq_entry, set_viewport, modify_geometry}
use Rattle.original.specs.Drawing.{Columns, empty, tc_scale, tg_scale, eq2, texcoords_then}
use Rattle.original.specs.Walk.{World, begun, execute}
use Rattle.original.specs.Relation.{over, Offsets, Meets, MatrixSame, ViewSame, LightsSame, LookSame, SlotsSame, is_some, or_else, RowsSame, Near}
use Rattle.original.specs.Domain.{Data, Agrees, stage, Bytes, port_views, rust_views, port_scales, rust_scales, Opens, opened_as}
use mathlib.Core.Logic.{inl}
use Rattle.stage.proofs.Judged.{and_left, and_right}
use Rattle.original.proofs.Alike.{entry-same, pair_same}
use Rattle.original.proofs.Readers.{tc-same}
use Rattle.original.proofs.Loads.{Scaled, scale-entry}
use Rattle.original.proofs.Seeds.{zeros-entry, half-entry, seed-scale, ratio-zero}
use Rattle.original.proofs.Nears.{space-near}
use Rattle.original.proofs.Views.{entry_read}
use Rattle.original.proofs.Settings.{map-replicate}

-- ---- what is said of the parts that begin differently

abbrev pub Any : Bool → Bool → Type 0
Any a b = Unit {0}

abbrev pub Geometry0 : ℕ → ℕ → Type 0
Geometry0 a b = (a ≡ 0) × (b ≡ g_clipping)

abbrev pub View0 : List Float → List (List Float) → Viewports → Type 0
View0 v t x = (t ≡ zeros viewport_width ∷ []) × (x ≡ default.viewports)

abbrev pub Scale0 : ℕ → List (List Float) → Texcoords → Type 0
Scale0 u t x = (u ≡ 0) × (t ≡ []) × (x ≡ default.texcoords)

abbrev pub Rows0 : List Row → Columns → Type 0
Rows0 rs c = (rs ≡ []) × (c ≡ empty.columns)

-- the lights and axes of nothing
three-zeros : (n k : ℕ) → 3 * k + 3 ≤ n → three (zeros n) (3 * k) ≡ replicate 3 f0
three-zeros n k h = λ i. at_zero (3 * k) (omega arith) i ∷ at_zero (3 * k + 1) (omega arith) i ∷ at_zero (3 * k + 2) (omega arith) i ∷ []
  where
    at_zero : (j : ℕ) → j < n → math.at (replicate n math.zero) j ≡ f0
    at_zero j q = get_or-replicate n j math.zero nan q

-- sixteen numbers in front of others
front : (l : List Float) → rows (laid identity' ++ l) 0 ≡ rows (laid identity) 0
unfolding rows laid
front l = refl

matrices0 : MatrixSame 1 (laid identity' ++ zeros 496) (laid identity') (laid identity') (laid identity' ∷ []) default.matrices
matrices0 =
    record {
      depth = refl;
      low = omega arith;
      high = omega arith;
      long = length-append (laid identity') (zeros 496) ∙ ap₂ (λ (a b : ℕ). a + b) (length-laid identity') (length-replicate 496 math.zero);
      deep = length-replicate 32 identity;
      stack = first;
      projection = refl;
      combined = refl;
      table = refl;
      some_entry = omega arith;
      current = refl;
    }
  where
    first : (i : ℕ) → i < 1 → rows (laid identity' ++ zeros 496) (matrix_width * i) ≡ rows (laid (get_or (replicate 32 identity) i [])) 0
    first i h =
        let z : i ≡ 0 = omega arith in
        rw z (front (zeros 496))

lights0 : LightsSame opened.lights default.lighting
unfolding opened blank
lights0 =
    record {
      number = refl;
      few = omega arith;
      directions = length-replicate 24 math.zero;
      colours = length-replicate 24 math.zero;
      eight = length-replicate {A = List Float × List Float} 8 (replicate 3 f0, replicate 3 f0);
      slots = λ k h. (
        ap (λ (p : List Float × List Float). p.0) (get_or-replicate {A = List Float × List Float} 8 k (replicate 3 f0, replicate 3 f0) ([], []) h) ∙ sym (three-zeros 24 k (omega arith)),
        ap (λ (p : List Float × List Float). p.1) (get_or-replicate {A = List Float × List Float} 8 k (replicate 3 f0, replicate 3 f0) ([], []) h) ∙ sym (three-zeros 24 k (omega arith)),
      );
      ambient = sym (three-zeros 3 0 (omega arith));
      key = refl;
      first = refl;
    }

lookat0 : LookSame opened.lookat default.looking
unfolding opened blank
lookat0 =
    record {
      long = length-replicate 6 math.zero;
      two = length-replicate 2 (replicate 3 f0);
      axes = λ k h. get_or-replicate 2 k (replicate 3 f0) [] h ∙ sym (three-zeros 6 k (omega arith));
      key = refl;
      place = refl;
    }

slots0 : SlotsSame (replicate 256 0) (replicate 256 false) (replicate 256 false) (replicate 256 false) (replicate 256 0) (replicate 256 false) (zeros 256) default.slots
slots0 =
    record {
      row = refl;
      loaded = refl;
      drawn = refl;
      coded = sym (map-replicate (is_some {A = ℕ}) 256 none);
      code = sym (map-replicate (or_else 0) 256 none);
      deep = sym (map-replicate (is_some {A = Float}) 256 none);
      z = sym (map-replicate (or_else math.zero) 256 none);
    }

-- the book before the prologue
abbrev pub begun-book : Microcode → Areas → Book
begun-book F3dex2 l = opened-book l
begun-book F3dex2NoN l = turn (stage (microcode F3dex2NoN) (opened-book l)) (opened-book l)

-- a microcode change after opening is accepted, and clears what is clear
non-plan : (l : Areas) → stage (microcode F3dex2NoN) (opened-book l) ≡ does [] (switched (opened-book l).state F3dex2NoN) untouched
unfolding plan microcode_plan state_sound all unless opened blank
non-plan l = refl

-- the book of the stage before the prologue
pub begun-is : (u : Microcode) (l : Areas) → Opens l → Fits (opened_as u l) × (book (opened_as u l) ≡ begun-book u l)
begun-is F3dex2 l o = open-book l o.0 o.1
begun-is F3dex2NoN l o =
    let b = open-book l o.0 o.1 in
    let s = step-book family_of limit (microcode F3dex2NoN) (opening l) b.0 in
    (s.0, s.2 ∙ ap (λ (k : Book). turn (stage (microcode F3dex2NoN) k) k) b.1)

opened-near : (l : Areas) → Near Any Geometry0 View0 Scale0 Rows0 (opened-book l) (begun F3dex2)
unfolding opened blank
opened-near l =
    record {
      count = record { matrices = refl; viewports = refl; scales = refl; lights = refl; lookats = refl; fogs = refl; rows = refl; indices = refl; runs = refl };
      modes = record { settings = record { microcode = refl; texture = refl; small = (omega arith, omega arith); fogmul = refl; fogoff = refl; geometry = (refl, refl) }; lights = lights0; lookat = lookat0 };
      space = record { matrices = matrices0; defined = tt; view = (refl, refl) };
      held = record { slots = slots0; scales = (refl, refl, refl); rows = (refl, refl); recorded = record { light_table = refl; lookat_table = refl; fog_table = refl; fog_pairs = tt; indices = refl; runs = refl } };
    }

-- THE START, with either microcode
pub start-near : (u : Microcode) (l : Areas) → Near Any Geometry0 View0 Scale0 Rows0 (begun-book u l) (begun u)
unfolding opened blank turn switched
start-near F3dex2 l = opened-near l
start-near F3dex2NoN l =
    let N = opened-near l in
    rw (non-plan l)
    (record {
      count = N.count;
      modes = record { settings = record { microcode = refl; texture = refl; small = N.modes.settings.small; fogmul = refl; fogoff = refl; geometry = (refl, refl) }; lights = N.modes.lights; lookat = N.modes.lookat };
      space = record { matrices = N.space.matrices; defined = tt; view = N.space.view };
      held = record { slots = slots0; scales = N.held.scales; rows = N.held.rows; recorded = N.held.recorded };
    })

-- ---- the viewport set for the first time

module _ (x : Bytes) (I : Data x.bytes) (n : x.at + 16 ≤ length x.bytes) where
  abbrev v : List Float
  v = viewport_entry x.bytes x.at

  -- each side's first entry stands in front, or it is the viewport itself
  abbrev front2 : Bool → List Float → List (List Float)
  front2 b e = cond b [] (e ∷ [])

  abbrev port-kept : Bool
  port-kept = matches eq (zeros viewport_width) v

  abbrev rust-kept : Bool
  rust-kept = matches eq (half_screen ++ half_screen) v

  -- so many stand in front
  port-front : (b : Bool) → port-kept ≡ b → length (front2 b (zeros viewport_width)) ≡ port_views x
  port-front true h = rw h
  port-front false h = rw h

  rust-front : (b : Bool) → rust-kept ≡ b → length (front2 b (half_screen ++ half_screen)) ≡ rust_views x
  rust-front true h = rw h
  rust-front false h = rw h

  begun-meets : (p q : Bool) → port-kept ≡ p → rust-kept ≡ q
      → Meets (port_views x) (rust_views x) (cond p (zeros viewport_width ∷ []) (zeros viewport_width ∷ v ∷ [])) (cond q ((half_screen ++ half_screen) ∷ []) ((half_screen ++ half_screen) ∷ v ∷ []))
  unfolding viewport_at
  begun-meets p q hp hq =
      record {
        before = front2 p (zeros viewport_width);
        under = front2 q (half_screen ++ half_screen);
        since = v ∷ [];
        some_since = omega arith;
        port_size = port-front p hp;
        rust_size = rust-front q hq;
        port_is = port p hp;
        rust_is = rust q hq;
      }
    where
      port : (b : Bool) → port-kept ≡ b → cond b (zeros viewport_width ∷ []) (zeros viewport_width ∷ v ∷ []) ≡ front2 b (zeros viewport_width) ++ v ∷ []
      port true h = ap (λ (y : List Float). y ∷ []) (sym (zeros-entry x.bytes x.at I.bytes h))
      port false h = refl

      rust : (b : Bool) → rust-kept ≡ b → cond b ((half_screen ++ half_screen) ∷ []) ((half_screen ++ half_screen) ∷ v ∷ []) ≡ front2 b (half_screen ++ half_screen) ++ v ∷ []
      rust true h = ap (λ (y : List Float). y ∷ []) (sym (half-entry x.bytes x.at h))
      rust false h = refl

  -- and with the viewport the stage has one more
  port-count : (b : Bool) → port-kept ≡ b → length (cond b (zeros viewport_width ∷ []) (zeros viewport_width ∷ v ∷ [])) ≡ port_views x + 1
  port-count true h = rw h
  port-count false h = rw h

  -- the original compares with its first entry
  first-compared : last_is eq_entry default.viewports.viewport_table (vp3 x.bytes x.at, vp3 x.bytes (x.at + 8)) ≡ rust-kept
  unfolding last_is
  first-compared =
      entry-same half_screen half_screen (vp3 x.bytes x.at) (vp3 x.bytes (x.at + 8)) refl refl refl refl ∙ ap (matches eq (half_screen ++ half_screen)) (sym (entry_read x.bytes x.at I n).2)

  begun-view : (p : Bool) → port-kept ≡ p → ViewSame (port_views x) (rust_views x) v (cond p (zeros viewport_width ∷ []) (zeros viewport_width ∷ v ∷ [])) (set_viewport x.bytes x.at default.viewports)
  unfolding set_viewport
  begun-view p hp = by rust-kept refl
    where
      by : (q : Bool) → rust-kept ≡ q → ViewSame (port_views x) (rust_views x) v (cond p (zeros viewport_width ∷ []) (zeros viewport_width ∷ v ∷ [])) (set_viewport x.bytes x.at default.viewports)
      by true hq =
          rw (first-compared ∙ hq)
          (record { scale = refl; trans = refl; now = (entry_read x.bytes x.at I n).2; table = begun-meets p true hp hq; triples = one-triple; current = refl })
        where
          one-triple : (i : ℕ) → i < 1 → (length (get_or {A = List Float × List Float} ((half_screen, half_screen) ∷ []) i ([], [])).0 ≡ 3) × (length (get_or {A = List Float × List Float} ((half_screen, half_screen) ∷ []) i ([], [])).1 ≡ 3)
          one-triple zero h = (refl, refl)
          one-triple (suc i) h = absurd (omega arith)
      by false hq =
          rw (first-compared ∙ hq)
          (record { scale = refl; trans = refl; now = (entry_read x.bytes x.at I n).2; table = rw (← (entry_read x.bytes x.at I n).2) (begun-meets p false hp hq); triples = two-triples; current = refl })
        where
          two-triples : (i : ℕ) → i < 2
              → (length (get_or {A = List Float × List Float} ((half_screen, half_screen) ∷ (vp3 x.bytes x.at, vp3 x.bytes (x.at + 8)) ∷ []) i ([], [])).0 ≡ 3) × (length (get_or {A = List Float × List Float} ((half_screen, half_screen) ∷ (vp3 x.bytes x.at, vp3 x.bytes (x.at + 8)) ∷ []) i ([], [])).1 ≡ 3)
          two-triples zero h = (refl, refl)
          two-triples (suc zero) h = (refl, refl)
          two-triples (suc (suc i)) h = absurd (omega arith)

-- the viewport is the same, and the stage's table 2 has one entry more than stand in front
abbrev pub View1 : Bytes → List Float → List (List Float) → Viewports → Type 0
View1 x v t y = ViewSame (port_views x) (rust_views x) v t y × (length t ≡ port_views x + 1)

pub viewport-begins : {D : Bool → Bool → Type 0} {G : ℕ → ℕ → Type 0} {X : ℕ → List (List Float) → Texcoords → Type 0} {R : List Row → Columns → Type 0} {k : Book} {w : World} → Near D G View0 X R k w → (x : Bytes) → Data x.bytes
    → Accepted (λ vs t e. Agrees (Near D G (View1 x) X R) vs (enter t e k) (execute (viewport x.bytes x.at) w)) (plan family_of limit (viewport x.bytes x.at) k)
unfolding plan execute
viewport-begins {D} {G} {X} {R} {k} {w} N x I =
    on-viewport _ k.state k.viewports x.bytes x.at
    (λ n e.
    let q : matches eq (zeros viewport_width) (viewport_entry x.bytes x.at) ≡ true = rw N.space.view.0 at e in (refl, space-near N keep keep N.space.matrices N.space.defined (rw (N.space.view.0, N.space.view.1) (begun-view x I n true q, port-count x I n true q))))
    (λ n e _.
    let q : matches eq (zeros viewport_width) (viewport_entry x.bytes x.at) ≡ false = rw N.space.view.0 at e in (refl, space-near N keep (grow (viewport_entry x.bytes x.at ∷ [])) N.space.matrices N.space.defined (rw (N.space.view.0, N.space.view.1) (begun-view x I n false q, port-count x I n false q))))

-- ---- the geometry mode set whole

-- with off 0 nothing of the word before is left, and neither side's first word has the lighting bit
pub geometry-begins : (a b on : ℕ) → Geometry0 a b → (geometry_after 0 on a ≡ modify_geometry 0 on b) × (relit f3dex2 b (modify_geometry 0 on b) ≡ relit f3dex2 a (geometry_after 0 on a))
unfolding relit
geometry-begins a b on h = rw (h.0, h.1) (refl, refl)

-- ---- the scales of the first load

module _ (s : TextureState) (hs : s.sc < 65536) (ht : s.tc < 65536) where
  abbrev e : List Float
  e = scale_entry s.sc s.tc

  abbrev zero4 : List Float
  zero4 = f0 ∷ f0 ∷ f0 ∷ f0 ∷ []

  -- the original's first entry is in front, or it is the entry itself
  abbrev scale_kept : Bool
  scale_kept = same_scale (zero4 ∷ []) e

  abbrev front3 : Bool → List (List Float)
  front3 b = cond b [] (zero4 ∷ [])

  -- so many stand in front
  none-front : 0 ≡ port_scales s.sc s.tc
  unfolding same_scale
  none-front = refl

  scale-front : (b : Bool) → scale_kept ≡ b → length (front3 b) ≡ rust_scales s.sc s.tc
  scale-front true h = rw h
  scale-front false h = rw h

  -- the original compares with its first entry
  scale-compared : eq2 (f0 ∷ f0 ∷ []) (tc_scale s.sc ∷ tc_scale s.tc ∷ []) ≡ scale_kept
  unfolding same_scale
  scale-compared =
      pair_same (f0 ∷ f0 ∷ []) (tc_scale s.sc ∷ tc_scale s.tc ∷ []) refl refl
      ∙ ap (matches eq (f0 ∷ f0 ∷ [])) (λ i. tc-same s.sc hs i ∷ tc-same s.tc ht i ∷ [])

  -- where they are equal both scales are 0
  kept-zero : scale_kept ≡ true → (s.sc ≡ 0) × (s.tc ≡ 0)
  kept-zero q =
      let h : eq2 (f0 ∷ f0 ∷ []) (tc_scale s.sc ∷ tc_scale s.tc ∷ []) ≡ true = scale-compared ∙ q in (
        seed-scale s.sc hs (ap (eq f0) (sym (tc-same s.sc hs)) ∙ and_left (eq f0 (tc_scale s.sc)) (eq f0 (tc_scale s.tc)) h),
        seed-scale s.tc ht (ap (eq f0) (sym (tc-same s.tc ht)) ∙ and_right (eq f0 (tc_scale s.sc)) (eq f0 (tc_scale s.tc)) h),
      )

  -- table 3 of the original, as entries of four
  abbrev rust3 : Bool → List (List Float)
  rust3 b = cond b (zero4 ∷ []) (zero4 ∷ ((tc_scale s.sc ∷ tc_scale s.tc ∷ []) ++ (tg_scale s.sc ∷ tg_scale s.tc ∷ [])) ∷ [])

  scales-meet : (b : Bool) → scale_kept ≡ b → Meets (port_scales s.sc s.tc) (rust_scales s.sc s.tc) (e ∷ []) (rust3 b)
  scales-meet b h =
      record {
        before = [];
        under = front3 b;
        since = e ∷ [];
        some_since = omega arith;
        port_size = none-front;
        rust_size = scale-front b h;
        port_is = refl;
        rust_is = shared b h;
      }
    where
      shared : (b : Bool) → scale_kept ≡ b → rust3 b ≡ front3 b ++ e ∷ []
      shared true h = let z = kept-zero h in rw (z.0, z.1, ratio-zero 2097152 (omega arith), ratio-zero 65536 (omega arith)) refl
      shared false h = ap (λ (x : List Float). zero4 ∷ x ∷ []) (sym (scale-entry s.sc s.tc hs ht))

  -- the number of that entry on the original's side
  scale-number : (b : Bool) → scale_kept ≡ b → over (port_scales s.sc s.tc) (rust_scales s.sc s.tc) 0 ≡ cond b 0 1
  scale-number true h = omega (arith, none-front, scale-front true h)
  scale-number false h = omega (arith, none-front, scale-front false h)

  -- the stage has that one
  pub scale-count : length (edit (only_if (not (same_scale [] e)) (e ∷ [])) []) ≡ port_scales s.sc s.tc + 1
  unfolding same_scale pick
  scale-count = refl

  pub scales-begun : Scaled (port_scales s.sc s.tc) (rust_scales s.sc s.tc) 0 (edit (only_if (not (same_scale [] e)) (e ∷ [])) []) (texcoords_then s default.texcoords)
  unfolding texcoords_then last_is same_scale pick
  scales-begun = go (eq2 (f0 ∷ f0 ∷ []) (tc_scale s.sc ∷ tc_scale s.tc ∷ [])) (sym scale-compared)
    where
      go : (b : Bool) → scale_kept ≡ b
          → Scaled (port_scales s.sc s.tc) (rust_scales s.sc s.tc) 0 (e ∷ [])
          (record { texcoord_table = cond b ((f0 ∷ f0 ∷ []) ∷ []) ((f0 ∷ f0 ∷ []) ∷ (tc_scale s.sc ∷ tc_scale s.tc ∷ []) ∷ []); cur_texcoord_index = cond b 0 1; modify_unit_texcoord_index = none; texgen_scale_table = cond b ((f0 ∷ f0 ∷ []) ∷ []) ((f0 ∷ f0 ∷ []) ∷ (tg_scale s.sc ∷ tg_scale s.tc ∷ []) ∷ []) })
      go true h = record { same = record { table = scales-meet true h; beside = refl; pairs = one-pair; current = inl refl; unit = refl }; number = scale-number true h }
        where
          one-pair : (i : ℕ) → i < 1 → length (get_or ((f0 ∷ f0 ∷ []) ∷ []) i []) ≡ 2
          one-pair zero h = refl
          one-pair (suc i) h = absurd (omega arith)
      go false h = record { same = record { table = scales-meet false h; beside = refl; pairs = two-pairs; current = inl refl; unit = refl }; number = scale-number false h }
        where
          two-pairs : (i : ℕ) → i < 2 → length (get_or ((f0 ∷ f0 ∷ []) ∷ (tc_scale s.sc ∷ tc_scale s.tc ∷ []) ∷ []) i []) ≡ 2
          two-pairs zero h = refl
          two-pairs (suc zero) h = refl
          two-pairs (suc (suc i)) h = absurd (omega arith)

-- no rows yet
pub rows-begun : (o : Offsets) (rs : List Row) (c : Columns) → Rows0 rs c → RowsSame o rs c
rows-begun o rs c h = rw (h.0, h.1) (record { each = λ i q. absurd (omega arith); columns = refl })
