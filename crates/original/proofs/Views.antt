-- Viewport of the two sides, and tables that share what came since a point. Assumes nothing.
use mathlib.Core.Path.{◌≡◌, refl, sym, ap, ap₂, ◌∙◌}
use Prim.Native.Nat.{ℕ, zero, suc, ◌+◌, ◌-◌, ◌≤◌, ◌<◌}
use native.Mathlib.Omega.{arith}
use mathlib.Core.Bool.{Bool, true, false}
use mathlib.Core.List.{List, [], ◌∷◌, ◌++◌, map, append_assoc}
use lib.ListN.{length, get_or, length-append, length-map}
use lib.Seq.{get_or-append-add}
use lib.Ieee.{Float, eq}
use Rattle.areas.specs.Area.{matches}
use Rattle.decide.specs.Append.{final}
use Rattle.decide.specs.Family.{family_of}
use Rattle.stage.specs.Sound.{limit}
use Rattle.layout.specs.Layout.{triple_at, viewport_at}
use Rattle.stage.specs.Plan.{keep, grow, Row}
use Rattle.stage.specs.Matrices.{viewport_entry}
use Rattle.sequence.specs.Sequence.{viewport, Book, plan}
use Rattle.sequence.proofs.Turn.{enter}
use Rattle.sequence.proofs.Accepts.{Accepted, on-viewport}
use Rattle.original.specs.Rsp.{Viewports, Texcoords, last_is, vp3, eq_entry, set_viewport}
use Rattle.original.specs.Drawing.{Columns}
use Rattle.original.specs.Walk.{World, execute}
use Rattle.original.specs.Relation.{over, Meets, joined, fours, ViewSame, Near}
use Rattle.original.specs.Domain.{Data, Agrees}
use Rattle.original.proofs.Alike.{entry-same, last-final}
use Rattle.original.proofs.Nears.{space-near}
use Rattle.original.proofs.Readers.{triple-same}
use Rattle.original.proofs.Stacks.{get_or_map, map_snoc}

-- ---- shared tables

-- the last of a list that goes on
last-append : (l m : List (List Float)) → 0 < length m → final (l ++ m) ≡ final m
last-append l m h =
    let q : length (l ++ m) - 1 ≡ length l + (length m - 1) = omega (arith, length-append l m) in
    rw q (get_or-append-add l m (length m - 1) [])

module _ {a b : ℕ} {port rust : List (List Float)} (M : Meets a b port rust) where
  -- both end with the same entry
  pub ends_same : final port ≡ final rust
  ends_same = rw (M.port_is, M.rust_is) (last-append M.before M.since M.some_since ∙ sym (last-append M.under M.since M.some_since))

  -- the last entry's number, on each side
  pub last-number : length rust - 1 ≡ over a b (length port - 1)
  last-number =
      let p : length port ≡ length M.before + length M.since = ap length M.port_is ∙ length-append M.before M.since in
      let r : length rust ≡ length M.under + length M.since = ap length M.rust_is ∙ length-append M.under M.since in
      omega (arith, M.some_since, M.port_size, M.rust_size)

  pub last-since : a ≤ length port - 1
  last-since =
      let p : length port ≡ length M.before + length M.since = ap length M.port_is ∙ length-append M.before M.since in
      omega (arith, M.some_since, M.port_size)

  -- an entry more on both
  pub meets-more : (e : List Float) → Meets a b (port ++ e ∷ []) (rust ++ e ∷ [])
  meets-more e =
      record {
        before = M.before;
        under = M.under;
        since = M.since ++ e ∷ [];
        some_since = omega (arith, length-append M.since (e ∷ []));
        port_size = M.port_size;
        rust_size = M.rust_size;
        port_is = ap (λ (t : List (List Float)). t ++ e ∷ []) M.port_is ∙ append_assoc M.before M.since (e ∷ []);
        rust_is = ap (λ (t : List (List Float)). t ++ e ∷ []) M.rust_is ∙ append_assoc M.under M.since (e ∷ []);
      }

  -- there is one
  pub some-rust : 0 < length rust
  some-rust =
      let r : length rust ≡ length M.under + length M.since = ap length M.rust_is ∙ length-append M.under M.since in
      omega (arith, M.some_since)

-- the number that the next entry gets, on each side
pub next-number : {a b : ℕ} {port rust : List (List Float)} (M : Meets a b port rust) → (length rust ≡ over a b (length port)) × (a ≤ length port)
next-number {a} {b} {port} {rust} M =
    let p : length port ≡ length M.before + length M.since = ap length M.port_is ∙ length-append M.before M.since in
    let r : length rust ≡ length M.under + length M.since = ap length M.rust_is ∙ length-append M.under M.since in
    (omega (arith, M.port_size, M.rust_size), omega (arith, M.port_size))

-- ---- the scales, of which the original keeps the pairs in two tables

-- an entry of the coordinate pairs and of the texgen pairs
pub fours-at : (cs gs : List (List Float)) → length cs ≡ length gs → (i : ℕ) → get_or (fours cs gs) i [] ≡ get_or cs i [] ++ get_or gs i []
fours-at [] [] e i = refl
fours-at [] (g ∷ gs) e i = absurd (omega (arith, e))
fours-at (c ∷ cs) [] e i = absurd (omega (arith, e))
fours-at (c ∷ cs) (g ∷ gs) e zero = refl
fours-at (c ∷ cs) (g ∷ gs) e (suc i) = fours-at cs gs (omega (arith, e)) i

pub fours-snoc : (cs gs : List (List Float)) (c g : List Float) → length cs ≡ length gs → fours (cs ++ c ∷ []) (gs ++ g ∷ []) ≡ fours cs gs ++ (c ++ g) ∷ []
fours-snoc [] [] c g h = refl
fours-snoc [] (y ∷ gs) c g h = absurd (omega arith)
fours-snoc (x ∷ cs) [] c g h = absurd (omega arith)
fours-snoc (x ∷ cs) (y ∷ gs) c g h = ap (λ (t : List (List Float)). (x ++ y) ∷ t) (fours-snoc cs gs c g (omega arith))

pub length-fours : (cs gs : List (List Float)) → length cs ≡ length gs → length (fours cs gs) ≡ length cs
length-fours [] gs h = refl
length-fours (x ∷ cs) [] h = absurd (omega arith)
length-fours (x ∷ cs) (y ∷ gs) h = ap suc (length-fours cs gs (omega arith))

pub snoc-pairs : (l : List (List Float)) (y : List Float) → ((i : ℕ) → i < length l → length (get_or l i []) ≡ 2) → length y ≡ 2 → (i : ℕ) → i < length (l ++ y ∷ []) → length (get_or (l ++ y ∷ []) i []) ≡ 2
snoc-pairs [] y h q zero k = q
snoc-pairs [] y h q (suc i) k = absurd (omega arith)
snoc-pairs (z ∷ l) y h q zero k = h 0 (omega arith)
snoc-pairs (z ∷ l) y h q (suc i) k = snoc-pairs l y (λ j m. h (suc j) (omega arith)) q i (omega arith)

-- ---- the viewport

-- the entry that both read
pub entry_read : (bytes : List ℕ) (at : ℕ) → Data bytes → at + 16 ≤ length bytes → (vp3 bytes at ≡ triple_at bytes at) × (vp3 bytes (at + 8) ≡ triple_at bytes (at + 8)) × (viewport_entry bytes at ≡ joined (vp3 bytes at, vp3 bytes (at + 8)))
unfolding viewport_at
entry_read bytes at I n =
    let p = triple-same bytes at I.bytes I.short (omega arith) in
    let q = triple-same bytes (at + 8) I.bytes I.short (omega arith) in
    (p, q, sym (ap₂ (λ (x y : List Float). x ++ y) p q))

module _ {a b : ℕ} {v : List Float} {t : List (List Float)} {x : Viewports} (S : ViewSame a b v t x) (bytes : List ℕ) (at : ℕ) (I : Data bytes) (n : at + 16 ≤ length bytes) where
  abbrev scale : List Float
  scale = vp3 bytes at

  abbrev trans : List Float
  trans = vp3 bytes (at + 8)

  entry : viewport_entry bytes at ≡ scale ++ trans
  entry = (entry_read bytes at I n).2

  some_entry : 0 < length x.viewport_table
  some_entry = rw (length-map x.viewport_table joined) at (some-rust S.table)

  -- the two sides compare with the same entry
  compared : last_is eq_entry x.viewport_table (scale, trans) ≡ matches eq (final t) (viewport_entry bytes at)
  compared =
      let i : ℕ = length x.viewport_table - 1 in
      let e : List Float × List Float = get_or x.viewport_table (length x.viewport_table - 1) ([], []) in
      let h = S.triples (length x.viewport_table - 1) (omega (arith, some_entry)) in
      last-final eq_entry x.viewport_table (scale, trans) ([], []) some_entry
      ∙ entry-same e.0 e.1 scale trans h.0 h.1 refl refl
      ∙ ap₂ (matches eq)
      (sym (ends_same S.table ∙ ap (λ (m : ℕ). get_or (map joined x.viewport_table) (m - 1) []) (length-map x.viewport_table joined) ∙ get_or_map joined x.viewport_table (length x.viewport_table - 1) ([], []) [] (omega (arith, some_entry))))
      (sym entry)

  view-kept : matches eq (final t) (viewport_entry bytes at) ≡ true → ViewSame a b (viewport_entry bytes at) t (set_viewport bytes at x)
  unfolding set_viewport
  view-kept e =
      let q : last_is eq_entry x.viewport_table (scale, trans) ≡ true = compared ∙ e in
      record {
        scale = refl;
        trans = refl;
        now = entry;
        table = rw q S.table;
        triples = rw q S.triples;
        current = rw q S.current;
      }

  view-new : matches eq (final t) (viewport_entry bytes at) ≡ false → ViewSame a b (viewport_entry bytes at) (t ++ viewport_entry bytes at ∷ []) (set_viewport bytes at x)
  unfolding set_viewport
  view-new e =
      let q : last_is eq_entry x.viewport_table (scale, trans) ≡ false = compared ∙ e in
      record {
        scale = refl;
        trans = refl;
        now = entry;
        table = rw (q, entry, map_snoc joined x.viewport_table (scale, trans)) (meets-more S.table (scale ++ trans));
        triples = rw q (snoc-triples x.viewport_table (scale, trans) S.triples refl refl);
        current = rw q refl;
      }
    where
      snoc-triples : (l : List (List Float × List Float)) (y : List Float × List Float)
          → ((i : ℕ) → i < length l → (length (get_or l i ([], [])).0 ≡ 3) × (length (get_or l i ([], [])).1 ≡ 3)) → length y.0 ≡ 3 → length y.1 ≡ 3
          → (i : ℕ) → i < length (l ++ y ∷ []) → (length (get_or (l ++ y ∷ []) i ([], [])).0 ≡ 3) × (length (get_or (l ++ y ∷ []) i ([], [])).1 ≡ 3)
      snoc-triples [] y h p q zero k = (p, q)
      snoc-triples [] y h p q (suc i) k = absurd (omega arith)
      snoc-triples (z ∷ l) y h p q zero k = h 0 (omega arith)
      snoc-triples (z ∷ l) y h p q (suc i) k = snoc-triples l y (λ j m. h (suc j) (omega arith)) p q i (omega arith)

pub viewport-agrees : {D : Bool → Bool → Type 0} {G : ℕ → ℕ → Type 0} {X : ℕ → List (List Float) → Texcoords → Type 0} {R : List Row → Columns → Type 0} {a b : ℕ} {k : Book} {w : World} → Near D G (ViewSame a b) X R k w → (bytes : List ℕ) (at : ℕ) → Data bytes
    → Accepted (λ vs t e. Agrees (Near D G (ViewSame a b) X R) vs (enter t e k) (execute (viewport bytes at) w)) (plan family_of limit (viewport bytes at) k)
unfolding plan execute
viewport-agrees {D} {G} {X} {R} {a} {b} {k} {w} N bytes at I =
    on-viewport _ k.state k.viewports bytes at
    (λ n e. (refl, space-near N keep keep N.space.matrices N.space.defined (view-kept N.space.view bytes at I n e)))
    (λ n e _. (refl, space-near N keep (grow (viewport_entry bytes at ∷ [])) N.space.matrices N.space.defined (view-new N.space.view bytes at I n e)))
