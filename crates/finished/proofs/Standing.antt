-- The invariant that ties slots, rows, indices and runs to the bench's slots and triangles, and what keeps it. Assumes nothing.
use mathlib.Core.Path.{◌≡◌, refl, ap, ◌∙◌}
use mathlib.Core.Logic.{◌≢◌}
use Prim.Native.Nat.{ℕ, ◌+◌, ◌*◌, ◌≤◌, ◌<◌}
use native.Mathlib.Decide.{ℕ_discrete}
use native.Mathlib.Omega.{arith}
use mathlib.Core.Bool.{Bool, true, false}
use mathlib.Core.List.{List, [], ◌∷◌, ◌++◌}
use lib.ListN.{length, get_or, set, replicate, length-append, length-set, length-replicate}
use lib.Seq.{get_or-set_same, get_or-set_other, get_or-append_seam}
use Rattle.stage.specs.Plan.{Row}
use Rattle.finished.specs.Shown.{Corner, Entries, Triangle, shown, named, no_row, corner_of, triangle_of, settings_at}
use Rattle.finished.specs.Bench.{no_corner}
use Rattle.finished.specs.Statement.{no_triangle}
use Rattle.finished.proofs.Lists.{with-more, longer-at, none-marked, snoc-cases, set_cases}
use Rattle.finished.proofs.Growing.{Sound, Grown, shown-stays, sound-stays}
use Rattle.finished.proofs.Running.{Tiled, Whole}

-- ---- the columns of the slots

pub record Columns : Type 0 where
  pub row : List ℕ
  pub ever : List Bool
  pub loaded : List Bool
  pub drawn : List Bool

abbrev pub row_in : Columns → ℕ → ℕ
row_in s k = get_or s.row k 0

abbrev pub is_ever : Columns → ℕ → Bool
is_ever s k = get_or s.ever k false

abbrev pub is_loaded : Columns → ℕ → Bool
is_loaded s k = get_or s.loaded k false

abbrev pub is_drawn : Columns → ℕ → Bool
is_drawn s k = get_or s.drawn k false

-- there is a place for each slot
pub record Full (seats : ℕ) (s : Columns) : Type 0 where
  pub row : seats ≤ length s.row
  pub ever : seats ≤ length s.ever
  pub loaded : seats ≤ length s.loaded
  pub drawn : seats ≤ length s.drawn

-- slot k gets row r: loaded, not drawn
abbrev pub fill : Columns → ℕ → ℕ → Columns
fill s k r = record { row = set s.row k r; ever = set s.ever k true; loaded = set s.loaded k true; drawn = set s.drawn k false }

-- the four columns of slot k
pub record Place : Type 0 where
  pub row : ℕ
  pub ever : Bool
  pub loaded : Bool
  pub drawn : Bool

abbrev pub place : Columns → ℕ → Place
place s k = record { row = row_in s k; ever = is_ever s k; loaded = is_loaded s k; drawn = is_drawn s k }

fill-same : (seats : ℕ) (s : Columns) (k r : ℕ) → Full seats s → k < seats → place (fill s k r) k ≡ record { row = r; ever = true; loaded = true; drawn = false }
fill-same seats s k r f h = λ i.
    record {
      row = get_or-set_same s.row k r 0 (omega (arith, f.row)) i;
      ever = get_or-set_same s.ever k true false (omega (arith, f.ever)) i;
      loaded = get_or-set_same s.loaded k true false (omega (arith, f.loaded)) i;
      drawn = get_or-set_same s.drawn k false false (omega (arith, f.drawn)) i;
    }

fill-other : (s : Columns) (k r j : ℕ) → j ≢ k → place (fill s k r) j ≡ place s j
fill-other s k r j h = λ i.
    record {
      row = get_or-set_other s.row k j r 0 h i;
      ever = get_or-set_other s.ever k j true false h i;
      loaded = get_or-set_other s.loaded k j true false h i;
      drawn = get_or-set_other s.drawn k j false false h i;
    }

fill-full : (seats : ℕ) (s : Columns) (k r : ℕ) → Full seats s → Full seats (fill s k r)
fill-full seats s k r f =
    record { row = simp length-set f.row; ever = simp length-set f.ever; loaded = simp length-set f.loaded; drawn = simp length-set f.drawn }

-- what holds of the new slot k, and of every other as it was, holds of all
fill-cases : (P : ℕ → Place → Type 0) (seats : ℕ) (s : Columns) (k r : ℕ) → Full seats s → k < seats
    → P k (record { row = r; ever = true; loaded = true; drawn = false }) → ((j : ℕ) → j ≢ k → P j (place s j)) → (j : ℕ) → P j (place (fill s k r) j)
fill-cases P seats s k r f h same other j = go (ℕ_discrete j k)
  where
    go : Dec (j ≡ k) → P j (place (fill s k r) j)
    go (yes e) = rw (e, fill-same seats s k r f h) same
    go (no n) = rw (fill-other s k r j n) (other j n)

-- ---- the invariant

-- t: tables 1 to 6. l: the bench's slots. ts: its triangles
pub record Standing (seats : ℕ) (t : Entries) (rows : List Row) (indices runs : List (List ℕ)) (s : Columns) (l : List Corner) (ts : List Triangle) : Type 0 where
  pub full : Full seats s
  pub bench : length l ≡ seats
  -- a loaded slot has been loaded since opening
  pub live : (k : ℕ) → is_loaded s k ≡ true → is_ever s k ≡ true
  pub within : (k : ℕ) → is_ever s k ≡ true → k < seats
  pub below : (k : ℕ) → is_ever s k ≡ true → row_in s k < length rows
  -- no two slots have one row
  pub apart : (j k : ℕ) → is_ever s j ≡ true → is_ever s k ≡ true → row_in s j ≡ row_in s k → j ≡ k
  -- the row of a loaded slot that is not drawn is in no index
  pub fresh : (k i : ℕ) → is_loaded s k ≡ true → is_drawn s k ≡ false → i < length indices → named indices i ≢ row_in s k
  pub sound : (i : ℕ) → i < length rows → Sound t (get_or rows i no_row)
  pub used : (i : ℕ) → i < length indices → named indices i < length rows
  -- each slot shows what the bench holds
  pub held : (k : ℕ) → is_ever s k ≡ true → shown t (get_or rows (row_in s k) no_row) ≡ get_or l k no_corner
  -- runs one behind the other, of whole triangles, up to the last index
  pub tiled : Tiled 0 runs (length indices)
  pub whole : Whole runs
  pub count : length indices ≡ 3 * length ts
  -- each triangle shows what the bench gave
  pub given : (n : ℕ) → n < length ts → triangle_of t rows indices runs n ≡ get_or ts n no_triangle

-- a triangle shows the same where its corners and its run do
pub shows_same : (t u : Entries) (rows rows' : List Row) (indices indices' runs runs' : List (List ℕ)) (n : ℕ)
    → ((i : ℕ) → i < 3 * n + 3 → corner_of u rows' indices' i ≡ corner_of t rows indices i)
    → settings_at 0 runs' (3 * n) ≡ settings_at 0 runs (3 * n) → triangle_of u rows' indices' runs' n ≡ triangle_of t rows indices runs n
unfolding triangle_of
shows_same t u rows rows' indices indices' runs runs' n e q = λ i.
    record {
      corners = e (3 * n) (omega arith) i ∷ e (3 * n + 1) (omega arith) i ∷ e (3 * n + 2) (omega arith) i ∷ [];
      settings = q i;
    }

module _ {seats : ℕ} {t : Entries} {rows : List Row} {indices runs : List (List ℕ)} {s : Columns} {l : List Corner} {ts : List Triangle} (I : Standing seats t rows indices runs s l ts) where
  -- ---- 1. tables 1 to 6 grow
  pub tables-grow : {u : Entries} → Grown t u → Standing seats u rows indices runs s l ts
  unfolding corner_of
  tables-grow {u} g =
      record {
        full = I.full;
        bench = I.bench;
        live = I.live;
        within = I.within;
        below = I.below;
        apart = I.apart;
        fresh = I.fresh;
        sound = λ i h. sound-stays (get_or rows i no_row) g (I.sound i h);
        used = I.used;
        held = λ k e. shown-stays (get_or rows (row_in s k) no_row) g (I.sound (row_in s k) (I.below k e)) ∙ I.held k e;
        tiled = I.tiled;
        whole = I.whole;
        count = I.count;
        given = λ n h.
            shows_same _ _ _ _ _ _ _ _ n (λ i k. shown-stays (get_or rows (named indices i) no_row) g (I.sound (named indices i) (I.used i (omega (arith, I.count))))) refl ∙ I.given n h;
      }

  -- ---- 2. a new row, for one slot: a vertex loaded, or a row copied
  pub row-filled : (k : ℕ) (r : Row) → k < seats → Sound t r
      → Standing seats t (rows ++ r ∷ []) indices runs (fill s k (length rows)) (set l k (shown t r)) ts
  unfolding corner_of
  row-filled k r k< sr =
      let len : length (rows ++ r ∷ []) ≡ length rows + 1 = length-append rows (r ∷ []) in
      let n : ℕ = length rows in
      record {
        full = fill-full seats s k (length rows) I.full;
        bench = simp length-set I.bench;
        live = fill-cases (λ j x. x.loaded ≡ true → x.ever ≡ true) seats s k (length rows) I.full k< (λ _. refl) (λ j _. I.live j);
        within = fill-cases (λ j x. x.ever ≡ true → j < seats) seats s k (length rows) I.full k< (λ _. k<) (λ j _. I.within j);
        below = fill-cases (λ j x. x.ever ≡ true → x.row < length (rows ++ r ∷ [])) seats s k (length rows) I.full k<
            (λ _. omega arith) (λ j _ e. omega (arith, I.below j e));
        apart = fill-cases
            (λ j x. (m : ℕ) → x.ever ≡ true → is_ever (fill s k (length rows)) m ≡ true → x.row ≡ row_in (fill s k (length rows)) m → j ≡ m) seats s k
            (length rows) I.full k<
            (fill-cases (λ m y. true ≡ true → y.ever ≡ true → length rows ≡ y.row → k ≡ m) seats s k (length rows) I.full k<
            (λ _ _ _. refl) (λ m _ _ e q. absurd (omega (arith, I.below m e))))
            (λ j _. fill-cases (λ m y. is_ever s j ≡ true → y.ever ≡ true → row_in s j ≡ y.row → j ≡ m) seats s k (length rows) I.full k<
            (λ e _ q. absurd (omega (arith, I.below j e))) (λ m _. I.apart j m));
        fresh = fill-cases (λ j x. (i : ℕ) → x.loaded ≡ true → x.drawn ≡ false → i < length indices → named indices i ≢ x.row) seats s k (length rows) I.full k<
            (λ i _ _ h q. omega (arith, I.used i h, q)) (λ j _. I.fresh j);
        sound = snoc-cases (λ _ x. Sound t x) rows r no_row I.sound sr;
        used = λ i h. omega (arith, I.used i h);
        held = fill-cases (λ j x. x.ever ≡ true → shown t (get_or (rows ++ r ∷ []) x.row no_row) ≡ get_or (set l k (shown t r)) j no_corner) seats s k (length rows) I.full k<
            (λ _. rw (get_or-append_seam rows r [] no_row, get_or-set_same l k (shown t r) no_corner (omega (arith, I.bench))))
            (λ j d e. rw (longer-at (with-more rows (r ∷ [])) no_row (row_in s j) (I.below j e), get_or-set_other l k j (shown t r) no_corner d) (I.held j e));
        tiled = I.tiled;
        whole = I.whole;
        count = I.count;
        given = λ n h.
            shows_same _ _ _ _ _ _ _ _ n (λ i m. ap (shown t) (longer-at (with-more rows (r ∷ [])) no_row (named indices i) (I.used i (omega (arith, I.count))))) refl ∙ I.given n h;
      }

  -- ---- 3. the row of a loaded slot that is not drawn, changed where it stands
  module _ (k : ℕ) (r : Row) (lo : is_loaded s k ≡ true) (dr : is_drawn s k ≡ false) where
    ev : is_ever s k ≡ true
    ev = I.live k lo

    held_then : (j : ℕ) → is_ever s j ≡ true → Dec (j ≡ k) → shown t (get_or (set rows (row_in s k) r) (row_in s j) no_row) ≡ get_or (set l k (shown t r)) j no_corner
    held_then j h (yes p) =
        rw (p, get_or-set_same rows (row_in s k) r no_row (I.below k ev), get_or-set_same l k (shown t r) no_corner (omega (arith, I.bench, I.within k ev)))
    held_then j h (no n) =
        rw (get_or-set_other rows (row_in s k) (row_in s j) r no_row (λ p. n (I.apart j k h ev p)), get_or-set_other l k j (shown t r) no_corner n) (I.held j h)

    pub row-changed : Sound t r → Standing seats t (set rows (row_in s k) r) indices runs s (set l k (shown t r)) ts
    unfolding corner_of
    row-changed sr =
        let len : length (set rows (row_in s k) r) ≡ length rows = length-set rows (row_in s k) r in
        record {
          full = I.full;
          bench = simp length-set I.bench;
          live = I.live;
          within = I.within;
          below = λ j h. rw len (I.below j h);
          apart = I.apart;
          fresh = I.fresh;
          sound = λ i h. set_cases (λ _ x. Sound t x) rows (row_in s k) r no_row (I.below k ev) i (I.sound i (rw len at h)) sr;
          used = λ i h. rw len (I.used i h);
          held = λ j h. held_then j h (ℕ_discrete j k);
          tiled = I.tiled;
          whole = I.whole;
          count = I.count;
          given = λ n h.
              shows_same _ _ _ _ _ _ _ _ n (λ i m. ap (shown t) (get_or-set_other rows (row_in s k) (named indices i) r no_row (I.fresh k i lo dr (omega (arith, I.count))))) refl ∙ I.given n h;
        }

  -- ---- 4. the microcode change: slots unloaded and drawn marks cleared
  pub slots-unloaded : (n : ℕ) → seats ≤ n
      → Standing seats t rows indices runs (record { row = s.row; ever = s.ever; loaded = replicate n false; drawn = replicate n false }) l ts
  slots-unloaded n h =
      record {
        full = record { row = I.full.row; ever = I.full.ever; loaded = rw (length-replicate n false) h; drawn = rw (length-replicate n false) h };
        bench = I.bench;
        live = λ k e. absurd (none-marked n k e);
        within = I.within;
        below = I.below;
        apart = I.apart;
        fresh = λ k i e. absurd (none-marked n k e);
        sound = I.sound;
        used = I.used;
        held = I.held;
        tiled = I.tiled;
        whole = I.whole;
        count = I.count;
        given = I.given;
      }
