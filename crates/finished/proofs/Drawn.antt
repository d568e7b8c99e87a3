-- A triangle drawn keeps the invariant. Assumes nothing.
use mathlib.Core.Path.{◌≡◌, refl, sym, ap, ◌∙◌}
use mathlib.Core.Logic.{◌≢◌}
use Prim.Native.Nat.{ℕ, ◌+◌, ◌*◌, ◌≤◌, ◌<◌}
use native.Mathlib.Nat.{add-zero}
use native.Mathlib.Decide.{ℕ_discrete}
use native.Mathlib.Omega.{arith}
use mathlib.Core.Bool.{Bool, true, false, false≢true}
use mathlib.Core.List.{List, [], ◌∷◌, ◌++◌}
use lib.ListN.{length, get_or, set, length-append, length-set}
use lib.Seq.{get_or-set_same, get_or-set_other, get_or-append-add}
use Rattle.stage.specs.Plan.{Row}
use Rattle.stage.specs.Draw.{mark}
use Rattle.finished.specs.Shown.{Corner, Entries, Triangle, shown, named, no_row, corner_of, triangle_of, settings_at}
use Rattle.finished.specs.Bench.{no_corner}
use Rattle.finished.specs.Statement.{no_triangle}
use Rattle.finished.proofs.Lists.{with-more, longer-at, append_cases, snoc-cases, three}
use Rattle.finished.proofs.Running.{Extended}
use Rattle.finished.proofs.Standing.{Columns, row_in, is_ever, is_drawn, Standing, shows_same}

-- a slot that is not drawn after a mark was set is another one, and was not drawn before
unmarked-then : (d : List Bool) (k l : ℕ) → k < length d → get_or (set d k true) l false ≡ false → (l ≢ k) × (get_or d l false ≡ false)
unmarked-then d k l h e = go (ℕ_discrete l k)
  where
    go : Dec (l ≡ k) → (l ≢ k) × (get_or d l false ≡ false)
    go (yes p) = absurd (false≢true (sym e ∙ rw (p, get_or-set_same d k true false h)))
    go (no n) = (n, sym (get_or-set_other d k l true false n) ∙ e)

-- after the marks of three slots were set
pub three-marked : (seats : ℕ) (d : List Bool) (a b c : ℕ) → seats ≤ length d → a < seats → b < seats → c < seats → (l : ℕ)
    → get_or (mark d (a ∷ b ∷ c ∷ [])) l false ≡ false → (l ≢ a) × (l ≢ b) × (l ≢ c) × (get_or d l false ≡ false)
three-marked seats d a b c h ha hb hc l e =
    let u3 = unmarked-then (set (set d a true) b true) c l (simp length-set (omega arith)) e in
    let u2 = unmarked-then (set d a true) b l (simp length-set (omega arith)) u3.1 in
    let u1 = unmarked-then d a l (omega arith) u2.1 in
    (u1.0, u2.0, u3.0, u1.1)

pub mark-length : (d : List Bool) (is : List ℕ) → length (mark d is) ≡ length d
mark-length d [] = refl
mark-length d (i ∷ is) = mark-length (set d i true) is ∙ length-set d i true

-- the rows of three slots, as table 8 gets them
abbrev pub rows3 : Columns → ℕ → ℕ → ℕ → List (List ℕ)
rows3 s x y z = (row_in s x ∷ []) ∷ (row_in s y ∷ []) ∷ (row_in s z ∷ []) ∷ []

-- the columns with other drawn marks
abbrev pub with_marks : Columns → List Bool → Columns
with_marks s d = record { row = s.row; ever = s.ever; loaded = s.loaded; drawn = d }

module _ {seats : ℕ} {t : Entries} {rows : List Row} {indices runs : List (List ℕ)} {s : Columns} {l : List Corner} {ts : List Triangle} (I : Standing seats t rows indices runs s l ts)
    (x y z : ℕ) (ex : is_ever s x ≡ true) (ey : is_ever s y ≡ true) (ez : is_ever s z ≡ true) (q : List ℕ) (qs : List (List ℕ)) (X : Extended runs qs (length indices) q) where
  -- the corner at the n-th of the three new indices
  new-corner : (n : ℕ) → named (indices ++ rows3 s x y z) (3 * length ts + n) ≡ get_or (get_or (rows3 s x y z) n []) 0 0
  new-corner n = rw (← I.count) (ap (λ (e : List ℕ). get_or e 0 0) (get_or-append-add indices (rows3 s x y z) n []))

  -- what the bench gives
  drawn-now : Triangle
  drawn-now = record { corners = get_or l x no_corner ∷ get_or l y no_corner ∷ get_or l z no_corner ∷ []; settings = q }

  shows-now : triangle_of t rows (indices ++ rows3 s x y z) qs (length ts) ≡ drawn-now
  unfolding triangle_of corner_of drawn-now
  shows-now = λ i.
      record {
        corners = (ap (λ (n : ℕ). shown t (get_or rows n no_row)) (ap (named (indices ++ rows3 s x y z)) (sym (add-zero (3 * length ts))) ∙ new-corner 0) ∙ I.held x ex) i
            ∷ (ap (λ (n : ℕ). shown t (get_or rows n no_row)) (new-corner 1) ∙ I.held y ey) i
            ∷ (ap (λ (n : ℕ). shown t (get_or rows n no_row)) (new-corner 2) ∙ I.held z ez) i
            ∷ [];
        settings = (ap (settings_at 0 qs) (sym I.count) ∙ X.new) i;
      }

  pub triangle-drawn : (d : List Bool) → seats ≤ length d → ((k : ℕ) → get_or d k false ≡ false → (k ≢ x) × (k ≢ y) × (k ≢ z) × (is_drawn s k ≡ false))
      → Standing seats t rows (indices ++ rows3 s x y z) qs (with_marks s d) l (ts ++ record { corners = get_or l x no_corner ∷ get_or l y no_corner ∷ get_or l z no_corner ∷ []; settings = q } ∷ [])
  unfolding corner_of drawn-now
  triangle-drawn d few not-drawn =
      let len : length (indices ++ rows3 s x y z) ≡ length indices + 3 = length-append indices (rows3 s x y z) in
      record {
        full = record { row = I.full.row; ever = I.full.ever; loaded = I.full.loaded; drawn = few };
        bench = I.bench;
        live = I.live;
        within = I.within;
        below = I.below;
        apart = I.apart;
        fresh = λ k i lo dr.
            let u = not-drawn k dr in
            append_cases (λ _ e. get_or e 0 0 ≢ row_in s k) indices (rows3 s x y z) [] (λ j m. I.fresh k j lo u.3 m)
            (three (λ j. get_or (get_or (rows3 s x y z) j []) 0 0 ≢ row_in s k)
            (λ e. u.0 (sym (I.apart x k ex (I.live k lo) e))) (λ e. u.1 (sym (I.apart y k ey (I.live k lo) e))) (λ e. u.2 (sym (I.apart z k ez (I.live k lo) e))))
            i;
        sound = I.sound;
        used = append_cases (λ _ e. get_or e 0 0 < length rows) indices (rows3 s x y z) [] I.used
            (three (λ j. get_or (get_or (rows3 s x y z) j []) 0 0 < length rows) (I.below x ex) (I.below y ey) (I.below z ez));
        held = I.held;
        tiled = rw len X.tiled;
        whole = X.whole;
        count = rw (len, length-append) (omega (arith, I.count));
        given = snoc-cases (λ n T. triangle_of t rows (indices ++ rows3 s x y z) qs n ≡ T) ts drawn-now no_triangle
            (λ n h.
            shows_same _ _ _ _ _ _ _ _ n
            (λ i k. ap (λ (e : List ℕ). shown t (get_or rows (get_or e 0 0) no_row)) (longer-at (with-more indices (rows3 s x y z)) [] i (omega (arith, I.count))))
            (X.old (3 * n) (omega (arith, I.count)))
            ∙ I.given n h)
            shows-now;
      }
