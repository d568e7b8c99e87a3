-- What is known of a change that the judge lets through. Assumes nothing.
use Prim.Native.Nat.{ℕ, ◌+◌, ◌-◌, ◌*◌, ◌≤◌, ◌<◌}
use native.Mathlib.Omega.{arith}
use mathlib.Core.Bool.{Bool, true, false, false≢true}
use mathlib.Core.Path.{◌≡◌, refl, sym, ap, ◌∙◌}
use mathlib.Core.List.{List, [], ◌∷◌}
use lib.ListN.{length}
use lib.Dec.{ltb}
use lib.Ieee.{Float}
use borrow.Author.Tests.{leb-true, ltb-true}
use Rattle.std.specs.Prelude.{Option, Some, None, Ok, Err}
use Rattle.numbers.specs.Choice.{pick, unless}
use Rattle.areas.specs.Widths.{scale_width, float_width, word_width}
use Rattle.areas.specs.Area.{room, part, write}
use Rattle.areas.proofs.Tables.{room_fits}
use Rattle.change.specs.Decoded.{floats_after, words_after, unit_entry}
use Rattle.change.specs.declared.Change.{Change}
use Rattle.change.specs.declared.judge.Slot.{Slot}
use Rattle.change.specs.declared.judge.Tables.{Tables}
use Rattle.change.specs.declared.judge.Moved.{Moved}
use Rattle.change.specs.declared.judge.Refusal.{Refusal}
use Rattle.change.specs.Steps.{Verdict, row_room, comes_to, roomy, change_judged, remade}

-- the verdict lets the change through
abbrev pub goes : Verdict → Bool
goes (Err r) = false
goes (Ok (c, m)) = true

-- a test that was passed on the way to a change that goes
passed : (b : Bool) (r : Refusal) (v w : Verdict) → goes w ≡ true → unless b (Err r) v ≡ w → (b ≡ true) × (v ≡ w)
unfolding unless
passed true r v w g e = (refl, e)
passed false r v w g e = absurd (false≢true (ap goes e ∙ g))

-- a slot's row before and after: the row itself or the one behind all in use, with room for it
stands : (drawn : Bool) (row rows room : ℕ) → row < rows → pick drawn (rows + 1) rows ≤ room → (row ≤ pick drawn rows row) × (pick drawn rows row + 1 ≤ room)
unfolding pick
stands true row rows room h k = omega arith
stands false row rows room h k = omega arith

-- the numbers of a change that goes, and what the rows written lie in
pub record Through (s : Slot) (t : Tables) (c : Change) (m : Moved) : Type 0 where
  pub comes : m ≡ comes_to c s t
  pub row : s.row < t.rows
  pub behind : s.row ≤ m.row
  pub room : m.row + 1 ≤ t.rowroom

pub through : (asked : Option Change) (s : Slot) (t : Tables) (c : Change) (m : Moved) → change_judged asked s t ≡ Ok (c, m) → Through s t c m
unfolding change_judged roomy comes_to
through None s t c m e = absurd (false≢true (ap goes e))
through (Some d) s t c m e =
    let h1 = passed s.loaded _ _ (Ok (c, m)) refl e in
    let h2 = passed _ _ _ (Ok (c, m)) refl h1.1 in
    let h3 = passed _ _ _ (Ok (c, m)) refl h2.1 in
    let h4 = passed _ _ _ (Ok (c, m)) refl h3.1 in
    let h5 = passed _ _ _ (Ok (c, m)) refl h4.1 in
    let h6 = passed _ _ _ (Ok (c, m)) refl h5.1 in
    let ends : ◌≡◌ {A = Verdict} (Ok (d, comes_to d s t)) (Ok (c, m)) = h6.1 in
    let both : ◌≡◌ {A = Change × Moved} (c, m) (d, comes_to d s t) = cc in
    let dc : d ≡ c = sym (ap (λ (p : Change × Moved). p.0) both) in
    let comes : m ≡ comes_to c s t = rw (← dc) (ap (λ (p : Change × Moved). p.1) both) in
    let low : s.row < t.rows = ltb-true _ _ h2.0 in
    let lands = stands s.drawn s.row t.rows t.rowroom low (leb-true _ _ h6.0) in
    record { comes = comes; row = low; behind = rw comes lands.0; room = rw comes lands.1 }

-- rows that there is room for lie in both areas
pub rows_in : (k a b m : ℕ) → m ≡ row_room a b → k ≤ m → (k * float_width ≤ a) × (k * word_width ≤ b)
rows_in k a b m e h =
    let x : k ≤ room float_width a = omega arith in
    let y : k ≤ room word_width b = omega arith in
    ((room_fits float_width a k x).0, (room_fits word_width b k y).0)

-- the row that an accepted change writes stands at the slot's row or behind it, and lies in both areas
pub lies : (asked : Option Change) (s : Slot) (t : Tables) (c : Change) (m : Moved) (f : List Float) (w : List ℕ) → t.rowroom ≡ row_room (length f) (length w) → change_judged asked s t ≡ Ok (c, m)
    → (s.row ≤ m.row) × (m.row * float_width + float_width ≤ length f) × (m.row * word_width + word_width ≤ length w)
lies asked s t c m f w r e =
    let p = through asked s t c m e in
    let h = rows_in (m.row + 1) (length f) (length w) _ r p.room in
    (p.behind, omega (arith, h.0), omega (arith, h.1))

-- ---- what the areas come to, by the verdict v

module _ (v : Verdict) (s : Slot) (t : Tables) (l f : List Float) (w : List ℕ) (x y : List Float) (z : List ℕ) where
  pub left_alone : (r : Refusal) → v ≡ Err r → (x, y, z) ≡ remade v s t (l, f, w) → (x ≡ l) × ((y ≡ f) × (z ≡ w))
  left_alone r e h =
      let k : ◌≡◌ {A = List Float × List Float × List ℕ} (x, y, z) (l, f, w) = rw e at h in
      (ap (λ (a : List Float × List Float × List ℕ). a.0) k, (ap (λ (a : List Float × List Float × List ℕ). a.1) k, ap (λ (a : List Float × List Float × List ℕ). a.2) k))

  pub carried-out : (c : Change) (m : Moved) → v ≡ Ok (c, m) → (x, y, z) ≡ remade v s t (l, f, w)
      → (x ≡ pick (ltb t.scales m.scales) (write scale_width t.scales (unit_entry ∷ []) l) l)
      × ((y ≡ write float_width m.row (floats_after c (part f (s.row * float_width) float_width) ∷ []) f)
      × (z ≡ write word_width m.row (words_after c (m.unit - 1) (part w (s.row * word_width) word_width) ∷ []) w))
  carried-out c m e h =
      let k : (x, y, z) ≡ remade (Ok (c, m)) s t (l, f, w) = rw e at h in
      (ap (λ (a : List Float × List Float × List ℕ). a.0) k, (ap (λ (a : List Float × List Float × List ℕ). a.1) k, ap (λ (a : List Float × List Float × List ℕ). a.2) k))
