-- What the loop over a load's vertices says of itself: cited by the contract of `fill` and the proofs of a load, by no command's contract and by no
-- theorem. Definitions only.
use Rattle.std.specs.Prelude.{ℕ, zero, suc, ◌+◌, ◌*◌, ◌≤◌, Bool, true, false, ◌≡◌, List, map, length, set, Float, is_some, unwrap_or}
use Rattle.areas.specs.Area.{write}
use Rattle.areas.specs.Widths.{most, float_width, word_width}
use Rattle.matrix.specs.Math as math
use Rattle.layout.specs.Layout.{vertex_at}
use Rattle.vertex.specs.declared.Shared.{Shared}
use Rattle.vertex.specs.declared.Slot.{Slot}
use Rattle.vertex.specs.Vertices.{floats_of, words_of, slot_of, vertices_at}

-- the column c once its n places from k on have got what f gives, the first of them f 0
unfoldable pub filled : {A : Type 0} → (ℕ → A) → List A → ℕ → ℕ → List A
filled f c k zero = c
filled f c k (suc n) = set (filled f c k n) (k + n) (f n)

-- what the slot of vertex i gets, of the vertices from place at on
abbrev pub slot_at_turn : List (List Float) → Shared → List ℕ → ℕ → ℕ → Slot
slot_at_turn m e bytes at i = slot_of m e (vertex_at bytes (at + 16 * i))

-- what has been judged before the first row is written, behind n rows in use: the slots, the bytes, the count of rows, and room in both areas
pub record RowsFit (n first count at : ℕ) (b : List ℕ) (f : List Float) (w : List ℕ) : Type 0 where
  pub slots : first + count ≤ 256
  pub bytes : at + 16 * count ≤ length b
  pub rows : n + count ≤ most
  pub floats : (n + count) * float_width ≤ length f
  pub words : (n + count) * word_width ≤ length w

-- what the areas of the rows and four columns have become, once count vertices from place at on have their rows from row n on and their slots from first on
pub record Laid (m : List (List Float)) (e : Shared) (b : List ℕ) (at first n count : ℕ) (f : List Float) (w : List ℕ) (coded : List Bool) (code : List ℕ) (deep : List Bool) (z f' : List Float) (w' : List ℕ) (coded' : List Bool) (code' : List ℕ) (deep' : List Bool) (z' : List Float) : Type 0 where
  pub floats : f' ≡ write float_width n (map floats_of (vertices_at b at count)) f
  pub words : w' ≡ write word_width n (map (words_of e) (vertices_at b at count)) w
  pub codeds : coded' ≡ filled (λ (i : ℕ). is_some (slot_at_turn m e b at i).code) coded first count
  pub codes : code' ≡ filled (λ (i : ℕ). unwrap_or (slot_at_turn m e b at i).code 0) code first count
  pub deeps : deep' ≡ filled (λ (i : ℕ). is_some (slot_at_turn m e b at i).z) deep first count
  pub zs : z' ≡ filled (λ (i : ℕ). unwrap_or (slot_at_turn m e b at i).z math.zero) z first count

-- what the four other columns have become then
pub record Marked (first n count : ℕ) (row : List ℕ) (ever loaded drawn : List Bool) (row' : List ℕ) (ever' loaded' drawn' : List Bool) : Type 0 where
  pub rows : row' ≡ filled (λ (i : ℕ). n + i) row first count
  pub evers : ever' ≡ filled (λ (i : ℕ). true) ever first count
  pub loadeds : loaded' ≡ filled (λ (i : ℕ). true) loaded first count
  pub drawns : drawn' ≡ filled (λ (i : ℕ). false) drawn first count
