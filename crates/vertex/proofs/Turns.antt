-- The loops of a load, a turn at a time: what one more vertex does to a column and to the two areas of table 7. Assumes nothing.
use Prim.Native.Nat.{ℕ, ◌+◌, ◌*◌}
use native.Mathlib.Numerals.{add-one}
use mathlib.Core.Bool.{Bool}
use mathlib.Core.Path.{◌≡◌, refl, sym, ◌∙◌}
use mathlib.Core.List.{List, [], ◌∷◌, ◌++◌, map, map-append}
use lib.ListN.{length, set, length-map}
use lib.Ieee.{Float}
use Rattle.areas.specs.Area.{put, write}
use Rattle.areas.proofs.Tables.{write-one, write-nil, write-snoc}
use Rattle.layout.specs.Layout.{vertex_at}
use Rattle.layout.specs.declared.records.Vertex.{Vertex}
use Rattle.vertex.specs.declared.Shared.{Shared}
use Rattle.vertex.specs.Vertices.{vertices_at}
use Rattle.vertex.specs.Steps.{filled, Laid, Marked}
use Rattle.vertex.proofs.Believe.{wide-map, length-vertices, vertices-snoc}

-- ---- a column

-- one more place
pub filled_more : {A : Type 0} (f : ℕ → A) (c : List A) (k n : ℕ) → filled f c k (n + 1) ≡ set (filled f c k n) (k + n) (f n)
unfolding filled
filled_more f c k n = rw add-one

-- a turn of a loop that fills one
pub turned : {A : Type 0} (f : ℕ → A) (c : List A) (k n : ℕ) {c' c'' : List A} {x : A} → c' ≡ filled f c k n → x ≡ f n → c'' ≡ set c' (k + n) x → c'' ≡ filled f c k (n + 1)
turned f c k n h e g = g ∙ rw (h, e, filled_more f c k n)

-- ---- the rows

-- one more vertex writes one more row, of w numbers, behind those written from row n on
pub rows_snoc : {A : Type 0} (f : Vertex → List A) (w n : ℕ) → ((v : Vertex) → length (f v) ≡ w) → (vs : List Vertex) (v : Vertex) (l : List A)
    → put (write w n (map f vs) l) ((n + length vs) * w) (f v) ≡ write w n (map f (vs ++ v ∷ [])) l
rows_snoc f w n h vs v l =
    rw (map-append f vs (v ∷ []), ← write-snoc w n (map f vs) (f v) l (wide-map f w h vs), length-map vs f, write-one)

-- a turn of the loop that writes them
pub rowed : {A : Type 0} (f : Vertex → List A) (w n : ℕ) → ((v : Vertex) → length (f v) ≡ w) → (b : List ℕ) (at i : ℕ) (l : List A) {l' l'' : List A}
    → l' ≡ write w n (map f (vertices_at b at i)) l
    → l'' ≡ put l' ((n + i) * w) (f (vertex_at b (at + 16 * i)))
    → l'' ≡ write w n (map f (vertices_at b at (i + 1))) l
rowed f w n h b at i l e g =
    g ∙ rw (e, vertices-snoc b at i, ← rows_snoc f w n h (vertices_at b at i) (vertex_at b (at + 16 * i)) l, length-vertices b at i)

-- ---- before the first vertex all is as it was

pub marked-none : (first n : ℕ) (row : List ℕ) (ever loaded drawn : List Bool) → Marked first n 0 row ever loaded drawn row ever loaded drawn
unfolding filled
marked-none first n row ever loaded drawn = record { rows = refl; evers = refl; loadeds = refl; drawns = refl }

pub laid_none : (m : List (List Float)) (e : Shared) (b : List ℕ) (at first n : ℕ) (f : List Float) (w : List ℕ) (coded : List Bool) (code : List ℕ) (deep : List Bool) (z : List Float)
    → Laid m e b at first n 0 f w coded code deep z f w coded code deep z
unfolding filled vertices_at
laid_none m e b at first n f w coded code deep z =
    record { floats = sym (write-nil _ _ _); words = sym (write-nil _ _ _); codeds = refl; codes = refl; deeps = refl; zs = refl }
