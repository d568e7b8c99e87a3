-- Laws by which a reader can trust the definitions: how long a row is, which numbers it holds, and which vertices a load reads. Assumes nothing.
use Prim.Native.Nat.{ℕ, zero, suc, ◌+◌, ◌*◌, ◌<◌}
use native.Mathlib.Nat.{add-zero, mul-zero, not-suc-le-zero, le_of_suc-le-suc}
use native.Mathlib.Numerals.{add-one}
use native.Mathlib.Omega.{arith}
use mathlib.Core.Path.{◌≡◌, refl, ap}
use mathlib.Core.List.{List, [], ◌∷◌, ◌++◌, map}
use lib.ListN.{length, get_or}
use Rattle.areas.specs.Area.{Wide}
use Rattle.areas.specs.Widths.{float_width, word_width}
use Rattle.matrix.specs.Math as math
use Rattle.layout.specs.Layout.{vertex_at}
use Rattle.layout.specs.declared.records.Vertex.{Vertex}
use Rattle.vertex.specs.declared.Shared.{Shared}
use Rattle.vertex.specs.Vertices.{floats_of, words_of, vertices_at}

-- ---- a row

-- how many floats a row has
pub floats-size : (v : Vertex) → length (floats_of v) ≡ float_width
unfolding floats_of
floats-size v = refl

-- how many words a row has
pub words_size : (e : Shared) (v : Vertex) → length (words_of e v) ≡ word_width
unfolding words_of
words_size e v = refl

-- the floats of a vertex that was read: its position, its texture coordinates, four zeros
pub floats-are : (s : List ℕ) (i : ℕ) → let v = vertex_at s i in floats_of v ≡ v.pos ++ v.st ++ math.zero ∷ math.zero ∷ math.zero ∷ math.zero ∷ []
unfolding floats_of vertex_at
floats-are s i = refl

-- rows made one by one of so many numbers each make a table of that width
pub wide-map : {A B : Type 0} (f : A → List B) (w : ℕ) → ((a : A) → length (f a) ≡ w) → (xs : List A) → Wide w (map f xs)
wide-map f w h [] = tt
wide-map f w h (a ∷ xs) = (h a, wide-map f w h xs)

-- ---- the vertices of a load

-- as many are read as were asked for
pub length-vertices : (s : List ℕ) (i n : ℕ) → length (vertices_at s i n) ≡ n
unfolding vertices_at
length-vertices s i zero = refl
length-vertices s i (suc n) = ap suc (length-vertices s (i + 16) n)

-- one more is the one 16 bytes behind the last
pub vertices-snoc : (s : List ℕ) (i n : ℕ) → vertices_at s i (n + 1) ≡ vertices_at s i n ++ vertex_at s (i + 16 * n) ∷ []
unfolding vertices_at
vertices-snoc s i n = rw add-one (go i n)
  where
    go : (i n : ℕ) → vertices_at s i (suc n) ≡ vertices_at s i n ++ vertex_at s (i + 16 * n) ∷ []
    go i zero = rw (mul-zero, add-zero)
    go i (suc n) = let e : i + 16 * suc n ≡ i + 16 + 16 * n = omega arith in rw (e, go (i + 16) n)

-- vertex k of them is the one 16 * k bytes on
pub vertices-at : (s : List ℕ) (i n k : ℕ) (d : Vertex) → k < n → get_or (vertices_at s i n) k d ≡ vertex_at s (i + 16 * k)
unfolding vertices_at
vertices-at s i zero k d h = absurd (not-suc-le-zero h)
vertices-at s i (suc n) zero d h = rw (mul-zero, add-zero)
vertices-at s i (suc n) (suc k) d h =
    let e : i + 16 * suc k ≡ i + 16 + 16 * k = omega arith in
    rw e (vertices-at s (i + 16) n k d (le_of_suc-le-suc h))

-- ten numbers from a place on: the place of the last
pub add-nine : (n : ℕ) → n + 9 ≡ suc (suc (suc (suc (suc (suc (suc (suc (suc n))))))))
add-nine n = omega arith
