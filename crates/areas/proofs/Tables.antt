-- The laws of a lent area: what a write leaves, number by number and entry by entry, what a room means, and what a comparison says.
-- The definitions are in specs/Area.antt. Every law is over the element type, and over the width w of an entry. Assumes nothing.
use Prim.Native.Nat.{ℕ, zero, suc, ◌+◌, ◌-◌, ◌*◌, ◌/◌, ◌≤◌, ◌<◌}
use native.Mathlib.Nat.{add-zero, add-suc, suc-add, zero-add, zero-mul, suc-mul, not-suc-le-zero, le_of_suc-le-suc, mul-le-mul_right, div-mul-le_self, le-div_iff_mul-le, le_trans}
use native.Mathlib.Omega.{arith}
use mathlib.Core.Bool.{Bool, true, false, and-eq-true_iff, and-false, or-true, false≢true}
use mathlib.Core.Logic.{◌↔◌, ◌≢◌, ◌⊎◌, inl, inr, ⊎_elim}
use mathlib.Core.Path.{◌≡◌, refl, sym, ap, ◌∙◌}
use mathlib.Core.List.{List, [], ◌∷◌, ◌++◌, append_assoc, append-nil}
use lib.Dec.{eqb}
use lib.Ieee.{Float, nan, inf, fin, eq}
use lib.IntN.{ℤ, pos, negsuc, pos-ne-negsuc}
use lib.ListN.{length, take, drop, get_or, set, length-append, length-drop, length-set}
use lib.Seq.{length-sets, sets-eq, length-take-le, take-add, take_at, drop_at, drop-drop, take-set-le, drop-set-lt, drop-set-add, get_or-set_same, get_or-set_other, get_or-take, get_or-drop}
use borrow.Author.Tests.{eq-eqb, eqb-true}
use Rattle.areas.specs.Widths.{most}
use Rattle.areas.specs.Area.{room, part, put, matches, entries, flat, Wide, write, eqbℤ}

-- ---- room

-- entries that there is room for lie in the area, and are at most `most`
pub room_fits : (w n k : ℕ) → k ≤ room w n → (k * w ≤ n) × (k ≤ most)
room_fits w n k h =
    let q : k ≤ n / w = omega arith in
    (le_trans (mul-le-mul_right w q) (div-mul-le_self n w), omega arith)

-- there is room for just the entries that lie in the area, up to `most`
pub room-is : (w n k : ℕ) → 0 < w → (k ≤ room w n) ↔ ((k * w ≤ n) × (k ≤ most))
room-is w n k p =
    (room_fits w n k, λ h. let q : k ≤ n / w = (le-div_iff_mul-le p).1 h.0 in omega arith)

-- the next entry's place is one width on
next_place : (n w : ℕ) → suc n * w ≡ w + n * w
next_place n w = omega (arith, suc-mul n w)

module _ {A : Type 0} where
  -- ---- a put, number by number

  -- a put leaves the length
  pub length-put : (l : List A) (at : ℕ) (vs : List A) → length (put l at vs) ≡ length l
  unfolding put
  length-put l at vs = length-sets l at vs

  -- numbers put behind one another are put as one list
  pub put-append : (l : List A) (at : ℕ) (us vs : List A) → put l at (us ++ vs) ≡ put (put l at us) (at + length us) vs
  unfolding put
  put-append l at [] vs = rw add-zero
  put-append l at (u ∷ us) vs = put-append (set l at u) (suc at) us vs ∙ rw (suc-add, add-suc)

  -- what stands before a put stays
  pub take_put : (k : ℕ) (l : List A) (at : ℕ) (vs : List A) → k ≤ at → take k (put l at vs) ≡ take k l
  unfolding put
  take_put k l at [] h = refl
  take_put k l at (v ∷ vs) h = take_put k (set l at v) (suc at) vs (omega arith) ∙ take-set-le k l at v h

  -- what stands behind a put stays
  pub drop-put : (k : ℕ) (l : List A) (at : ℕ) (vs : List A) → at + length vs ≤ k → drop k (put l at vs) ≡ drop k l
  unfolding put
  drop-put k l at [] h = refl
  drop-put k l at (v ∷ vs) h = drop-put k (set l at v) (suc at) vs (omega arith) ∙ drop-set-lt k l at v (omega arith)

  -- a put k places on is a put into what stands k places on
  pub drop-put-add : (k : ℕ) (l : List A) (at : ℕ) (vs : List A) → drop k (put l (k + at) vs) ≡ put (drop k l) at vs
  unfolding put
  drop-put-add k l at [] = refl
  drop-put-add k l at (v ∷ vs) = rw (← add-suc, drop-put-add k (set l (k + at) v) (suc at) vs, drop-set-add)

  -- a number outside what was put stays
  pub put_other : (l : List A) (at : ℕ) (vs : List A) (i : ℕ) (d : A) → (i < at) ⊎ (at + length vs ≤ i) → get_or (put l at vs) i d ≡ get_or l i d
  unfolding put
  put_other l at [] i d h = refl
  put_other l at (v ∷ vs) i d h =
      put_other (set l at v) (suc at) vs i d (⊎_elim (λ b. inl (omega arith)) (λ a. inr (omega arith)) h)
      ∙ get_or-set_other l at i v d (λ e. ⊎_elim (λ b. omega arith) (λ a. omega arith) h)

  -- a number inside what was put is the one that was put
  pub put-inside : (l : List A) (at : ℕ) (vs : List A) (j : ℕ) (d : A) → j < length vs → at + j < length l → get_or (put l at vs) (at + j) d ≡ get_or vs j d
  unfolding put
  put-inside l at [] j d h k = absurd (not-suc-le-zero h)
  put-inside l at (v ∷ vs) zero d h k =
      rw add-zero (put_other (set l at v) (suc at) vs at d (inl (omega arith)) ∙ get_or-set_same l at v d (omega arith))
  put-inside l at (v ∷ vs) (suc j) d h k =
      rw (add-suc, ← suc-add) (put-inside (set l at v) (suc at) vs j d (le_of_suc-le-suc h) (rw length-set (omega arith)))

  -- ---- entries laid end to end

  -- so many entries of one width are so many numbers
  pub length-flat : (w : ℕ) (es : List (List A)) → Wide w es → length (flat es) ≡ length es * w
  length-flat w [] h = sym (zero-mul w)
  length-flat w (e ∷ es) h = rw (length-append, h.0, length-flat w es h.1) (omega (arith, next_place (length es) w))

  -- two tables laid end to end
  pub flat_append : (es fs : List (List A)) → flat (es ++ fs) ≡ flat es ++ flat fs
  flat_append [] fs = refl
  flat_append (e ∷ es) fs = rw (flat_append es fs, append_assoc)

  -- two tables of one width make one
  pub wide-append : (w : ℕ) (es fs : List (List A)) → Wide w es → Wide w fs → Wide w (es ++ fs)
  wide-append w [] fs h k = k
  wide-append w (e ∷ es) fs h k = (h.0, wide-append w es fs h.1 k)

  -- an entry of the width in place of another leaves the width
  pub wide-set : (w : ℕ) (es : List (List A)) (i : ℕ) (e : List A) → Wide w es → length e ≡ w → Wide w (set es i e)
  wide-set w [] i e h k = tt
  wide-set w (x ∷ es) zero e h k = (k, h.1)
  wide-set w (x ∷ es) (suc i) e h k = (h.0, wide-set w es i e h.1 k)

  -- ---- entries read

  -- as many entries are read as were asked for
  pub length-entries : (w n : ℕ) (l : List A) → length (entries w n l) ≡ n
  length-entries w zero l = refl
  length-entries w (suc n) l = ap suc (length-entries w n (drop w l))

  -- entries that lie in the area have the width
  pub wide-entries : (w n : ℕ) (l : List A) → n * w ≤ length l → Wide w (entries w n l)
  wide-entries w zero l h = tt
  wide-entries w (suc n) l h =
      (length-take-le w l (omega (arith, next_place n w)), wide-entries w n (drop w l) (rw length-drop (omega (arith, next_place n w))))

  -- the entries read, laid end to end again, are the first numbers of the area
  pub flat-entries : (w n : ℕ) (l : List A) → flat (entries w n l) ≡ take (n * w) l
  flat-entries w zero l = rw zero-mul
  flat-entries w (suc n) l = rw (next_place n w, take-add, flat-entries w n (drop w l))

  -- what was laid is what is read
  pub entries-flat : (w : ℕ) (es : List (List A)) (r : List A) → Wide w es → entries w (length es) (flat es ++ r) ≡ es
  entries-flat w [] r h = refl
  entries-flat w (e ∷ es) r h =
      rw (append_assoc, take_at e (flat es ++ r) w h.0, drop_at e (flat es ++ r) w h.0, entries-flat w es r h.1)

  -- entry i of those read is the part of the area at its place
  pub entry-is : (w n i : ℕ) (l : List A) → i < n → get_or (entries w n l) i [] ≡ part l (i * w) w
  entry-is w zero i l h = absurd (not-suc-le-zero h)
  entry-is w (suc n) zero l h = rw zero-mul
  entry-is w (suc n) (suc i) l h = rw (next_place i w, ← drop-drop) (entry-is w n i (drop w l) (le_of_suc-le-suc h))

  -- number j of the part at a place
  pub part_at : (l : List A) (at n j : ℕ) (d : A) → j < n → get_or (part l at n) j d ≡ get_or l (at + j) d
  part_at l at n j d h = rw (get_or-take n (drop at l) j d h, get_or-drop at l j d)

  -- one entry more is read
  pub entries-more : (w n : ℕ) (l : List A) → entries w (suc n) l ≡ entries w n l ++ part l (n * w) w ∷ []
  entries-more w zero l = rw zero-mul
  entries-more w (suc n) l = rw (next_place n w, entries-more w n (drop w l), drop-drop)

  -- the last entry in use is the part of the area at its place
  pub last_entry : (w n : ℕ) (l : List A) → 0 < n → get_or (entries w n l) (n - 1) [] ≡ part l ((n - 1) * w) w
  last_entry w n l h = entry-is w n (n - 1) l (omega arith)

  -- ---- entries written

  -- a write leaves the length
  pub length-write : (w n : ℕ) (es : List (List A)) (l : List A) → length (write w n es l) ≡ length l
  unfolding write
  length-write w n es l = length-put l (n * w) (flat es)

  -- one entry written is its numbers put at its place
  pub write-one : (w n : ℕ) (e l : List A) → write w n (e ∷ []) l ≡ put l (n * w) e
  unfolding write
  write-one w n e l = rw append-nil

  -- nothing written changes nothing
  pub write-nil : (w n : ℕ) (l : List A) → write w n [] l ≡ l
  unfolding write put
  write-nil w n l = refl

  -- one more entry behind those written
  pub write-snoc : (w n : ℕ) (es : List (List A)) (e l : List A) → Wide w es → write w (n + length es) (e ∷ []) (write w n es l) ≡ write w n (es ++ e ∷ []) l
  unfolding write
  write-snoc w n es e l h =
      let q : (n + length es) * w ≡ n * w + length (flat es) = omega (arith, length-flat w es h) in
      rw (flat_append es (e ∷ []), q) (sym (put-append l (n * w) (flat es) (flat (e ∷ []))))

  -- what is read of a put past the first entry: that entry, and then the rest of a put one entry less far on
  entries_next : (w m n : ℕ) (l vs : List A) → entries w (suc m) (put l (suc n * w) vs) ≡ take w l ∷ entries w m (put (drop w l) (n * w) vs)
  entries_next w m n l vs = rw (next_place n w, take_put w l (w + n * w) vs (omega arith), drop-put-add)

  -- what is read before a put at an entry's place is what was read
  pub entries-put : (w m n : ℕ) (l vs : List A) → m ≤ n → entries w m (put l (n * w) vs) ≡ entries w m l
  entries-put w zero n l vs h = refl
  entries-put w (suc m) zero l vs h = absurd (not-suc-le-zero h)
  entries-put w (suc m) (suc n) l vs h = rw (entries_next w m n l vs, entries-put w m n (drop w l) vs (le_of_suc-le-suc h))

  -- entries before those written stay
  pub entries-before : (w m n : ℕ) (es : List (List A)) (l : List A) → m ≤ n → entries w m (write w n es l) ≡ entries w m l
  unfolding write
  entries-before w m n es l h = entries-put w m n l (flat es) h

  -- entries written behind those in use: what is read is what was read, and then what was written
  pub entries-grow : (w n : ℕ) (es : List (List A)) (l : List A) → Wide w es → (n + length es) * w ≤ length l → entries w (n + length es) (write w n es l) ≡ entries w n l ++ es
  unfolding write put
  entries-grow w zero es l we h =
      let f : 0 + length (flat es) ≤ length l = omega (arith, length-flat w es we) in
      rw (zero-mul, zero-add, sets-eq (flat es) l 0 f) (entries-flat w es (drop (0 + length (flat es)) l) we)
  entries-grow w (suc n) es l we h =
      rw (suc-add, entries_next w (n + length es) n l (flat es), entries-grow w n es (drop w l) we (rw length-drop (omega arith)))

  -- numbers put in place of an entry in use
  entries-put-in : (w n i : ℕ) (l e : List A) → length e ≡ w → i < n → n * w ≤ length l → entries w n (put l (i * w) e) ≡ set (entries w n l) i e
  unfolding put
  entries-put-in w zero i l e q h k = absurd (not-suc-le-zero h)
  entries-put-in w (suc n) zero l e q h k =
      let f : 0 + length e ≤ length l = omega (arith, next_place n w) in
      rw (zero-mul, drop-put w l 0 e (omega arith), sets-eq e l 0 f, take_at e (drop (0 + length e) l) w q)
  entries-put-in w (suc n) (suc i) l e q h k =
      rw (entries_next w n i l e, entries-put-in w n i (drop w l) e q (le_of_suc-le-suc h) (rw length-drop (omega (arith, next_place n w))))

  -- an entry written in place of one in use
  pub entries-set : (w n i : ℕ) (e l : List A) → length e ≡ w → i < n → n * w ≤ length l → entries w n (write w i (e ∷ []) l) ≡ set (entries w n l) i e
  entries-set w n i e l q h k = rw write-one (entries-put-in w n i l e q h k)

  -- ---- lists that match

  -- lists of unequal lengths do not match
  pub matches-length : (p : A → A → Bool) (xs ys : List A) → length xs ≢ length ys → matches p xs ys ≡ false
  unfolding matches
  matches-length p [] [] h = absurd (h refl)
  matches-length p [] (y ∷ ys) h = refl
  matches-length p (x ∷ xs) [] h = refl
  matches-length p (x ∷ xs) (y ∷ ys) h = rw (matches-length p xs ys (λ e. h (ap suc e)), and-false)

  -- a list matches itself where each number is equal to itself
  matches-self : (p : A → A → Bool) → ((x : A) → p x x ≡ true) → (xs : List A) → matches p xs xs ≡ true
  unfolding matches
  matches-self p r [] = refl
  matches-self p r (x ∷ xs) = rw (r x, matches-self p r xs)

  -- lists that match are equal where numbers that are equal in the sense of p are the same
  matches-only : (p : A → A → Bool) → ((x y : A) → p x y ≡ true → x ≡ y) → (xs ys : List A) → matches p xs ys ≡ true → xs ≡ ys
  unfolding matches
  matches-only p o [] [] h = refl
  matches-only p o [] (y ∷ ys) h = absurd (false≢true h)
  matches-only p o (x ∷ xs) [] h = absurd (false≢true h)
  matches-only p o (x ∷ xs) (y ∷ ys) h =
      let both = (and-eq-true_iff (p x y) (matches p xs ys)).0 h in
      rw (o x y both.0, matches-only p o xs ys both.1)

  -- to match by a test of equality is to be equal
  pub matches-is : (p : A → A → Bool) → ((x y : A) → (p x y ≡ true) ↔ (x ≡ y)) → (xs ys : List A) → (matches p xs ys ≡ true) ↔ (xs ≡ ys)
  matches-is p t xs ys =
      (matches-only p (λ x y. (t x y).0) xs ys, λ e. rw (← e) (matches-self p (λ x. (t x x).1 refl) xs))

  -- to match is to match the other way round by the test with its sides changed
  matches-flip : (p : A → A → Bool) (xs ys : List A) → matches p xs ys ≡ matches (λ y x. p x y) ys xs
  unfolding matches
  matches-flip p [] [] = refl
  matches-flip p [] (y ∷ ys) = refl
  matches-flip p (x ∷ xs) [] = refl
  matches-flip p (x ∷ xs) (y ∷ ys) = rw (matches-flip p xs ys)

  -- a list with a number that equals nothing matches none
  matches-never : (p : A → A → Bool) (x : A) → ((y : A) → p x y ≡ false) → (xs ys : List A) (j : ℕ) (d : A) → j < length xs → get_or xs j d ≡ x → matches p xs ys ≡ false
  unfolding matches
  matches-never p x never [] ys j d h e = absurd (not-suc-le-zero h)
  matches-never p x never (a ∷ xs) [] j d h e = refl
  matches-never p x never (a ∷ xs) (y ∷ ys) zero d h e = rw (e, never y)
  matches-never p x never (a ∷ xs) (y ∷ ys) (suc j) d h e =
      rw (matches-never p x never xs ys j d (le_of_suc-le-suc h) e, and-false)

-- two numbers without a sign are equal just where their test says so
eqb_is : (m n : ℕ) → (eqb m n ≡ true) ↔ (m ≡ n)
eqb_is m n = (eqb-true m n, eq-eqb m n)

-- two numbers with a sign are equal just where their test says so
pub eqbℤ-is : (x y : ℤ) → (eqbℤ x y ≡ true) ↔ (x ≡ y)
unfolding eqbℤ
eqbℤ-is (pos m) (pos n) = (λ e. ap pos (eqb-true m n e), λ e. eq-eqb m n (cc))
eqbℤ-is (pos m) (negsuc n) = (λ e. absurd (false≢true e), λ e. absurd (pos-ne-negsuc m n e))
eqbℤ-is (negsuc m) (pos n) = (λ e. absurd (false≢true e), λ e. absurd (pos-ne-negsuc n m (sym e)))
eqbℤ-is (negsuc m) (negsuc n) = (λ e. ap negsuc (eqb-true m n e), λ e. eq-eqb m n (cc))

-- lists of numbers without a sign match just where they are equal
pub matches-eqb : (xs ys : List ℕ) → (matches eqb xs ys ≡ true) ↔ (xs ≡ ys)
matches-eqb = matches-is eqb eqb_is

-- lists of numbers with a sign match just where they are equal
pub matches-eqbℤ : (xs ys : List ℤ) → (matches eqbℤ xs ys ≡ true) ↔ (xs ≡ ys)
matches-eqbℤ = matches-is eqbℤ eqbℤ-is

-- a NaN equals nothing
nan_eq : (y : Float) → eq nan y ≡ false
unfolding eq
nan_eq y = refl

-- nothing equals a NaN
eq-nan : (x : Float) → eq x nan ≡ false
unfolding eq
eq-nan nan = refl
eq-nan (inf s) = refl
eq-nan (fin s m e) = refl

-- zeros are equal, of either sign
pub eq-zero : (s t : Bool) (e d : ℤ) → eq (fin s 0 e) (fin t 0 d) ≡ true
unfolding eq
eq-zero s t e d = simp (zero-mul, or-true)

-- lists of floats of which one has a NaN do not match
pub matches-nan : (xs ys : List Float) (j : ℕ) (d : Float) → ((j < length xs) × (get_or xs j d ≡ nan)) ⊎ ((j < length ys) × (get_or ys j d ≡ nan)) → matches eq xs ys ≡ false
matches-nan xs ys j d h =
    ⊎_elim
    (λ a. matches-never eq nan nan_eq xs ys j d a.0 a.1)
    (λ b. matches-flip eq xs ys ∙ matches-never (λ y x. eq x y) nan eq-nan ys xs j d b.0 b.1)
    h
