-- Laws on lists, tests and marks. Assumes nothing.
use mathlib.Core.Path.{◌≡◌, refl, sym, ap, ◌∙◌}
use Prim.Native.Nat.{ℕ, zero, suc, ◌+◌, ◌-◌, ◌≤◌, ◌<◌}
use native.Mathlib.Decide.{ℕ_discrete, dec_lt}
use native.Mathlib.Omega.{arith}
use mathlib.Core.Bool.{Bool, true, false, ◌&&◌, false≢true}
use mathlib.Core.List.{List, [], ◌∷◌, ◌++◌, append-nil}
use lib.ListN.{length, get_or, set, replicate, length-append, get_or-append}
use lib.Seq.{get_or-set_same, get_or-set_other, get_or-append_seam, get_or-append-add, set-get_or}
use Rattle.areas.specs.Area.{part}
use Rattle.decide.specs.Append.{final}
use Rattle.stage.specs.Plan.{pick}

pub pick_true : {A : Type 0} (t : Bool) (x y : A) → t ≡ true → pick t x y ≡ x
unfolding pick
pick_true t x y e = rw e

pub pick-false : {A : Type 0} (t : Bool) (x y : A) → t ≡ false → pick t x y ≡ y
unfolding pick
pick-false t x y e = rw e

pub pick-case : {A : Type 0} (P : A → Type 0) (t : Bool) {x y : A} → (t ≡ true → P x) → (t ≡ false → P y) → P (pick t x y)
unfolding pick
pick-case P true f g = f refl
pick-case P false f g = g refl

pub and_both : (s t : Bool) → s ≡ true → t ≡ true → s && t ≡ true
and_both true t e f = f
and_both false t e f = e

-- the second test fails
pub and-fails : (s t : Bool) → t ≡ false → s && t ≡ false
and-fails true t e = e
and-fails false t e = refl

-- a mark that is set lies inside
pub marked-below : (l : List Bool) (k : ℕ) → get_or l k false ≡ true → k < length l
marked-below [] k h = absurd (false≢true h)
marked-below (x ∷ l) zero h = omega arith
marked-below (x ∷ l) (suc k) h = omega (arith, marked-below l k h)

-- no mark of n cleared ones is set
pub unmarked : (n k : ℕ) → get_or (replicate n false) k false ≡ false
unmarked zero k = refl
unmarked (suc n) zero = refl
unmarked (suc n) (suc k) = unmarked n k

pub none-marked : (n k : ℕ) → get_or (replicate n false) k false ≡ true → ⊥
none-marked n k e = false≢true (sym (unmarked n k) ∙ e)

-- a set mark set again
pub set-true : (l : List Bool) (k : ℕ) → get_or l k false ≡ true → set l k true ≡ l
set-true l k e = ap (set l k) (sym e) ∙ set-get_or l k false

module _ {A : Type 0} where
  -- what holds of every element, and of those appended, holds of all
  pub append_cases : (P : ℕ → A → Type 0) (l m : List A) (d : A) → ((j : ℕ) → j < length l → P j (get_or l j d))
      → ((j : ℕ) → j < length m → P (length l + j) (get_or m j d)) → (j : ℕ) → j < length (l ++ m) → P j (get_or (l ++ m) j d)
  append_cases P l m d old new j h = go (dec_lt j (length l))
    where
      go : Dec (j < length l) → P j (get_or (l ++ m) j d)
      go (yes e) = rw (get_or-append l m d j e) (old j e)
      go (no n) =
          let q : j ≡ length l + (j - length l) = omega arith in
          rw (q, get_or-append-add l m (j - length l) d) (new (j - length l) (omega (arith, length-append l m)))

  -- and of the one appended
  pub snoc-cases : (P : ℕ → A → Type 0) (l : List A) (x d : A) → ((j : ℕ) → j < length l → P j (get_or l j d)) → P (length l) x
      → (j : ℕ) → j < length (l ++ x ∷ []) → P j (get_or (l ++ x ∷ []) j d)
  snoc-cases P l x d old new j h = go (dec_lt j (length l))
    where
      go : Dec (j < length l) → P j (get_or (l ++ x ∷ []) j d)
      go (yes e) = rw (get_or-append l (x ∷ []) d j e) (old j e)
      go (no n) =
          let q : j ≡ length l = omega (arith, length-append l (x ∷ [])) in
          rw (q, get_or-append_seam l x [] d) new

  -- and of the one replaced
  pub set_cases : (P : ℕ → A → Type 0) (l : List A) (k : ℕ) (x d : A) → k < length l → (j : ℕ) → P j (get_or l j d) → P k x → P j (get_or (set l k x) j d)
  set_cases P l k x d h j old new = go (ℕ_discrete j k)
    where
      go : Dec (j ≡ k) → P j (get_or (set l k x) j d)
      go (yes e) = rw (e, get_or-set_same l k x d h) new
      go (no n) = rw (get_or-set_other l k j x d n) old

  -- the last of a list with one more
  pub final-snoc : (t : List (List A)) (e : List A) → final (t ++ e ∷ []) ≡ e
  final-snoc t e =
      let q : length (t ++ e ∷ []) - 1 ≡ length t = omega (arith, length-append t (e ∷ [])) in
      rw q (get_or-append_seam t e [] [])

  -- ---- a list that goes on

  pub record Longer (l m : List A) : Type 0 where
    pub more : List A
    pub is : m ≡ l ++ more

  pub same : (l : List A) → Longer l l
  same l = record { more = []; is = sym (append-nil l) }

  pub with-more : (l m : List A) → Longer l (l ++ m)
  with-more l m = record { more = m; is = refl }

  pub longer-length : {l m : List A} → Longer l m → length l ≤ length m
  longer-length {l} {m} x = rw (x.is, length-append) (omega arith)

  pub longer-at : {l m : List A} → Longer l m → (d : A) (i : ℕ) → i < length l → get_or m i d ≡ get_or l i d
  longer-at {l} {m} x d i h = rw x.is (get_or-append l x.more d i h)

  -- a part that lies inside stays
  part-append : (l m : List A) (at n : ℕ) → at + n ≤ length l → part (l ++ m) at n ≡ part l at n
  part-append [] m zero zero h = refl
  part-append [] m zero (suc n) h = absurd (omega arith)
  part-append [] m (suc at) n h = absurd (omega arith)
  part-append (x ∷ l) m zero zero h = refl
  part-append (x ∷ l) m zero (suc n) h = ap (λ (t : List A). x ∷ t) (part-append l m zero n (omega arith))
  part-append (x ∷ l) m (suc at) n h = part-append l m at n (omega arith)

  pub longer-part : {l m : List A} → Longer l m → (at n : ℕ) → at + n ≤ length l → part m at n ≡ part l at n
  longer-part {l} {m} x at n h = rw x.is (part-append l x.more at n h)

-- what holds of 0, 1 and 2 holds below 3
pub three : (P : ℕ → Type 0) → P 0 → P 1 → P 2 → (j : ℕ) → j < 3 → P j
three P a b c zero h = a
three P a b c (suc zero) h = b
three P a b c (suc (suc zero)) h = c
three P a b c (suc (suc (suc j))) h = absurd (omega arith)
