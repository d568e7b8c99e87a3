-- A row of an area copied, changed and put back: what stands there, over the element type and the width of a row. Assumes nothing.
use Prim.Native.Nat.{ℕ, suc, ◌+◌, ◌-◌, ◌*◌, ◌≤◌, ◌<◌}
use native.Mathlib.Nat.{add-zero, zero-add, mul-le-mul_right, suc-mul}
use native.Mathlib.Omega.{arith}
use mathlib.Core.Bool.{Bool, true, false}
use mathlib.Core.Logic.{◌≢◌, ◌⊎◌, inl, inr, ⊎_elim}
use mathlib.Core.Path.{◌≡◌, refl, sym, ◌∙◌}
use mathlib.Core.List.{List, [], ◌∷◌, ◌++◌, append_assoc}
use lib.ListN.{length, take, drop, length-drop, take-append-drop}
use lib.Seq.{length-take-le, sets-eq, take-add, take_at, take-take, drop_at, paste, length-paste}
use lib.Dec.{ltb}
use borrow.Author.Tests.{ltb-true, ltb-false}
use borrow.Rule.Slice.PartMut.{mid_of, put_mid}
use Rattle.areas.specs.Area.{part, put, write}
use Rattle.areas.proofs.Puts.{copy-part}
use Rattle.areas.proofs.Tables.{take_put, drop-put, drop-put-add, write-one}

-- two numbers that are not the same
apart : (i t : ℕ) → i ≢ t → (i < t) ⊎ (t < i)
apart i t d = go (ltb i t) refl
  where
    go : (b : Bool) → ltb i t ≡ b → (i < t) ⊎ (t < i)
    go true e = inl (ltb-true i t e)
    go false e = let h : t ≤ i = ltb-false i t e in inr (omega arith)

module _ {A : Type 0} where
  -- a part that lies in the area has all its numbers
  pub part-long : (l : List A) (at n : ℕ) → at + n ≤ length l → length (part l at n) ≡ n
  part-long l at n h = length-take-le n (drop at l) (rw length-drop (omega arith))

  -- a row put in its own place is there
  pub own-place : (l : List A) (w from to : ℕ) → (from ≤ to) × (to * w + w ≤ length l) → to ≤ from → l ≡ put l (to * w) (part l (from * w) w)
  unfolding put
  own-place l w from to h k =
      let e : from ≡ to = omega arith in
      let long = part-long l (to * w) w h.1 in
      rw e (sym (sets-eq (part l (to * w) w) l (to * w) (rw long h.1) ∙ rw (long, ← take-add) (take-append-drop (to * w + w) l)))

  -- numbers put at the front stand there
  put-zero : (l vs : List A) → length vs ≤ length l → put l 0 vs ≡ vs ++ drop (length vs) l
  unfolding put
  put-zero l vs h = rw (← zero-add (length vs)) (sets-eq vs l 0 (rw zero-add h))

  -- what was put is read again
  pub part-put : (l : List A) (at : ℕ) (vs : List A) (n : ℕ) → length vs ≡ n → at + n ≤ length l → part (put l at vs) at n ≡ vs
  part-put l at vs n e h =
      let d : drop at (put l at vs) ≡ put (drop at l) 0 vs = rw add-zero at (drop-put-add at l 0 vs) in
      rw (d, put-zero (drop at l) vs (rw (length-drop, e) (omega arith)), take_at vs (drop (length vs) (drop at l)) n e)

  -- a row copied from place b to place a and then changed there is the changed row put at place a; f is the change
  copied : (f : List A → List A) (l ys : List A) (w b a : ℕ) → b + w ≤ length l → a + w ≤ length l → length ys ≡ w
      → ys ≡ f (part (paste l a (drop b l) w) a w) → put_mid a w (paste l a (drop b l) w) ys ≡ put l a (f (part l b w))
  unfolding put
  copied f l ys w b a hb ha n e =
      let front : length (take a l) ≡ a = length-take-le a l (omega arith) in
      let row : length (part l b w) ≡ w = part-long l b w hb in
      let rest = part l b w ++ drop (a + w) l in
      let whole : paste l a (drop b l) w ≡ take a l ++ rest = append_assoc (take a l) (part l b w) (drop (a + w) l) in
      let before : take a (paste l a (drop b l) w) ≡ take a l = rw whole (take_at (take a l) rest a front) in
      let behind : drop a (paste l a (drop b l) w) ≡ rest = rw whole (drop_at (take a l) rest a front) in
      let read : part (paste l a (drop b l) w) a w ≡ part l b w = rw behind (take_at (part l b w) (drop (a + w) l) w row) in
      let same : f (part l b w) ≡ ys = sym (rw read at e) in
      rw (same, sets-eq ys l a (rw n ha), n, before, behind, drop_at (part l b w) (drop (a + w) l) w row) (sym (append_assoc (take a l) ys (drop (a + w) l)))

  -- the same of row `from`, changed and written as row `to`, where the code's numbers are those of the rows
  pub remade : (f : List A → List A) (l m ys : List A) (w from to n start at : ℕ) → (from ≤ to) × (to * w + w ≤ length l) → n ≡ w → start ≡ from * w → at ≡ to * w
      → m ≡ put l at (part l start n) → ys ≡ f (mid_of at (at + n - at) m) → length ys ≡ length (mid_of at (at + n - at) m)
      → put_mid at (at + n - at) m ys ≡ write w to (f (part l (from * w) w) ∷ []) l
  remade f l m ys w from to n start at h en es ea em ey el =
      let k : from * w ≤ to * w = mul-le-mul_right w h.0 in
      let i : at + n - at ≡ w = omega arith in
      let j : start + w - start ≡ w = omega arith in
      let laid : paste l at (drop start l) (start + w - start) ≡ put l at (part l start w) = copy-part l start at w (omega arith, omega arith) in
      let copy : m ≡ paste l at (drop start l) w = rw en at em ∙ sym (rw j at laid) in
      let whole : length m ≡ length l = rw copy (length-paste l at (drop start l) w (omega arith) (rw length-drop (omega arith))) in
      let long : length ys ≡ w = rw i at el ∙ part-long m at w (omega arith) in
      rw (write-one, ← es, ← ea, i, copy) (copied f l ys w start at (omega arith) (omega arith) long (rw (i, copy) at ey))

  -- a row that is not written stays
  pub elsewhere : (l vs : List A) (w i t n : ℕ) → length vs ≡ w → n ≤ w → i ≢ t → part (write w t (vs ∷ []) l) (i * w) n ≡ part l (i * w) n
  elsewhere l vs w i t n e h d =
      ⊎_elim
      (λ b.
      let k : suc i * w ≤ t * w = mul-le-mul_right w b in
      let q : t * w ≡ i * w + (t * w - i * w) = omega (arith, suc-mul i w) in
      rw (write-one, q, drop-put-add (i * w) l (t * w - i * w) vs, take_put n (drop (i * w) l) (t * w - i * w) vs (omega (arith, suc-mul i w))))
      (λ b.
      let k : suc t * w ≤ i * w = mul-le-mul_right w b in
      rw (write-one, drop-put (i * w) l (t * w) vs (omega (arith, suc-mul t w))))
      (apart i t d)

  -- the numbers of the row that is written
  pub there : (l vs : List A) (w t n : ℕ) → length vs ≡ w → n ≤ w → t * w + w ≤ length l → part (write w t (vs ∷ []) l) (t * w) n ≡ take n vs
  there l vs w t n e h k =
      rw (write-one, ← take-take n w (drop (t * w) (put l (t * w) vs)) h, part-put l (t * w) vs w e k)
