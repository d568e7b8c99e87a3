-- What the library's copies leave of an area, as a put. Assumes nothing.
use Prim.Native.Nat.{ℕ, zero, suc, ◌+◌, ◌-◌, ◌≤◌}
use Rattle.std.specs.Prelude.{min}
use native.Mathlib.Omega.{arith}
use mathlib.Core.Path.{◌≡◌, refl, sym, ap, ◌∙◌}
use mathlib.Core.List.{List, [], ◌∷◌, ◌++◌, append_assoc}
use borrow.Rule.Slice.PartMut.{put_mid}
use lib.ListN.{length, take, drop, take-append-drop, length-drop}
use lib.Seq.{paste, take_all, length-take-le, set_out, sets-eq, drop-drop}
use Rattle.areas.specs.Area.{part, put}
use Rattle.areas.proofs.Tables.{length-put, put-append}

module _ {A : Type 0} where
  -- a put past the area's end leaves it
  put-out : (l : List A) (at : ℕ) (vs : List A) → length l ≤ at → put l at vs ≡ l
  unfolding put
  put-out l at [] h = refl
  put-out l at (v ∷ vs) h = rw (set_out l at v h) (put-out l (suc at) vs (omega arith))

  -- a put of numbers that lie inside is a paste
  put-inside-is : (l : List A) (at : ℕ) (vs : List A) → at + length vs ≤ length l → put l at vs ≡ take at l ++ vs ++ drop (at + length vs) l
  unfolding put
  put-inside-is l at vs h = sets-eq vs l at h

  -- of numbers put at a place, so many count as the area has from there on
  put-cut : (l : List A) (at w : ℕ) (vs : List A) → at ≤ length l → w ≡ min (length vs) (length l - at) → put l at (take w vs) ≡ put l at vs
  put-cut l at w vs h e = by (length vs - w) refl
    where
      by : (n : ℕ) → length vs - w ≡ n → put l at (take w vs) ≡ put l at vs
      by zero m = rw (take_all w vs (omega arith))
      by (suc n) m =
          let long : length (take w vs) ≡ w = length-take-le w vs (omega arith) in
          let out : length (put l at (take w vs)) ≤ at + length (take w vs) = omega (arith, length-put l at (take w vs)) in
          sym (put-out _ _ (drop w vs) out) ∙ sym (put-append l at (take w vs) (drop w vs)) ∙ ap (put l at) (take-append-drop w vs)

  -- the entry copied into the part of the area that it has, w numbers from s on
  pub put-part : (l : List A) (at s w : ℕ) (vs ys : List A) → s ≡ min at (length l) → w ≡ min (length vs) (length l - s) → ys ≡ take w vs → put_mid s (s + w - s) l ys ≡ put l at vs
  put-part l at s w vs ys hs hw hy = rw (k, hy) (by (length l - at) refl)
    where
      k : s + w - s ≡ w
      k = omega arith

      by : (n : ℕ) → length l - at ≡ n → put_mid s w l (take w vs) ≡ put l at vs
      by zero e =
          let z : w ≡ 0 = omega arith in
          rw z (take-append-drop s l) ∙ sym (put-out l at vs (omega arith))
      by (suc n) e =
          let q : s ≡ at = omega arith in
          let long : length (take w vs) ≡ w = length-take-le w vs (omega arith) in
          let inside : put l at (take w vs) ≡ take at l ++ (take w vs ++ drop (at + w) l) = rw (put-inside-is l at (take w vs) (omega arith), long, append_assoc) in
          let cut = put-cut l at w vs (omega arith) (rw (← q) hw) in
          rw (q, drop-drop) (sym inside ∙ cut)

  -- the part of an area copied to another place
  pub copy-part : (l : List A) (from to w : ℕ) → (from + w ≤ length l) × (to + w ≤ length l) → paste l to (drop from l) (from + w - from) ≡ put l to (part l from w)
  copy-part l from to w h =
      let n : length (part l from w) ≡ w = length-take-le w (drop from l) (rw length-drop (omega arith)) in
      let k : from + w - from ≡ w = omega arith in
      rw (k, put-inside-is l to (part l from w) (omega arith), n)
