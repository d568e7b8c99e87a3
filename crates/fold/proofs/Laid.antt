-- The loop over the lights: what its turns leave in the area. Assumes nothing.
use Prim.Native.Nat.{ℕ, ◌+◌, ◌*◌}
use native.Mathlib.Omega.{arith}
use mathlib.Core.Path.{◌≡◌, sym, ap, ◌∙◌}
use mathlib.Core.List.{List, [], ◌∷◌, ◌++◌}
use lib.Ieee.{Float}
use lib.ListN.{length}
use Rattle.areas.specs.Area.{Wide, put, write}
use Rattle.areas.specs.Widths.{light_width}
use Rattle.areas.proofs.Tables.{length-write, write-one, write-nil, write-snoc}
use Rattle.fold.specs.Lights.{light_entry, ambient_entry, directional, light_entries}
use Rattle.fold.proofs.Believe.{directional-more, length-directional, wide-directional}

-- an entry put behind entries that are written is one entry more
put-behind : {A : Type 0} (w n p : ℕ) (es : List (List A)) (e l : List A) → Wide w es → p ≡ n * w + length es * w → put (write w n es l) p e ≡ write w n (es ++ e ∷ []) l
put-behind w n p es e l h q =
    let r : p ≡ (n + length es) * w = omega arith in
    rw (r, ← write-one w (n + length es) e (write w n es l)) (write-snoc w n es e l h)

module _ (m : List (List Float)) (ds cs : List Float) (n : ℕ) (l : List Float) where
  -- the area a that the loop leaves of the area l, once the entries of k lights are written from entry n on
  pub record Lit (a : List Float) (k : ℕ) : Type 0 where
    pub same : a ≡ write light_width n (directional m ds cs k) l
    pub long : length a ≡ length l

module _ {m : List (List Float)} {ds cs : List Float} {n : ℕ} {l : List Float} where
  -- the length goes with what is written
  lit : {a : List Float} {k : ℕ} → a ≡ write light_width n (directional m ds cs k) l → Lit m ds cs n l a k
  lit {a} {k} e = record { same = e; long = ap length e ∙ length-write light_width n (directional m ds cs k) l }

  -- nothing is written yet
  pub lit-none : Lit m ds cs n l l 0
  unfolding directional
  lit-none = lit (sym (write-nil light_width n l))

  module _ {a : List Float} {k : ℕ} (b e : List Float) (p q : ℕ) (s : Lit m ds cs n l a k) (i : p ≡ n * light_width) (j : q ≡ k * light_width) (h : b ≡ put a (p + q) e) where
    -- what an entry put behind those of k lights leaves, at the place that the code adds up
    behind : b ≡ write light_width n (directional m ds cs k ++ e ∷ []) l
    behind =
        let w : p + q ≡ n * light_width + length (directional m ds cs k) * light_width = omega (arith, length-directional m ds cs k) in
        rw (h, s.same) (put-behind light_width n (p + q) (directional m ds cs k) e l (wide-directional m ds cs k) w)

    -- one more light
    pub lit-more : e ≡ light_entry m ds cs k → Lit m ds cs n l b (k + 1)
    lit-more u = lit (rw (directional-more m ds cs k, ← u) behind)

    -- the ambient colour behind all lights
    pub lit-all : (ambient : List Float) → e ≡ ambient_entry ambient → b ≡ write light_width n (light_entries m ds cs ambient k) l
    unfolding light_entries
    lit-all ambient u = rw (← u) behind
