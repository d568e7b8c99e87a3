-- Slots in order: all of them have a bit, or one is the first that lacks it. Assumes nothing.
use mathlib.Core.Path.{◌≡◌, refl, sym, ap, ◌∙◌}
use Prim.Native.Nat.{ℕ, zero, suc, ◌+◌, ◌≤◌, ◌<◌}
use native.Mathlib.Omega.{arith}
use mathlib.Core.Bool.{Bool, true, false, not, cond, ◌&&◌, and-eq-true_iff, false≢true}
use mathlib.Core.List.{List}
use lib.ListN.{get_or}
use Rattle.std.specs.List.{find}
use Rattle.std.proofs.Common.{Option, None, Some}
use lib.Dec.{eqb}
use borrow.Author.Tests.{eqb-true, eqb-false}
use Rattle.numbers.specs.Choice.{pick}
use Rattle.decide.specs.Family.{flag}
use Rattle.reason.specs.Reason.{slots_from, codes_at, all_outside, first_inside}

module _ (v : ℕ) (code : List ℕ) where
  -- slot j has the bit
  abbrev Has : ℕ → Type 0
  Has j = flag v (get_or code j 0) ≡ true

  -- the slots from i on, n of them
  abbrev codes : ℕ → ℕ → List ℕ
  codes i n = codes_at code (slots_from i n)

  -- every one has it
  pub all-each : (n i : ℕ) → all_outside v (codes i n) ≡ true → (j : ℕ) → i ≤ j → j < i + n → Has j
  all-each zero i e j h k = absurd (omega arith)
  all-each (suc n) i e j h k =
      let both = (and-eq-true_iff (flag v (get_or code i 0)) (all_outside v (codes (i + 1) n))).0 e in
      go both.0 (all-each n (i + 1) both.1) (eqb i j) refl
    where
      go : Has i → ((j : ℕ) → i + 1 ≤ j → j < i + 1 + n → Has j) → (b : Bool) → eqb i j ≡ b → Has j
      go a r true q = let p : i ≡ j = eqb-true i j q in rw (← p) a
      go a r false q = let p = eqb-false i j q in r j (omega arith) (omega arith)

  pub each_all : (n i : ℕ) → ((j : ℕ) → i ≤ j → j < i + n → Has j) → all_outside v (codes i n) ≡ true
  each_all zero i f = refl
  each_all (suc n) i f =
      (and-eq-true_iff (flag v (get_or code i 0)) (all_outside v (codes (i + 1) n))).1
      (f i (omega arith) (omega arith), each_all n (i + 1) (λ j h k. f j (omega arith) (omega arith)))

  -- the first of them that lacks it, searched for
  abbrev pub sought : ℕ → ℕ → Option ℕ
  sought i n = find (λ (j : ℕ). not (flag v (get_or code j 0))) (slots_from i n)

  -- where none is found, every one has it
  pub none-lacks : (n i : ℕ) → sought i n ≡ None → all_outside v (codes i n) ≡ true
  none-lacks zero i e = refl
  none-lacks (suc n) i e = by (flag v (get_or code i 0)) _ _ (none-lacks n (i + 1)) e
    where
      by : (b : Bool) (r : Option ℕ) (a : Bool) → (r ≡ None → a ≡ true) → cond (not b) (Some i) r ≡ None → b && a ≡ true
      by true r a h e = h e
      by false r a h e = cc

  -- one that is found lacks it, and is the first
  pub some-lacks : (n i x : ℕ) → sought i n ≡ Some x → (all_outside v (codes i n) ≡ false) × (x ≡ first_inside v i (codes i n))
  unfolding pick
  some-lacks zero i x e = absurd (cc)
  some-lacks (suc n) i x e = by (flag v (get_or code i 0)) _ _ _ (some-lacks n (i + 1) x) e
    where
      by : (b : Bool) (r : Option ℕ) (a : Bool) (f : ℕ) → (r ≡ Some x → (a ≡ false) × (x ≡ f)) → cond (not b) (Some i) r ≡ Some x → (b && a ≡ false) × (x ≡ pick b f i)
      by true r a f h e = h e
      by false r a f h e = (refl, cc)

  -- x is the first of them that lacks it
  pub record Found (i n x : ℕ) : Type 0 where
    pub from : i ≤ x
    pub upto : x < i + n
    pub lacks : flag v (get_or code x 0) ≡ false
    pub earlier : (j : ℕ) → i ≤ j → j < x → Has j

  found-more : (i n x : ℕ) → Has i → Found (i + 1) n x → Found i (suc n) x
  found-more i n x a f =
      let l = f.from in
      let u = f.upto in
      record { from = omega arith; upto = omega arith; lacks = f.lacks; earlier = λ j h k. go j h k (eqb i j) refl }
    where
      go : (j : ℕ) → i ≤ j → j < x → (b : Bool) → eqb i j ≡ b → Has j
      go j h k true q = let p : i ≡ j = eqb-true i j q in rw (← p) a
      go j h k false q = let p = eqb-false i j q in f.earlier j (omega arith) k

  pub found : (n i : ℕ) → all_outside v (codes i n) ≡ false → Found i n (first_inside v i (codes i n))
  unfolding pick
  found zero i e = absurd (false≢true (sym e))
  found (suc n) i e = go (flag v (get_or code i 0)) refl (λ q. found n (i + 1) (sym (ap (λ (b : Bool). b && all_outside v (codes (i + 1) n)) q) ∙ e))
    where
      go : (b : Bool) → flag v (get_or code i 0) ≡ b → (flag v (get_or code i 0) ≡ true → Found (i + 1) n (first_inside v (i + 1) (codes (i + 1) n)))
          → Found i (suc n) (first_inside v i (codes i (suc n)))
      go true q f = rw q (found-more i n _ q (f q))
      go false q f = rw q (record { from = omega arith; upto = omega arith; lacks = q; earlier = λ j h k. absurd (omega arith) })
