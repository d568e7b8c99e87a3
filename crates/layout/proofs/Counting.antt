-- Marks that say no, counted one by one. Assumes nothing.
use mathlib.Core.Path.{◌≡◌, refl, subst}
use mathlib.Core.Logic.{◌↔◌}
use Prim.Native.Nat.{ℕ, zero, suc, ◌+◌, ◌≤◌, ◌<◌}
use native.Mathlib.Nat.{add-zero}
use native.Mathlib.Omega.{arith}
use mathlib.Core.Bool.{Bool, true, false, not}
use lib.Dec.{T, ltb, ltb→lt, nltb→le}
use Rattle.numbers.specs.Choice.{pick}
use Rattle.layout.specs.Layout.{noes}

-- P holds up to n and of n: so it holds up to n + 1
upto : (P : ℕ → Type 0) (n : ℕ) → ((k : ℕ) → k < n → P k) → P n → (k : ℕ) → k < suc n → P k
upto P n f p k h = go (ltb k n) (ltb→lt k n) (nltb→le k n)
  where
    go : (t : Bool) → (T t → k < n) → (T (not t) → n ≤ k) → P k
    go true y z = f k (y tt)
    go false y z = let e : n ≡ k = omega (arith, z tt) in subst P e p

-- the same marks have as many
pub noes-same : (b d : ℕ → Bool) (n : ℕ) → ((k : ℕ) → k < n → b k ≡ d k) → noes b n ≡ noes d n
unfolding noes
noes-same b d zero f = refl
noes-same b d (suc n) f = rw (noes-same b d n (λ k h. f k (omega arith)), f n (omega arith))

module _ (b : ℕ → Bool) where
  -- of n marks at most n
  pub noes-most : (n : ℕ) → noes b n ≤ n
  unfolding noes pick
  noes-most zero = omega arith
  noes-most (suc n) = go (b n) refl (noes-most n)
    where
      go : (t : Bool) → b n ≡ t → noes b n ≤ n → noes b (suc n) ≤ suc n
      go true q h = rw q (omega arith)
      go false q h = rw q (omega arith)

  -- NONE exactly where each mark says yes
  pub noes-none : (n : ℕ) → (noes b n ≡ 0) ↔ ((k : ℕ) → k < n → b k ≡ true)
  unfolding noes pick
  noes-none zero = (λ e k h. absurd (omega arith), λ f. refl)
  noes-none (suc n) = (
    λ e. go (b n) refl e (noes-none n).0,
    λ f. rw (f n (omega arith), (noes-none n).1 (λ k h. f k (omega arith))),
  )
    where
      go : (t : Bool) → b n ≡ t → noes b (suc n) ≡ 0 → (noes b n ≡ 0 → (k : ℕ) → k < n → b k ≡ true) → (k : ℕ) → k < suc n → b k ≡ true
      go true q e f = upto (λ (k : ℕ). b k ≡ true) n (f (omega (arith, rw q at e))) q
      go false q e f = absurd (omega (arith, rw q at e))

  -- ALL exactly where each says no
  pub noes-all : (n : ℕ) → (noes b n ≡ n) ↔ ((k : ℕ) → k < n → b k ≡ false)
  unfolding noes pick
  noes-all zero = (λ e k h. absurd (omega arith), λ f. refl)
  noes-all (suc n) = (
    λ e. go (b n) refl e (noes-all n).0,
    λ f. rw (f n (omega arith), (noes-all n).1 (λ k h. f k (omega arith))) (omega arith),
  )
    where
      go : (t : Bool) → b n ≡ t → noes b (suc n) ≡ suc n → (noes b n ≡ n → (k : ℕ) → k < n → b k ≡ false) → (k : ℕ) → k < suc n → b k ≡ false
      go true q e f = absurd (omega (arith, noes-most n, rw q at e))
      go false q e f = upto (λ (k : ℕ). b k ≡ false) n (f (omega (arith, rw q at e))) q

  -- four from k on, as a row counts them
  pub noes-four : (k w x y z : ℕ) → w ≡ pick (b k) 0 1 → x ≡ pick (b (k + 1)) 0 1 → y ≡ pick (b (k + 2)) 0 1 → z ≡ pick (b (k + 3)) 0 1 → w + x + y + z ≡ noes (λ j. b (k + j)) 4
  unfolding noes
  noes-four k w x y z e f g h = let o : w ≡ pick (b (k + 0)) 0 1 = rw (add-zero) e in omega (arith, o, f, g, h)

-- sixteen, as four rows count them
pub noes-rows : (b : ℕ → Bool) (w x y z : ℕ) → w ≡ noes (λ j. b (0 + j)) 4 → x ≡ noes (λ j. b (4 + j)) 4 → y ≡ noes (λ j. b (8 + j)) 4 → z ≡ noes (λ j. b (12 + j)) 4
    → w + x + y + z ≡ noes b 16
unfolding noes
noes-rows b w x y z e f g h = omega (arith, e, f, g, h)
