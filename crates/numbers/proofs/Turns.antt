-- A turn of `nearest_root`'s loop, and what holds when it is left. Assumes nothing.
use Rattle.std.proofs.Common.{◌≡◌, ℕ, ◌+◌, ◌-◌, ◌*◌, ◌/◌, ◌%◌, ◌^◌, ◌<◌, ◌≤◌, sym, ap, ◌∙◌, subst, add-mul, le_antisymm, mul-add, mul_left_comm, add-one, arith, pow_mono}
use Prim.Native.Nat.{Ordering, compare}
use native.Mathlib.Nat.{pow-succ'}
use lib.Ieee.{nearest}
use Rattle.numbers.specs.Sqrt.{root_by}
use Rattle.numbers.proofs.Root.{Floor, Result, result, even-square, odd-square, half-square, compare-lt, compare-gt, root_by-zero}

-- After i turns the digits taken are those of root * root + rest, and `left` is what follows them.
pub record Turn (a root rest left i : ℕ) : Type 0 where
  pub whole : a * 4 ^ i ≡ (root * root + rest) * 4294967296 + left
  pub tail : left < 4294967296
  pub close : rest ≤ 2 * root
  pub fewer : root < 2 ^ i
  pub small : root < 16777216
  pub count : i ≤ 24

-- at the start no digit is taken
pub start : (a : ℕ) → a < 4294967296 → Turn a 0 0 a 0
start a h = record { whole = omega arith; tail = h; close = omega arith; fewer = omega arith; small = omega arith; count = omega arith }

more : (a i : ℕ) → a * 4 ^ (i + 1) ≡ 4 * (a * 4 ^ i)
more a i = ap (λ (x : ℕ). a * 4 ^ x) (add-one i) ∙ ap (λ (x : ℕ). a * x) (pow-succ' 4 i) ∙ mul_left_comm a 4 (4 ^ i)

twice : (i : ℕ) → 2 ^ (i + 1) ≡ 2 * 2 ^ i
twice i = ap (λ (x : ℕ). 2 ^ x) (add-one i) ∙ pow-succ' 2 i

-- Two more digits of a are taken. The next root may be any for which the digits are still those of its square and a rest that is small enough.
turn : (a root rest left i up over : ℕ) → Turn a root rest left i → i < 24 → up * up + over ≡ 4 * (root * root) + (rest * 4 + left / 1073741824) → over ≤ 2 * up → up ≤ root * 2 + 1
    → Turn a up over (left % 1073741824 * 4) (i + 1)
turn a root rest left i up over t h e c u =
    let p : 2 ^ (i + 1) ≤ 2 ^ 24 = pow_mono (next i h) in
    let f : up < 2 ^ (i + 1) = omega (arith, twice i) in
    record { whole = omega (arith, more a i); tail = omega arith; close = c; fewer = f; small = omega arith; count = omega arith }
  where
    next : (i : ℕ) → i < 24 → i + 1 ≤ 24
    next i h = omega arith

-- a turn whose digit is 1
pub turn_odd : (a root rest left i up over : ℕ) → Turn a root rest left i → i < 24 → root * 4 + 1 ≤ rest * 4 + left / 1073741824
    → up ≡ root * 2 + 1 → over ≡ rest * 4 + left / 1073741824 - (root * 4 + 1) → Turn a up over (left % 1073741824 * 4) (i + 1)
turn_odd a root rest left i up over t h o p q = turn a root rest left i up over t h (ap (λ (x : ℕ). x * x + over) p ∙ whole) (omega arith) (omega arith)
  where
    whole : (root * 2 + 1) * (root * 2 + 1) + over ≡ 4 * (root * root) + (rest * 4 + left / 1073741824)
    whole = omega (arith, odd-square root)

-- a turn whose digit is 0
pub turn_even : (a root rest left i up over : ℕ) → Turn a root rest left i → i < 24 → rest * 4 + left / 1073741824 < root * 4 + 1
    → up ≡ root * 2 → over ≡ rest * 4 + left / 1073741824 → Turn a up over (left % 1073741824 * 4) (i + 1)
turn_even a root rest left i up over t h o p q = turn a root rest left i up over t h (ap (λ (x : ℕ). x * x + over) p ∙ whole) (omega arith) (omega arith)
  where
    whole : root * 2 * (root * 2) + over ≡ 4 * (root * root) + (rest * 4 + left / 1073741824)
    whole = omega (arith, even-square root)

-- ---- after 24 turns
done : (a root rest left i : ℕ) → Turn a root rest left i → 24 ≤ i → a * 65536 ≡ root * root + rest
done a root rest left i t h =
    let e : a * 4 ^ 24 ≡ (root * root + rest) * 4294967296 + left = subst (λ (x : ℕ). a * 4 ^ x ≡ (root * root + rest) * 4294967296 + left) (le_antisymm t.count h) t.whole in
    omega (arith, e, t.tail)

next-square : (r : ℕ) → (r + 1) * (r + 1) ≡ r * r + 2 * r + 1
next-square r = simp (mul-add, add-mul) (omega arith)

floor : (n root rest : ℕ) → n ≡ root * root + rest → rest ≤ 2 * root → Floor n root
floor n root rest e c = omega (arith, next-square root)

module _ (a root rest left i : ℕ) (b : (1073741824 ≤ a) × (a ≤ 4294967040)) (t : Turn a root rest left i) (h : 24 ≤ i) where
  abbrev n : ℕ
  n = a * 65536

  n-is : n ≡ root * root + rest
  n-is = done a root rest left i t h

  by-rest : (o : Ordering) → compare (4 * n) ((2 * root + 1) * (2 * root + 1)) ≡ o → nearest root o ≡ root_by 0 n
  by-rest o e = sym (root_by-zero n root (floor n root rest n-is t.close) ∙ ap (λ (x : Ordering). nearest root x) e)

  -- a rest above the root rounds up
  pub end-up : root < rest → Result a (root + 1)
  end-up u = result a (root + 1) b (add-one root ∙ by-rest Ordering.gt (compare-gt (4 * n) ((2 * root + 1) * (2 * root + 1)) (omega (arith, n-is, half-square root))))

  -- any other rounds down
  pub end-down : rest ≤ root → Result a root
  end-down u = result a root b (by-rest Ordering.lt (compare-lt (4 * n) ((2 * root + 1) * (2 * root + 1)) (omega (arith, n-is, half-square root))))
