-- The cull test plane by plane: it says yes exactly where every code lies outside one of the four side planes. Assumes nothing.
use mathlib.Core.Path.{◌≡◌, refl, sym, ap, ap₂, ◌∙◌}
use Prim.Native.Nat.{ℕ, zero, suc, ◌/◌, ◌%◌, ◌^◌, ◌≤◌, ◌<◌, zero-le, suc-le-suc}
use native.Mathlib.Nat.{le_trans, lt_of_le_of_lt, not-suc-le-zero, le_of_suc-le-suc}
use native.Mathlib.Omega.{arith}
use mathlib.Core.Bool.{Bool, true, false, not, ◌&&◌, ◌||◌, and_assoc, and-true, or-false, false≢true}
use mathlib.Core.List.{List, [], ◌∷◌}
use lib.ListN.{length, get_or}
use lib.Bits.{bit_and, and_shr, and_mod, and_le_l}
use lib.Dec.{eqb}
use borrow.Author.Tests.{eqb-true, eqb-false, eq-eqb, ne_eqb}
use Rattle.numbers.specs.Choice.{pick}
use Rattle.decide.specs.Family.{flag}
use Rattle.reason.specs.Reason.{anded, culled, planes, all_outside, lowest}

-- AND goes flag by flag
flag-and : (k x y : ℕ) → flag (2 ^ k) (bit_and x y) ≡ flag (2 ^ k) x && flag (2 ^ k) y
flag-and k x y =
    ap (λ (n : ℕ). eqb n 1) (ap (λ (n : ℕ). n % 2) (and_shr x y k) ∙ and_mod (x / 2 ^ k) (y / 2 ^ k) 1)
    ∙ digits (x / 2 ^ k % 2) (y / 2 ^ k % 2) (omega arith) (omega arith)
  where
    digits : (a b : ℕ) → a < 2 → b < 2 → eqb (bit_and a b) 1 ≡ eqb a 1 && eqb b 1
    digits zero b h k = refl
    digits (suc zero) zero h k = refl
    digits (suc zero) (suc zero) h k = refl
    digits (suc zero) (suc (suc b)) h k = absurd (omega arith)
    digits (suc (suc a)) b h k = absurd (omega arith)

-- the AND of codes with m has a flag exactly where m and each code have it
anded-flag : (k m : ℕ) (cs : List ℕ) → flag (2 ^ k) (anded m cs) ≡ flag (2 ^ k) m && all_outside (2 ^ k) cs
anded-flag k m [] = sym (and-true (flag (2 ^ k) m))
anded-flag k m (c ∷ cs) = anded-flag k (bit_and m c) cs ∙ ap (λ (b : Bool). b && all_outside (2 ^ k) cs) (flag-and k m c) ∙ and_assoc (flag (2 ^ k) m) (flag (2 ^ k) c) (all_outside (2 ^ k) cs)

anded-least : (m : ℕ) (cs : List ℕ) → anded m cs ≤ m
anded-least m [] = omega arith
anded-least m (c ∷ cs) = le_trans (anded-least (bit_and m c) cs) (and_le_l m c)

-- a number of four binary digits is not 0 exactly where one of them is 1
four-flags : (n : ℕ) → n < 16 → not (eqb n 0) ≡ flag 1 n || (flag 2 n || (flag 4 n || flag 8 n))
four-flags n h = go (flag 1 n) (flag 2 n) (flag 4 n) (flag 8 n) refl refl refl refl
  where
    some : (v : ℕ) → flag v n ≡ true → (n ≡ 0 → n / v % 2 ≡ 0) → not (eqb n 0) ≡ true
    some v e z = let d : n / v % 2 ≡ 1 = eqb-true _ _ e in rw (ne_eqb n 0 (λ q. let d0 : n / v % 2 ≡ 0 = z q in omega arith))

    none : (v : ℕ) → flag v n ≡ false → n / v < 2 → n / v ≡ 0
    none v e l = let d = eqb-false (n / v % 2) 1 e in omega arith

    go : (a b c d : Bool) → flag 1 n ≡ a → flag 2 n ≡ b → flag 4 n ≡ c → flag 8 n ≡ d → not (eqb n 0) ≡ a || (b || (c || d))
    go true b c d e1 e2 e4 e8 = some 1 e1 (λ q. omega arith)
    go false true c d e1 e2 e4 e8 = some 2 e2 (λ q. omega arith)
    go false false true d e1 e2 e4 e8 = some 4 e4 (λ q. omega arith)
    go false false false true e1 e2 e4 e8 = some 8 e8 (λ q. omega arith)
    go false false false false e1 e2 e4 e8 =
        let q8 : n / 8 ≡ 0 = none 8 e8 (omega arith) in
        let q4 : n / 4 ≡ 0 = none 4 e4 (omega arith) in
        let q2 : n / 2 ≡ 0 = none 2 e2 (omega arith) in
        let q1 : n / 1 ≡ 0 = none 1 e1 (omega arith) in
        rw (eq-eqb n 0 (omega arith))

-- every code lies outside one of some planes
abbrev pub any_of : List ℕ → List ℕ → Bool
any_of [] cs = false
any_of (v ∷ vs) cs = all_outside v cs || any_of vs cs

-- CULLED, PLANE BY PLANE: yes exactly where every code lies outside one of the four side planes
pub culled-is : (cs : List ℕ) → culled cs ≡ any_of planes cs
culled-is cs =
    four-flags _ (lt_of_le_of_lt (anded-least _ cs) (omega arith))
    ∙ ap₂ (λ (a b : Bool). a || b) (anded-flag 0 _ cs)
    (ap₂ (λ (a b : Bool). a || b) (anded-flag 1 _ cs) (ap₂ (λ (a b : Bool). a || b) (anded-flag 2 _ cs) (anded-flag 3 _ cs ∙ sym (or-false (all_outside 8 cs)))))

neither : (a b : Bool) → a || b ≡ false → (a ≡ false) × (b ≡ false)
neither false b e = (refl, e)
neither true b e = absurd (false≢true (sym e))

-- no plane is such: none by its place
pub none_of : (vs cs : List ℕ) → any_of vs cs ≡ false → (k : ℕ) → k < length vs → all_outside (get_or vs k 0) cs ≡ false
none_of [] cs e k h = absurd (not-suc-le-zero h)
none_of (v ∷ vs) cs e zero h = (neither (all_outside v cs) (any_of vs cs) e).0
none_of (v ∷ vs) cs e (suc k) h = none_of vs cs (neither (all_outside v cs) (any_of vs cs) e).1 k (le_of_suc-le-suc h)

-- p is the lowest place of such a plane
pub record Lowest (vs cs : List ℕ) (p : ℕ) : Type 0 where
  pub within : p < length vs
  pub every : all_outside (get_or vs p 0) cs ≡ true
  pub lower : (q : ℕ) → q < p → all_outside (get_or vs q 0) cs ≡ false

-- one plane before those
lowest-more : (v : ℕ) (vs cs : List ℕ) (b : Bool) → all_outside v cs ≡ b → (b ≡ false → Lowest vs cs (lowest vs cs)) → Lowest (v ∷ vs) cs (lowest (v ∷ vs) cs)
unfolding pick
lowest-more v vs cs true a l = rw a (record { within = suc-le-suc zero-le; every = a; lower = λ q h. absurd (not-suc-le-zero h) })
lowest-more v vs cs false a l =
    rw a
    (record {
      within = suc-le-suc (l refl).within;
      every = (l refl).every;
      lower = λ q h. lower q h;
    })
  where
    lower : (q : ℕ) → q < suc (lowest vs cs) → all_outside (get_or (v ∷ vs) q 0) cs ≡ false
    lower zero h = a
    lower (suc q) h = (l refl).lower q (le_of_suc-le-suc h)

pub lowest-is : (vs cs : List ℕ) → any_of vs cs ≡ true → Lowest vs cs (lowest vs cs)
lowest-is [] cs e = absurd (false≢true e)
lowest-is (v ∷ vs) cs e = lowest-more v vs cs (all_outside v cs) refl (λ a. lowest-is vs cs (ap (λ (b : Bool). b || any_of vs cs) (sym a) ∙ e))
