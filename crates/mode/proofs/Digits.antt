-- An equation of bit operations on three numbers holds if it holds of digits; so AND and OR are associative, and AND goes over OR. Assumes nothing.
use mathlib.Core.Path.{◌≡◌, refl, sym, ap₂, ◌∙◌}
use Prim.Native.Nat.{ℕ, zero, suc, ◌+◌, ◌*◌, ◌/◌, ◌%◌, ◌<◌, ◌^◌}
use native.Mathlib.Nat.{div-add-mod', mod-lt, zero-lt-suc, not-suc-le-zero, le_of_suc-le-suc}
use lib.Arith.{bin_ind}
use lib.Bits.{bit_and, bit_or, and_shr, or_shr, and_mod, or_mod}

-- f goes digit by digit
record Digitwise (f : ℕ → ℕ → ℕ → ℕ) : Type 0 where
  half : (a b c : ℕ) → f a b c / 2 ≡ f (a / 2) (b / 2) (c / 2)
  odd : (a b c : ℕ) → f a b c % 2 ≡ f (a % 2) (b % 2) (c % 2)

-- ---- what is made of the three numbers by operations that do so

first : Digitwise (λ a b c. a)
first = record { half = λ a b c. refl; odd = λ a b c. refl }

second : Digitwise (λ a b c. b)
second = record { half = λ a b c. refl; odd = λ a b c. refl }

third : Digitwise (λ a b c. c)
third = record { half = λ a b c. refl; odd = λ a b c. refl }

module _ (op : ℕ → ℕ → ℕ) (shr : (a b k : ℕ) → op a b / 2 ^ k ≡ op (a / 2 ^ k) (b / 2 ^ k)) (rem : (a b k : ℕ) → op a b % 2 ^ k ≡ op (a % 2 ^ k) (b % 2 ^ k)) where
  with_both : {f g : ℕ → ℕ → ℕ → ℕ} → Digitwise f → Digitwise g → Digitwise (λ a b c. op (f a b c) (g a b c))
  with_both F G =
      record {
        half = λ a b c. shr _ _ 1 ∙ ap₂ op (F.half a b c) (G.half a b c);
        odd = λ a b c. rem _ _ 1 ∙ ap₂ op (F.odd a b c) (G.odd a b c);
      }

anded : {f g : ℕ → ℕ → ℕ → ℕ} → Digitwise f → Digitwise g → Digitwise (λ a b c. bit_and (f a b c) (g a b c))
anded = with_both bit_and and_shr and_mod

ored : {f g : ℕ → ℕ → ℕ → ℕ} → Digitwise f → Digitwise g → Digitwise (λ a b c. bit_or (f a b c) (g a b c))
ored = with_both bit_or or_shr or_mod

-- ---- and of digits

digit : (P : ℕ → Type 0) → P 0 → P 1 → (x : ℕ) → x < 2 → P x
digit P p q zero h = p
digit P p q (suc zero) h = q
digit P p q (suc (suc x)) h = absurd (not-suc-le-zero (le_of_suc-le-suc (le_of_suc-le-suc h)))

eight : (P : ℕ → ℕ → ℕ → Type 0) → P 0 0 0 × P 0 0 1 × P 0 1 0 × P 0 1 1 × P 1 0 0 × P 1 0 1 × P 1 1 0 × P 1 1 1
    → (x y z : ℕ) → x < 2 → y < 2 → z < 2 → P x y z
eight P p x y z hx hy hz =
    digit (λ k. P k y z)
    (digit (λ k. P 0 k z) (digit (P 0 0) p.0 p.1 z hz) (digit (P 0 1) p.2 p.3 z hz) y hy)
    (digit (λ k. P 1 k z) (digit (P 1 0) p.4 p.5 z hz) (digit (P 1 1) p.6 p.7 z hz) y hy) x hx

low : (n : ℕ) → n % 2 < 2
low n = mod-lt n (zero-lt-suc 1)

module _ (f g : ℕ → ℕ → ℕ → ℕ) (F : Digitwise f) (G : Digitwise g)
    (same : (x y z : ℕ) → x < 2 → y < 2 → z < 2 → f x y z ≡ g x y z) (none : (b c : ℕ) → f 0 b c ≡ g 0 b c) where
  digitwise : (a b c : ℕ) → f a b c ≡ g a b c
  digitwise =
      bin_ind (λ (a : ℕ). (b c : ℕ) → f a b c ≡ g a b c) none
      (λ a ih b c. sym (div-add-mod' (f a b c) 2)
      ∙ ap₂ (λ (x y : ℕ). x * 2 + y)
      (F.half a b c ∙ ih (b / 2) (c / 2) ∙ sym (G.half a b c))
      (F.odd a b c ∙ same (a % 2) (b % 2) (c % 2) (low a) (low b) (low c) ∙ sym (G.odd a b c))
      ∙ div-add-mod' (g a b c) 2)

-- ---- the three equations

pub and_assoc : (a b c : ℕ) → bit_and (bit_and a b) c ≡ bit_and a (bit_and b c)
and_assoc =
    digitwise _ _ (anded (anded first second) third) (anded first (anded second third))
    (eight (λ x y z. bit_and (bit_and x y) z ≡ bit_and x (bit_and y z)) (refl, refl, refl, refl, refl, refl, refl, refl)) (λ b c. refl)

pub or_assoc : (a b c : ℕ) → bit_or (bit_or a b) c ≡ bit_or a (bit_or b c)
or_assoc =
    digitwise _ _ (ored (ored first second) third) (ored first (ored second third))
    (eight (λ x y z. bit_or (bit_or x y) z ≡ bit_or x (bit_or y z)) (refl, refl, refl, refl, refl, refl, refl, refl)) (λ b c. refl)

pub and-over-or : (a b c : ℕ) → bit_and (bit_or a b) c ≡ bit_or (bit_and a c) (bit_and b c)
and-over-or =
    digitwise _ _ (anded (ored first second) third) (ored (anded first third) (anded second third))
    (eight (λ x y z. bit_and (bit_or x y) z ≡ bit_or (bit_and x z) (bit_and y z)) (refl, refl, refl, refl, refl, refl, refl, refl)) (λ b c. refl)
