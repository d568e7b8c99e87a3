-- A row's words after a change, by place: those that the change names, the others as they were. Assumes nothing.
use mathlib.Core.Path.{◌≡◌, refl, ◌∙◌}
use Prim.Native.Nat.{ℕ}
use native.Mathlib.Omega.{arith}
use mathlib.Core.Bool.{Bool, true, false, cond}
use mathlib.Core.List.{List}
use lib.ListN.{length, get_or, set, length-set}
use lib.Seq.{get_or-set_same, get_or-set_other}
use lib.Bits.{bit_or}
use lib.Dec.{eqb, ltb}
use borrow.Author.Tests.{eqb-true, eqb-false, ltb-true}
use Rattle.areas.specs.Widths.{word_width, flags_word, scale_word, colour_word, light_word, lights_word, texgen_word, fog_word, lookat_word}
use Rattle.change.specs.declared.Change.{Change}
use Rattle.change.specs.declared.Change.TheVariants.{Colour, Texture, Screen, Depth}
use Rattle.change.specs.Decoded.{words_after}

-- numbers by place, the one at k replaced
abbrev pub instead : (ℕ → ℕ) → ℕ → ℕ → ℕ → ℕ
instead g k x j = cond (eqb j k) x (g j)

-- the n numbers l are those of g, by place
pub record Reads (n : ℕ) (l : List ℕ) (g : ℕ → ℕ) : Type 0 where
  pub wide : length l ≡ n
  pub at : (j : ℕ) → get_or l j 0 ≡ g j

-- with one replaced they are those of g with that one replaced
pub reads-set : {n : ℕ} {l : List ℕ} {g : ℕ → ℕ} (k x : ℕ) → ltb k n ≡ true → Reads n l g → Reads n (set l k x) (instead g k x)
reads-set {n} {l} {g} k x h R = record { wide = length-set l k x ∙ R.wide; at = λ j. go j (eqb j k) refl }
  where
    go : (j : ℕ) (b : Bool) → eqb j k ≡ b → get_or (set l k x) j 0 ≡ cond b x (g j)
    go j true e = rw (eqb-true j k e) (get_or-set_same l k x 0 (omega (arith, ltb-true k n h, R.wide)))
    go j false e = get_or-set_other l k j x 0 (eqb-false j k e) ∙ R.at j

-- a row's words after a change: those that it names, the others as they were; u is the place of the unit scale entry
abbrev pub word_after : Change → ℕ → (ℕ → ℕ) → ℕ → ℕ
word_after (Colour w) u g = instead (instead (instead (instead g colour_word w) light_word 0) lights_word 0) fog_word 0
word_after (Texture y z) u g = instead (instead (instead g scale_word u) texgen_word 0) lookat_word 0
word_after (Screen y z) u g = instead g flags_word (bit_or (g flags_word) 1)
word_after (Depth z own) u g = instead g flags_word (bit_or (g flags_word) 2)

pub reads-word_after : (c : Change) (u : ℕ) (l : List ℕ) → length l ≡ word_width → Reads word_width (words_after c u l) (word_after c u (λ j. get_or l j 0))
unfolding words_after
reads-word_after c u l n = go c
  where
    R : Reads word_width l (λ j. get_or l j 0)
    R = record { wide = n; at = λ j. refl }

    go : (c : Change) → Reads word_width (words_after c u l) (word_after c u (λ j. get_or l j 0))
    go (Colour w) = reads-set fog_word 0 refl (reads-set lights_word 0 refl (reads-set light_word 0 refl (reads-set colour_word w refl R)))
    go (Texture y z) = reads-set lookat_word 0 refl (reads-set texgen_word 0 refl (reads-set scale_word u refl R))
    go (Screen y z) = reads-set flags_word _ refl R
    go (Depth z own) = reads-set flags_word _ refl R
