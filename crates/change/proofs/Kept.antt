-- What a change keeps of a row: how many numbers it has, its position, and each number that the change does not write; and what stands where
-- it writes. Assumes nothing.
use Prim.Native.Nat.{ℕ, ◌≤◌, ◌<◌}
use native.Mathlib.Omega.{arith}
use mathlib.Core.Bool.{Bool, true, false, ◌||◌}
use mathlib.Core.Path.{◌≡◌, refl, ◌∙◌}
use mathlib.Core.List.{List, [], ◌∷◌}
use lib.ListN.{length, take, get_or, set, length-set}
use lib.Seq.{take-set-le, get_or-set_same, get_or-set_other}
use lib.Bits.{bit_or}
use lib.Dec.{eqb}
use lib.Ieee.{Float}
use borrow.Author.Tests.{eqb-true, eqb-false, ne_eqb}
use Rattle.numbers.specs.Choice.{pick}
use Rattle.areas.specs.Widths.{float_width, word_width, flags_word, matrix_word, viewport_word, scale_word, colour_word, light_word, lights_word, texgen_word, fog_word, lookat_word, s_float, t_float, screen_x, screen_y, screen_z}
use Rattle.change.specs.declared.Change.{Change}
use Rattle.change.specs.declared.Change.TheVariants.{Colour, Texture, Screen, Depth}
use Rattle.change.specs.Decoded.{floats_after, words_after}

-- f32 numbers
pub floats-kept : (c : Change) (l : List Float) → length (floats_after c l) ≡ length l
unfolding floats_after
floats-kept (Colour w) l = refl
floats-kept (Texture s t) l = simp length-set
floats-kept (Screen x y) l = simp length-set
floats-kept (Depth z own) l = simp length-set

-- u32 numbers
pub words-kept : (c : Change) (u : ℕ) (l : List ℕ) → length (words_after c u l) ≡ length l
unfolding words_after
words-kept (Colour w) u l = simp length-set
words-kept (Texture s t) u l = simp length-set
words-kept (Screen x y) u l = simp length-set
words-kept (Depth z own) u l = simp length-set

-- x, y and z
pub position-kept : (c : Change) (l : List Float) → take 3 (floats_after c l) ≡ take 3 l
unfolding floats_after
position-kept (Colour w) l = refl
position-kept (Texture s t) l =
    take-set-le 3 (set l s_float s) t_float t (omega arith) ∙ take-set-le 3 l s_float s (omega arith)
position-kept (Screen x y) l =
    take-set-le 3 (set l screen_x x) screen_y y (omega arith) ∙ take-set-le 3 l screen_x x (omega arith)
position-kept (Depth z own) l = take-set-le 3 l screen_z z (omega arith)

-- ---- numbers stored one by one, each a place and what is stored there

neither : (a b : Bool) → a || b ≡ false → (a ≡ false) × (b ≡ false)
neither true b h = (h, cc)
neither false b h = (refl, h)

module _ {A : Type 0} where
  -- l after the stores
  abbrev pub stores : List (ℕ × A) → List A → List A
  stores [] l = l
  stores (e ∷ es) l = stores es (set l e.0 e.1)

  -- one of the stores is at place i
  abbrev pub writes : List (ℕ × A) → ℕ → Bool
  writes [] i = false
  writes (e ∷ es) i = eqb i e.0 || writes es i

  -- what stands at place i then, where x stood before
  abbrev pub place_then : List (ℕ × A) → ℕ → A → A
  place_then [] i x = x
  place_then (e ∷ es) i x = place_then es i (pick (eqb i e.0) e.1 x)

  -- a place that no store names is as it was
  unwritten : (es : List (ℕ × A)) (l : List A) (i : ℕ) (d : A) → writes es i ≡ false → get_or (stores es l) i d ≡ get_or l i d
  unwritten [] l i d h = refl
  unwritten (e ∷ es) l i d h =
      let k = neither (eqb i e.0) (writes es i) h in
      unwritten es (set l e.0 e.1) i d k.1 ∙ get_or-set_other l e.0 i e.1 d (eqb-false i e.0 k.0)

  -- one store
  one_then : (l : List A) (j : ℕ) (v : A) (i : ℕ) (d : A) → i < length l → get_or (set l j v) i d ≡ pick (eqb i j) v (get_or l i d)
  unfolding pick
  one_then l j v i d h = go (eqb i j) refl
    where
      go : (b : Bool) → eqb i j ≡ b → get_or (set l j v) i d ≡ pick b v (get_or l i d)
      go true q = let e : i ≡ j = eqb-true i j q in rw e (get_or-set_same l j v d (omega arith))
      go false q = get_or-set_other l j i v d (eqb-false i j q)

  -- each place, by the stores
  written : (es : List (ℕ × A)) (l : List A) (i : ℕ) (d : A) → i < length l → get_or (stores es l) i d ≡ place_then es i (get_or l i d)
  written [] l i d h = refl
  written (e ∷ es) l i d h =
      rw (← one_then l e.0 e.1 i d h) (written es (set l e.0 e.1) i d (rw length-set h))

-- ---- the stores of a change

-- the f32 numbers
abbrev pub float_stores : Change → List (ℕ × Float)
float_stores (Colour w) = []
float_stores (Texture s t) = (s_float, s) ∷ (t_float, t) ∷ []
float_stores (Screen x y) = (screen_x, x) ∷ (screen_y, y) ∷ []
float_stores (Depth z own) = (screen_z, z) ∷ []

-- the u32 numbers; u is the place of the unit scale entry, flags the modify flags before
abbrev pub word_stores : Change → ℕ → ℕ → List (ℕ × ℕ)
word_stores (Colour w) u flags = (colour_word, w) ∷ (light_word, 0) ∷ (lights_word, 0) ∷ (fog_word, 0) ∷ []
word_stores (Texture s t) u flags = (scale_word, u) ∷ (texgen_word, 0) ∷ (lookat_word, 0) ∷ []
word_stores (Screen x y) u flags = (flags_word, bit_or flags 1) ∷ []
word_stores (Depth z own) u flags = (flags_word, bit_or flags 2) ∷ []

-- a change is its stores
pub floats-are : (c : Change) (l : List Float) → floats_after c l ≡ stores (float_stores c) l
unfolding floats_after
floats-are (Colour w) l = refl
floats-are (Texture s t) l = refl
floats-are (Screen x y) l = refl
floats-are (Depth z own) l = refl

pub words_are : (c : Change) (u : ℕ) (l : List ℕ) → words_after c u l ≡ stores (word_stores c u (get_or l flags_word 0)) l
unfolding words_after
words_are (Colour w) u l = refl
words_are (Texture s t) u l = refl
words_are (Screen x y) u l = refl
words_are (Depth z own) u l = refl

-- the change writes the number at place i
abbrev pub writes_float : Change → ℕ → Bool
writes_float c i = writes (float_stores c) i

abbrev pub writes_word : Change → ℕ → Bool
writes_word c i = writes (word_stores c 0 0) i

-- what is stored has no part in where
same-places : (c : Change) (u flags i : ℕ) → writes (word_stores c u flags) i ≡ writes_word c i
same-places (Colour w) u flags i = refl
same-places (Texture s t) u flags i = refl
same-places (Screen x y) u flags i = refl
same-places (Depth z own) u flags i = refl

-- no change writes the numbers of the matrix and of the viewport
pub entries-unwritten : (c : Change) → (writes_word c matrix_word ≡ false) × (writes_word c viewport_word ≡ false)
entries-unwritten (Colour w) = (refl, refl)
entries-unwritten (Texture s t) = (refl, refl)
entries-unwritten (Screen x y) = (refl, refl)
entries-unwritten (Depth z own) = (refl, refl)

-- nor a word behind the lookat's
pub behind-unwritten : (c : Change) (i : ℕ) → lookat_word < i → writes_word c i ≡ false
behind-unwritten (Colour w) i h =
    rw (ne_eqb i colour_word (λ e. omega arith), ne_eqb i light_word (λ e. omega arith), ne_eqb i lights_word (λ e. omega arith), ne_eqb i fog_word (λ e. omega arith))
behind-unwritten (Texture s t) i h =
    rw (ne_eqb i scale_word (λ e. omega arith), ne_eqb i texgen_word (λ e. omega arith), ne_eqb i lookat_word (λ e. omega arith))
behind-unwritten (Screen x y) i h = rw (ne_eqb i flags_word (λ e. omega arith))
behind-unwritten (Depth z own) i h = rw (ne_eqb i flags_word (λ e. omega arith))

-- ---- number i, unless named

pub float-kept : (c : Change) (l : List Float) (i : ℕ) (d : Float) → writes_float c i ≡ false → get_or (floats_after c l) i d ≡ get_or l i d
float-kept c l i d h = rw (floats-are c l) (unwritten (float_stores c) l i d h)

pub word_kept : (c : Change) (u : ℕ) (l : List ℕ) (i d : ℕ) → writes_word c i ≡ false → get_or (words_after c u l) i d ≡ get_or l i d
word_kept c u l i d h =
    rw (words_are c u l) (unwritten (word_stores c u (get_or l flags_word 0)) l i d (same-places c u (get_or l flags_word 0) i ∙ h))

-- ---- number i of a row that has it, named or not

pub float-then : (c : Change) (l : List Float) (i : ℕ) (d : Float) → i < length l → get_or (floats_after c l) i d ≡ place_then (float_stores c) i (get_or l i d)
float-then c l i d h = rw (floats-are c l) (written (float_stores c) l i d h)

pub word-then : (c : Change) (u : ℕ) (l : List ℕ) (i d : ℕ) → i < length l → get_or (words_after c u l) i d ≡ place_then (word_stores c u (get_or l flags_word 0)) i (get_or l i d)
word-then c u l i d h = rw (words_are c u l) (written (word_stores c u (get_or l flags_word 0)) l i d h)

-- ---- what stands where a change writes, in a row of all its numbers

module _ (l : List Float) (d : Float) (wide : float_width ≤ length l) where
  pub texture-floats : (s t : Float) → let r = floats_after (Texture s t) l in (get_or r s_float d ≡ s) × (get_or r t_float d ≡ t)
  unfolding pick
  texture-floats s t = (float-then (Texture s t) l s_float d (omega arith), float-then (Texture s t) l t_float d (omega arith))

  pub screen-floats : (x y : Float) → let r = floats_after (Screen x y) l in (get_or r screen_x d ≡ x) × (get_or r screen_y d ≡ y)
  unfolding pick
  screen-floats x y = (float-then (Screen x y) l screen_x d (omega arith), float-then (Screen x y) l screen_y d (omega arith))

  pub depth-float : (z own : Float) → get_or (floats_after (Depth z own) l) screen_z d ≡ z
  unfolding pick
  depth-float z own = float-then (Depth z own) l screen_z d (omega arith)

module _ (u : ℕ) (l : List ℕ) (d : ℕ) (wide : word_width ≤ length l) where
  at-word : (c : Change) (i : ℕ) → i < word_width → get_or (words_after c u l) i d ≡ place_then (word_stores c u (get_or l flags_word 0)) i (get_or l i d)
  at-word c i h = word-then c u l i d (omega arith)

  -- the colour word, no light and no fog
  pub colour-words : (w : ℕ) → let r = words_after (Colour w) u l in (get_or r colour_word d ≡ w) × (get_or r light_word d ≡ 0) × (get_or r lights_word d ≡ 0) × (get_or r fog_word d ≡ 0)
  unfolding pick
  colour-words w = let at = at-word (Colour w) in (at colour_word (omega arith), at light_word (omega arith), at lights_word (omega arith), at fog_word (omega arith))

  -- the unit scale entry, no texgen and no lookat
  pub texture-words : (s t : Float) → let r = words_after (Texture s t) u l in (get_or r scale_word d ≡ u) × (get_or r texgen_word d ≡ 0) × (get_or r lookat_word d ≡ 0)
  unfolding pick
  texture-words s t = let at = at-word (Texture s t) in (at scale_word (omega arith), at texgen_word (omega arith), at lookat_word (omega arith))

  -- one flag more
  pub screen-word : (x y : Float) → get_or (words_after (Screen x y) u l) flags_word d ≡ bit_or (get_or l flags_word 0) 1
  unfolding pick
  screen-word x y = at-word (Screen x y) flags_word (omega arith)

  pub depth-word : (z own : Float) → get_or (words_after (Depth z own) u l) flags_word d ≡ bit_or (get_or l flags_word 0) 2
  unfolding pick
  depth-word z own = at-word (Depth z own) flags_word (omega arith)
