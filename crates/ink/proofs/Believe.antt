-- Which rows have an ink: laws that make the definition believable. Assumes nothing.
use Prim.Native.Nat.{ℕ}
use mathlib.Core.Bool.{Bool, true, false, and-eq-true_iff}
use mathlib.Core.Logic.{◌↔◌, ◌≢◌}
use mathlib.Core.Path.{◌≡◌}
use mathlib.Core.List.{List}
use lib.ListN.{get_or}
use lib.Dec.{eqb}
use borrow.Author.Tests.{eqb-true, eq-eqb, ne_eqb}
use Rattle.areas.specs.Widths.{colour_word, lights_word}
use Rattle.ink.specs.Ink.{has_ink}

-- A ROW HAS THE INK exactly where no light shines on it and its colour word is the one asked
pub ink-means : (colour : ℕ) (words : List ℕ) → (has_ink colour words ≡ true) ↔ ((get_or words lights_word 0 ≡ 0) × (get_or words colour_word 0 ≡ colour))
ink-means colour words =
    let a : Bool = eqb (get_or words lights_word 0) 0 in
    let b : Bool = eqb (get_or words colour_word 0) colour in (
      λ h.
          let k = (and-eq-true_iff a b).0 h in
          (eqb-true (get_or words lights_word 0) 0 k.0, eqb-true (get_or words colour_word 0) colour k.1),
      λ h. (and-eq-true_iff a b).1 (eq-eqb (get_or words lights_word 0) 0 h.0, eq-eqb (get_or words colour_word 0) colour h.1),
    )

-- A LIT ROW has no ink, whatever its colour word
pub lit-none : (colour : ℕ) (words : List ℕ) → get_or words lights_word 0 ≢ 0 → has_ink colour words ≡ false
lit-none colour words h = rw (ne_eqb (get_or words lights_word 0) 0 h)
