-- Which ink a row has, as the commands load it and change it: laws of their meanings, for every input. Assumes nothing.
use mathlib.Core.Path.{◌≡◌, refl}
use Prim.Native.Nat.{ℕ, ◌+◌, ◌≤◌}
use native.Mathlib.Omega.{arith}
use mathlib.Core.Bool.{Bool, true, false, not, ◌&&◌}
use mathlib.Core.List.{List}
use lib.ListN.{length}
use lib.Dec.{eqb}
use borrow.Author.Tests.{ne_eqb}
use Rattle.areas.specs.Widths.{word_width, colour_word, lights_word}
use Rattle.layout.specs.declared.records.Vertex.{Vertex}
use Rattle.vertex.specs.Vertices.{words_of}
use Rattle.change.specs.declared.Change.{Change}
use Rattle.change.specs.declared.Change.TheVariants.{Colour}
use Rattle.change.specs.Decoded.{words_after}
use Rattle.change.proofs.Kept.{writes_word, word_kept, colour-words}
use Rattle.ink.specs.Ink.{has_ink}
use Rattle.stage.specs.declared.State.{State}
use Rattle.stage.specs.Plan.{pick}
use Rattle.stage.specs.declared.load.Settled.{Settled}
use Rattle.stage.specs.Load.{shared_by}

-- A ROW LOADED LIT has no ink; one loaded unlit has that of its colour word, and no other
pub loaded-ink : (d : Settled) (s : State) (v : Vertex) (colour : ℕ) → has_ink colour (words_of (shared_by d s) v) ≡ not d.lit && eqb v.colour colour
unfolding words_of shared_by pick
loaded-ink d s v colour = go d.lit
  where
    go : (b : Bool) → eqb (pick b (s.lights.number + 1) 0) 0 && eqb v.colour colour ≡ not b && eqb v.colour colour
    go true = rw (ne_eqb (s.lights.number + 1) 0 (λ e. omega arith))
    go false = refl

-- A COLOUR SET BY MODIFY is the row's ink then, lit or not before
pub coloured-ink : (w u : ℕ) (l : List ℕ) (colour : ℕ) → word_width ≤ length l → has_ink colour (words_after (Colour w) u l) ≡ eqb w colour
coloured-ink w u l colour h = let k = colour-words u l 0 h w in rw (k.0, k.2)

-- A CHANGE THAT WRITES NEITHER the light count nor the colour word, which is any other, leaves the ink
pub kept-ink : (c : Change) (u : ℕ) (l : List ℕ) (colour : ℕ) → writes_word c lights_word ≡ false → writes_word c colour_word ≡ false → has_ink colour (words_after c u l) ≡ has_ink colour l
kept-ink c u l colour h k = rw (word_kept c u l lights_word 0 h, word_kept c u l colour_word 0 k)
