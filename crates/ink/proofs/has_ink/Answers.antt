-- `ink::has_ink` meets its contract. Assumes nothing.
use Prim.Native.Nat.{ℕ}
use native.Mathlib.Omega.{arith}
use Rattle.areas.specs.Widths.{word_width, colour_word, lights_word}
use Rattle.areas.proofs.Tables.{part_at}
use Rattle.ink.proofs.has_ink.Goals as goal

pub returns : goal.returns
returns c = rw (part_at {A = ℕ} _ _ word_width lights_word 0 (omega arith), part_at {A = ℕ} _ _ word_width colour_word 0 (omega arith))
