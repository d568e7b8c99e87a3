-- What the loop keeps from one op to the next, and which areas the program makes. Assumes nothing.
use mathlib.Core.Path.{◌≡◌, ◌∙◌, sym, ap}
use Prim.Native.Nat.{ℕ, ◌+◌, ◌-◌, ◌≤◌}
use mathlib.Core.List.{List}
use native.Mathlib.Omega.{arith}
use lib.ListN.{length-replicate, replicate, replicate-append-replicate, take}
use lib.Seq.{take_at}
use lib.IntN.{pos}
use Rattle.stage.specs.declared.State.{State}
use Rattle.sequence.specs.Sequence.{Areas}
use Rattle.trace.specs.declared.rooms.Lengths.{Lengths}
use Rattle.trace.specs.Header.{lengths_of, Within}
use Rattle.trace.specs.declared.rooms.Areas.{Areas as Slices}
use Rattle.player.specs.Ops.{firsts, SameSlices}
use Rattle.player.specs.Play.{port_of, played}
use Rattle.player.specs.Replay.{seven, made, replayed}

-- the same slices as before are the same as at first
pub same_as_first : (x y z : Slices) → SameSlices x y → SameSlices y z → SameSlices x z
same_as_first x y z k a =
    record {
      matrices = k.matrices ∙ a.matrices;
      viewports = k.viewports ∙ a.viewports;
      scales = k.scales ∙ a.scales;
      lights = k.lights ∙ a.lights;
      lookats = k.lookats ∙ a.lookats;
      fogs = k.fogs ∙ a.fogs;
      floats = k.floats ∙ a.floats;
      words = k.words ∙ a.words;
      indices = k.indices ∙ a.indices;
      runs = k.runs ∙ a.runs;
    }

-- the front of k equal numbers is n of them
front-equal : {A : Type 0} (n k : ℕ) (v : A) → n ≤ k → take n (replicate k v) ≡ replicate n v
front-equal n k v h =
    let e : n + (k - n) ≡ k = omega arith in
    ap (λ (m : ℕ). take n (replicate m v)) (sym e) ∙ ap (take n) (sym (replicate-append-replicate n (k - n) v)) ∙ take_at (replicate n v) (replicate (k - n) v) n (length-replicate n v)

-- ---- what is dumped

-- the most that the areas may have
abbrev pub bounds : Lengths
bounds =
    record {
      matrices = 8192;
      viewports = 3072;
      scales = 4096;
      lights = 24576;
      lookats = 6144;
      fogs = 1024;
      floats = 36864;
      words = 45056;
      indices = 12288;
      runs = 16384;
    }

-- areas of the lengths asked are the fronts of those
fronts-made : (n : Lengths) → Within n → firsts n (made bounds) ≡ made n
fronts-made n w =
    λ i.
    record {
      matrices = front-equal n.matrices 8192 seven w.matrices i;
      viewports = front-equal n.viewports 3072 seven w.viewports i;
      scales = front-equal n.scales 4096 seven w.scales i;
      lights = front-equal n.lights 24576 seven w.lights i;
      lookats = front-equal n.lookats 6144 seven w.lookats i;
      fogs = front-equal n.fogs 1024 (pos 7) w.fogs i;
      floats = front-equal n.floats 36864 seven w.floats i;
      words = front-equal {A = ℕ} n.words 45056 7 w.words i;
      drawing = record { indices = front-equal {A = ℕ} n.indices 12288 7 w.indices i; runs = front-equal {A = ℕ} n.runs 16384 7 w.runs i };
    }

-- THE DUMP IS OF WHAT THE SCRIPT LEAVES
pub dumps : (s : List ℕ) (n : Lengths) (g : State) (x : Areas) → Within n → n ≡ lengths_of s → port_of g x ≡ played s n (firsts n (made bounds)) → port_of g x ≡ replayed s
dumps s n g x w e h = h ∙ ap (played s n) (fronts-made n w) ∙ ap (λ (m : Lengths). played s m (made m)) e
