-- The last entry of texture scales, by the tests that the code makes. Assumes nothing.
use Prim.Native.Nat.{ℕ, ◌-◌, ◌*◌, ◌≤◌, ◌<◌}
use native.Mathlib.Omega.{arith}
use mathlib.Core.Bool.{Bool, false}
use mathlib.Core.Path.{◌≡◌, ◌∙◌}
use mathlib.Core.List.{List}
use lib.Ieee.{Float, eq}
use lib.ListN.{take, drop}
use lib.Seq.{take-take}
use borrow.Author.Tests.{lt-ltb}
use Rattle.std.specs.Option.{MatchOption, SomeIff}
use Rattle.std.specs.declared.option.Option.{Option}
use Rattle.std.specs.declared.option.Option.TheVariants.{Some, None}
use Rattle.areas.specs.Area.{entries, part, matches}
use Rattle.areas.specs.Widths.{scale_width}
use Rattle.areas.proofs.Tables.{length-entries, last_entry}
use Rattle.fold.specs.Scales.{same_scale}

-- no entry in use has no last one
scale-none : (n : ℕ) (l e : List Float) → n ≡ 0 → false ≡ same_scale (entries scale_width n l) e
unfolding same_scale
scale-none n l e h = rw h

-- the first pair of the last entry in use, by its place
scale-last : (n k : ℕ) (l e : List Float) → 0 < n → k ≡ n - 1 → matches eq (part l (k * scale_width) 2) (take 2 e) ≡ same_scale (entries scale_width n l) e
unfolding same_scale
scale-last n k l e h at =
    rw (length-entries scale_width n l, lt-ltb 0 n h, last_entry scale_width n l h, take-take 2 scale_width (drop ((n - 1) * scale_width) l) (omega arith), at)

-- r is what was found at the last entry in use, of n, or false where there is none
pub scale-is : (n : ℕ) (l e : List Float) (o : Option ℕ) (r : Bool) (P : ℕ → Type 0) → SomeIff o (1 ≤ n) (n - 1) → MatchOption o (r ≡ false) P → ((k : ℕ) → P k → r ≡ matches eq (part l (k * scale_width) 2) (take 2 e))
    → r ≡ same_scale (entries scale_width n l) e
scale-is n l e None r P h m t =
    m ∙ scale-none n l e (none n h)
  where
    none : (n : ℕ) → ((1 ≤ n) → ⊥) → n ≡ 0
    none n h = omega (arith, h)
scale-is n l e (Some k) r P h m t =
    let some : 0 < n = h.0 in
    t k m ∙ scale-last n k l e some h.1
