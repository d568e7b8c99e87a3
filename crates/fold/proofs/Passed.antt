-- The place of the first fog pair that is equal, from the places that were looked at. Assumes nothing.
use Prim.Native.Nat.{ℕ, ◌*◌, ◌≤◌, ◌<◌}
use native.Mathlib.Omega.{arith}
use mathlib.Core.Bool.{Bool, true, false}
use mathlib.Core.Path.{◌≡◌}
use mathlib.Core.List.{List}
use lib.IntN.{ℤ}
use Rattle.std.specs.Option.{MatchOption, unwrap_or}
use Rattle.std.specs.declared.option.Option.{Option}
use Rattle.std.specs.declared.option.Option.TheVariants.{Some, None}
use Rattle.areas.specs.Area.{entries, part, matches, eqbℤ}
use Rattle.std.specs.Ordering.{int_eq}
use Rattle.areas.proofs.Sames.{matches-int}
use Rattle.areas.proofs.Tables.{length-entries, entry-is}
use Rattle.fold.specs.Fog.{find}
use Rattle.fold.proofs.Believe.{First, find_first, first_only}

module _ (w n : ℕ) (l e : List ℤ) where
  -- entry k is e, or is not
  abbrev pub Here : ℕ → Type 0
  Here k = matches eqbℤ (part l (k * w) w) e ≡ true

  abbrev pub Other : ℕ → Type 0
  Other k = matches eqbℤ (part l (k * w) w) e ≡ false

  -- the first place below n that is e's, or n where there is none
  first : (p : ℕ) → p ≤ n → ((k : ℕ) → k < p → Other k) → (p < n → Here p) → First (entries w n l) e p
  first p h b t =
      record {
        within = rw length-entries h;
        before = λ k q. rw (entry-is w n k l (omega arith)) (b k q);
        here = λ q. let i : p < n = omega (arith, length-entries w n l) in rw (entry-is w n p l i) (t i);
      }

  -- what a comparison at entry k's place tells
  pub told : (k p : ℕ) (b : Bool) → p ≡ k * w → b ≡ matches int_eq (part l p w) e → matches eqbℤ (part l (k * w) w) e ≡ b
  told k p b at h = rw (h, ← at, matches-int)

  -- the place that is found is the one that is looked for
  pub place-is : (r : Option ℕ) → MatchOption r ((k : ℕ) → 0 ≤ k → k < n → Other k) (λ i. (0 ≤ i) × (i < n) × Here i × ((k : ℕ) → 0 ≤ k → k < i → Other k))
      → (unwrap_or r n ≡ find (entries w n l) e) × (unwrap_or r n ≤ n)
  place-is None h =
      let f = first n (omega arith) (λ k q. h k (omega arith) q) (λ q. absurd (omega arith)) in
      (first_only (entries w n l) e n _ f (find_first _ _), omega arith)
  place-is (Some i) h =
      let low : i < n = h.1 in
      let f = first i (omega arith) (λ k q. h.3 k (omega arith) q) (λ q. h.2) in
      (first_only (entries w n l) e i _ f (find_first _ _), omega arith)
