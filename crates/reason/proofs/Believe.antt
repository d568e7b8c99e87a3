-- The reason is true of the slots' codes, and no other one is. Assumes nothing.
use mathlib.Core.Path.{◌≡◌, refl, sym, ap, ◌∙◌}
use Prim.Native.Nat.{ℕ, zero, suc, ◌+◌, ◌-◌, ◌/◌, ◌%◌, ◌^◌, ◌≤◌, ◌<◌}
use native.Mathlib.Omega.{arith}
use mathlib.Core.Bool.{Bool, true, false, false≢true}
use mathlib.Core.List.{List}
use lib.ListN.{get_or}
use lib.Dec.{ltb}
use borrow.Author.Tests.{eqb-true, eqb-false, eq-eqb, ltb-true, ltb-false}
use Rattle.numbers.specs.Choice.{pick}
use Rattle.decide.specs.Family.{flag}
use Rattle.reason.specs.declared.Reason.{Reason}
use Rattle.reason.specs.declared.Reason.TheVariants.{AllOutside, FirstInside}
use Rattle.reason.specs.Reason.{slots_to, codes_at, culled, planes, all_outside, first_inside, lowest, reason}
use Rattle.reason.specs.Truth.{Outside, Outsides, TrueYes, TrueNo, TrueReason, TellsTruth}
use Rattle.reason.proofs.Slots.{all-each, each_all, found}
use Rattle.reason.proofs.Planes.{culled-is, none_of, Lowest, lowest-is}

module _ (code : List ℕ) (first last : ℕ) where
  abbrev range : List ℕ
  range = codes_at code (slots_to first last)

  -- bit p of a code is 1 where it has the flag of that value, and not where it lacks it
  outside-has : (p j : ℕ) → flag (2 ^ p) (get_or code j 0) ≡ true → Outside code p j
  outside-has p j e = eqb-true (get_or code j 0 / 2 ^ p % 2) 1 e

  true-no : (p : ℕ) → all_outside (2 ^ p) range ≡ false → TrueNo code first last p (first_inside (2 ^ p) first range)
  true-no p e =
      let f = found (2 ^ p) code (last + 1 - first) first e in
      let l = f.from in
      let u = f.upto in
      record {
        from = l;
        upto = omega arith;
        lacks = eqb-false _ 1 f.lacks;
        earlier = λ j h k. outside-has p j (f.earlier j h k);
      }

  every-is : (p : ℕ) → all_outside (2 ^ p) range ≡ true → Outsides code p first (last + 1)
  every-is p e j h k = outside-has p j (all-each (2 ^ p) code (last + 1 - first) first e j h (omega arith))

  not-every : (p : ℕ) → all_outside (2 ^ p) range ≡ false → Outsides code p first (last + 1) → ⊥
  not-every p e f = false≢true (sym e ∙ each_all (2 ^ p) code (last + 1 - first) first (λ j h k. eq-eqb _ 1 (f j h (omega arith))))

  -- the plane at place p has the value 2 ^ p
  value : (p : ℕ) → p < 4 → get_or planes p 0 ≡ 2 ^ p
  value zero h = refl
  value (suc zero) h = refl
  value (suc (suc zero)) h = refl
  value (suc (suc (suc zero))) h = refl
  value (suc (suc (suc (suc p)))) h = absurd (omega arith)

  true-yes : (p : ℕ) → Lowest planes range p → TrueYes code first last p
  true-yes p l =
      let s : p < 4 = l.within in
      record {
        side = s;
        every = every-is p (ap (λ (v : ℕ). all_outside v range) (sym (value p s)) ∙ l.every);
        lowest = λ q h. not-every q (ap (λ (v : ℕ). all_outside v range) (sym (value q (omega arith))) ∙ l.lower q h);
      }

  -- THE REASON IS TRUE OF THE CODES, whatever they and the range are
  pub reason-true : TellsTruth code first last (reason first range)
  unfolding reason pick
  reason-true = by (culled range) refl
    where
      by : (b : Bool) → culled range ≡ b → TellsTruth code first last (reason first range)
      by true e = record { why = AllOutside (lowest planes range); values = rw e; holds = true-yes (lowest planes range) (lowest-is planes range (sym (culled-is range) ∙ e)) }
      by false e =
          let n = none_of planes range (sym (culled-is range) ∙ e) in
          record {
            why = FirstInside (first_inside 1 first range) (first_inside 2 first range) (first_inside 4 first range) (first_inside 8 first range);
            values = rw e;
            holds = (true-no 0 (n 0 (omega arith)), true-no 1 (n 1 (omega arith)), true-no 2 (n 2 (omega arith)), true-no 3 (n 3 (omega arith)));
          }

  -- ---- and the only one

  lowest-only : (p q : ℕ) → TrueYes code first last p → TrueYes code first last q → p ≡ q
  lowest-only p q a b = go (ltb p q) (ltb q p) refl refl
    where
      go : (c d : Bool) → ltb p q ≡ c → ltb q p ≡ d → p ≡ q
      go true d e k = absurd (b.lowest p (ltb-true p q e) a.every)
      go false true e k = absurd (a.lowest q (ltb-true q p k) b.every)
      go false false e k = let m : q ≤ p = ltb-false p q e in let n : p ≤ q = ltb-false q p k in omega arith

  first_only : (p x y : ℕ) → TrueNo code first last p x → TrueNo code first last p y → x ≡ y
  first_only p x y a b = go (ltb x y) (ltb y x) refl refl
    where
      go : (c d : Bool) → ltb x y ≡ c → ltb y x ≡ d → x ≡ y
      go true d e k = absurd (a.lacks (b.earlier x a.from (ltb-true x y e)))
      go false true e k = absurd (b.lacks (a.earlier y b.from (ltb-true y x k)))
      go false false e k = let m : y ≤ x = ltb-false x y e in let n : x ≤ y = ltb-false y x k in omega arith

  -- a slot that is not outside a plane belies a yes for it
  belied : (p x : ℕ) → TrueYes code first last p → TrueNo code first last p x → ⊥
  belied p x a b = let u = b.upto in b.lacks (a.every x b.from (omega arith))

  yes_or_no : (p l r b t : ℕ) → TrueYes code first last p → TrueReason code first last (FirstInside l r b t) → ⊥
  yes_or_no zero l r b t y n = belied 0 l y n.0
  yes_or_no (suc zero) l r b t y n = belied 1 r y n.1
  yes_or_no (suc (suc zero)) l r b t y n = belied 2 b y n.2
  yes_or_no (suc (suc (suc zero))) l r b t y n = belied 3 t y n.3
  yes_or_no (suc (suc (suc (suc p)))) l r b t y n = let s = y.side in omega arith

  -- NO SECOND REASON IS TRUE
  pub true-only : (x y : Reason) → TrueReason code first last x → TrueReason code first last y → x ≡ y
  true-only (AllOutside p) (AllOutside q) a b = ap AllOutside (lowest-only p q a b)
  true-only (AllOutside p) (FirstInside l r m t) a b = absurd (yes_or_no p l r m t a b)
  true-only (FirstInside l r m t) (AllOutside p) a b = absurd (yes_or_no p l r m t b a)
  true-only (FirstInside l r m t) (FirstInside x y z u) a b = rw (first_only 0 l x a.0 b.0, first_only 1 r y a.1 b.1, first_only 2 m z a.2 b.2, first_only 3 t u a.3 b.3)
