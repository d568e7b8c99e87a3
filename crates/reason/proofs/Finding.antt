-- The reason as the code finds it, plane after plane. Assumes nothing.
use mathlib.Core.Path.{◌≡◌}
use Prim.Native.Nat.{ℕ, ◌+◌, ◌-◌}
use mathlib.Core.Bool.{true, false}
use mathlib.Core.List.{List, [], ◌∷◌}
use Rattle.numbers.specs.Choice.{pick}
use Rattle.reason.specs.Reason.{slots_to, codes_at, all_outside, first_inside, reason}
use Rattle.std.proofs.Common.{Option, None, Some}
use Rattle.reason.proofs.Slots.{sought, none-lacks, some-lacks}
use Rattle.reason.proofs.Planes.{culled-is}

module _ (code : List ℕ) (first last : ℕ) where
  abbrev range : List ℕ
  range = codes_at code (slots_to first last)

  -- the search for a slot that is not outside the plane of value v
  abbrev pub looked : ℕ → Option ℕ
  looked v = sought v code first (last + 1 - first)

  -- it finds none: every slot is outside the plane
  behind : (v : ℕ) → looked v ≡ None → all_outside v range ≡ true
  behind v e = none-lacks v code (last + 1 - first) first e

  -- it finds one: that is the first
  within : (v x : ℕ) → looked v ≡ Some x → (all_outside v range ≡ false) × (x ≡ first_inside v first range)
  within v x e = some-lacks v code (last + 1 - first) first x e

  -- the first plane that every slot is outside, or none
  pub is-left : looked 1 ≡ None → 1 ∷ 0 ∷ [] ≡ reason first range
  unfolding reason pick
  is-left hl = rw (culled-is range, behind 1 hl)

  module _ (l : ℕ) (el : looked 1 ≡ Some l) where
    pub is_right : looked 2 ≡ None → 1 ∷ 1 ∷ [] ≡ reason first range
    unfolding reason pick
    is_right hr = rw (culled-is range, (within 1 l el).0, behind 2 hr)

    module _ (r : ℕ) (er : looked 2 ≡ Some r) where
      pub is-bottom : looked 4 ≡ None → 1 ∷ 2 ∷ [] ≡ reason first range
      unfolding reason pick
      is-bottom hm = rw (culled-is range, (within 1 l el).0, (within 2 r er).0, behind 4 hm)

      module _ (m : ℕ) (em : looked 4 ≡ Some m) where
        pub is-top : looked 8 ≡ None → 1 ∷ 3 ∷ [] ≡ reason first range
        unfolding reason pick
        is-top ht = rw (culled-is range, (within 1 l el).0, (within 2 r er).0, (within 4 m em).0, behind 8 ht)

        pub is_none : (t : ℕ) → looked 8 ≡ Some t → 0 ∷ l ∷ r ∷ m ∷ t ∷ [] ≡ reason first range
        unfolding reason pick
        is_none t et =
            let wl = within 1 l el in
            let wr = within 2 r er in
            let wm = within 4 m em in
            let wt = within 8 t et in
            rw (culled-is range, wl.0, wr.0, wm.0, wt.0) (rw (wl.1, wr.1, wm.1, wt.1))
