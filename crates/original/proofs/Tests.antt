-- The cull test and the depth test of the two sides, refusals 3 and 4 included. Assumes nothing.
use mathlib.Core.Path.{◌≡◌, refl, sym, ap, ◌∙◌}
use Prim.Native.Nat.{ℕ, zero, suc, ◌+◌, ◌-◌, ◌<◌}
use mathlib.Core.Bool.{Bool, true, false, not, ◌||◌, cond, false≢true}
use mathlib.Core.List.{List, [], ◌∷◌, map}
use mathlib.Core.Option.{Option, none, some}
use lib.ListN.{get_or}
use lib.Bits.{bit_and}
use lib.Dec.{eqb, leb, ltb}
use lib.IntN.{pos}
use lib.Ieee.{Float, nan, le, binary64}
use borrow.Author.Tests.{lt-leb, le-ltb, ltb-true}
use Rattle.decide.specs.Family.{family_of}
use Rattle.stage.specs.Sound.{limit}
use Rattle.matrix.specs.Math as math
use Rattle.numbers.specs.Ratio.{of_ratio}
use Rattle.triangle.specs.Slot.{bit, held}
use Rattle.stage.specs.Plan.{Row}
use Rattle.stage.specs.Draw.{slots_from, slots_to, codes_of, anded, culled}
use Rattle.stage.proofs.Judged.{and_left, and_right}
use Rattle.sequence.specs.Sequence.{Command, cull, depth, Book, plan}
use Rattle.sequence.proofs.Turn.{enter}
use Rattle.sequence.proofs.Accepts.{Accepted, Coded, on-cull, on-depth}
use Rattle.original.specs.Rsp.{Viewports, Texcoords}
use Rattle.original.specs.Drawing.{Columns, Ok, common, cull_display_list, branch_z}
use Rattle.original.specs.Walk.{World, execute}
use Rattle.original.specs.Relation.{is_some, or_else, Near}
use Rattle.original.specs.Domain.{Agrees}
use Rattle.original.proofs.Readers.{wide-same}

-- an option that is there, by its mark and its value
pub record There {A : Type 0} (l : List (Option A)) (i : ℕ) : Type 0 where
  pub value : A
  pub is : get_or l i none ≡ some value
  pub read : (d e : A) → get_or (map (or_else d) l) i e ≡ value

pub there : {A : Type 0} (l : List (Option A)) (i : ℕ) → get_or (map is_some l) i false ≡ true → There l i
there [] i h = absurd (false≢true h)
there (none ∷ l) zero h = absurd (false≢true h)
there (some x ∷ l) zero h = record { value = x; is = refl; read = λ d e. refl }
there (y ∷ l) (suc i) h = let t = there l i h in record { value = t.value; is = t.is; read = t.read }

-- yes or no as a number
bit_is : (b : Bool) → bit b ≡ cond b 1 0
bit_is true = refl
bit_is false = refl

module _ {D : Bool → Bool → Type 0} {G : ℕ → ℕ → Type 0} {P : List Float → List (List Float) → Viewports → Type 0} {X : ℕ → List (List Float) → Texcoords → Type 0} {R : List Row → Columns → Type 0} {k : Book} {w : World} (N : Near D G P X R k w) where
  abbrev Owes : Command → Type 0
  Owes c = Accepted (λ vs t e. Agrees (Near D G P X R) vs (enter t e k) (execute c w)) (plan family_of limit c k)

  -- ---- depth test

  slot-loaded : (slot : ℕ) → held 256 k.state.loaded slot ≡ true → leb 256 slot || not (get_or w.rsp.slots.loaded slot false) ≡ false
  unfolding held
  slot-loaded slot h =
      let a : get_or w.rsp.slots.loaded slot false ≡ true = ap (λ (l : List Bool). get_or l slot false) (sym N.held.slots.loaded) ∙ and_right (ltb slot 256) (get_or k.state.loaded slot false) h in
      let b : slot < 256 = ltb-true slot 256 (and_left (ltb slot 256) (get_or k.state.loaded slot false) h) in
      rw (a, lt-leb 256 slot b)

  pub depth-agrees : (slot threshold : ℕ) → threshold < 4294967296 → Owes (depth slot threshold)
  unfolding plan execute branch_z
  depth-agrees slot threshold small =
      on-depth _ 256 k.state slot threshold
      (λ a b.
      let t = there w.rsp.slots.screen_z slot (ap (λ (l : List Bool). get_or l slot false) (sym N.held.slots.deep) ∙ b) in
      let z : get_or k.state.z slot nan ≡ t.value = ap (λ (l : List Float). get_or l slot nan) N.held.slots.z ∙ t.read math.zero nan in
      rw (slot-loaded slot a, t.is, wide-same threshold small, z) (ap (λ (n : ℕ). n ∷ []) (bit_is (le t.value (of_ratio binary64 (pos threshold) 65536))), N))

  -- ---- cull test

  common-is : (n i code : ℕ) → Coded k.state (slots_from i n) → common w.rsp.slots n i code ≡ Ok (not (eqb (anded code (codes_of k.state (slots_from i n))) 0))
  unfolding common
  common-is zero i code h = refl
  common-is (suc n) i code h =
      let a : get_or w.rsp.slots.loaded i false ≡ true = ap (λ (l : List Bool). get_or l i false) (sym N.held.slots.loaded) ∙ h.0 in
      let t = there w.rsp.slots.clip_codes i (ap (λ (l : List Bool). get_or l i false) (sym N.held.slots.coded) ∙ h.1) in
      let c : get_or k.state.code i 0 ≡ t.value = ap (λ (l : List ℕ). get_or l i 0) N.held.slots.code ∙ t.read 0 0 in
      rw (a, t.is, c) (common-is n (i + 1) (bit_and code t.value) h.2)

  pub cull-agrees : (first last : ℕ) → Owes (cull first last)
  unfolding plan execute cull_display_list
  cull-agrees first last =
      on-cull _ 256 k.state first last
      (λ a b h.
      rw (le-ltb last first a, lt-leb 256 last b, common-is (last + 1 - first) first 0x0f h) (ap (λ (n : ℕ). n ∷ []) (bit_is (culled (codes_of k.state (slots_to first last)))), N))
