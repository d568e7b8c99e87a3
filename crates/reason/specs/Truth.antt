-- What makes a reason true of the slots' clip codes: said of their binary digits, slot by slot, without the definitions of the test and of
-- its explainer. Definitions only.
use Rattle.std.specs.Prelude.{ℕ, ◌+◌, ◌/◌, ◌%◌, ◌^◌, ◌≤◌, ◌<◌, ◌≡◌, List, get_or}
use Rattle.reason.specs.declared.Reason.{Reason}
use Rattle.reason.specs.Reason.{told}
use Rattle.reason.specs.declared.Reason.TheVariants.{AllOutside, FirstInside}

module _ (code : List ℕ) where
  -- slot i lies outside plane p: bit p of its clip code is 1
  abbrev pub Outside : ℕ → ℕ → Type 0
  Outside p i = get_or code i 0 / 2 ^ p % 2 ≡ 1

  -- each of the slots from first on, up to but without slot end, does
  abbrev pub Outsides : ℕ → ℕ → ℕ → Type 0
  Outsides p first end = (i : ℕ) → first ≤ i → i < end → Outside p i

  module _ (first last : ℕ) where
    -- yes, for plane p: it is one of the four, every slot of the range has that bit, and no lower plane has that property
    pub record TrueYes (p : ℕ) : Type 0 where
      pub side : p < 4
      pub every : Outsides p first (last + 1)
      pub lowest : (q : ℕ) → q < p → Outsides q first (last + 1) → ⊥

    -- no, for plane p: slot x of the range lacks that bit, and every earlier slot of the range has it
    pub record TrueNo (p x : ℕ) : Type 0 where
      pub from : first ≤ x
      pub upto : x ≤ last
      pub lacks : Outside p x → ⊥
      pub earlier : Outsides p first x

    -- a reason is true of the codes
    abbrev pub TrueReason : Reason → Type 0
    TrueReason (AllOutside plane) = TrueYes plane
    TrueReason (FirstInside left right bottom top) = TrueNo 0 left × TrueNo 1 right × TrueNo 2 bottom × TrueNo 3 top

    -- some values are those of a true reason
    pub record TellsTruth (vs : List ℕ) : Type 0 where
      pub why : Reason
      pub values : vs ≡ told why
      pub holds : TrueReason why
