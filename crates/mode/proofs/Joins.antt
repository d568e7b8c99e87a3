-- Neighbouring mode words may be joined. Assumes nothing.
use mathlib.Core.Path.{◌≡◌, sym, ap, ◌∙◌}
use Prim.Native.Nat.{ℕ, ◌<◌, ◌^◌}
use native.Mathlib.Nat.{mod-eq_of_lt, lt_of_le_of_lt}
use native.Mathlib.Omega.{arith}
use lib.Bits.{bit_and, bit_or, and_comm, and_le_l, and_le_r, and_mask, or_zero_r}
use Rattle.mode.specs.declared.ModeWord.{ModeWord}
use Rattle.mode.specs.Word.{geometry_after, leaves, joined, Joins}
use Rattle.mode.proofs.Digits.{and_assoc, or_assoc, and-over-or}

-- off1, on1 followed by off2, on2, on any number: for the word, and again for the `on` of three that are joined
twice : (off1 on1 off2 on2 old : ℕ)
    → geometry_after off2 on2 (geometry_after off1 on1 old) ≡ geometry_after (bit_and off1 off2) (bit_or (bit_and on1 off2) on2) old
twice off1 on1 off2 on2 old =
    ap (λ (x : ℕ). bit_or x on2) (and-over-or (bit_and old off1) on1 off2)
    ∙ or_assoc (bit_and (bit_and old off1) off2) (bit_and on1 off2) on2
    ∙ ap (λ (x : ℕ). bit_or x (bit_or (bit_and on1 off2) on2)) (and_assoc old off1 off2)

-- 32 ones keep 32 bits
ones : (x : ℕ) → x < 2 ^ 32 → bit_and x 0xFFFFFFFF ≡ x
ones x h = and_mask x 32 ∙ mod-eq_of_lt h

kept : (x : ℕ) → x < 2 ^ 32 → geometry_after 0xFFFFFFFF 0 x ≡ x
kept x h = or_zero_r (bit_and x 0xFFFFFFFF) ∙ ones x h

before : (x : ℕ) → x < 2 ^ 32 → bit_and 0xFFFFFFFF x ≡ x
before x h = and_comm 0xFFFFFFFF x ∙ ones x h

-- what is left of all ones: the bits of either mask
of_ones : (w : ModeWord) → w.off < 2 ^ 32 → leaves w 0xFFFFFFFF ≡ bit_or w.off w.on
of_ones w h = ap (λ (x : ℕ). bit_or x w.on) (before w.off h)

pub joins : Joins
joins =
    record {
      same_word = λ p q old. twice p.off p.on q.off q.on old;
      all_kept = kept;
      kept_before = λ p h. rw (before p.off h);
      kept_behind = λ p h k. rw (ones p.off h, kept p.on k);
      associative = λ p q r. rw (and_assoc p.off q.off r.off, twice q.off q.on r.off r.on p.on);
      only =
          λ p q w h k e. (
            e 0 (omega arith),
            sym (of_ones w k) ∙ e 0xFFFFFFFF (omega arith) ∙ twice p.off p.on q.off q.on 0xFFFFFFFF
                ∙ of_ones (joined p q) (lt_of_le_of_lt (and_le_l p.off q.off) h),
          );
      narrow = λ p q. (and_le_l p.off q.off, and_le_r p.off q.off);
    }
