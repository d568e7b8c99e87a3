-- The geometry mode word: what a mode word leaves of it, and two neighbouring mode words as one. Definitions only.
use Rattle.std.specs.Prelude.{ℕ, ◌^◌, ◌≤◌, ◌<◌, ◌≡◌}
use Rattle.std.specs.Int.Bits.{bit_and, bit_or}
use Rattle.mode.specs.declared.ModeWord.{ModeWord}

-- the geometry mode word: (old AND off) OR on
abbrev pub geometry_after : ℕ → ℕ → ℕ → ℕ
geometry_after off on old = bit_or (bit_and old off) on

-- the same, of a mode word's two masks
abbrev pub leaves : ModeWord → ℕ → ℕ
leaves p old = geometry_after p.off p.on old

-- off1, on1 followed by off2, on2 as one: off1 AND off2 with (on1 AND off2) OR on2
abbrev pub joined : ModeWord → ModeWord → ModeWord
joined p q = record { off = bit_and p.off q.off; on = bit_or (bit_and p.on q.off) q.on }

-- all ones with 0
abbrev pub keeps_all : ModeWord
keeps_all = record { off = 0xFFFFFFFF; on = 0 }

-- what may be relied on where neighbouring mode words are joined, of the geometry mode word alone: for all numbers where no bound is
-- asked, so for all of 32 bits. `joins` of proofs/Joins.antt proves it whole
pub record Joins : Type 0 where
  -- the first and then the second leave the same word as the two joined
  pub same_word : (p q : ModeWord) (old : ℕ) → leaves q (leaves p old) ≡ leaves (joined p q) old
  -- all ones with 0 changes nothing of a word, and nothing of a mode word that it is joined with
  pub all_kept : (old : ℕ) → old < 2 ^ 32 → leaves keeps_all old ≡ old
  pub kept_before : (p : ModeWord) → p.off < 2 ^ 32 → joined keeps_all p ≡ p
  pub kept_behind : (p : ModeWord) → p.off < 2 ^ 32 → p.on < 2 ^ 32 → joined p keeps_all ≡ p
  -- of three it is all the same which two are joined first
  pub associative : (p q r : ModeWord) → joined (joined p q) r ≡ joined p (joined q r)
  -- no other `on` would do, and another `off` only in bits that `on` sets anyhow
  pub only : (p q w : ModeWord) → p.off < 2 ^ 32 → w.off < 2 ^ 32 → ((old : ℕ) → old < 2 ^ 32 → leaves w old ≡ leaves q (leaves p old))
      → (w.on ≡ (joined p q).on) × (bit_or w.off w.on ≡ bit_or (joined p q).off (joined p q).on)
  -- the joined `off` is no larger than either, so it fits the field that one of them came from
  pub narrow : (p q : ModeWord) → ((joined p q).off ≤ p.off) × ((joined p q).off ≤ q.off)
