-- Refusals 8 and 9: whether a table has room for what it is to hold. Definitions only.
use Rattle.std.specs.Prelude.{ℕ, ◌+◌, Bool, leb}

-- a table as it is judged: its number, entries in use, entries to be appended, room
pub record Lent : Type 0 where
  pub number : ℕ
  pub used : ℕ
  pub more : ℕ
  pub room : ℕ

-- it has room for what it is to hold
abbrev pub fits : Lent → Bool
fits t = leb (t.used + t.more) t.room
