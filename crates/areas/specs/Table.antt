-- A table of entries in a lent area, and what a command does to it. Definitions only.
use Rattle.std.specs.Prelude.{ℕ, ◌+◌, List, [], ◌∷◌, length}
use Rattle.areas.specs.Area.{entries, room, write}

-- a lent table: its entries in use, and how many it has room for
pub record Table (E : Type 0) : Type 0 where
  pub used : List E
  pub room : ℕ

-- the table of n entries in use, of w numbers each, in the area l
abbrev pub table : {A : Type 0} → ℕ → ℕ → List A → Table (List A)
table w n l = record { used = entries w n l; room = room w (length l) }

-- what a command does to a table: nothing, entries appended, or entry i replaced
pub data Edit (E : Type 0) : Type 0 where
  keep : Edit E
  grow : List E → Edit E
  patch : ℕ → E → Edit E

-- how many entries an edit appends
abbrev pub more : {E : Type 0} → Edit E → ℕ
more keep = 0
more (grow es) = length es
more (patch i e) = 0

-- the count of a table after an edit
abbrev pub counted : {E : Type 0} → Edit E → ℕ → ℕ
counted keep n = n
counted (grow es) n = n + length es
counted (patch i e) n = n

-- an area of which n entries of w numbers are in use, after an edit; a number that no rule names stays
abbrev pub after : {A : Type 0} → ℕ → ℕ → Edit (List A) → List A → List A
after w n keep l = l
after w n (grow es) l = write w n es l
after w n (patch i e) l = write w i (e ∷ []) l
