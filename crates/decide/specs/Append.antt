-- An entry appended to a table unless it compares equal to the last one. Definitions only.
use Rattle.std.specs.Prelude.{◌-◌, Bool, List, [], ◌∷◌, length, get_or, Float}
use Rattle.std.specs.Float.Ieee.{eq}
use Rattle.numbers.specs.Choice.{pick}
use Rattle.areas.specs.Area.{matches}
use Rattle.areas.specs.Table.{Table, Edit, keep, grow}

-- the last entry in use
abbrev pub final : {A : Type 0} → List (List A) → List A
final t = get_or t (length t - 1) []

-- the entries es appended where b holds
abbrev pub only_if : {E : Type 0} → Bool → List E → Edit E
only_if b es = pick b (grow es) keep

-- the entry e appended, unless the last entry compares equal to it: zeros of either sign are equal, a NaN never is
unfoldable pub appended : Table (List Float) → List Float → Edit (List Float)
appended t e = pick (matches eq (final t.used) e) keep (grow (e ∷ []))
