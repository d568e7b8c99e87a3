-- Slots and their marks. Definitions only.
use Rattle.std.specs.Prelude.{ℕ, Bool, true, false, not, ◌&&◌, ◌||◌, List, [], ◌∷◌, get_or, ltb}
use Rattle.numbers.specs.Choice.{pick}
use Rattle.decide.specs.declared.family.Family.{Family}
use Rattle.decide.specs.Family.{flag}

-- 1 for yes, 0 for no
abbrev pub bit : Bool → ℕ
bit true = 1
bit false = 0

-- slot i is one of so many, and has the mark
unfoldable pub held : ℕ → List Bool → ℕ → Bool
held slots marks i = ltb i slots && get_or marks i false

-- three rows in order, or the first and the last exchanged
abbrev pub corners : Bool → ℕ → ℕ → ℕ → List ℕ
corners swap x y z = pick swap z x ∷ y ∷ pick swap x z ∷ []

-- the cull bits of a geometry mode word: both set, one set at least, front only
abbrev pub both : Family → ℕ → Bool
both f g = flag f.front g && flag f.back g

abbrev pub culls : Family → ℕ → Bool
culls f g = flag f.front g || flag f.back g

abbrev pub swaps : Family → ℕ → Bool
swaps f g = flag f.front g && not (flag f.back g)
