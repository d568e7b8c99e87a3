-- What an ink count tells of a sequence, said by the corners that were drawn. Definitions only.
use Rattle.std.specs.Prelude.{ℕ, ◌+◌, ◌≤◌, ◌≡◌, Bool, true, false, ◌&&◌, List, [], ◌∷◌, ◌++◌, eqb}
use Rattle.decide.specs.declared.family.Family.{Family}
use Rattle.stage.specs.declared.State.{State}
use Rattle.stage.specs.Plan.{pick}
use Rattle.sequence.specs.Sequence.{Command, ink, Areas, book, plan, result, is_done}
use Rattle.finished.specs.Shown.{Corner, Triangle}
use Rattle.finished.specs.Statement.{after, beside}

-- there is nothing in the list
abbrev pub empty : {A : Type 0} → List A → Bool
empty [] = true
empty (x ∷ xs) = false

-- a corner by value is inked: no light shines on it, and its colour word is the one asked
abbrev pub inked_as : ℕ → Corner → Bool
inked_as colour v = empty v.lights && eqb v.colour colour

-- how many of some corners are, and of the corners of some triangles
abbrev pub inked_corners : ℕ → List Corner → ℕ
inked_corners colour [] = 0
inked_corners colour (v ∷ vs) = pick (inked_as colour v) 1 0 + inked_corners colour vs

abbrev pub inked_in : ℕ → List Triangle → ℕ
inked_in colour [] = 0
inked_in colour (T ∷ Ts) = inked_corners colour T.corners + inked_in colour Ts

-- AN INK COUNT TELLS OF WHAT WAS DRAWN, for the families, limits and seats of demand 3: accepted after any commands on any areas, it tells how many
-- corners of the triangles that the bench gave are inked, each as it was when drawn
abbrev pub InkTells : Type 0
InkTells =
    (F : ℕ → Family) (limit : State → ℕ) (seats : ℕ) → ((s : State) → limit s ≤ seats) → seats ≤ 256
    → (l : Areas) (cs : List Command) (colour : ℕ)
    → let p = after (plan F limit) l cs in
    is_done (plan F limit (ink colour) (book p)) ≡ true
    → (result (plan F limit) (ink colour) p).values ≡ inked_in colour (beside F (plan F limit) seats l cs).triangles ∷ []

-- WHAT WAS COUNTED STAYS COUNTED: whatever commands ds come after cs, refused ones included, no fewer corners are inked
abbrev pub InkStays : Type 0
InkStays =
    (F : ℕ → Family) (limit : State → ℕ) (seats : ℕ) (l : Areas) (cs ds : List Command) (colour : ℕ)
    → inked_in colour (beside F (plan F limit) seats l cs).triangles ≤ inked_in colour (beside F (plan F limit) seats l (cs ++ ds)).triangles
