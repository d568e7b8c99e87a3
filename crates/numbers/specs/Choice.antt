-- One of two, by a test, and several tests in one. Shut, so that what they choose between can be found; proofs go by cases of the test.
use Rattle.std.specs.Prelude.{Bool, true, false, ◌&&◌, List, [], ◌∷◌}

-- x where the test holds, else y
unfoldable pub pick : {A : Type 0} → Bool → A → A → A
pick true x y = x
pick false x y = y

-- r where the test fails, a refusal most often, else what comes after
unfoldable pub unless : {A : Type 0} → Bool → A → A → A
unless true r p = p
unless false r p = r

-- each of the tests holds
unfoldable pub all : List Bool → Bool
all [] = true
all (b ∷ bs) = b && all bs
