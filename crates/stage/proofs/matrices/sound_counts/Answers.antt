use mathlib.Core.Bool.{Bool, ◌&&◌, and_assoc, and-true}
use mathlib.Core.Path.{◌≡◌}
use mathlib.Core.List.{[], ◌∷◌}
use Rattle.numbers.specs.Choice.{all}
use Rattle.stage.proofs.matrices.sound_counts.Goals as goal

-- eleven tests one after the other, and in one
eleven : (a b c d e f g h k l m : Bool) → (a && b && c && d && e && f && g && h && k && l && m) ≡ all (a ∷ b ∷ c ∷ d ∷ e ∷ f ∷ g ∷ h ∷ k ∷ l ∷ m ∷ [])
unfolding all
eleven a b c d e f g h k l m = simp (and_assoc, and-true)

pub returns : goal.returns
returns c = eleven _ _ _ _ _ _ _ _ _ _ _
