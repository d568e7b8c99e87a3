-- Two geometry modes in a row, and the one that they are joined into: what of the state is the same. Definitions only.
use Rattle.std.specs.Prelude.{◌≡◌, Bool, true, false, ◌&&◌, ◌||◌, ℕ}
use Rattle.mode.specs.declared.ModeWord.{ModeWord}
use Rattle.mode.specs.Word.{leaves, joined}
use Rattle.decide.specs.declared.family.Family.{Family}
use Rattle.decide.specs.Stack.{relit}
use Rattle.stage.specs.declared.State.{State}
use Rattle.stage.specs.With.{with_lights, marked}
use Rattle.stage.specs.Plan.{carry, nothing}
use Rattle.stage.specs.Sound.{state_sound}
use Rattle.stage.specs.Matrices.{geometry_plan}

-- the state that a geometry mode hands back, by its contract; F is the family of each microcode
abbrev pub then : (ℕ → Family) → ModeWord → State → State
then F w s = (carry nothing (geometry_plan (F s.microcode) s w.off w.on) s tt).state

-- the lighting bit of the word g is turned over by the first, and back by the second
abbrev pub over_and_back : Family → ModeWord → ModeWord → ℕ → Bool
over_and_back f p q g = relit f g (leaves p g) && relit f (leaves p g) (leaves q (leaves p g))

-- the lights marked changed where b says so, and otherwise as they were
abbrev pub also_marked : Bool → State → State
also_marked b s = with_lights s (marked s.lights (s.lights.changed || b))

-- what may be relied on where neighbouring mode words of a list are joined. `merged` of proofs/Merged.antt proves it whole
pub record Merged (F : ℕ → Family) (p q : ModeWord) (s : State) : Type 0 where
  -- the two leave the state that the joined one leaves, but that they mark the lights where the lighting bit goes over and back
  pub accepted : state_sound s ≡ true → then F q (then F p s) ≡ also_marked (over_and_back (F s.microcode) p q s.geometry) (then F (joined p q) s)
  -- a state that one refuses all refuse
  pub refused : state_sound s ≡ false → (then F q (then F p s) ≡ s) × (then F (joined p q) s ≡ s)
