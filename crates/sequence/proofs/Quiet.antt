-- The commands that touch no table: whatever they do, their edits are none. Assumes nothing.
use Prim.Native.Nat.{ℕ}
use mathlib.Core.Bool.{Bool}
use mathlib.Core.List.{List}
use lib.IntN.{ℤ}
use lib.Dec.{eqb}
use Rattle.decide.specs.declared.family.Family.{Family}
use Rattle.stage.specs.declared.State.{State}
use Rattle.stage.specs.declared.settings.Microcode.{Microcode}
use Rattle.stage.specs.Plan.{Edits, untouched}
use Rattle.stage.specs.Sound.{state_sound}
use Rattle.stage.specs.Matrices.{geometry_plan}
use Rattle.stage.specs.Lights.{texture_plan, fog_plan, number_plan, ambient_plan, slot_plan, light_plan, lookat_plan, microcode_plan}
use Rattle.sequence.proofs.Accepts.{Accepted, on-does, on-unless, on-pick}

module _ (Q : List ℕ → State → Edits → Type 0) (h : (vs : List ℕ) (t : State) → Q vs t untouched) (s : State) where
  -- geometry mode
  pub on-geometry : (f : Family) (off on : ℕ) → Accepted Q (geometry_plan f s off on)
  unfolding geometry_plan
  on-geometry f off on = on-unless Q (state_sound s) 10 _ _ (λ _. on-does Q _ _ _ (h _ _))

  -- texture
  pub on-texture : (tile level : ℕ) (on : Bool) (sc tc : ℕ) → Accepted Q (texture_plan s tile level on sc tc)
  unfolding texture_plan
  on-texture tile level on sc tc = on-unless Q (state_sound s) 10 _ _ (λ _. on-does Q _ _ _ (h _ _))

  -- fog
  pub on-fog : (multiplier offset : ℤ) → Accepted Q (fog_plan s multiplier offset)
  unfolding fog_plan
  on-fog multiplier offset = on-unless Q (state_sound s) 10 _ _ (λ _. on-does Q _ _ _ (h _ _))

  -- number of lights
  pub on-number : (n : ℕ) → Accepted Q (number_plan s n)
  unfolding number_plan
  on-number n = on-unless Q (state_sound s) 10 _ _ (λ _. on-does Q _ _ _ (h _ _))

  -- light: the ambient colour, or a slot
  pub on-light : (slot : ℕ) (bytes : List ℕ) (at : ℕ) → Accepted Q (light_plan s slot bytes at)
  unfolding light_plan ambient_plan slot_plan
  on-light slot bytes at =
      on-unless Q (state_sound s) 10 _ _
      (λ _.
      on-pick Q (eqb slot s.lights.number) _ _
      (λ _. on-unless Q _ 7 _ _ (λ _. on-does Q _ _ _ (h _ _)))
      (λ _. on-unless Q _ 7 _ _ (λ _. on-does Q _ _ _ (h _ _))))

  -- lookat
  pub on-lookat : (slot : ℕ) (bytes : List ℕ) (at : ℕ) → Accepted Q (lookat_plan s slot bytes at)
  unfolding lookat_plan
  on-lookat slot bytes at = on-unless Q (state_sound s) 10 _ _ (λ _. on-unless Q _ 7 _ _ (λ _. on-does Q _ _ _ (h _ _)))

  -- microcode change
  pub on-microcode : (to : Microcode) → Accepted Q (microcode_plan s to)
  unfolding microcode_plan
  on-microcode to = on-unless Q (state_sound s) 10 _ _ (λ _. on-does Q _ _ _ (h _ _))
