-- Laws of the light, lookat and microcode commands. Assumes nothing.
use mathlib.Core.Path.{◌≡◌, refl, ◌∙◌}
use Prim.Native.Nat.{ℕ, ◌≤◌}
use native.Mathlib.Omega.{arith}
use mathlib.Core.Bool.{Bool, true, false}
use mathlib.Core.List.{List, []}
use lib.Dec.{eqb}
use lib.IntN.{ℤ}
use lib.Ieee.{Float}
use borrow.Author.Tests.{ne_eqb}
use Rattle.layout.specs.declared.records.Light.{Light}
use Rattle.layout.specs.Layout.{colour_at, light_at}
use Rattle.decide.proofs.Slots.{slot-above}
use Rattle.stage.specs.declared.State.{State}
use Rattle.stage.specs.declared.Lights.{Lights}
use Rattle.stage.specs.declared.Lookat.{Lookat}
use Rattle.stage.specs.declared.settings.Microcode.{Microcode}
use Rattle.stage.specs.Plan.{Plan, refuse, does, unless, pick, needs, nothing, carry, untouched}
use Rattle.stage.specs.Sound.{state_sound, sound}
use Rattle.stage.specs.Lights.{light_in, axis_in, lights_to, lookat_to, ambient_plan, slot_plan, light_plan, lookat_plan, switched, microcode_plan}
use Rattle.stage.specs.With.{Parts, parts_of, with_ambient}
use Rattle.stage.proofs.Cascade.{left}
use Rattle.stage.proofs.Judged.{Ranges, ranges}

-- what a microcode change leaves as it was: slots' rows, tables, matrices and settings, so that a slot loaded before still draws
abbrev pub Remains : Type 0
Remains = record { row : List ℕ; ever : List Bool; depth : ℕ; stack : List Float; projection : List Float; combined : List Float; geometry : ℕ; fogmul : ℤ; fogoff : ℤ; parts : Parts }

abbrev pub remains : State → Remains
remains s = record { row = s.row; ever = s.ever; depth = s.depth; stack = s.stack; projection = s.projection; combined = s.combined; geometry = s.geometry; fogmul = s.fogmul; fogoff = s.fogoff; parts = parts_of s }

-- two plans behind one test are the same where they are the same once it holds
unless-same : (b : Bool) (n : ℕ) (vs : List ℕ) (p q : Plan) → (b ≡ true → p ≡ q) → unless b (refuse n vs) p ≡ unless b (refuse n vs) q
unfolding unless
unless-same true n vs p q f = f refl
unless-same false n vs p q f = refl

-- one of two plans that need bytes, as one plan
needs-picked : (b : Bool) (s : State) (n m at : ℕ) (bytes : List ℕ) (l k : Lights) → pick b (needs n at bytes (lights_to s l)) (needs m at bytes (lights_to s k)) ≡ needs (pick b n m) at bytes (lights_to s (pick b l k))
unfolding pick
needs-picked true s n m at bytes l k = refl
needs-picked false s n m at bytes l k = refl

-- a light needs 3 bytes or 11, and what the lights become goes by the same test
pub light-plan : (s : State) (slot : ℕ) (bytes : List ℕ) (at : ℕ) → let b = eqb slot s.lights.number in
    light_plan s slot bytes at ≡ sound s (needs (pick b 3 11) at bytes (lights_to s (pick b (with_ambient s.lights (colour_at bytes at)) (light_in s.lights slot (light_at bytes at)))))
unfolding light_plan ambient_plan slot_plan
light-plan s slot bytes at = rw (needs-picked (eqb slot s.lights.number) s 3 11 at bytes)

-- a slot that there is not stores no light, and no axis
light-in-above : (l : Lights) (k : ℕ) (x : Light) → 8 ≤ k → light_in l k x ≡ l
unfolding light_in
light-in-above l k x h = rw (slot-above 8 k l.directions x.direction h, slot-above 8 k l.colours x.colour h)

axis-in-above : (l : Lookat) (k : ℕ) (d : List Float) → 2 ≤ k → axis_in l k d ≡ l
unfolding axis_in
axis-in-above l k d h = rw (slot-above 2 k l.axes d h)

-- A LIGHT SLOT ABOVE 7 CHANGES NOTHING BUT THE CHANGED MARK, whatever the number of lights
pub light-above : (s : State) (slot : ℕ) (bytes : List ℕ) (at : ℕ) → 8 ≤ slot → light_plan s slot bytes at ≡ sound s (needs 11 at bytes (lights_to s s.lights))
unfolding light_plan slot_plan
light-above s slot bytes at h =
    unless-same (state_sound s) _ _ _ _
    (λ e. let r : Ranges s = ranges s e in left _ _ _ (ne_eqb slot s.lights.number (λ q. omega (arith, r.lights))) ∙ rw (light-in-above s.lights slot (light_at bytes at) h))

-- A LOOKAT SLOT ABOVE 1 CHANGES NOTHING BUT THE CHANGED MARK
pub lookat-above : (s : State) (slot : ℕ) (bytes : List ℕ) (at : ℕ) → 2 ≤ slot → lookat_plan s slot bytes at ≡ sound s (needs 11 at bytes (lookat_to s s.lookat))
unfolding lookat_plan
lookat-above s slot bytes at h = rw (axis-in-above s.lookat slot _ h)

-- A MICROCODE CHANGE KEEPS every slot's row and ever mark, every count, the matrices and the settings
pub microcode-keeps : (s : State) (m : Microcode) → remains (carry nothing (microcode_plan s m) s tt).state ≡ remains s
unfolding microcode_plan unless carry switched
microcode-keeps s m = by (state_sound s)
  where
    by : (b : Bool) → remains (carry nothing (unless b (refuse 10 []) (does [] (switched s m) untouched)) s tt).state ≡ remains s
    by true = refl
    by false = refl
