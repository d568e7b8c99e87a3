-- The meaning of texture, fog, lights and lookat, and of the microcode change (REFERENCE 8 to 10). Definitions only.
use Rattle.std.specs.Prelude.{ℕ, ◌+◌, Bool, true, List, [], eqb, ℤ, Float}
use Rattle.layout.specs.declared.records.Light.{Light}
use Rattle.layout.specs.Layout.{colour_at, direction_at, light_at}
use Rattle.decide.specs.Lights.{slotted}
use Rattle.stage.specs.declared.State.{State}
use Rattle.stage.specs.declared.Lights.{Lights}
use Rattle.stage.specs.declared.Lookat.{Lookat}
use Rattle.stage.specs.declared.settings.Microcode.{Microcode}
use Rattle.stage.specs.declared.settings.Microcode.TheVariants.{F3dex2, F3dex2NoN}
use Rattle.stage.specs.Opening.{unloaded}
use Rattle.stage.specs.Plan.{Plan, does, pick, needs, untouched}
use Rattle.stage.specs.Sound.{sound}
use Rattle.stage.specs.With.{with_fog, with_texture, with_lights, with_lookat, with_microcode, undefined, with_slots, with_number, with_ambient, with_columns, with_axes, marked}

-- Texture: tile, level, on, sc and tc as given
unfoldable pub texture_plan : State → ℕ → ℕ → Bool → ℕ → ℕ → Plan
texture_plan s tile level on sc tc = sound s (does [] (with_texture s (record { tile = tile; level = level; on = on; sc = sc; tc = tc })) untouched)

-- Fog: multiplier and offset
unfoldable pub fog_plan : State → ℤ → ℤ → Plan
fog_plan s multiplier offset = sound s (does [] (with_fog s multiplier offset) untouched)

-- ---- lights and lookat

-- the light x in slot k; a slot from 8 on stores nothing
unfoldable pub light_in : Lights → ℕ → Light → Lights
light_in l k x = with_columns l (slotted 8 l.directions k x.direction) (slotted 8 l.colours k x.colour)

-- the axis d in slot k; a slot from 2 on stores nothing
unfoldable pub axis_in : Lookat → ℕ → List Float → Lookat
axis_in l k d = with_axes l (slotted 2 l.axes k d) l.changed

-- the lights l, marked changed
abbrev pub lights_to : State → Lights → Plan
lights_to s l = does [] (with_lights s (marked l true)) untouched

-- Number of lights: n, however it was told
unfoldable pub number_plan : State → ℕ → Plan
number_plan s n = sound s (lights_to s (with_number s.lights n))

-- the ambient colour: 3 bytes
unfoldable pub ambient_plan : State → List ℕ → ℕ → Plan
ambient_plan s bytes at = needs 3 at bytes (lights_to s (with_ambient s.lights (colour_at bytes at)))

-- a slot below 8: 11 bytes; one above needs them too
unfoldable pub slot_plan : State → ℕ → List ℕ → ℕ → Plan
slot_plan s slot bytes at = needs 11 at bytes (lights_to s (light_in s.lights slot (light_at bytes at)))

-- Light: slot = number is the ambient colour
unfoldable pub light_plan : State → ℕ → List ℕ → ℕ → Plan
light_plan s slot bytes at = sound s (pick (eqb slot s.lights.number) (ambient_plan s bytes at) (slot_plan s slot bytes at))

-- the lookat l, marked changed
abbrev pub lookat_to : State → Lookat → Plan
lookat_to s l = does [] (with_lookat s (with_axes l l.axes true)) untouched

-- Lookat: slots 0 and 1 take the direction of 11 bytes; others need them too
unfoldable pub lookat_plan : State → ℕ → List ℕ → ℕ → Plan
lookat_plan s slot bytes at = sound s (needs 11 at bytes (lookat_to s (axis_in s.lookat slot (direction_at bytes (at + 8)))))

-- ---- microcode

-- the number by which a state holds its microcode
abbrev pub microcode_number : Microcode → ℕ
microcode_number F3dex2 = 0
microcode_number F3dex2NoN = 1

-- the state after a microcode change: matrix undefined; slots unloaded, their codes, depths and drawn marks cleared
unfoldable pub switched : State → Microcode → State
switched s m = with_slots (undefined (with_microcode s (microcode_number m))) (unloaded s.row s.ever)

-- Microcode change
unfoldable pub microcode_plan : State → Microcode → Plan
microcode_plan s m = sound s (does [] (switched s m) untouched)
