-- Commands that change no table: texture, fog, geometry mode, light number, light, lookat, microcode change, and the two tests. Assumes nothing.
use mathlib.Core.Path.{◌≡◌, refl, sym, ap, ◌∙◌}
use Prim.Native.Nat.{ℕ, zero, suc, ◌+◌, ◌/◌, ◌≤◌, ◌<◌, min}
use native.Mathlib.Omega.{arith}
use mathlib.Core.Bool.{Bool, true, false, ◌||◌, cond}
use mathlib.Core.List.{List, [], ◌∷◌, map}
use mathlib.Core.Option.{Option, none, some}
use lib.ListN.{length, set, replicate, length-set}
use lib.Dec.{eqb, ltb, leb}
use lib.IntN.{ℤ}
use lib.Ieee.{Float}
use borrow.Author.Tests.{leb-true, ne_eqb}
use Rattle.decide.specs.Family.{f3dex2, family_of}
use Rattle.decide.specs.Lights.{slotted}
use Rattle.mode.specs.Word.{geometry_after}
use Rattle.decide.specs.Stack.{relit}
use Rattle.layout.specs.Layout.{colour_at, direction_at, light_at}
use Rattle.matrix.specs.Math as math
use Rattle.stage.specs.declared.Lights.{Lights}
use Rattle.stage.specs.declared.Lookat.{Lookat}
use Rattle.stage.specs.declared.settings.Microcode.{Microcode}
use Rattle.stage.specs.With.{marked, with_number, with_ambient, with_columns, with_axes}
use Rattle.stage.specs.Plan.{Row}
use Rattle.stage.specs.Sound.{state_sound, limit}
use Rattle.stage.specs.Matrices.{geometry_plan}
use Rattle.stage.specs.Lights.{texture_plan, fog_plan, number_plan, light_plan, ambient_plan, slot_plan, light_in, axis_in, lookat_plan, switched, microcode_plan}
use Rattle.sequence.specs.Sequence.{Command, geometry, texture, fog, number, light, lookat, microcode, Book, plan}
use Rattle.sequence.proofs.Turn.{enter}
use Rattle.sequence.proofs.Accepts.{Accepted, on-does, on-unless, on-pick}
use Rattle.original.specs.Math.{Mat4}
use Rattle.original.specs.Rsp.{Matrices, Viewports, Texcoords, Lighting, Looking, modify_geometry, set_num_lights, set_light, set_lookat, switch_microcode, col3, dir3}
use Rattle.original.specs.Drawing.{Columns}
use Rattle.original.specs.Walk.{World, execute, with_version}
use Rattle.original.specs.Relation.{MatrixSame, KeySame, LightsSame, LookSame, SlotsSame, is_some, or_else, Near}
use Rattle.original.specs.Domain.{Data, Agrees}
use Rattle.original.proofs.Alike.{relit-same}
use Rattle.original.proofs.Nears.{modes-near}
use Rattle.original.proofs.Readers.{colour-same, direction-same}
use Rattle.original.proofs.Small.{slotted-length, slotted-slots}

-- ---- a changed mark and a version counter

-- one more version: marked changed
pub key-bumped : (folded changed : Bool) (top : List Float) (k : Option (ℕ × Mat4)) (v : ℕ) → KeySame folded changed top k v → KeySame folded true top k (v + 1)
key-bumped folded changed top none v h = h
key-bumped folded changed top (some k) v h = (h.0, h.1, rw (ne_eqb k.0 (v + 1) (λ z. omega (arith, h.3, z))), omega (arith, h.3))

-- one more version where b says so
key-bumped-if : (b folded changed : Bool) (top : List Float) (k : Option (ℕ × Mat4)) (v : ℕ) → KeySame folded changed top k v
    → KeySame folded (changed || b) top k (cond b (v + 1) v)
key-bumped-if true folded changed top k v h = rw (or-true changed) (key-bumped folded changed top k v h)
  where
    or-true : (c : Bool) → c || true ≡ true
    or-true true = refl
    or-true false = refl
key-bumped-if false folded changed top k v h = rw (or-false changed) h
  where
    or-false : (c : Bool) → c || false ≡ c
    or-false true = refl
    or-false false = refl

-- ---- lights and lookat

direction-length : (s : List ℕ) (i : ℕ) → length (direction_at s i) ≡ 3
unfolding direction_at
direction-length s i = refl

colour-length : (s : List ℕ) (i : ℕ) → length (colour_at s i) ≡ 3
unfolding colour_at
colour-length s i = refl

cond-length : {A : Type 0} (b : Bool) (l : List A) (k : ℕ) (x : A) → length (cond b (set l k x) l) ≡ length l
cond-length true l k x = length-set l k x
cond-length false l k x = refl

lights-numbered : (n : ℕ) (l : Lights) (x : Lighting) → LightsSame l x
    → LightsSame (marked (with_number l (min (n / 24) 7)) true) (set_num_lights n x)
unfolding set_num_lights
lights-numbered n l x S =
    record {
      number = refl;
      few = omega arith;
      directions = S.directions;
      colours = S.colours;
      eight = S.eight;
      slots = S.slots;
      ambient = S.ambient;
      key = key-bumped l.folded l.changed l.top x.last_light_key x.light_version S.key;
      first = S.first;
    }

lights-relit : (b : Bool) (l : Lights) (x : Lighting) → LightsSame l x
    → LightsSame (marked l (l.changed || b)) (with_version x (cond b (x.light_version + 1) x.light_version))
lights-relit b l x S =
    record {
      number = S.number;
      few = S.few;
      directions = S.directions;
      colours = S.colours;
      eight = S.eight;
      slots = S.slots;
      ambient = S.ambient;
      key = key-bumped-if b l.folded l.changed l.top x.last_light_key x.light_version S.key;
      first = S.first;
    }

module _ (mem : List ℕ) (at : ℕ) (D : Data mem) (l : Lights) (x : Lighting) (S : LightsSame l x) where
  -- the ambient colour
  lights-ambient : at + 3 ≤ length mem → (slot : ℕ) → eqb slot x.num_dir ≡ true
      → LightsSame (marked (with_ambient l (colour_at mem at)) true) (set_light mem slot at x)
  unfolding set_light colour_at
  lights-ambient n slot e =
      record {
        number = S.number;
        few = S.few;
        directions = S.directions;
        colours = S.colours;
        eight = rw e S.eight;
        slots = rw e S.slots;
        ambient = rw e (colour-same mem at D.bytes D.short n);
        key = key-bumped l.folded l.changed l.top x.last_light_key x.light_version S.key;
        first = S.first;
      }

  -- a slot below 8, or above
  lights-slotted : at + 11 ≤ length mem → (slot : ℕ) → eqb slot x.num_dir ≡ false
      → LightsSame (marked (with_columns l (slotted 8 l.directions slot (direction_at mem (at + 8))) (slotted 8 l.colours slot (colour_at mem at))) true) (set_light mem slot at x)
  unfolding set_light
  lights-slotted n slot e =
      let dir = direction-same mem at D.bytes D.short n in
      let col = colour-same mem at D.bytes D.short (omega arith) in
      rw e
      (record {
        number = S.number;
        few = S.few;
        directions = slotted-length 8 slot l.directions (direction_at mem (at + 8)) ∙ S.directions;
        colours = slotted-length 8 slot l.colours (colour_at mem at) ∙ S.colours;
        eight = cond-length (ltb slot 8) x.lights slot (dir3 mem at, col3 mem at) ∙ S.eight;
        slots = λ k h. (
          slotted-slots (λ (p : List Float × List Float). p.0) 8 l.directions (direction_at mem (at + 8)) x.lights (dir3 mem at, col3 mem at) ([], []) slot (direction-length mem (at + 8)) dir S.directions S.eight (λ j q. (S.slots j q).0) k h,
          slotted-slots (λ (p : List Float × List Float). p.1) 8 l.colours (colour_at mem at) x.lights (dir3 mem at, col3 mem at) ([], []) slot (colour-length mem at) col S.colours S.eight (λ j q. (S.slots j q).1) k h,
        );
        ambient = S.ambient;
        key = key-bumped l.folded l.changed l.top x.last_light_key x.light_version S.key;
        first = S.first;
      })

-- the lookat axis in its slot
lookat-slotted : (mem : List ℕ) (at : ℕ) → Data mem → (l : Lookat) (x : Looking) → LookSame l x → at + 11 ≤ length mem → (slot : ℕ)
    → LookSame (with_axes l (slotted 2 l.axes slot (direction_at mem (at + 8))) true) (set_lookat mem slot at x)
unfolding set_lookat
lookat-slotted mem at D l x S n slot =
    record {
      long = slotted-length 2 slot l.axes (direction_at mem (at + 8)) ∙ S.long;
      two = cond-length (ltb slot 2) x.lookat_axes slot (dir3 mem at) ∙ S.two;
      axes = slotted-slots (λ (p : List Float). p) 2 l.axes (direction_at mem (at + 8)) x.lookat_axes (dir3 mem at) [] slot (direction-length mem (at + 8)) (direction-same mem at D.bytes D.short n) S.long S.two S.axes;
      key = key-bumped l.folded l.changed l.top x.last_lookat_key x.lookat_version S.key;
      place = S.place;
    }

-- ---- the slots after a microcode change

pub map-replicate : {A B : Type 0} (g : A → B) (n : ℕ) (x : A) → map g (replicate n x) ≡ replicate n (g x)
map-replicate g zero x = refl
map-replicate {A} {B} g (suc n) x = ap (λ (t : List B). g x ∷ t) (map-replicate g n x)

-- ---- the commands

module _ {D : Bool → Bool → Type 0} {G : ℕ → ℕ → Type 0} {P : List Float → List (List Float) → Viewports → Type 0} {X : ℕ → List (List Float) → Texcoords → Type 0} {R : List Row → Columns → Type 0} {k : Book} {w : World} (N : Near D G P X R k w) where
  -- what is to be shown of a command
  abbrev Owes : (Bool → Bool → Type 0) → (ℕ → ℕ → Type 0) → Command → Type 0
  Owes D' G' c = Accepted (λ vs t e. Agrees (Near D' G' P X R) vs (enter t e k) (execute c w)) (plan family_of limit c k)

  pub texture-agrees : (tile level : ℕ) (on : Bool) (sc tc : ℕ) → (sc < 65536) × (tc < 65536) → Owes D G (texture tile level on sc tc)
  unfolding plan texture_plan execute
  texture-agrees tile level on sc tc h =
      on-unless _ (state_sound k.state) 10 [] _
      (λ _.
      on-does _ _ _ _ (refl, modes-near N (record { microcode = N.modes.settings.microcode; texture = refl; small = h; fogmul = N.modes.settings.fogmul; fogoff = N.modes.settings.fogoff; geometry = N.modes.settings.geometry }) N.modes.lights N.modes.lookat))

  pub fog-agrees : (multiplier offset : ℤ) → Owes D G (fog multiplier offset)
  unfolding plan fog_plan execute
  fog-agrees multiplier offset =
      on-unless _ (state_sound k.state) 10 [] _
      (λ _.
      on-does _ _ _ _ (refl, modes-near N (record { microcode = N.modes.settings.microcode; texture = N.modes.settings.texture; small = N.modes.settings.small; fogmul = refl; fogoff = refl; geometry = N.modes.settings.geometry }) N.modes.lights N.modes.lookat))

  pub number-agrees : (bytes : ℕ) → Owes D G (number bytes)
  unfolding plan number_plan execute
  number-agrees bytes =
      on-unless _ (state_sound k.state) 10 [] _
      (λ _.
      on-does _ _ _ _ (refl, modes-near N N.modes.settings (lights-numbered bytes k.state.lights w.rsp.lighting N.modes.lights) N.modes.lookat))

  pub light-agrees : (slot : ℕ) (bytes : List ℕ) (at : ℕ) → Data bytes → Owes D G (light slot bytes at)
  unfolding plan light_plan ambient_plan slot_plan light_in light_at execute
  light-agrees slot bytes at I =
      on-unless _ (state_sound k.state) 10 [] _
      (λ _.
      on-pick _ (eqb slot k.state.lights.number) _ _
      (λ e.
      on-unless _ (leb (at + 3) (length bytes)) 7 _ _
      (λ n.
      on-does _ _ _ _ (refl, modes-near N N.modes.settings (lights-ambient bytes at I k.state.lights w.rsp.lighting N.modes.lights (leb-true _ _ n) slot (numbered ∙ e)) N.modes.lookat)))
      (λ e.
      on-unless _ (leb (at + 11) (length bytes)) 7 _ _
      (λ n.
      on-does _ _ _ _ (refl, modes-near N N.modes.settings (lights-slotted bytes at I k.state.lights w.rsp.lighting N.modes.lights (leb-true _ _ n) slot (numbered ∙ e)) N.modes.lookat))))
    where
      numbered : eqb slot w.rsp.lighting.num_dir ≡ eqb slot k.state.lights.number
      numbered = ap (eqb slot) (sym N.modes.lights.number)

  pub lookat-agrees : (slot : ℕ) (bytes : List ℕ) (at : ℕ) → Data bytes → Owes D G (lookat slot bytes at)
  unfolding plan lookat_plan axis_in execute
  lookat-agrees slot bytes at I =
      on-unless _ (state_sound k.state) 10 [] _
      (λ _.
      on-unless _ (leb (at + 11) (length bytes)) 7 _ _
      (λ n.
      on-does _ _ _ _ (refl, modes-near N N.modes.settings N.modes.lights (lookat-slotted bytes at I k.state.lookat w.rsp.looking N.modes.lookat (leb-true _ _ n) slot))))

  -- a geometry word that the two sides have in common, or one that is set whole
  pub geometry-agrees : (G' : ℕ → ℕ → Type 0) (off on : ℕ) → G' (geometry_after off on k.state.geometry) (modify_geometry off on w.rsp.geom)
      → relit f3dex2 w.rsp.geom (modify_geometry off on w.rsp.geom) ≡ relit f3dex2 k.state.geometry (geometry_after off on k.state.geometry)
      → Owes D G' (geometry off on)
  unfolding plan geometry_plan execute
  geometry-agrees G' off on g e =
      on-unless _ (state_sound k.state) 10 [] _
      (λ _.
      on-does _ _ _ _ (refl, modes-near N (record { microcode = N.modes.settings.microcode; texture = N.modes.settings.texture; small = N.modes.settings.small; fogmul = N.modes.settings.fogmul; fogoff = N.modes.settings.fogoff; geometry = g }) (rw (relit-same w.rsp.geom (modify_geometry off on w.rsp.geom), e) (lights-relit (relit f3dex2 k.state.geometry (geometry_after off on k.state.geometry)) k.state.lights w.rsp.lighting N.modes.lights)) N.modes.lookat))

  pub microcode-agrees : (to : Microcode) → Owes ◌≡◌ G (microcode to)
  unfolding plan microcode_plan switched execute switch_microcode
  microcode-agrees to =
      on-unless _ (state_sound k.state) 10 [] _
      (λ _.
      on-does _ _ _ _ (
        refl,
        record {
          count = N.count;
          modes = record { settings = record { microcode = refl; texture = N.modes.settings.texture; small = N.modes.settings.small; fogmul = N.modes.settings.fogmul; fogoff = N.modes.settings.fogoff; geometry = N.modes.settings.geometry }; lights = N.modes.lights; lookat = N.modes.lookat };
          space = record { matrices = matrices-kept; defined = refl; view = N.space.view };
          held = record { slots = slots-cleared; scales = N.held.scales; rows = N.held.rows; recorded = N.held.recorded };
        },
      ))
    where
      m : Matrices
      m = w.rsp.matrices

      matrices-kept : MatrixSame k.state.depth k.state.stack k.state.projection k.state.combined k.matrices.used
          (record { mvp_valid = false; model_stack = m.model_stack; model_stack_size = m.model_stack_size; viewproj = m.viewproj; mvp = m.mvp; mvp_table = m.mvp_table; cur_mvp_index = m.cur_mvp_index })
      matrices-kept =
          let S = N.space.matrices in
          record {
            depth = S.depth;
            low = S.low;
            high = S.high;
            long = S.long;
            deep = S.deep;
            stack = S.stack;
            projection = S.projection;
            combined = S.combined;
            table = S.table;
            some_entry = S.some_entry;
            current = S.current;
          }

      slots-cleared : SlotsSame k.state.row (replicate 256 false) (replicate 256 false) (replicate 256 false) (replicate 256 0) (replicate 256 false) (replicate 256 math.zero)
          (record { cache_global_index = w.rsp.slots.cache_global_index; loaded = replicate 256 false; clip_codes = replicate 256 none; screen_z = replicate 256 none; used = replicate 256 false })
      slots-cleared =
          record {
            row = N.held.slots.row;
            loaded = refl;
            drawn = refl;
            coded = sym (map-replicate (is_some {A = ℕ}) 256 none);
            code = sym (map-replicate (or_else 0) 256 none);
            deep = sym (map-replicate (is_some {A = Float}) 256 none);
            z = sym (map-replicate (or_else math.zero) 256 none);
          }
