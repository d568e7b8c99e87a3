-- What is near stays near: a law for each group of what changes together, with what its tables get; all else stays. Assumes nothing.
use Prim.Native.Nat.{ℕ}
use mathlib.Core.Bool.{Bool}
use mathlib.Core.List.{List}
use lib.IntN.{ℤ}
use lib.Ieee.{Float}
use Rattle.stage.specs.declared.Lights.{Lights}
use Rattle.stage.specs.declared.Lookat.{Lookat}
use Rattle.stage.specs.declared.Texture.{Texture}
use Rattle.stage.specs.With.{with_geometry, with_fog, with_texture, with_lights, with_lookat, with_model, with_projection, with_combined, with_viewport, with_unit, with_slots}
use Rattle.stage.specs.Plan.{Edit, Edits, keep, Row, undrawn, untouched}
use Rattle.sequence.specs.Sequence.{Book}
use Rattle.sequence.proofs.Turn.{edit, enter}
use Rattle.sequence.proofs.Counted.{counted-then}
use Rattle.original.specs.Rsp.{Slots, Matrices, Viewports, TextureState, Texcoords, Lighting, Looking}
use Rattle.original.specs.Drawing.{Columns, Scene, with_modified}
use Rattle.original.specs.Walk.{World, with_settings, with_rsp_matrices, with_viewports, with_rsp, with_both}
use Rattle.original.specs.Relation.{MatrixSame, LightsSame, LookSame, SlotsSame, SettingsSame, RecordedSame, Near}

-- edits of tables 1 and 2 alone
abbrev edits12 : Edit (List Float) → Edit (List Float) → Edits
edits12 e f =
    record { matrices = e; viewports = f; scales = keep; lights = keep; lookats = keep; fogs = keep; rows = keep; drawing = undrawn }

-- edits of the others alone
abbrev others : Edits → Edits
others e =
    record { matrices = keep; viewports = keep; scales = e.scales; lights = e.lights; lookats = e.lookats; fogs = e.fogs; rows = e.rows; drawing = e.drawing }

module _ {D : Bool → Bool → Type 0} {G : ℕ → ℕ → Type 0} {P : List Float → List (List Float) → Viewports → Type 0} {X : ℕ → List (List Float) → Texcoords → Type 0} {R : List Row → Columns → Type 0} {k : Book} {w : World} (N : Near D G P X R k w) where
  -- other settings, lights and lookat
  pub modes-near : {G' : ℕ → ℕ → Type 0} {g g' : ℕ} {a a' b b' : ℤ} {t : Texture} {t' : TextureState} {l : Lights} {l' : Lighting} {o : Lookat} {o' : Looking}
      → let s = with_lookat (with_lights (with_texture (with_fog (with_geometry k.state g) a b) t) l) o in
      let v : World = record { rsp = with_settings w.rsp g' t' l' o'; fog_mul = a'; fog_offset = b'; scene = w.scene } in
      SettingsSame G' s v → LightsSame l l' → LookSame o o' → Near D G' P X R (enter s untouched k) v
  modes-near s l o = record { count = N.count; modes = record { settings = s; lights = l; lookat = o }; space = N.space; held = N.held }

  -- other matrices and viewport, and what tables 1 and 2 get
  pub space-near : {D' : Bool → Bool → Type 0} {P' : List Float → List (List Float) → Viewports → Type 0} {d : ℕ} {st p c v : List Float} {b : Bool} {m : Matrices} {x : Viewports} (e f : Edit (List Float))
      → MatrixSame d st p c (edit e k.matrices.used) m → D' b m.mvp_valid → P' v (edit f k.viewports.used) x
      → Near D' G P' X R (enter (with_viewport (with_combined (with_projection (with_model k.state d st) p) c b) v) (edits12 e f) k) (with_rsp w (with_viewports (with_rsp_matrices w.rsp m) x))
  space-near e f m d v =
      record { count = counted-then k k.state (edits12 e f) N.count; modes = N.modes; space = record { matrices = m; defined = d; view = v }; held = N.held }

  -- other slots, scales, rows and recorded tables, and what tables 3 to 9 get
  pub held-near : {X' : ℕ → List (List Float) → Texcoords → Type 0} {R' : List Row → Columns → Type 0} {r : List ℕ} {v l d c : List Bool} {q : List ℕ} {g : List Bool} {f : List Float} {u : ℕ} {y : Slots} {x : Texcoords} {n : Scene} (e : Edits)
      → SlotsSame r l d c q g f y → X' u (edit e.scales k.scales.used) x → R' (edit e.rows k.rows.used) n.columns → RecordedSame (enter k.state e k) n
      → Near D G P X' R' (enter (with_unit (with_slots k.state (record { row = r; ever = v; loaded = l; drawn = d; coded = c; code = q; deep = g; z = f })) u) (others e) k) (with_both w (with_modified w.rsp y x, n))
  held-near e s x r t =
      record { count = counted-then k k.state (others e) N.count; modes = N.modes; space = N.space; held = record { slots = s; scales = x; rows = r; recorded = t } }
