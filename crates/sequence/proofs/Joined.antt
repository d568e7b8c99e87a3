-- THE RUN'S STEP IS WHAT THE CONTRACTS SAY: whatever answer, state and areas meet a command's contract (src/ of the stage), they are what the
-- run's `result` is, in all ten areas. One law for each command, and one for opening. Assumes nothing.
use mathlib.Core.Path.{◌≡◌, refl, sym, ap, ◌∙◌}
use Prim.Native.Nat.{ℕ}
use mathlib.Core.Bool.{Bool, false}
use mathlib.Core.List.{List, [], ◌∷◌}
use lib.IntN.{ℤ}
use lib.Ieee.{Float}
use Rattle.areas.specs.Widths.{matrix_width, viewport_width, scale_width, index_width, run_width}
use Rattle.decide.specs.declared.family.Family.{Family}
use Rattle.decide.specs.Lights.{light_number}
use Rattle.stage.specs.declared.State.{State}
use Rattle.stage.specs.declared.Counts.{Counts}
use Rattle.stage.specs.declared.Answered.{Answered}
use Rattle.stage.specs.declared.settings.Microcode.{Microcode}
use Rattle.stage.specs.Plan.{table, row_table, Edits, Plan, refuse, does, advance, Outcome, outcome, carry, nothing}
use Rattle.stage.specs.With.{with_counts}
use Rattle.stage.specs.Opening.{blank, opening_plan, areas12}
use Rattle.stage.specs.Matrices.{area1, area2, combine, matrix_plan, force_plan, pop_plan, viewport_plan, geometry_plan}
use Rattle.stage.specs.Lights.{texture_plan, fog_plan, number_plan, light_plan, lookat_plan, microcode_plan}
use Rattle.stage.specs.Load.{LoadAreas, areas_load, load_areas, load_tables, load_edits, load_plan}
use Rattle.stage.specs.Modify.{areas37, modify_plan, ink_plan}
use Rattle.stage.specs.Draw.{areas89, cull_plan, explain_plan, depth_plan, draw_plan}
use Rattle.sequence.specs.Sequence.{matrix, force, pop, viewport, geometry, texture, fog, number, light, lookat, microcode, load, cull, explain, depth, modify, draw, ink, Command, Areas, Port, book, plan, after_all, result, step, with12, opening}
use Rattle.sequence.proofs.Accepts.{Accepted, on-combine, on-matrix, on-force, on-pop, on-viewport, on-load, on-modify, on-cull, on-explain, on-depth, on-ink, on-draw}
use Rattle.sequence.proofs.Quiet.{on-geometry, on-texture, on-fog, on-number, on-light, on-lookat, on-microcode}

-- ---- areas with some replaced

-- table 1's
abbrev pub with1 : Areas → List Float → Areas
with1 l x = with12 l (x, l.viewports)

-- table 2's
abbrev pub with2 : Areas → List Float → Areas
with2 l x = with12 l (l.matrices, x)

-- those of tables 3 and 7
abbrev pub with37 : Areas → List Float × List Float × List ℕ → Areas
with37 l x =
    record {
      matrices = l.matrices;
      viewports = l.viewports;
      scales = x.0;
      lights = l.lights;
      lookats = l.lookats;
      fogs = l.fogs;
      floats = x.1;
      words = x.2;
      drawing = l.drawing;
    }

-- those of tables 8 and 9
abbrev pub with89 : Areas → List ℕ × List ℕ → Areas
with89 l x =
    record {
      matrices = l.matrices;
      viewports = l.viewports;
      scales = l.scales;
      lights = l.lights;
      lookats = l.lookats;
      fogs = l.fogs;
      floats = l.floats;
      words = l.words;
      drawing = record { indices = x.0; runs = x.1 };
    }

-- the areas that a load is lent
abbrev pub load_part : Areas → LoadAreas
load_part l = load_areas l.matrices l.scales l.lights l.lookats l.fogs l.floats l.words

-- those replaced
abbrev pub with_load : Areas → LoadAreas → Areas
with_load l x =
    record {
      matrices = x.matrices;
      viewports = l.viewports;
      scales = x.scales;
      lights = x.lights;
      lookats = x.lookats;
      fogs = x.fogs;
      floats = x.floats;
      words = x.words;
      drawing = l.drawing;
    }

-- none replaced
abbrev pub with_none : Areas → Unit {0} → Areas
with_none l x = l

-- ---- one law for any command

-- an outcome with what f makes of its areas
abbrev inside : {A B : Type 0} → (A → B) → Outcome A → Outcome B
inside f o = record { state = o.state; number = o.number; values = o.values; areas = f o.areas }

-- A command is lent the areas x, a part of the areas l; put says which. Where g changes that part as all areas are changed, by every edit that
-- is accepted, what the plan comes to in the part is what it comes to in all areas
module _ {A : Type 0} (put : Areas → A → Areas) (g : Counts → Edits → A → A) (s : State) (l : Areas) (x : A) where
  -- the part changes as all areas do
  abbrev Within : List ℕ → State → Edits → Type 0
  Within vs t e = put l (g s.counts e x) ≡ after_all s.counts e l

  -- what a plan comes to
  within : (q : Plan) → put l x ≡ l → Accepted Within q → inside (put l) (carry g q s x) ≡ carry after_all q s l
  unfolding carry Accepted
  within (refuse n vs) h k = λ i. record { state = s; number = n; values = vs; areas = h i }
  within (does vs t e) h k = λ i. record { state = with_counts t (advance e s.counts); number = 0; values = vs; areas = k i }

  -- so a contract of the part is one of all areas
  joined : (q : Plan) (r : Answered) (y : A) → put l x ≡ l → Accepted Within q → outcome r y ≡ carry g q s x → outcome r (put l y) ≡ carry after_all q s l
  joined q r y h k e = ap (inside (put l)) e ∙ within q h k

-- ---- each command

module _ (F : ℕ → Family) (limit : State → ℕ) (p : Port) where
  -- the family in force, and how many slots a command may name
  abbrev f : Family
  f = F p.state.microcode

  abbrev slots : ℕ
  slots = limit p.state

  -- the combined matrix changes table 1 alone
  combined : (s : State) (m : List Float) → Accepted (Within with1 area1 p.state p.areas p.areas.matrices) (combine s (table matrix_width p.state.counts.matrices p.areas.matrices) m)
  combined s m = on-combine (Within with1 area1 p.state p.areas p.areas.matrices) s _ m (λ _. refl) (λ _ _. refl)

  -- matrix: table 1
  pub joined-matrix : (flags : ℕ) (bytes : List ℕ) (at : ℕ) (r : Answered) (x : List Float)
      → outcome r x ≡ carry area1 (matrix_plan f p.state (table matrix_width p.state.counts.matrices p.areas.matrices) flags bytes at) p.state p.areas.matrices
      → outcome r (with1 p.areas x) ≡ result (plan F limit) (matrix flags bytes at) p
  unfolding result plan book
  joined-matrix flags bytes at r x e =
      joined with1 area1 p.state p.areas _ _ r x refl (on-matrix (Within with1 area1 p.state p.areas _) p.state _ bytes at f flags (λ _ s _. combined s _)) e

  -- forced matrix: table 1
  pub joined-force : (bytes : List ℕ) (at : ℕ) (r : Answered) (x : List Float)
      → outcome r x ≡ carry area1 (force_plan p.state (table matrix_width p.state.counts.matrices p.areas.matrices) bytes at) p.state p.areas.matrices
      → outcome r (with1 p.areas x) ≡ result (plan F limit) (force bytes at) p
  unfolding result plan book
  joined-force bytes at r x e =
      joined with1 area1 p.state p.areas _ _ r x refl (on-force (Within with1 area1 p.state p.areas _) p.state _ bytes at (λ _. combined p.state _)) e

  -- pop: table 1
  pub joined-pop : (count : ℕ) (r : Answered) (x : List Float)
      → outcome r x ≡ carry area1 (pop_plan p.state (table matrix_width p.state.counts.matrices p.areas.matrices) count) p.state p.areas.matrices
      → outcome r (with1 p.areas x) ≡ result (plan F limit) (pop count) p
  unfolding result plan book
  joined-pop count r x e =
      joined with1 area1 p.state p.areas _ _ r x refl (on-pop (Within with1 area1 p.state p.areas _) p.state _ count (λ _. refl) (λ _ s _. combined s _)) e

  -- viewport: table 2
  pub joined-viewport : (bytes : List ℕ) (at : ℕ) (r : Answered) (x : List Float)
      → outcome r x ≡ carry area2 (viewport_plan p.state (table viewport_width p.state.counts.viewports p.areas.viewports) bytes at) p.state p.areas.viewports
      → outcome r (with2 p.areas x) ≡ result (plan F limit) (viewport bytes at) p
  unfolding result plan book
  joined-viewport bytes at r x e =
      joined with2 area2 p.state p.areas _ _ r x refl (on-viewport (Within with2 area2 p.state p.areas _) p.state _ bytes at (λ _ _. refl) (λ _ _ _. refl)) e

  -- load: tables 1 and 3 to 7
  pub joined-load : (first count : ℕ) (bytes : List ℕ) (at : ℕ) (r : Answered) (x : LoadAreas)
      → outcome r x ≡ carry areas_load (load_plan f slots p.state (load_tables p.state.counts (load_part p.areas)) first count bytes at) p.state (load_part p.areas)
      → outcome r (with_load p.areas x) ≡ result (plan F limit) (load first count bytes at) p
  unfolding result plan book load_edits
  joined-load first count bytes at r x e =
      joined with_load areas_load p.state p.areas (load_part p.areas) _ r x refl
      (on-load (Within with_load areas_load p.state p.areas (load_part p.areas)) f slots p.state (load_tables p.state.counts (load_part p.areas)) first count bytes at (λ _ _ _. refl)) e

  -- modify: tables 3 and 7
  pub joined-modify : (slot attribute value : ℕ) (r : Answered) (x : List Float × List Float × List ℕ)
      → let y : List Float × List Float × List ℕ = (p.areas.scales, p.areas.floats, p.areas.words) in
      outcome r x ≡ carry areas37 (modify_plan slots p.state (table scale_width p.state.counts.scales y.0) (row_table p.state.counts.rows y.1 y.2) slot attribute value) p.state y
      → outcome r (with37 p.areas x) ≡ result (plan F limit) (modify slot attribute value) p
  unfolding result plan book
  joined-modify slot attribute value r x e =
      joined with37 areas37 p.state p.areas _ _ r x refl
      (on-modify (Within with37 areas37 p.state p.areas _) slots p.state _ _ slot attribute value (λ _ _ _ _ _ _. refl)) e

  -- draw: tables 8 and 9
  pub joined-draw : (a b c material mode colour prim : ℕ) (r : Answered) (x : List ℕ × List ℕ)
      → let y : List ℕ × List ℕ = (p.areas.drawing.indices, p.areas.drawing.runs) in
      outcome r x ≡ carry areas89 (draw_plan f slots p.state (table index_width p.state.counts.indices y.0) (table run_width p.state.counts.runs y.1) a b c (material ∷ mode ∷ colour ∷ prim ∷ [])) p.state y
      → outcome r (with89 p.areas x) ≡ result (plan F limit) (draw a b c material mode colour prim) p
  unfolding result plan book
  joined-draw a b c material mode colour prim r x e =
      joined with89 areas89 p.state p.areas _ _ r x refl
      (on-draw (Within with89 areas89 p.state p.areas _) f slots p.state _ _ a b c _ (λ _. refl) (λ _ _ _ _ _. refl)) e

  -- the part that is no area
  abbrev Quiet : List ℕ → State → Edits → Type 0
  Quiet = Within with_none nothing p.state p.areas tt

  -- one law for the commands that change no area
  quiet : (q : Plan) (r : Answered) → Accepted Quiet q → outcome r tt ≡ carry nothing q p.state tt → outcome r p.areas ≡ carry after_all q p.state p.areas
  quiet q r k e = joined with_none nothing p.state p.areas tt q r tt refl k e

  -- geometry mode
  pub joined-geometry : (off on : ℕ) (r : Answered) → outcome r tt ≡ carry nothing (geometry_plan f p.state off on) p.state tt → outcome r p.areas ≡ result (plan F limit) (geometry off on) p
  unfolding result plan book
  joined-geometry off on r e = quiet _ r (on-geometry Quiet (λ _ _. refl) p.state f off on) e

  -- texture
  pub joined-texture : (tile level : ℕ) (on : Bool) (sc tc : ℕ) (r : Answered) → outcome r tt ≡ carry nothing (texture_plan p.state tile level on sc tc) p.state tt
      → outcome r p.areas ≡ result (plan F limit) (texture tile level on sc tc) p
  unfolding result plan book
  joined-texture tile level on sc tc r e = quiet _ r (on-texture Quiet (λ _ _. refl) p.state tile level on sc tc) e

  -- fog
  pub joined-fog : (multiplier offset : ℤ) (r : Answered) → outcome r tt ≡ carry nothing (fog_plan p.state multiplier offset) p.state tt → outcome r p.areas ≡ result (plan F limit) (fog multiplier offset) p
  unfolding result plan book
  joined-fog multiplier offset r e = quiet _ r (on-fog Quiet (λ _ _. refl) p.state multiplier offset) e

  -- number of lights
  pub joined_number : (bytes : ℕ) (r : Answered) → outcome r tt ≡ carry nothing (number_plan p.state (light_number bytes)) p.state tt → outcome r p.areas ≡ result (plan F limit) (number bytes) p
  unfolding result plan book
  joined_number bytes r e = quiet _ r (on-number Quiet (λ _ _. refl) p.state (light_number bytes)) e

  -- light
  pub joined-light : (slot : ℕ) (bytes : List ℕ) (at : ℕ) (r : Answered) → outcome r tt ≡ carry nothing (light_plan p.state slot bytes at) p.state tt
      → outcome r p.areas ≡ result (plan F limit) (light slot bytes at) p
  unfolding result plan book
  joined-light slot bytes at r e = quiet _ r (on-light Quiet (λ _ _. refl) p.state slot bytes at) e

  -- lookat
  pub joined-lookat : (slot : ℕ) (bytes : List ℕ) (at : ℕ) (r : Answered) → outcome r tt ≡ carry nothing (lookat_plan p.state slot bytes at) p.state tt
      → outcome r p.areas ≡ result (plan F limit) (lookat slot bytes at) p
  unfolding result plan book
  joined-lookat slot bytes at r e = quiet _ r (on-lookat Quiet (λ _ _. refl) p.state slot bytes at) e

  -- microcode change
  pub joined-microcode : (to : Microcode) (r : Answered) → outcome r tt ≡ carry nothing (microcode_plan p.state to) p.state tt → outcome r p.areas ≡ result (plan F limit) (microcode to) p
  unfolding result plan book
  joined-microcode to r e = quiet _ r (on-microcode Quiet (λ _ _. refl) p.state to) e

  -- cull test
  pub joined-cull : (first last : ℕ) (r : Answered) → outcome r tt ≡ carry nothing (cull_plan slots p.state first last) p.state tt → outcome r p.areas ≡ result (plan F limit) (cull first last) p
  unfolding result plan book
  joined-cull first last r e = quiet _ r (on-cull Quiet slots p.state first last (λ _ _ _. refl)) e

  -- its explainer
  pub joined-explain : (first last : ℕ) (r : Answered) → outcome r tt ≡ carry nothing (explain_plan slots p.state first last) p.state tt → outcome r p.areas ≡ result (plan F limit) (explain first last) p
  unfolding result plan book
  joined-explain first last r e = quiet _ r (on-explain Quiet slots p.state first last (λ _ _ _. refl)) e

  -- depth test
  pub joined-depth : (slot threshold : ℕ) (r : Answered) → outcome r tt ≡ carry nothing (depth_plan slots p.state slot threshold) p.state tt
      → outcome r p.areas ≡ result (plan F limit) (depth slot threshold) p
  unfolding result plan book
  joined-depth slot threshold r e = quiet _ r (on-depth Quiet slots p.state slot threshold (λ _ _. refl)) e

  -- ink count: what it reads of tables 7 and 8 stays
  pub joined-ink : (colour : ℕ) (r : Answered)
      → outcome r tt ≡ carry nothing (ink_plan p.state (row_table p.state.counts.rows p.areas.floats p.areas.words) (table index_width p.state.counts.indices p.areas.drawing.indices) colour) p.state tt
      → outcome r p.areas ≡ result (plan F limit) (ink colour) p
  unfolding result plan book
  joined-ink colour r e = quiet _ r (on-ink Quiet p.state _ _ colour (λ _. refl)) e

  -- what is joined is the next port
  pub joined_step : (c : Command) (r : Answered) (l : Areas) → outcome r l ≡ result (plan F limit) c p → step (plan F limit) c p ≡ record { state = r.state; areas = l }
  unfolding step
  joined_step c r l e = λ i. record { state = (sym e i).state; areas = (sym e i).areas }

-- opening: the port that its contract gives
pub joined-opening : (l : Areas) (r : Answered) (x : List Float × List Float)
    → let y : List Float × List Float = (l.matrices, l.viewports) in
    outcome r x ≡ carry areas12 (opening_plan l.matrices l.viewports) (blank false) y
    → opening l ≡ record { state = r.state; areas = with12 l x }
unfolding opening
joined-opening l r x e = λ i. record { state = (sym e i).state; areas = with12 l (sym e i).areas }
