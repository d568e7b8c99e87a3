-- NO SECOND OUTCOME, COMMAND BY COMMAND: of two results that meet a command's contract, state and answer are equal, and every number of each area
-- that the command may write. `Learnt` is what the contract in the stage's src/ tells a caller. Each check makes it from the source anew, so no law
-- here can part from it. Assumes nothing.
use mathlib.Core.Path.{◌≡◌}
use Rattle.stage.specs.declared.Answered.{Answered}
use Rattle.stage.specs.Load.{load_areas}
use Rattle.stage.proofs.Apart.{only_one}
use Rattle.stage.proofs.State.opening.Reads as opening
use Rattle.stage.proofs.State.matrix.Reads as matrix
use Rattle.stage.proofs.State.force_matrix.Reads as force
use Rattle.stage.proofs.State.pop_matrix.Reads as pop
use Rattle.stage.proofs.State.set_viewport.Reads as viewport
use Rattle.stage.proofs.State.modify_geometry_mode.Reads as geometry
use Rattle.stage.proofs.State.set_texture.Reads as texture
use Rattle.stage.proofs.State.set_fog.Reads as fog
use Rattle.stage.proofs.State.set_num_lights.Reads as number
use Rattle.stage.proofs.State.set_light.Reads as light
use Rattle.stage.proofs.State.set_lookat.Reads as lookat
use Rattle.stage.proofs.State.switch_microcode.Reads as microcode
use Rattle.stage.proofs.State.load.Reads as load
use Rattle.stage.proofs.State.modify_vertex.Reads as modify
use Rattle.stage.proofs.State.cull_display_list.Reads as cull
use Rattle.stage.proofs.State.explain_cull.Reads as explain
use Rattle.stage.proofs.State.branch_z.Reads as depth
use Rattle.stage.proofs.State.draw_tri.Reads as draw
use Rattle.stage.proofs.State.ink_count.Reads as ink

-- C is a contract: C κs a r x says that it is met, for the arguments a lent for the lifetimes κs, by the result r with the parameters x at exit.
-- numbers takes from x what stands in the areas then, `now`
abbrev pub Only : {K : Type 0} {G E : K → Type 0} {A : Type 0} → ((κs : K) → G κs → Answered → E κs → Type 0) → ((κs : K) → E κs → A) → Type 0
Only {K} {G} {E} C numbers = (κs : K) (a : G κs) (r q : Answered) (x y : E κs) → C κs a r x → C κs a q y → (r ≡ q) × (numbers κs x ≡ numbers κs y)

-- the same of a command that may write no area
abbrev pub OnlyResult : {K : Type 0} {G E : K → Type 0} → ((κs : K) → G κs → Answered → E κs → Type 0) → Type 0
OnlyResult {K} {G} {E} C = (κs : K) (a : G κs) (r q : Answered) (x y : E κs) → C κs a r x → C κs a q y → r ≡ q

-- two lists, and three
abbrev two : {A B : Type 0} → A → B → A × B
two a b = (a, b)

abbrev three : {A B C : Type 0} → A → B → C → A × B × C
three a b c = (a, b, c)

-- opening: tables 1 and 2
pub only-opening : Only opening.Learnt (λ κs (matrices, (viewports, end)). two matrices.now viewports.now)
only-opening κs a r q x y = only_one _ r q _ _

-- table 1
pub only-matrix : Only matrix.Learnt (λ κs (self, (flags, (bytes, (at, (matrices, end))))). matrices.now)
only-matrix κs a r q x y = only_one _ r q _ _

pub only-force : Only force.Learnt (λ κs (self, (bytes, (at, (matrices, end)))). matrices.now)
only-force κs a r q x y = only_one _ r q _ _

pub only-pop : Only pop.Learnt (λ κs (self, (count, (matrices, end))). matrices.now)
only-pop κs a r q x y = only_one _ r q _ _

-- table 2
pub only-viewport : Only viewport.Learnt (λ κs (self, (bytes, (at, (viewports, end)))). viewports.now)
only-viewport κs a r q x y = only_one _ r q _ _

-- tables 1 and 3 to 7
pub only-load : Only load.Learnt (λ κs (self, (first, (count, (bytes, (at, (matrices, (scales, (lights, (lookats, (fogs, (floats, (words, end)))))))))))). load_areas matrices.now scales.now lights.now lookats.now fogs.now floats.now words.now)
only-load κs a r q x y = only_one _ r q _ _

-- tables 3 and 7
pub only-modify : Only modify.Learnt (λ κs (self, (slot, (attribute, (value, (scales, (floats, (words, end))))))). three scales.now floats.now words.now)
only-modify κs a r q x y = only_one _ r q _ _

-- tables 8 and 9
pub only-draw : Only draw.Learnt (λ κs (self, (a, (b, (c, (material, (mode, (colour, (prim, (indices, (runs, end)))))))))). two indices.now runs.now)
only-draw κs a r q x y = only_one _ r q _ _

-- no area
pub only-geometry : OnlyResult geometry.Learnt
only-geometry κs a r q x y p t = (only_one _ r q tt tt p t).0

pub only-texture : OnlyResult texture.Learnt
only-texture κs a r q x y p t = (only_one _ r q tt tt p t).0

pub only-fog : OnlyResult fog.Learnt
only-fog κs a r q x y p t = (only_one _ r q tt tt p t).0

pub only-number : OnlyResult number.Learnt
only-number κs a r q x y p t = (only_one _ r q tt tt p t).0

pub only-light : OnlyResult light.Learnt
only-light κs a r q x y p t = (only_one _ r q tt tt p t).0

pub only-lookat : OnlyResult lookat.Learnt
only-lookat κs a r q x y p t = (only_one _ r q tt tt p t).0

pub only-microcode : OnlyResult microcode.Learnt
only-microcode κs a r q x y p t = (only_one _ r q tt tt p t).0

pub only-cull : OnlyResult cull.Learnt
only-cull κs a r q x y p t = (only_one _ r q tt tt p t).0

pub only-explain : OnlyResult explain.Learnt
only-explain κs a r q x y p t = (only_one _ r q tt tt p t).0

pub only-depth : OnlyResult depth.Learnt
only-depth κs a r q x y p t = (only_one _ r q tt tt p t).0

-- reads tables 7 and 8, and may write none
pub only-ink : OnlyResult ink.Learnt
only-ink κs a r q x y p t = (only_one _ r q tt tt p t).0
