-- Each arm of the dispatch: an op whose command meets its contract does what the definitions say. Assumes nothing.
use mathlib.Core.Path.{◌≡◌, sym, ap, ◌∙◌, subst}
use Prim.Native.Nat.{ℕ, ◌%◌}
use mathlib.Core.Bool.{false}
use mathlib.Core.List.{List, [], ◌∷◌}
use mathlib.Core.Logic.{◌⊎◌, inl, inr}
use lib.Dec.{eqb}
use lib.IntN.{ℤ}
use lib.Ieee.{Float}
use Rattle.std.specs.Prelude.{Ok, Err}
use Rattle.numbers.specs.Ratio.{signed}
use Rattle.decide.specs.Family.{family_of}
use Rattle.decide.specs.Lights.{light_number}
use Rattle.stage.specs.Sound.{limit}
use Rattle.stage.specs.declared.State.{State}
use Rattle.stage.specs.declared.Answered.{Answered}
use Rattle.stage.specs.declared.Answer.TheVariants.{Done}
use Rattle.stage.specs.Plan.{row_table, Outcome, outcome, carry, nothing, matrix_area, viewport_area, index_area, table_in}
use Rattle.stage.specs.Opening.{blank, opening_plan, areas12}
use Rattle.stage.specs.Matrices.{area1, area2, matrix_plan, force_plan, pop_plan, viewport_plan, geometry_plan}
use Rattle.stage.specs.Lights.{texture_plan, fog_plan, number_plan, light_plan, lookat_plan, microcode_plan}
use Rattle.stage.specs.Load.{LoadAreas, load_means}
use Rattle.stage.specs.Modify.{modify_means, ink_plan}
use Rattle.stage.specs.Draw.{cull_plan, explain_plan, depth_plan, draw_means}
use Rattle.sequence.specs.Sequence.{Areas, Port, with12}
use Rattle.sequence.proofs.Joined as joined
use Rattle.trace.specs.declared.rooms.Lengths.{Lengths}
use Rattle.trace.specs.declared.script.Call.{Call}
use Rattle.trace.specs.declared.ops.Cut.{Cut}
use Rattle.trace.specs.declared.ops.Op.{Op}
use Rattle.trace.specs.declared.ops.Op.TheVariants.{Open, Matrix, Force, Pop, Geom, Viewport, Texture, Fog, Lightnum, Light, Lookat, Load, Cull, Depth, Modify, Draw, Ucode, Ink, Explain, Lend, Mark, Poke, Write}
use Rattle.trace.specs.Shapes.{op_of}
use Rattle.player.specs.Acts.{poked_state}
use Rattle.player.specs.Ops.{opens, rests, acted, microcode_of, act_is, act_of, lesser, firsts, behind, lend_by, written_by, step_by}

-- the op that a number is read as
pub named : (n : ℕ) {o p : Op} → Ok o ≡ op_of n → o ≡ p → op_of n ≡ Ok p
named n e f = sym e ∙ ap Ok f

-- an op over the ten areas l came to r and the areas x
abbrev pub ApplyAre : Call → List ℕ → State → Areas → Answered → Areas → Type 0
ApplyAre c d s l r x = outcome r x ≡ acted (act_of c d) (record { state = s; areas = l })

module _ (c : Call) (d : List ℕ) (s : State) (r : Answered) (l : Areas) where
  abbrev p : Port
  p = record { state = s; areas = l }

  -- ---- the ops that are lent no area

  pub apply-geometry : op_of c.op ≡ Ok Geom → outcome r tt ≡ carry nothing (geometry_plan (family_of s.microcode) s c.args.a c.args.b) s tt → ApplyAre c d s l r l
  unfolding act_is acted
  apply-geometry e h = joined.joined-geometry family_of limit p c.args.a c.args.b r h ∙ rw e

  pub apply-texture : op_of c.op ≡ Ok Texture
      → outcome r tt ≡ carry nothing (texture_plan s (c.args.a % 256) (c.args.b % 256) (eqb (c.args.c % 2) 1) (c.args.d % 65536) (c.args.e % 65536)) s tt → ApplyAre c d s l r l
  unfolding act_is acted
  apply-texture e h = joined.joined-texture family_of limit p _ _ _ _ _ r h ∙ rw e

  pub apply-fog : (m o : ℤ) → op_of c.op ≡ Ok Fog → m ≡ signed 16 (c.args.a % 65536) → o ≡ signed 16 (c.args.b % 65536)
      → outcome r tt ≡ carry nothing (fog_plan s m o) s tt → ApplyAre c d s l r l
  unfolding act_is acted
  apply-fog m o e f g h = joined.joined-fog family_of limit p m o r h ∙ rw (e, f, g)

  pub apply-number : op_of c.op ≡ Ok Lightnum → outcome r tt ≡ carry nothing (number_plan s (light_number c.args.a)) s tt → ApplyAre c d s l r l
  unfolding act_is acted
  apply-number e h = joined.joined_number family_of limit p c.args.a r h ∙ rw e

  pub apply-light : op_of c.op ≡ Ok Light → outcome r tt ≡ carry nothing (light_plan s c.args.a d 0) s tt → ApplyAre c d s l r l
  unfolding act_is acted
  apply-light e h = joined.joined-light family_of limit p c.args.a d 0 r h ∙ rw e

  pub apply-lookat : op_of c.op ≡ Ok Lookat → outcome r tt ≡ carry nothing (lookat_plan s c.args.a d 0) s tt → ApplyAre c d s l r l
  unfolding act_is acted
  apply-lookat e h = joined.joined-lookat family_of limit p c.args.a d 0 r h ∙ rw e

  pub apply-cull : op_of c.op ≡ Ok Cull → outcome r tt ≡ carry nothing (cull_plan (limit s) s c.args.a c.args.b) s tt → ApplyAre c d s l r l
  unfolding act_is acted
  apply-cull e h = joined.joined-cull family_of limit p c.args.a c.args.b r h ∙ rw e

  pub apply-depth : op_of c.op ≡ Ok Depth → outcome r tt ≡ carry nothing (depth_plan (limit s) s c.args.a c.args.b) s tt → ApplyAre c d s l r l
  unfolding act_is acted
  apply-depth e h = joined.joined-depth family_of limit p c.args.a c.args.b r h ∙ rw e

  pub apply-microcode : op_of c.op ≡ Ok Ucode → outcome r tt ≡ carry nothing (microcode_plan s (microcode_of c.args.a)) s tt → ApplyAre c d s l r l
  unfolding act_is acted
  apply-microcode e h = joined.joined-microcode family_of limit p (microcode_of c.args.a) r h ∙ rw e

  pub apply-explain : op_of c.op ≡ Ok Explain → outcome r tt ≡ carry nothing (explain_plan (limit s) s c.args.a c.args.b) s tt → ApplyAre c d s l r l
  unfolding act_is acted
  apply-explain e h = joined.joined-explain family_of limit p c.args.a c.args.b r h ∙ rw e

  -- ---- those on matrices and viewport

  pub apply-open : (m v : List Float) → op_of c.op ≡ Ok Open
      → let x : List Float × List Float = (l.matrices, l.viewports) in
      let y : List Float × List Float = (m, v) in
      outcome r y ≡ carry areas12 (opening_plan l.matrices l.viewports) (blank false) x
      → ApplyAre c d s l r (with12 l y)
  unfolding act_is acted
  apply-open m v e h =
      let q : outcome r (with12 l (m, v)) ≡ acted opens p = λ i. record { state = (h i).state; number = (h i).number; values = (h i).values; areas = with12 l (h i).areas } in
      q ∙ rw e

  pub apply-matrix : (f : ℕ) (m : List Float) → op_of c.op ≡ Ok Matrix → f ≡ c.args.a % 256
      → outcome r m ≡ carry area1 (matrix_plan (family_of s.microcode) s (table_in matrix_area s.counts l.matrices) f d 0) s l.matrices → ApplyAre c d s l r (with12 l (m, l.viewports))
  unfolding act_is acted
  apply-matrix f m e g h = joined.joined-matrix family_of limit p f d 0 r m h ∙ rw (e, g)

  pub apply-force : (m : List Float) → op_of c.op ≡ Ok Force
      → outcome r m ≡ carry area1 (force_plan s (table_in matrix_area s.counts l.matrices) d 0) s l.matrices → ApplyAre c d s l r (with12 l (m, l.viewports))
  unfolding act_is acted
  apply-force m e h = joined.joined-force family_of limit p d 0 r m h ∙ rw e

  pub apply-pop : (m : List Float) → op_of c.op ≡ Ok Pop
      → outcome r m ≡ carry area1 (pop_plan s (table_in matrix_area s.counts l.matrices) c.args.a) s l.matrices → ApplyAre c d s l r (with12 l (m, l.viewports))
  unfolding act_is acted
  apply-pop m e h = joined.joined-pop family_of limit p c.args.a r m h ∙ rw e

  pub apply-viewport : (v : List Float) → op_of c.op ≡ Ok Viewport
      → outcome r v ≡ carry area2 (viewport_plan s (table_in viewport_area s.counts l.viewports) d 0) s l.viewports → ApplyAre c d s l r (with12 l (l.matrices, v))
  unfolding act_is acted
  apply-viewport v e h = joined.joined-viewport family_of limit p d 0 r v h ∙ rw e

  -- ---- those on vertices and triangles

  pub apply-load : (x : LoadAreas) → op_of c.op ≡ Ok Load
      → outcome r x ≡ load_means s c.args.a c.args.b d 0 (joined.load_part l) → ApplyAre c d s l r (joined.with_load l x)
  unfolding act_is acted
  apply-load x e h = joined.joined-load family_of limit p c.args.a c.args.b d 0 r x h ∙ rw e

  pub apply-modify : (x : List Float × List Float × List ℕ) → op_of c.op ≡ Ok Modify
      → let y : List Float × List Float × List ℕ = (l.scales, l.floats, l.words) in
      outcome r x ≡ modify_means s c.args.a c.args.b c.args.c y
      → ApplyAre c d s l r (joined.with37 l x)
  unfolding act_is acted
  apply-modify x e h = joined.joined-modify family_of limit p c.args.a c.args.b c.args.c r x h ∙ rw e

  pub apply-draw : (x : List ℕ × List ℕ) → op_of c.op ≡ Ok Draw
      → let y : List ℕ × List ℕ = (l.drawing.indices, l.drawing.runs) in
      outcome r x ≡ draw_means s c.args.a c.args.b c.args.c (c.args.d ∷ c.args.e ∷ c.args.f ∷ c.args.g ∷ []) y
      → ApplyAre c d s l r (joined.with89 l x)
  unfolding act_is acted
  apply-draw x e h = joined.joined-draw family_of limit p _ _ _ _ _ _ _ r x h ∙ rw e

  pub apply-ink : op_of c.op ≡ Ok Ink
      → outcome r tt ≡ carry nothing (ink_plan s (row_table s.counts.rows l.floats l.words) (table_in index_area s.counts l.drawing.indices) c.args.a) s tt → ApplyAre c d s l r l
  unfolding act_is acted
  apply-ink e h = joined.joined-ink family_of limit p c.args.a r h ∙ rw e

-- tampered with, and nothing else
pub apply-poked : (c : Call) (d : List ℕ) (s t : State) (l : Areas) → op_of c.op ≡ Ok Poke → t ≡ poked_state s c.args.a c.args.b c.args.c → ApplyAre c d s l (record { state = t; answer = Done }) l
unfolding act_is acted
apply-poked c d s t l e h = rw (e, h)

-- left alone
pub apply-rest : (c : Call) (d : List ℕ) (s : State) (l : Areas) → act_of c d ≡ rests → ApplyAre c d s l (record { state = s; answer = Done }) l
unfolding acted
apply-rest c d s l e = rw e

-- the ops that are the driver's own, and what is none
module _ (c : Call) (d : List ℕ) where
  pub own-rests : (o : Op) → op_of c.op ≡ Ok o → (o ≡ Lend) ⊎ ((o ≡ Mark) ⊎ (o ≡ Write)) → act_of c d ≡ rests
  unfolding act_is
  own-rests o e (inl f) = rw (e, f)
  own-rests o e (inr (inl f)) = rw (e, f)
  own-rests o e (inr (inr f)) = rw (e, f)

  pub none-rests : (x : Cut) → op_of c.op ≡ Err x → act_of c d ≡ rests
  none-rests x e = rw e

-- ---- what is lent

-- an op over so many first numbers, as many as are lent
pub lend-is : (c : Call) (d : List ℕ) (s : State) (r : Answered) (n k : Lengths) (l x : Areas) → k ≡ lesser n l
    → ApplyAre c d s (firsts k l) r x → outcome r (behind k l x) ≡ lend_by c d n (record { state = s; areas = l })
unfolding lend_by
lend-is c d s r n k l x e =
    subst (λ (k : Lengths). ApplyAre c d s (firsts k l) r x → outcome r (behind k l x) ≡ lend_by c d n (record { state = s; areas = l })) (sym e)
    (λ h. λ i. record { state = (h i).state; number = (h i).number; values = (h i).values; areas = behind (lesser n l) l (h i).areas })

-- and what `write` stores besides
pub step_is : (c : Call) (d : List ℕ) (s : State) (r : Answered) (n : Lengths) (l x y : Areas)
    → outcome r x ≡ lend_by c d n (record { state = s; areas = l }) → y ≡ written_by c x → outcome r y ≡ step_by c d n (record { state = s; areas = l })
unfolding step_by
step_is c d s r n l x y h e = λ i. record { state = (h i).state; number = (h i).number; values = (h i).values; areas = (e ∙ ap (λ (o : Outcome Areas). written_by c o.areas) h) i }
