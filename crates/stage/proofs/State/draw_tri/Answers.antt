-- `stage::State::draw_tri` meets its contract. Assumes nothing.
use mathlib.Core.Path.{refl, sym, ap, ◌∙◌, ◌≡◌}
use mathlib.Core.List.{List, [], ◌∷◌}
use Prim.Native.Nat.{ℕ}
use native.Mathlib.Omega.{arith}
use lib.ListN.{length}
use Rattle.decide.specs.declared.family.Family.{Family}
use Rattle.decide.specs.Family.{family_of}
use Rattle.triangle.specs.declared.verdict.Record.{Record}
use Rattle.triangle.specs.declared.verdict.Refusal.{Refusal}
use Rattle.std.proofs.Common.{Option, Some, Result, Ok}
use Rattle.triangle.specs.Steps.{sides_of}
use Rattle.triangle.proofs.Recording.{Rooms}
use Rattle.stage.specs.declared.draw.Corners.{Corners}
use Rattle.stage.proofs.Verdicts.{judgement, verdict-is, has_room, run-written, draws, draws-refused, draws-nothing}
use Rattle.stage.proofs.State.draw_tri.Goals as goal
use Rattle.stage.proofs.State.draw_tri.Goals.{After-judge, in-Err, in-Ok-None, in-Ok-Some}

-- a verdict that is told in two steps
told : {v : Result (Option Record) Refusal} {o p : Option Record} → v ≡ Ok o → o ≡ p → v ≡ Ok p
told e h = cc

-- the four numbers that the caller gives
abbrev asked : After-judge → List ℕ
asked c = c.args.material ∷ c.args.render_mode ∷ c.args.fog_colour ∷ c.args.prim_depth ∷ []

-- the sides are those of the state's family
sided : (c : After-judge) → c.sides_of-sides.result ≡ sides_of (family_of c.args.self.microcode) c.args.self.geometry
sided c = c.sides_of-sides.ensures ∙ ap (λ (g : Family). sides_of g c.args.self.geometry) c.family_of.ensures

-- the verdict is the one that the laws speak of
found : (c : After-judge) → c.judge.result ≡ judgement (family_of c.args.self.microcode) 256 c.args.self c.args.indices.now c.args.runs.now c.args.a c.args.b c.args.c (asked c) refl
found c =
    verdict-is (family_of c.args.self.microcode) 256 c.args.self c.args.indices.now c.args.runs.now c.args.a c.args.b c.args.c (asked c) _ _ _ _ _ _ _ _ _ _ _ _
    (sided c)
    (ap (λ (x : Corners). x.p) c.corners_at.ensures)
    (ap (λ (x : Corners). x.q) c.corners_at.ensures)
    (ap (λ (x : Corners). x.s) c.corners_at.ensures)
    refl
    c.settings_of-set.ensures
    c.last_run-last.ensures
    c.sound.ensures
    c.judge.ensures

-- a recorded triangle has room
accepted : (c : After-judge) (r : Record) → c.judge.result ≡ Ok (Some r) → Rooms c.args.self.counts.indices c.args.self.counts.runs r.more (length c.args.indices.now) (length c.args.runs.now)
accepted c r e = has_room (family_of c.args.self.microcode) 256 c.args.self c.args.indices.now c.args.runs.now c.args.a c.args.b c.args.c (asked c) refl r _ (found c) e

pub put_corners-requires : goal.put_corners-requires
put_corners-requires c = (accepted (goal.at.put_corners-requires c).After-judge _ (told c.in-Ok-Some.is c.in-Ok-Some.field-0-is)).index-end

pub overflow_add-recorded : goal.overflow_add-recorded
overflow_add-recorded c = omega (arith, accepted (goal.at.overflow_add-recorded c).After-judge _ (told c.in-Ok-Some.is c.in-Ok-Some.field-0-is))

pub overflow_sub-recorded : goal.overflow_sub-recorded
overflow_sub-recorded c = (accepted (goal.at.overflow_sub-recorded c).After-judge _ (told c.in-Ok-Some.is c.in-Ok-Some.field-0-is)).run-some

pub put_run-requires : goal.put_run-requires
put_run-requires c = rw c.place-at.ensures (accepted (goal.at.put_run-requires c).After-judge _ (told c.in-Ok-Some.is c.in-Ok-Some.field-0-is)).run_end

pub overflow_add-self : goal.overflow_add-self
overflow_add-self c = omega (arith, accepted (goal.at.overflow_add-self c).After-judge _ (told c.in-Ok-Some.is c.in-Ok-Some.field-0-is))

pub returns : goal.returns
returns c =
    let a = c.args in
    let f = family_of a.self.microcode in
    let j = (goal.at.returns c).After-judge in
    elim c.match-judge.branch [
      | in-Err w ↦ rw w.answer-is
          (draws-refused f 256 a.self a.indices.now a.runs.now a.a a.b a.c (asked j) refl _ (sym w.in-Err.is ∙ found j) _ _ _ _ (rw (w.self-is, w.drawn-is)) w.indices-is w.runs-is w.from-answer.ensures)
      | in-Ok-None w ↦ rw w.answer-is
          (draws-nothing f 256 a.self a.indices.now a.runs.now a.a a.b a.c (asked j) refl (sym (told w.in-Ok-None.is w.in-Ok-None.field-0-is) ∙ found j) _ _ _ (rw (w.self-is, w.drawn-is)) w.indices-is w.runs-is)
      | in-Ok-Some w ↦ rw w.answer-is
          (draws f 256 a.self a.indices.now a.runs.now a.a a.b a.c (asked j) refl _ _ (found j) (told w.in-Ok-Some.is w.in-Ok-Some.field-0-is)
          _ (rw (w.self-is, w.drawn-is))
          _ (w.indices-is ∙ w.put_corners.ensures ∙ rw (sided j))
          _ (run-written f a.self a.runs.now (asked j) _ _ _ _ _ _ _ (sided j) c.settings_of-set.ensures w.place-at.ensures (w.runs-is ∙ w.put_run.ensures)))
    ]
