-- Demand 2 with refused commands among the others. Assumes nothing.
use mathlib.Core.Path.{◌≡◌, refl, sym, ap, ◌∙◌, subst}
use mathlib.Core.List.{List, [], ◌∷◌, ◌++◌}
use Rattle.decide.specs.Family.{family_of}
use Rattle.stage.specs.Sound.{limit}
use Rattle.stage.specs.Plan.{Plan, refuse, does, pick}
use Rattle.sequence.specs.Sequence.{Command, Port, book, step, run, is_done, accepted}
use Rattle.sequence.proofs.Held.{run-append}
use Rattle.sequence.proofs.Passed.{refused-rests, passed_over}
use Rattle.original.specs.Domain.{IsDone, stage, AllDone, prologue, opened_as, Demand2AmongRefusals}
use Rattle.original.proofs.Prologues.{equals-original}

-- two lists of accepted commands, one after the other
done-append : (cs ds : List Command) (p : Port) → AllDone cs p → AllDone ds (run stage cs p) → AllDone (cs ++ ds) p
unfolding run
done-append [] ds p a b = b
done-append (c ∷ cs) ds p a b = (a.0, done-append cs ds (step stage c p) a.1 b)

-- the accepted commands of a list are accepted without the others
accepted-done : (cs : List Command) (p : Port) → AllDone (accepted stage cs p) p
unfolding accepted pick
accepted-done [] p = tt
accepted-done (c ∷ cs) p = by (stage c (book p)) refl (accepted-done cs (step stage c p))
  where
    by : (q : Plan) → stage c (book p) ≡ q → AllDone (accepted stage cs (step stage c p)) (step stage c p)
        → AllDone (pick (is_done q) (c ∷ accepted stage cs (step stage c p)) (accepted stage cs (step stage c p))) p
    by (refuse n vs) e h = subst (AllDone (accepted stage cs (step stage c p))) (refused-rests stage c p (ap is_done e)) h
    by (does vs t x) e h = (subst IsDone (sym e) tt, h)

-- DEMAND 2 AMONG REFUSALS
pub among-refusals : Demand2AmongRefusals
among-refusals u l o p cs h d =
    let s : Port = opened_as u l in
    let q : Port = run stage (prologue p) s in
    let ds : List Command = accepted stage cs q in (
      equals-original u l o p ds h (done-append (prologue p) ds s d (accepted-done cs q)),
      run-append family_of limit (prologue p) ds s ∙ passed_over stage cs q ∙ sym (run-append family_of limit (prologue p) cs s),
    )
