-- Refused commands among the others: a sequence comes to what its accepted commands come to. Assumes nothing.
use mathlib.Core.Path.{◌≡◌, refl, sym, ap, ◌∙◌}
use mathlib.Core.Bool.{Bool, true, false, false≢true}
use mathlib.Core.List.{List, [], ◌∷◌}
use Rattle.stage.specs.Plan.{Plan, refuse, does, pick, carry}
use Rattle.sequence.specs.Sequence.{Command, Port, Machine, book, result, step, run, is_done, accepted}
use Rattle.sequence.proofs.Held.{port_after}

-- a refused command hands back the very state and the very areas
pub refused-rests : (m : Machine) (c : Command) (p : Port) → is_done (m c (book p)) ≡ false → step m c p ≡ p
unfolding step result carry
refused-rests m c p h = rest (m c (book p)) h
  where
    rest : (q : Plan) → is_done q ≡ false → port_after q p ≡ p
    rest (refuse n vs) e = refl
    rest (does vs t x) e = absurd (false≢true (sym e))

-- A SEQUENCE WITH REFUSED COMMANDS leaves what it leaves without them
pub passed_over : (m : Machine) (cs : List Command) (p : Port) → run m (accepted m cs p) p ≡ run m cs p
unfolding run accepted pick
passed_over m [] p = refl
passed_over m (c ∷ cs) p = by (is_done (m c (book p))) refl (passed_over m cs (step m c p))
  where
    by : (b : Bool) → is_done (m c (book p)) ≡ b → run m (accepted m cs (step m c p)) (step m c p) ≡ run m cs (step m c p)
        → run m (pick b (c ∷ accepted m cs (step m c p)) (accepted m cs (step m c p))) p ≡ run m cs (step m c p)
    by true e h = h
    by false e h = ap (run m (accepted m cs (step m c p))) (sym (refused-rests m c p e)) ∙ h
