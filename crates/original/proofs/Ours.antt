-- The explainer and the ink count, which the original is not sent: they leave state, areas and book as they are. Assumes nothing.
use mathlib.Core.Path.{◌≡◌, refl, sym, ap, ◌∙◌}
use Prim.Native.Nat.{ℕ}
use mathlib.Core.Bool.{Bool, true, false, false≢true}
use mathlib.Core.List.{List, [], ◌∷◌}
use Rattle.stage.specs.declared.State.{State}
use Rattle.stage.specs.Plan.{Plan, refuse, does, Edits, untouched, carry}
use Rattle.sequence.specs.Sequence.{Command, matrix, force, pop, viewport, geometry, texture, fog, number, light, lookat, microcode, load, cull, explain, depth, modify, draw, ink, Port, Book, book, plan, result, step, run}
use Rattle.sequence.proofs.Turn.{turn}
use Rattle.sequence.proofs.Held.{port_after}
use Rattle.sequence.proofs.Accepts.{Accepted, on-explain, on-ink}
use Rattle.original.specs.Domain.{stage, ours, sent}

-- a command is ours alone, or the original's too
pub by-ours : (P : Command → Type 0) → ((c : Command) → ours c ≡ true → P c) → ((c : Command) → ours c ≡ false → P c) → (c : Command) → P c
by-ours P f g c = go (ours c) refl
  where
    go : (b : Bool) → ours c ≡ b → P c
    go true e = f c e
    go false e = g c e

-- a plan that leaves the state s and edits no table
abbrev Idle : State → Plan → Type 0
Idle s q = Accepted (λ (vs : List ℕ) (t : State) (e : Edits). (t ≡ s) × (e ≡ untouched)) q

ours-idle : (c : Command) → ours c ≡ true → (k : Book) → Idle k.state (stage c k)
unfolding plan
ours-idle (matrix flags bytes at) q k = absurd (false≢true q)
ours-idle (force bytes at) q k = absurd (false≢true q)
ours-idle (pop count) q k = absurd (false≢true q)
ours-idle (viewport bytes at) q k = absurd (false≢true q)
ours-idle (geometry off on) q k = absurd (false≢true q)
ours-idle (texture tile level on sc tc) q k = absurd (false≢true q)
ours-idle (fog multiplier offset) q k = absurd (false≢true q)
ours-idle (number bytes) q k = absurd (false≢true q)
ours-idle (light slot bytes at) q k = absurd (false≢true q)
ours-idle (lookat slot bytes at) q k = absurd (false≢true q)
ours-idle (microcode to) q k = absurd (false≢true q)
ours-idle (load first count bytes at) q k = absurd (false≢true q)
ours-idle (cull first last) q k = absurd (false≢true q)
ours-idle (explain first last) q k = on-explain _ _ k.state first last (λ _ _ _. (refl, refl))
ours-idle (depth slot threshold) q k = absurd (false≢true q)
ours-idle (modify slot attribute value) q k = absurd (false≢true q)
ours-idle (draw a b c material mode colour prim) q k = absurd (false≢true q)
ours-idle (ink colour) q k = on-ink _ k.state k.rows k.drawing.indices colour (λ _. (refl, refl))

-- such a command leaves the book
pub ours-turns : (c : Command) → ours c ≡ true → (k : Book) → turn (stage c k) k ≡ k
unfolding turn Accepted
ours-turns c q k = of (stage c k) (ours-idle c q k)
  where
    of : (q : Plan) → Idle k.state q → turn q k ≡ k
    of (refuse n vs) h = refl
    of (does vs t e) h = rw (h.0, h.1) refl

-- and the port
pub ours-rests : (c : Command) → ours c ≡ true → (p : Port) → step stage c p ≡ p
unfolding step result carry book Accepted
ours-rests c q p = of (stage c (book p)) (ours-idle c q (book p))
  where
    of : (q : Plan) → Idle p.state q → port_after q p ≡ p
    of (refuse n vs) h = refl
    of (does vs t e) h = rw (h.0, h.1) refl

-- A LIST OF COMMANDS leaves what it leaves without those two
pub sent-rest : (cs : List Command) (p : Port) → run stage (sent cs) p ≡ run stage cs p
unfolding run
sent-rest [] p = refl
sent-rest (c ∷ cs) p =
    by-ours (λ c. run stage (sent (c ∷ cs)) p ≡ run stage (c ∷ cs) p)
    (λ c q. rw q (sent-rest cs p ∙ ap (run stage cs) (sym (ours-rests c q p))))
    (λ c q. rw q (sent-rest cs (step stage c p)))
    c
