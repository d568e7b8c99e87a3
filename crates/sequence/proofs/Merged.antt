-- Neighbouring mode words of a list may be joined, but for the mark of the lights. Assumes nothing.
use mathlib.Core.Path.{◌≡◌, refl, sym, ap, ap₂, ◌∙◌}
use mathlib.Core.Bool.{Bool, true, false, not, ◌&&◌, ◌||◌, beq}
use mathlib.Core.List.{[]}
use Prim.Native.Nat.{ℕ}
use Rattle.mode.specs.declared.ModeWord.{ModeWord}
use Rattle.mode.specs.Word.{leaves, joined}
use Rattle.mode.proofs.Joins.{joins}
use Rattle.decide.specs.declared.family.Family.{Family}
use Rattle.decide.specs.Stack.{relit}
use Rattle.decide.specs.Family.{lit}
use Rattle.stage.specs.declared.State.{State}
use Rattle.stage.specs.With.{with_geometry, with_lights, marked}
use Rattle.stage.specs.Plan.{refuse, does, untouched, carry, unless, nothing}
use Rattle.stage.specs.Sound.{state_sound}
use Rattle.stage.specs.Matrices.{geometry_plan}
use Rattle.sequence.specs.Merged.{then, over_and_back, also_marked, Merged}

-- marked at either of two turns is marked at the two together, or over and back
either : (c x y z : Bool)
    → (c || not (beq x y)) || not (beq y z) ≡ (c || not (beq x z)) || (not (beq x y) && not (beq y z))
either true x y z = refl
either false true true true = refl
either false true true false = refl
either false true false true = refl
either false true false false = refl
either false false true true = refl
either false false true false = refl
either false false false true = refl
either false false false false = refl

-- the mark c after two mode words on the word g is that after the joined one, or over and back
marks : (f : Family) (p q : ModeWord) (c : Bool) (g : ℕ)
    → (c || relit f g (leaves p g)) || relit f (leaves p g) (leaves q (leaves p g)) ≡ (c || relit f g (leaves (joined p q) g)) || over_and_back f p q g
unfolding relit
marks f p q c g =
    either c (lit f g) (lit f (leaves p g)) (lit f (leaves q (leaves p g)))
    ∙ ap (λ (x : ℕ). (c || relit f g x) || over_and_back f p q g) (joins.same_word p q g)

module _ (F : ℕ → Family) (s : State) where
  -- the state after an accepted mode word
  abbrev to : ModeWord → State
  to w = with_lights (with_geometry s (leaves w s.geometry)) (marked s.lights (s.lights.changed || relit (F s.microcode) s.geometry (leaves w s.geometry)))

  -- the state handed back, by the test of the state's own numbers: accepted, refused
  tested : (w : ModeWord) (b : Bool) → state_sound s ≡ b → then F w s ≡ (carry nothing (unless b (refuse 10 []) (does [] (to w) untouched)) s tt).state
  unfolding geometry_plan
  tested w b h = ap (λ (x : Bool). (carry nothing (unless x (refuse 10 []) (does [] (to w) untouched)) s tt).state) h

  goes : (w : ModeWord) → state_sound s ≡ true → then F w s ≡ to w
  unfolding carry unless
  goes w h = tested w true h

  rests : (w : ModeWord) → state_sound s ≡ false → then F w s ≡ s
  unfolding carry unless
  rests w h = tested w false h

  -- a mode word moves nothing that makes a state sound
  still : (w : ModeWord) → state_sound (to w) ≡ state_sound s
  unfolding state_sound
  still w = refl

pub merged : (F : ℕ → Family) (p q : ModeWord) (s : State) → Merged F p q s
merged F p q s =
    record {
      accepted =
          λ h.
          ap (then F q) (goes F s p h) ∙ goes F (to F s p) q (still F s p ∙ h)
          ∙ ap₂ (λ (g : ℕ) (m : Bool). with_lights (with_geometry s g) (marked s.lights m)) (joins.same_word p q s.geometry) (marks (F s.microcode) p q s.lights.changed s.geometry)
          ∙ ap (also_marked (over_and_back (F s.microcode) p q s.geometry)) (sym (goes F s (joined p q) h));
      refused = λ h. (ap (then F q) (rests F s p h) ∙ rests F s q h, rests F s (joined p q) h);
    }
