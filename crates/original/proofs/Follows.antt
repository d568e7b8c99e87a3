-- Every command of the domain, and a list of them: the two sides agree. Assumes nothing.
use mathlib.Core.Path.{◌≡◌, refl, sym, ap, ap₂, ◌∙◌, subst}
use Prim.Native.Nat.{ℕ}
use mathlib.Core.Bool.{true, false, cond, false≢true}
use mathlib.Core.List.{List, [], ◌∷◌}
use Rattle.mode.specs.Word.{geometry_after}
use Rattle.decide.specs.Stack.{relit}
use Rattle.decide.specs.Family.{f3dex2, family_of}
use Rattle.stage.specs.Sound.{limit}
use Rattle.stage.specs.declared.State.{State}
use Rattle.stage.specs.Plan.{Plan, refuse, does, Edits, carry}
use Rattle.sequence.specs.Sequence.{Command, matrix, force, pop, viewport, geometry, texture, fog, number, light, lookat, microcode, load, cull, explain, depth, modify, draw, ink, Port, Book, book, after_all, result, step}
use Rattle.sequence.proofs.Turn.{enter, turn, course}
use Rattle.sequence.proofs.Held.{Fits, step-book}
use Rattle.sequence.proofs.Accepts.{Accepted}
use Rattle.original.specs.Drawing.{Result, Ok, Err}
use Rattle.original.specs.Walk.{World, Went, execute}
use Rattle.original.specs.Relation.{Offsets, Same}
use Rattle.original.specs.Domain.{Within, Agrees, IsDone, stage, AllDone, ours, sent, also_told, told, AllWithin, Walked, walk}
use Rattle.original.proofs.Ours.{by-ours, ours-turns}
use Rattle.original.proofs.Settings.{texture-agrees, fog-agrees, number-agrees, light-agrees, lookat-agrees, geometry-agrees, microcode-agrees}
use Rattle.original.proofs.Combined.{matrix-agrees, force-agrees, pop-agrees}
use Rattle.original.proofs.Views.{viewport-agrees}
use Rattle.original.proofs.Tests.{cull-agrees, depth-agrees}
use Rattle.original.proofs.Draws.{draw-agrees}
use Rattle.original.proofs.Modifies.{modify-agrees}
use Rattle.original.proofs.Loads.{load-agrees}

-- what is owed of a command: the relation S before, the relation T after it
abbrev pub Owed : (Book → World → Type 0) → Command → Book → World → Type 0
Owed T c k w = Accepted (λ vs t e. Agrees T (also_told c vs) (enter t e k) (execute c w)) (stage c k)

-- EVERY ACCEPTED COMMAND OF THE DOMAIN that the original is sent: it is done too, tells the same but for the count of a matrix, and leaves the same
pub agrees : (o : Offsets) (k : Book) (w : World) → Same o k w → (c : Command) → ours c ≡ false → Within c → Owed (Same o) c k w
agrees o k w N (matrix flags bytes at) q h = matrix-agrees N flags bytes at h
agrees o k w N (force bytes at) q h = force-agrees N bytes at h
agrees o k w N (pop count) q h = pop-agrees N (λ a b e. e) count
agrees o k w N (viewport bytes at) q h = viewport-agrees N bytes at h
agrees o k w N (geometry off on) q h =
    geometry-agrees N ◌≡◌ off on (ap (geometry_after off on) N.modes.settings.geometry) (ap (λ (g : ℕ). relit f3dex2 g (geometry_after off on g)) (sym N.modes.settings.geometry))
agrees o k w N (texture tile level on sc tc) q h = texture-agrees N tile level on sc tc h
agrees o k w N (fog multiplier offset) q h = fog-agrees N multiplier offset
agrees o k w N (number bytes) q h = number-agrees N bytes
agrees o k w N (light slot bytes at) q h = light-agrees N slot bytes at h
agrees o k w N (lookat slot bytes at) q h = lookat-agrees N slot bytes at h
agrees o k w N (microcode to) q h = microcode-agrees N to
agrees o k w N (load first count bytes at) q h = load-agrees N first count bytes at h
agrees o k w N (cull first last) q h = cull-agrees N first last
agrees o k w N (explain first last) q h = absurd (false≢true (sym q))
agrees o k w N (depth slot threshold) q h = depth-agrees N slot threshold h
agrees o k w N (modify slot attribute value) q h = modify-agrees N slot attribute value h
agrees o k w N (draw a b c material mode colour prim) q h = draw-agrees N a b c material mode colour prim
agrees o k w N (ink colour) q h = absurd (false≢true (sym q))

-- ---- the premises, said of books

-- what a plan tells
abbrev pub tells : Plan → List ℕ
tells (refuse n vs) = vs
tells (does vs t e) = vs

-- each command is accepted, from the book k on
abbrev pub DoneFrom : List Command → Book → Type 0
DoneFrom [] k = Unit {0}
DoneFrom (c ∷ cs) k = IsDone (stage c k) × DoneFrom cs (turn (stage c k) k)

-- what each tells that the original tells too, but for those that are not sent
abbrev pub tellings : List Command → Book → List (List ℕ)
tellings [] k = []
tellings (c ∷ cs) k = cond (ours c) (tellings cs (turn (stage c k) k)) (also_told c (tells (stage c k)) ∷ tellings cs (turn (stage c k) k))

-- the answer's values are what the plan tells
answer-tells : (c : Command) (p : Port) → (result stage c p).values ≡ tells (stage c (book p))
unfolding result carry
answer-tells c p = of (stage c (book p))
  where
    of : (q : Plan) → (carry after_all q p.state p.areas).values ≡ tells q
    of (refuse n vs) = refl
    of (does vs t e) = refl

-- what the port says of a list of commands, its book says
pub on-books : (cs : List Command) (p : Port) → Fits p → AllDone cs p → DoneFrom cs (book p) × (told cs p ≡ tellings cs (book p))
on-books [] p h d = (tt, refl)
on-books (c ∷ cs) p h d =
    let s = step-book family_of limit c p h in
    let r = on-books cs (step stage c p) s.0 d.1 in
    ((d.0, subst (DoneFrom cs) s.2 r.0), ap₂ (λ (a : List ℕ) (b : List (List ℕ)). cond (ours c) b (a ∷ b)) (ap (also_told c) (answer-tells c p)) (r.1 ∙ ap (tellings cs) s.2))

-- and the other way round
pub on-port : (cs : List Command) (p : Port) → Fits p → DoneFrom cs (book p) → AllDone cs p
on-port [] p h d = tt
on-port (c ∷ cs) p h d = let s = step-book family_of limit c p h in (d.0, on-port cs (step stage c p) s.0 (subst (DoneFrom cs) (sym s.2) d.1))

-- ---- one command

pub record Stepped (T : Book → World → Type 0) (c : Command) (k : Book) (w : World) : Type 0 where
  pub went : Went
  pub is : execute c w ≡ Ok went
  pub values : also_told c (tells (stage c k)) ≡ went.values
  pub after : T (turn (stage c k) k) went.world

pub stepped : (T : Book → World → Type 0) (c : Command) (k : Book) (w : World) → Owed T c k w → IsDone (stage c k) → Stepped T c k w
unfolding turn Accepted
stepped T c k w o d = go (stage c k) refl o d (execute c w) refl
  where
    found : (vs : List ℕ) (t : State) (e : Edits) → stage c k ≡ does vs t e → Agrees T (also_told c vs) (enter t e k) (execute c w) → (r : Result Went) → execute c w ≡ r → Stepped T c k w
    found vs t e q a (Ok g) x =
        let b : Agrees T (also_told c vs) (enter t e k) (Ok g) = subst (Agrees T (also_told c vs) (enter t e k)) x a in
        record { went = g; is = x; values = ap (λ (p : Plan). also_told c (tells p)) q ∙ b.0; after = subst (λ (p : Plan). T (turn p k) g.world) (sym q) b.1 }
    found vs t e q a (Err z) x = absurd (subst (Agrees T (also_told c vs) (enter t e k)) x a)

    go : (p : Plan) → stage c k ≡ p → Accepted (λ vs t e. Agrees T (also_told c vs) (enter t e k) (execute c w)) p → IsDone p → (r : Result Went) → execute c w ≡ r → Stepped T c k w
    go (refuse n vs) q a i r x = absurd i
    go (does vs t e) q a i r x = found vs t e q a r x

-- ---- a list of them

pub record Follows (T : Book → World → Type 0) (cs : List Command) (k : Book) (w : World) : Type 0 where
  pub walked : Walked
  pub is : walk (sent cs) w ≡ Ok walked
  pub values : tellings cs k ≡ walked.values
  pub after : T (course stage cs k) walked.world

pub follows-none : (T : Book → World → Type 0) (k : Book) (w : World) → T k w → Follows T [] k w
unfolding walk course
follows-none T k w h = record { walked = record { values = []; world = w }; is = refl; values = refl; after = h }

pub follows-more : (T S : Book → World → Type 0) (c : Command) → ours c ≡ false → (cs : List Command) (k : Book) (w : World) → Stepped S c k w → ((v : World) → S (turn (stage c k) k) v → Follows T cs (turn (stage c k) k) v) → Follows T (c ∷ cs) k w
unfolding walk course
follows-more T S c q cs k w s f =
    let r = f s.went.world s.after in
    record {
      walked = record { values = s.went.values ∷ r.walked.values; world = r.walked.world };
      is = rw (q, s.is, r.is);
      values = rw q (ap₂ (λ (a : List ℕ) (b : List (List ℕ)). a ∷ b) s.values r.values);
      after = r.after;
    }

-- one that is not sent
pub follows-ours : (T : Book → World → Type 0) (c : Command) → ours c ≡ true → (cs : List Command) (k : Book) (w : World) → Follows T cs (turn (stage c k) k) w → Follows T (c ∷ cs) k w
unfolding course
follows-ours T c q cs k w f = record { walked = f.walked; is = rw q f.is; values = rw q f.values; after = f.after }

-- EVERY LIST OF ACCEPTED COMMANDS OF THE DOMAIN
pub follows : (o : Offsets) (cs : List Command) (k : Book) (w : World) → Same o k w → AllWithin cs → DoneFrom cs k → Follows (Same o) cs k w
follows o [] k w N h d = follows-none (Same o) k w N
follows o (c ∷ cs) k w N h d =
    by-ours (λ c. Within c → IsDone (stage c k) → DoneFrom cs (turn (stage c k) k) → Follows (Same o) (c ∷ cs) k w)
    (λ c q _ _ e. follows-ours (Same o) c q cs k w (follows o cs (turn (stage c k) k) w (subst (λ (m : Book). Same o m w) (sym (ours-turns c q k)) N) h.1 e))
    (λ c q i a e. follows-more (Same o) (Same o) c q cs k w (stepped (Same o) c k w (agrees o k w N c q i) a) (λ v M. follows o cs (turn (stage c k) k) v M h.1 e))
    c h.0 d.0 d.1
