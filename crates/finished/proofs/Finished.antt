-- A RECORDED TRIANGLE IS FINISHED: `finished`, at the end, and its companions. Assumes nothing.
use mathlib.Core.Path.{◌≡◌, refl, sym, ap, ◌∙◌, subst}
use Prim.Native.Nat.{ℕ, ◌+◌, ◌*◌, ◌≤◌, ◌<◌}
use native.Mathlib.Omega.{arith}
use mathlib.Core.Bool.{Bool, true, false, ◌&&◌, false≢true}
use mathlib.Core.List.{List, [], ◌∷◌, ◌++◌, map, append_assoc}
use lib.ListN.{length, get_or, length-replicate}
use lib.Dec.{leb}
use borrow.Author.Tests.{leb-true}
use Rattle.areas.specs.Area.{room}
use Rattle.areas.specs.Widths.{matrix_width, viewport_width, index_width}
use Rattle.areas.proofs.Tables.{length-entries}
use Rattle.decide.specs.declared.family.Family.{Family}
use Rattle.std.specs.Prelude.{Option, Some, None}
use Rattle.change.specs.declared.Change.{Change}
use Rattle.change.specs.Decoded.{decoded}
use Rattle.triangle.specs.Slot.{both}
use Rattle.stage.specs.declared.State.{State}
use Rattle.stage.specs.declared.settings.Microcode.{Microcode}
use Rattle.ink.specs.Ink.{ink_of}
use Rattle.stage.specs.Plan.{keep, Edits, Plan, refuse, does, pick, lent, carry, row_words}
use Rattle.stage.specs.Sound.{state_sound}
use Rattle.stage.specs.Modify.{ink_plan}
use Rattle.stage.specs.Opening.{blank, opened}
use Rattle.stage.specs.Lights.{switched}
use Rattle.stage.specs.Draw.{row_of}
use Rattle.stage.proofs.Judged.{and_left, and_right}
use Rattle.sequence.specs.Sequence.{Command, matrix, force, pop, viewport, geometry, texture, fog, number, light, lookat, microcode, load, cull, explain, depth, modify, draw, ink, Areas, Port, Book, Alike, book, plan, after_all, result, step, run, is_done, accepted, opening}
use Rattle.sequence.proofs.Turn.{enter, turn, course}
use Rattle.sequence.proofs.Accepts.{Accepted, on-does, on-unless, on-judge}
use Rattle.sequence.proofs.Held.{Fits, step-book, run-book}
use Rattle.sequence.proofs.Opened.{opened-book, opened-alike, open-book, open-refused, shut, run-shut, shut-plan}
use Rattle.finished.specs.Shown.{Triangle, triangle_of}
use Rattle.finished.specs.Bench.{Bench, bench0, no_corner, moved, turns, pops, modifies, with_triangle, given, draws, act, bench}
use Rattle.finished.specs.Statement.{after, beside, recorded, no_triangle, gave, Stands, Finished, Demand3, OneRun, RunOf}
use Rattle.finished.specs.Inked.{inked_in, InkTells, InkStays}
use Rattle.finished.proofs.Lists.{Longer, same, with-more, longer-length, longer-at, none-marked, pick-case, pick-false}
use Rattle.finished.proofs.Ties.{settings_of, Inv}
use Rattle.finished.proofs.Keeps.{Keeps, keeps}
use Rattle.finished.proofs.Owned.{tiled-one, own, own_held, own-settings}
use Rattle.finished.proofs.Inked.{inked-longer, standing-ink}

module _ (F : ℕ → Family) (limit : State → ℕ) where
  -- ---- which commands are accepted

  accepted-append : (cs ds : List Command) (p : Port) → accepted (plan F limit) (cs ++ ds) p ≡ accepted (plan F limit) cs p ++ accepted (plan F limit) ds (run (plan F limit) cs p)
  unfolding accepted run pick
  accepted-append [] ds p = refl
  accepted-append (c ∷ cs) ds p =
      let more : List Command = accepted (plan F limit) ds (run (plan F limit) cs (step (plan F limit) c p)) in
      ap (λ (l : List Command). pick (is_done (plan F limit c (book p))) (c ∷ l) l) (accepted-append cs ds (step (plan F limit) c p))
      ∙ pick-append (is_done (plan F limit c (book p))) c (accepted (plan F limit) cs (step (plan F limit) c p)) more
    where
      pick-append : (b : Bool) (c : Command) (l m : List Command) → pick b (c ∷ l ++ m) (l ++ m) ≡ pick b (c ∷ l) l ++ m
      pick-append true c l m = refl
      pick-append false c l m = refl

  -- they hang on what is in use, and so on the book
  taken : List Command → Book → List Command
  taken [] k = []
  taken (c ∷ cs) k = pick (is_done (plan F limit c k)) (c ∷ taken cs (turn (plan F limit c k) k)) (taken cs (turn (plan F limit c k) k))

  accepted-book : (cs : List Command) (p : Port) → Fits p → accepted (plan F limit) cs p ≡ taken cs (book p)
  unfolding accepted taken
  accepted-book [] p r = refl
  accepted-book (c ∷ cs) p r =
      let s = step-book F limit c p r in
      ap (λ (l : List Command). pick (is_done (plan F limit c (book p))) (c ∷ l) l) (accepted-book cs (step (plan F limit) c p) s.0 ∙ ap (taken cs) s.2)

  -- a state that is not opened accepts none
  accepted-shut : (cs : List Command) (p : Port) → p.state.opened ≡ false → accepted (plan F limit) cs p ≡ []
  unfolding accepted pick book
  accepted-shut [] p e = refl
  accepted-shut (c ∷ cs) p e =
      let rest : List Command = accepted (plan F limit) cs (step (plan F limit) c p) in
      ap (λ (q : Plan). pick (is_done q) (c ∷ rest) rest) (shut-plan F limit c (book p) e)
      ∙ accepted-shut cs (step (plan F limit) c p) (ap (λ (r : Port). r.state.opened) (shut F limit c p e) ∙ e)

  -- ---- the bench's triangles only grow

  act-longer : (c : Command) (h : Bench) → Longer h.triangles (act F c h).triangles
  unfolding act turns pops draws modifies
  act-longer (matrix flags bytes at) h = same h.triangles
  act-longer (force bytes at) h = same h.triangles
  act-longer (pop count) h = pick-case (λ (g : Bench). Longer h.triangles g.triangles) _ (λ _. same h.triangles) (λ _. same h.triangles)
  act-longer (viewport bytes at) h = same h.triangles
  act-longer (geometry off on) h = same h.triangles
  act-longer (texture tile level on sc tc) h = same h.triangles
  act-longer (fog multiplier offset) h = same h.triangles
  act-longer (number bytes) h = same h.triangles
  act-longer (light slot bytes at) h = same h.triangles
  act-longer (lookat slot bytes at) h = same h.triangles
  act-longer (microcode to) h = same h.triangles
  act-longer (load first count bytes at) h = same h.triangles
  act-longer (cull first last) h = same h.triangles
  act-longer (explain first last) h = same h.triangles
  act-longer (depth slot threshold) h = same h.triangles
  act-longer (modify slot attribute value) h = modified-longer (decoded attribute value)
    where
      modified-longer : (a : Option Change) → Longer h.triangles (modifies a slot h).triangles
      modified-longer None = same h.triangles
      modified-longer (Some c) = same h.triangles
  act-longer (draw a b c material mode colour prim) h =
      pick-case (λ (g : Bench). Longer h.triangles g.triangles) _ (λ _. same h.triangles) (λ _. with-more h.triangles _)
  act-longer (ink colour) h = same h.triangles

  longer-trans : {A : Type 0} {l m n : List A} → Longer l m → Longer m n → Longer l n
  longer-trans {A} {l} {m} {n} x y = record { more = x.more ++ y.more; is = y.is ∙ ap (λ (z : List A). z ++ y.more) x.is ∙ append_assoc l x.more y.more }

  -- WHAT THE BENCH GAVE IT NEVER TAKES BACK
  pub bench-longer : (cs : List Command) (h : Bench) → Longer h.triangles (bench F cs h).triangles
  unfolding bench
  bench-longer [] h = same h.triangles
  bench-longer (c ∷ cs) h = longer-trans (act-longer c h) (bench-longer cs (act F c h))

  bench-append : (cs ds : List Command) (h : Bench) → bench F (cs ++ ds) h ≡ bench F ds (bench F cs h)
  unfolding bench
  bench-append [] ds h = refl
  bench-append (c ∷ cs) ds h = bench-append cs ds (act F c h)

  -- what is given by cs is given by whatever goes on from it
  later-longer : (seats : ℕ) (l : Areas) (cs ds : List Command) → Longer (beside F (plan F limit) seats l cs).triangles (beside F (plan F limit) seats l (cs ++ ds)).triangles
  later-longer seats l cs ds =
      let more : List Command = accepted (plan F limit) ds (after (plan F limit) l cs) in
      let e : beside F (plan F limit) seats l (cs ++ ds) ≡ bench F more (beside F (plan F limit) seats l cs) =
      ap (λ (c : List Command). bench F c (bench0 seats)) (accepted-append cs ds (opening l)) ∙ bench-append (accepted (plan F limit) cs (opening l)) more (bench0 seats) in
      rw e (bench-longer more (beside F (plan F limit) seats l cs))

  -- ---- the invariant, through a sequence

  module _ (seats : ℕ) (inside : (s : State) → limit s ≤ seats) (few : seats ≤ 256) where
    -- a bench with its settings read in the state is the bench
    read-settings : (k : Book) (h : Bench) → Inv seats k h → moved h (settings_of k.state) h.values ≡ h
    read-settings k h I = λ i. record { slots = h.slots; settings = I.settings i; values = h.values; triangles = h.triangles }

    -- one command: the bench acts where it is accepted
    step-inv : (c : Command) (p : Port) (h : Bench) → Fits p → Inv seats (book p) h → Inv seats (book (step (plan F limit) c p)) (pick (is_done (plan F limit c (book p))) (act F c h) h)
    unfolding turn Accepted pick
    step-inv c p h r I =
        subst (λ (k : Book). Inv seats k (pick (is_done (plan F limit c (book p))) (act F c h) h)) (sym (step-book F limit c p r).2)
        (go (plan F limit c (book p)) (keeps F limit seats few (book p) (inside (book p).state) h I c))
      where
        go : (q : Plan) → Accepted (Keeps F limit seats few (book p) (inside (book p).state) h I c) q → Inv seats (turn q (book p)) (pick (is_done q) (act F c h) h)
        go (refuse n vs) K = I
        go (does vs t x) K = subst (λ (g : Bench). Inv seats (enter t x (book p)) (act F c g)) (read-settings (book p) h I) K

    bench-takes : (b : Bool) (c : Command) (cs : List Command) (h : Bench) → bench F cs (pick b (act F c h) h) ≡ bench F (pick b (c ∷ cs) cs) h
    unfolding bench pick
    bench-takes true c cs h = refl
    bench-takes false c cs h = refl

    run-inv : (cs : List Command) (p : Port) (h : Bench) → Fits p → Inv seats (book p) h → Inv seats (book (run (plan F limit) cs p)) (bench F (accepted (plan F limit) cs p) h)
    unfolding run accepted bench
    run-inv [] p h r I = I
    run-inv (c ∷ cs) p h r I =
        let b : Bool = is_done (plan F limit c (book p)) in
        subst (Inv seats (book (run (plan F limit) cs (step (plan F limit) c p)))) (bench-takes b c (accepted (plan F limit) cs (step (plan F limit) c p)) h)
        (run-inv cs (step (plan F limit) c p) (pick b (act F c h) h) (step-book F limit c p r).0 (step-inv c p h r I))

    open-inv : (l : Areas) → Inv seats (opened-book l) (bench0 seats)
    unfolding opened blank bench0
    open-inv l =
        record {
          count = record { matrices = refl; viewports = refl; scales = refl; lights = refl; lookats = refl; fogs = refl; rows = refl; indices = refl; runs = refl };
          settings = refl;
          ties = record {
            current = record {
              some-matrix = omega arith;
              matrix = refl;
              some-viewport = omega arith;
              viewport = refl;
              scale = refl;
              lights = λ e. absurd (false≢true e);
              lookat = λ e. absurd (false≢true e);
              mark = refl;
              unit = λ e. absurd (e refl);
            };
            standing = record {
              full = record {
                row = rw (length-replicate {A = ℕ} 256 0) few;
                ever = rw (length-replicate 256 false) few;
                loaded = rw (length-replicate 256 false) few;
                drawn = rw (length-replicate 256 false) few;
              };
              bench = length-replicate seats no_corner;
              live = λ k e. absurd (none-marked 256 k e);
              within = λ k e. absurd (none-marked 256 k e);
              below = λ k e. absurd (none-marked 256 k e);
              apart = λ j k e. absurd (none-marked 256 j e);
              fresh = λ k i e. absurd (none-marked 256 k e);
              sound = λ i h. absurd (omega arith);
              used = λ i h. absurd (omega arith);
              held = λ k e. absurd (none-marked 256 k e);
              tiled = refl;
              whole = λ j h. absurd (omega arith);
              count = refl;
              given = λ n h. absurd (omega arith);
            };
          };
        }

    -- ---- after an opening that is done

    -- there is room for one entry in tables 1 and 2
    abbrev Opens : Areas → Type 0
    Opens l = (1 ≤ room matrix_width (length l.matrices)) × (1 ≤ room viewport_width (length l.viewports))

    after-inv : (l : Areas) → Opens l → (cs : List Command) → Inv seats (book (after (plan F limit) l cs)) (beside F (plan F limit) seats l cs)
    after-inv l o cs =
        let b = open-book l o.0 o.1 in
        run-inv cs (opening l) (bench0 seats) b.0 (subst (λ (k : Book). Inv seats k (bench0 seats)) (sym b.1) (open-inv l))

    -- areas of equal lengths, whatever stands in them, make no difference to what is in use, nor to what is accepted
    after-alike : (x y : Areas) → Alike x y → Opens x → Opens y → (cs : List Command)
        → (book (after (plan F limit) x cs) ≡ book (after (plan F limit) y cs)) × (accepted (plan F limit) cs (opening x) ≡ accepted (plan F limit) cs (opening y))
    after-alike x y e ox oy cs =
        let a = open-book x ox.0 ox.1 in
        let b = open-book y oy.0 oy.1 in
        let q : book (opening x) ≡ book (opening y) = a.1 ∙ opened-alike x y e ∙ sym b.1 in (
          (run-book F limit cs (opening x) a.0).1 ∙ ap (course (plan F limit) cs) q ∙ sym (run-book F limit cs (opening y) b.0).1,
          accepted-book cs (opening x) a.0 ∙ ap (taken cs) q ∙ sym (accepted-book cs (opening y) b.0),
        )

    -- indices in use are three for each triangle of the bench
    indices-are : (l : Areas) → Opens l → (cs : List Command) → (after (plan F limit) l cs).state.counts.indices ≡ 3 * length (beside F (plan F limit) seats l cs).triangles
    unfolding book
    indices-are l o cs = let I = after-inv l o cs in sym I.count.indices ∙ I.ties.standing.count

    -- ---- after an opening that is refused

    -- nothing is recorded, by either
    refused_none : (l : Areas) → opening l ≡ record { state = blank false; areas = l } → (cs : List Command)
        → ((after (plan F limit) l cs).state.counts.indices ≡ 0) × ((beside F (plan F limit) seats l cs).triangles ≡ [])
    unfolding blank bench0 bench
    refused_none l e cs =
        let o : (opening l).state.opened ≡ false = ap (λ (p : Port). p.state.opened) e in (
          ap (λ (p : Port). p.state.counts.indices) (run-shut F limit cs (opening l) o ∙ e),
          ap (λ (ds : List Command). (bench F ds (bench0 seats)).triangles) (accepted-shut cs (opening l) o),
        )

    -- an opening is done, or refused
    by-opening : (P : Type 0) (l : Areas) → (Opens l → P) → (opening l ≡ record { state = blank false; areas = l } → P) → P
    by-opening P l done refused = go (leb 1 (room matrix_width (length l.matrices)) && leb 1 (room viewport_width (length l.viewports))) refl
      where
        go : (b : Bool) → leb 1 (room matrix_width (length l.matrices)) && leb 1 (room viewport_width (length l.viewports)) ≡ b → P
        go true e =
            let a : Bool = leb 1 (room matrix_width (length l.matrices)) in
            let b : Bool = leb 1 (room viewport_width (length l.viewports)) in
            done (leb-true 1 (room matrix_width (length l.matrices)) (and_left a b e), leb-true 1 (room viewport_width (length l.viewports)) (and_right a b e))
        go false e = refused (open-refused l e)

    -- ---- companions

    -- INDICES IN USE ARE THREE FOR EACH TRIANGLE OF THE BENCH
    pub three-each : (l : Areas) (cs : List Command) → (after (plan F limit) l cs).state.counts.indices ≡ 3 * length (beside F (plan F limit) seats l cs).triangles
    three-each l cs =
        by-opening ((after (plan F limit) l cs).state.counts.indices ≡ 3 * length (beside F (plan F limit) seats l cs).triangles) l (λ o. indices-are l o cs)
        (λ e. let z = refused_none l e cs in z.0 ∙ sym (ap (λ (t : List Triangle). 3 * length t) z.1))

    -- EACH TRIANGLE OF THE BENCH IS RECORDED, AND THE OTHER WAY ROUND
    pub recorded-is : (l : Areas) (cs : List Command) → recorded (after (plan F limit) l cs) ≡ length (beside F (plan F limit) seats l cs).triangles
    recorded-is l cs = omega (arith, three-each l cs)

    -- THE BENCH'S SETTINGS ARE THE STAGE'S, though it was told only which commands were accepted
    pub settings-are : (l : Areas) → Opens l → (cs : List Command) → settings_of (after (plan F limit) l cs).state ≡ (beside F (plan F limit) seats l cs).settings
    unfolding book
    settings-are l o cs = (after-inv l o cs).settings

    -- no index is in use after an opening that is refused
    refused-empty : (l : Areas) → opening l ≡ record { state = blank false; areas = l } → (cs : List Command) → length (book (after (plan F limit) l cs)).drawing.indices.used ≡ 0
    unfolding book
    refused-empty l e cs = length-entries index_width _ _ ∙ (refused_none l e cs).0

    -- EACH INDEX IN USE IS HELD BY ONE RUN IN USE, and by no other
    pub one-run : (l : Areas) (cs : List Command) (i : ℕ) → let k = book (after (plan F limit) l cs) in i < length k.drawing.indices.used → OneRun k.drawing.runs.used i
    one-run l cs i h =
        by-opening (OneRun (book (after (plan F limit) l cs)).drawing.runs.used i) l (λ o. tiled-one 0 _ _ (after-inv l o cs).ties.standing.tiled i (omega arith) h)
        (λ e. absurd (omega (arith, refused-empty l e cs)))

    -- THE RUN OF A TRIANGLE IS A FACT: one run has its three indices, no other has one of them, and the triangle shows its settings
    pub own-run : (l : Areas) (cs : List Command) (n : ℕ) → n < recorded (after (plan F limit) l cs) → RunOf (book (after (plan F limit) l cs)) n
    unfolding triangle_of
    own-run l cs n h =
        let k : Book = book (after (plan F limit) l cs) in
        by-opening (RunOf k n) l
        (λ o.
        let S = (after-inv l o cs).ties.standing in
        let low : 3 * n + 3 ≤ length k.drawing.indices.used = omega (arith, h, recorded-is l cs, S.count) in
        record {
          run = own k.drawing.runs.used (length k.drawing.indices.used) S.tiled n low;
          held = own_held k.drawing.runs.used (length k.drawing.indices.used) S.tiled n low;
          settings = own-settings k.drawing.runs.used (length k.drawing.indices.used) S.tiled n low;
        })
        (λ e. absurd (omega (arith, (refused_none l e cs).0)))

    -- WHAT AN ACCEPTED DRAW GIVES THE BENCH: the three slots' values and its settings, behind what it gave before
    pub when-drawn : (cs : List Command) (a b c material mode colour prim : ℕ) → let h = bench F cs (bench0 seats) in
        let f = F h.settings.modes.microcode in
        both f h.settings.modes.geometry ≡ false
        → (bench F (cs ++ draw a b c material mode colour prim ∷ []) (bench0 seats)).triangles ≡ h.triangles ++ given f h a b c (material ∷ mode ∷ colour ∷ prim ∷ []) ∷ []
    unfolding bench act draws
    when-drawn cs a b c material mode colour prim q =
        let h : Bench = bench F cs (bench0 seats) in
        ap (λ (g : Bench). g.triangles) (bench-append cs (draw a b c material mode colour prim ∷ []) (bench0 seats))
        ∙ ap (λ (g : Bench). g.triangles) (pick-false (both (F h.settings.modes.microcode) h.settings.modes.geometry) h (with_triangle h (given (F h.settings.modes.microcode) h a b c (material ∷ mode ∷ colour ∷ prim ∷ []))) q)

    -- A SLOT UNLOADED BY A MICROCODE CHANGE still has its row and counts as loaded since opening, and the bench keeps its slots
    pub unloaded-draws : (s : State) (to : Microcode) (i : ℕ) → (row_of (switched s to) i ≡ row_of s i) × (get_or (switched s to).ever i false ≡ get_or s.ever i false)
    unfolding switched
    unloaded-draws s to i = (refl, refl)

    pub bench-rests : (to : Microcode) (h : Bench) → ((act F (microcode to) h).slots ≡ h.slots) × ((act F (microcode to) h).values ≡ h.values)
    unfolding act
    bench-rests to h = (refl, refl)

    -- ---- the theorem

    -- what the bench gave by cs stands at the end of every continuation
    stands-later : (l : Areas) → Opens l → (cs ds : List Command) (n : ℕ) → n < length (beside F (plan F limit) seats l cs).triangles
        → Stands (after (plan F limit) l (cs ++ ds)) n (gave (beside F (plan F limit) seats l cs) n)
    stands-later l o cs ds n h =
        let w : Longer (beside F (plan F limit) seats l cs).triangles (beside F (plan F limit) seats l (cs ++ ds)).triangles = later-longer seats l cs ds in
        let m : n < length (beside F (plan F limit) seats l (cs ++ ds)).triangles = omega (arith, longer-length w) in
        record {
          in_use = rw (recorded-is l (cs ++ ds)) m;
          shows = (after-inv l o (cs ++ ds)).ties.standing.given n m ∙ longer-at w no_triangle n h;
        }

    alike-opens : (x y : Areas) → Alike x y → Opens x → Opens y
    alike-opens x y e o = rw (← e.matrices, ← e.viewports) o

    both-stand : (x y : Areas) → Alike x y → (cs ds es : List Command) (n : ℕ) → Finished F (plan F limit) seats x y cs ds es n
    both-stand x y e cs ds es n h =
        let m : n < length (beside F (plan F limit) seats x cs).triangles = rw (← (recorded-is x cs)) h in
        let T : Triangle = gave (beside F (plan F limit) seats x cs) n in
        by-opening (Stands (after (plan F limit) x (cs ++ ds)) n T × Stands (after (plan F limit) y (cs ++ es)) n T) x
        (λ o.
        let oy = alike-opens x y e o in
        let q : beside F (plan F limit) seats x cs ≡ beside F (plan F limit) seats y cs = ap (λ (c : List Command). bench F c (bench0 seats)) (after-alike x y e o oy cs).1 in
        (stands-later x o cs ds n m, rw q (stands-later y oy cs es n (rw q at m))))
        (λ r. absurd (omega (arith, ap length (refused_none x r cs).1)))

    -- what is in use, and so every answer, hangs on the areas' lengths alone
    pub same-use : (x y : Areas) → Alike x y → Opens x → (cs : List Command) → book (after (plan F limit) x cs) ≡ book (after (plan F limit) y cs)
    same-use x y e o cs = (after-alike x y e o (alike-opens x y e o) cs).0

    -- ---- what is told

    -- the values told are w
    abbrev Tells : List ℕ → List ℕ → State → Edits → Type 0
    Tells w vs t e = vs ≡ w

    values-are : (q : Plan) (w : List ℕ) (s : State) (l : Areas) → is_done q ≡ true → Accepted (Tells w) q → (carry after_all q s l).values ≡ w
    unfolding carry Accepted
    values-are (refuse n vs) w s l h a = absurd (false≢true h)
    values-are (does vs t e) w s l h a = a

    -- an ink count tells how many indices in use have the ink
    ink-told : (k : Book) (colour : ℕ) → Accepted (Tells (ink_of colour (map row_words k.rows.used) k.drawing.indices.used ∷ [])) (plan F limit (ink colour) k)
    unfolding plan ink_plan
    ink-told k colour =
        let Q : List ℕ → State → Edits → Type 0 = Tells (ink_of colour (map row_words k.rows.used) k.drawing.indices.used ∷ []) in
        on-unless Q (state_sound k.state) 10 [] _ (λ _. on-judge Q 8 (lent 7 k.rows keep ∷ lent 8 k.drawing.indices keep ∷ []) _ (λ _. on-does Q _ _ _ refl))

    inks-told : (l : Areas) (cs : List Command) (colour : ℕ) → let p = after (plan F limit) l cs in
        is_done (plan F limit (ink colour) (book p)) ≡ true
        → (result (plan F limit) (ink colour) p).values ≡ inked_in colour (beside F (plan F limit) seats l cs).triangles ∷ []
    unfolding result book blank
    inks-told l cs colour h =
        let p : Port = after (plan F limit) l cs in
        let P : Type 0 = (result (plan F limit) (ink colour) p).values ≡ inked_in colour (beside F (plan F limit) seats l cs).triangles ∷ [] in
        by-opening P l
        (λ o.
        values-are (plan F limit (ink colour) (book p)) _ p.state p.areas h (ink-told (book p) colour)
        ∙ ap (λ (n : ℕ). n ∷ []) (standing-ink colour (after-inv l o cs).ties.standing))
        (λ e.
        let q : p.state.opened ≡ false = ap (λ (r : Port). r.state.opened) (run-shut F limit cs (opening l) (ap (λ (r : Port). r.state.opened) e) ∙ e) in
        absurd (false≢true (sym (ap is_done (shut-plan F limit (ink colour) (book p) q)) ∙ h)))

-- A RECORDED TRIANGLE IS FINISHED
pub finished : Demand3
finished F limit seats inside few x y e cs ds es n = both-stand F limit seats inside few x y e cs ds es n

-- AN INK COUNT TELLS OF WHAT WAS DRAWN
pub ink-tells : InkTells
ink-tells F limit seats inside few l cs colour h = inks-told F limit seats inside few l cs colour h

-- WHAT WAS COUNTED STAYS COUNTED
pub ink-stays : InkStays
ink-stays F limit seats l cs ds colour = inked-longer colour (later-longer F limit seats l cs ds)
