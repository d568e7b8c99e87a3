-- Matrix, forced matrix and pop of the two sides. Assumes nothing.
use mathlib.Core.Path.{◌≡◌, refl, sym, ap, ap₂, ◌∙◌, subst}
use Prim.Native.Nat.{ℕ, ◌+◌, ◌-◌, ◌*◌, ◌≤◌}
use native.Mathlib.Omega.{arith}
use mathlib.Core.Bool.{Bool, true, false, ◌&&◌, cond}
use mathlib.Core.List.{List, [], ◌∷◌, ◌++◌}
use lib.ListN.{length, set}
use lib.Dec.{eqb, ltb}
use lib.Ieee.{Float}
use Rattle.areas.specs.Area.{put}
use Rattle.areas.specs.Widths.{matrix_width}
use Rattle.decide.specs.Family.{f3dex2, flag, family_of}
use Rattle.decide.specs.Stack.{made, pushed, popped}
use Rattle.stage.specs.Sound.{limit}
use Rattle.layout.specs.Layout.{matrix_at}
use Rattle.matrix.specs.Math.{times, rows, laid}
use Rattle.stage.specs.declared.State.{State}
use Rattle.stage.specs.Plan.{Plan, refuse, does, Edits, keep, grow, Row, pick, advance}
use Rattle.stage.specs.With.{with_counts, with_model, with_projection}
use Rattle.stage.specs.Matrices.{model_top, combine, turned}
use Rattle.sequence.specs.Sequence.{Command, matrix, force, pop, Book, plan}
use Rattle.sequence.proofs.Turn.{edited, enter}
use Rattle.sequence.proofs.Accepts.{Accepted, on-combine, on-matrix, on-force, on-pop}
use Rattle.original.specs.Math.{Mat4, mul4}
use Rattle.original.specs.Memory.{read_matrix}
use Rattle.original.specs.Rsp.{Viewports, Texcoords, Matrices, eq_mat, last_is, mv_top, recompute_mvp, with_stack, with_viewproj, push_model, write_top, matrix_fn, force_matrix, popped_size, pop_matrix}
use Rattle.original.specs.Drawing.{Columns, Result, Ok, Err}
use Rattle.original.specs.Walk.{World, Went, with_rsp_matrices, with_rsp, execute}
use Rattle.original.specs.Relation.{MatrixSame, Near}
use Rattle.original.specs.Domain.{also_told, Data, Agrees}
use Rattle.original.proofs.Alike.{has_push, has-load, has-projection, popped-same}
use Rattle.original.proofs.Nears.{space-near}
use Rattle.original.proofs.Readers.{matrix-same}
use Rattle.original.proofs.Stacks.{combined-by, recompute-is, combined-same, combined-new, product-same, depth-lowered, projection-set, model-set}

-- what follows from what is said of an accepted plan
pub accepted-map : (Q R : List ℕ → State → Edits → Type 0) → ((vs : List ℕ) (t : State) (e : Edits) → Q vs t e → R vs t e) → (p : Plan) → Accepted Q p → Accepted R p
unfolding Accepted
accepted-map Q R f (refuse n vs) h = h
accepted-map Q R f (does vs t e) h = f vs t e h

-- a pop leaves a depth between 1 and what it was
lowered : (count d : ℕ) → 1 ≤ d → (1 ≤ popped count d) × (popped count d ≤ d)
unfolding popped
lowered count d h = (omega arith, omega arith)

-- a push and a new top leave the mark
marked : (load push : Bool) (m : Matrices) (x : Mat4) → (write_top load x (push_model push m)).mvp_valid ≡ m.mvp_valid
unfolding write_top push_model
marked load push m x = go (push && ltb m.model_stack_size 32)
  where
    go : (b : Bool) → (cond b (with_stack m (set m.model_stack m.model_stack_size (mv_top m)) (m.model_stack_size + 1)) m).mvp_valid ≡ m.mvp_valid
    go true = refl
    go false = refl

-- a book with another state
abbrev pub with_state : Book → State → Book
with_state k s =
    record {
      state = s;
      matrices = k.matrices;
      viewports = k.viewports;
      scales = k.scales;
      lights = k.lights;
      lookats = k.lookats;
      fogs = k.fogs;
      rows = k.rows;
      drawing = k.drawing;
    }

-- a world with other matrices
abbrev pub with_matrices : World → Matrices → World
with_matrices w m = with_rsp w (with_rsp_matrices w.rsp m)

module _ {D : Bool → Bool → Type 0} {G : ℕ → ℕ → Type 0} {P : List Float → List (List Float) → Viewports → Type 0} {X : ℕ → List (List Float) → Texcoords → Type 0} {R : List Row → Columns → Type 0} {k : Book} {w : World} (N : Near D G P X R k w) where
  -- a new combined matrix, on both sides
  combine-agrees : (mvp : Mat4) (v : List Float) → v ≡ laid mvp
      → Accepted (λ vs t e. (vs ≡ []) × Near ◌≡◌ G P X R (enter t e k) (with_matrices w (combined-by mvp w.rsp.matrices))) (combine k.state k.matrices v)
  unfolding combined-by
  combine-agrees mvp v q =
      on-combine _ k.state k.matrices v
      (λ e. (refl, space-near N keep keep (rw q (combined-same N.space.matrices mvp (rw q at e))) refl N.space.view))
      (λ e _. (refl, space-near N (grow (v ∷ [])) keep (rw q (combined-new N.space.matrices mvp (rw q at e))) refl N.space.view))

  -- the two sides with other matrices, of which nothing is appended yet
  turned-near : (s : State) (m : Matrices) → s ≡ with_projection (with_model k.state s.depth s.stack) s.projection → m.mvp_valid ≡ w.rsp.matrices.mvp_valid
      → MatrixSame s.depth s.stack s.projection k.state.combined k.matrices.used m → Near D G P X R (with_state k s) (with_matrices w m)
  turned-near s m e v M =
      subst (λ (u : State). Near D G P X R (with_state k u) (with_matrices w m)) (sym e)
      (space-near N keep keep M (rw v N.space.defined) N.space.view)

-- ---- the commands

module _ {D : Bool → Bool → Type 0} {G : ℕ → ℕ → Type 0} {P : List Float → List (List Float) → Viewports → Type 0} {X : ℕ → List (List Float) → Texcoords → Type 0} {R : List Row → Columns → Type 0} {k : Book} {w : World} (N : Near D G P X R k w) where
  abbrev Owes : Command → Type 0
  Owes c = Accepted (λ vs t e. Agrees (Near ◌≡◌ G P X R) (also_told c vs) (enter t e k) (execute c w)) (plan family_of limit c k)

  -- edits entered with another state of the same counts
  entered : (s t : State) (e : Edits) → s.counts ≡ k.state.counts → enter t e (with_state k s) ≡ enter t e k
  entered s t e q = λ i.
      record {
        state = with_counts t (advance e (q i));
        matrices = edited e.matrices k.matrices;
        viewports = edited e.viewports k.viewports;
        scales = edited e.scales k.scales;
        lights = edited e.lights k.lights;
        lookats = edited e.lookats k.lookats;
        fogs = edited e.fogs k.fogs;
        rows = edited e.rows k.rows;
        drawing = record { indices = edited e.drawing.indices k.drawing.indices; runs = edited e.drawing.runs k.drawing.runs };
      }

  -- a state s of the same counts, and matrices m before they are recomputed
  recomputed : (s : State) (m : Matrices) (c : Command) → Near D G P X R (with_state k s) (with_matrices w m) → s.counts ≡ k.state.counts
      → execute c w ≡ Ok (record { values = []; world = with_matrices w (recompute_mvp m) })
      → Accepted (λ vs t e. (vs ≡ []) × Agrees (Near ◌≡◌ G P X R) [] (enter t e k) (execute c w)) (combine s k.matrices (laid (times (model_top s) (rows s.projection 0))))
  recomputed s m c n q x =
      accepted-map _ _
      (λ vs t e a.
      rw (x, recompute-is m)
      (a.0, (refl, subst (λ (b : Book). Near ◌≡◌ G P X R b (with_matrices w (combined-by (mul4 (mv_top m) m.viewproj) m))) (entered s t e q) a.1)))
      _ (combine-agrees n (mul4 (mv_top m) m.viewproj) (laid (times (model_top s) (rows s.projection 0))) (product-same n.space.matrices))

  module _ (flags : ℕ) (bytes : List ℕ) (at : ℕ) (I : Data bytes) (fits : at + 64 ≤ length bytes) where
    read : read_matrix bytes at ≡ matrix_at bytes at
    read = matrix-same bytes at I.bytes I.short fits

    abbrev Turns : State → Type 0
    Turns u =
        Accepted (λ vs t e. (vs ≡ []) × Agrees (Near ◌≡◌ G P X R) [] (enter t e k) (execute (matrix flags bytes at) w)) (combine u k.matrices (laid (times (model_top u) (rows u.projection 0))))

    turns-projection : flag f3dex2.projection flags ≡ true
        → Turns (with_projection k.state (laid (made (flag f3dex2.load flags) (matrix_at bytes at) (rows k.state.projection 0))))
    unfolding execute matrix_fn
    turns-projection e =
        recomputed _
        (with_viewproj w.rsp.matrices (cond (flag f3dex2.load flags) (matrix_at bytes at) (mul4 (matrix_at bytes at) w.rsp.matrices.viewproj)))
        (matrix flags bytes at)
        (turned-near N _ _ refl refl (projection-set N.space.matrices (flag f3dex2.load flags) (matrix_at bytes at)))
        refl (rw (has-projection flags, e, has-load flags, read))

    turns-model : flag f3dex2.projection flags ≡ false
        → Turns (with_model k.state (pushed (flag f3dex2.push flags) k.state.depth) (put k.state.stack (matrix_width * (pushed (flag f3dex2.push flags) k.state.depth - 1)) (laid (made (flag f3dex2.load flags) (matrix_at bytes at) (model_top k.state)))))
    unfolding execute matrix_fn
    turns-model e =
        recomputed _
        (write_top (flag f3dex2.load flags) (matrix_at bytes at) (push_model (flag f3dex2.push flags) w.rsp.matrices))
        (matrix flags bytes at)
        (turned-near N _ _ refl (same-mark (flag f3dex2.load flags) (flag f3dex2.push flags)) (model-set N.space.matrices (flag f3dex2.push flags) (flag f3dex2.load flags) (matrix_at bytes at)))
        refl (rw (has-projection flags, e, has-load flags, has_push flags, read))
      where
        same-mark : (load push : Bool) → (write_top load (matrix_at bytes at) (push_model push w.rsp.matrices)).mvp_valid ≡ w.rsp.matrices.mvp_valid
        same-mark load push = marked load push w.rsp.matrices (matrix_at bytes at)

    turns : Turns (turned (flag f3dex2.push flags) (flag f3dex2.load flags) (flag f3dex2.projection flags) k.state (matrix_at bytes at))
    unfolding turned pick
    turns = go (flag f3dex2.projection flags) refl
      where
        go : (b : Bool) → flag f3dex2.projection flags ≡ b → Turns (turned (flag f3dex2.push flags) (flag f3dex2.load flags) b k.state (matrix_at bytes at))
        go true e = turns-projection e
        go false e = turns-model e

  pub matrix-agrees : (flags : ℕ) (bytes : List ℕ) (at : ℕ) → Data bytes → Owes (matrix flags bytes at)
  unfolding plan
  matrix-agrees flags bytes at I =
      on-matrix _ k.state k.matrices bytes at f3dex2 flags
      (λ n s q. accepted-map _ _ (λ vs t e a. a.1) _ (subst (Turns flags bytes at I n) (sym q) (turns flags bytes at I n)))

  pub force-agrees : (bytes : List ℕ) (at : ℕ) → Data bytes → Owes (force bytes at)
  unfolding plan execute force_matrix combined-by
  force-agrees bytes at I =
      on-force _ k.state k.matrices bytes at
      (λ n.
      accepted-map _ _
      (λ vs t e a. (refl, subst (λ (x : Matrices). Near ◌≡◌ G P X R (enter t e k) (with_matrices w x)) forced a.1))
      _ (combine-agrees N (read_matrix bytes at) (laid (matrix_at bytes at)) (ap laid (sym (matrix-same bytes at I.bytes I.short n)))))
    where
      m : Matrices
      m = w.rsp.matrices

      x : Mat4
      x = read_matrix bytes at

      -- the current entry is the last in either case
      index : (b : Bool) → last_is eq_mat m.mvp_table x ≡ b
          → cond (last_is eq_mat m.mvp_table x) m.cur_mvp_index (length (m.mvp_table ++ x ∷ []) - 1) ≡ length (cond (last_is eq_mat m.mvp_table x) m.mvp_table (m.mvp_table ++ x ∷ [])) - 1
      index true q = rw q N.space.matrices.current
      index false q = rw q refl

      forced : combined-by x m ≡ force_matrix bytes at m
      forced = λ i.
          record {
            mvp_valid = true;
            model_stack = m.model_stack;
            model_stack_size = m.model_stack_size;
            viewproj = m.viewproj;
            mvp = x;
            mvp_table = cond (last_is eq_mat m.mvp_table x) m.mvp_table (m.mvp_table ++ x ∷ []);
            cur_mvp_index = index (last_is eq_mat m.mvp_table x) refl i;
          }

  -- an idle pop leaves the mark of the matrix as it is; any other defines it
  pub pop-agrees : ((a b : Bool) → a ≡ b → D a b) → (count : ℕ) → Accepted (λ vs t e. Agrees (Near D G P X R) vs (enter t e k) (execute (pop count) w)) (plan family_of limit (pop count) k)
  unfolding plan execute pop_matrix
  pop-agrees weaker count =
      on-pop _ k.state k.matrices count
      (λ q.
      rw (tested ∙ q) (refl, N))
      (λ q s z.
      subst (λ (u : State). Accepted (λ vs t e. Agrees (Near D G P X R) vs (enter t e k) (execute (pop count) w)) (combine u k.matrices (laid (times (model_top u) (rows u.projection 0))))) (sym z)
      (accepted-map _ _ (λ vs t e a. weaken vs (enter t e k) (execute (pop count) w) (subst (λ (ws : List ℕ). Agrees (Near ◌≡◌ G P X R) ws (enter t e k) (execute (pop count) w)) (sym a.0) a.1))
      _ (recomputed (with_model k.state (popped count k.state.depth) k.state.stack) (with_stack w.rsp.matrices w.rsp.matrices.model_stack (popped count k.state.depth)) (pop count)
      (turned-near N _ _ refl refl (depth-lowered N.space.matrices (popped count k.state.depth) in-range.0 in-range.1))
      refl (rw (tested ∙ q, same_size)))))
    where
      in-range : (1 ≤ popped count k.state.depth) × (popped count k.state.depth ≤ k.state.depth)
      in-range = lowered count k.state.depth N.space.matrices.low

      same_size : popped_size count w.rsp.matrices.model_stack_size ≡ popped count k.state.depth
      same_size = popped-same count w.rsp.matrices.model_stack_size (rw (← N.space.matrices.depth) N.space.matrices.low) ∙ ap (popped count) (sym N.space.matrices.depth)

      tested : eqb (popped_size count w.rsp.matrices.model_stack_size) w.rsp.matrices.model_stack_size ≡ eqb (popped count k.state.depth) k.state.depth
      tested = ap₂ eqb same_size (sym N.space.matrices.depth)

      weaken : (vs : List ℕ) (b : Book) (r : Result Went) → Agrees (Near ◌≡◌ G P X R) vs b r → Agrees (Near D G P X R) vs b r
      weaken vs b (Ok g) a = (a.0, space-near a.1 keep keep a.1.space.matrices (weaker _ _ a.1.space.defined) a.1.space.view)
      weaken vs b (Err d) a = a
