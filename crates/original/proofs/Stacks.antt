-- The matrices of the two sides: stack, projection, combined matrix and table 1. Assumes nothing.
use mathlib.Core.Path.{◌≡◌, refl, sym, ap, ap₂, ◌∙◌, subst}
use Prim.Native.Nat.{ℕ, zero, suc, ◌+◌, ◌-◌, ◌*◌, ◌≤◌, ◌<◌}
use native.Mathlib.Nat.{add-zero, add_assoc}
use native.Mathlib.Decide.{ℕ_discrete}
use native.Mathlib.Omega.{arith}
use mathlib.Core.Logic.{inl}
use mathlib.Core.Bool.{Bool, true, false, ◌&&◌, cond}
use mathlib.Core.List.{List, [], ◌∷◌, ◌++◌, map}
use lib.ListN.{length, get_or, set, length-append, length-set, length-map}
use lib.Seq.{get_or-set_same, get_or-set_other}
use lib.Dec.{ltb, lit<}
use lib.Ieee.{Float, nan, eq}
use borrow.Author.Tests.{ltb-true}
use Rattle.areas.specs.Area.{put, matches}
use Rattle.areas.specs.Widths.{matrix_width}
use Rattle.areas.proofs.Tables.{length-put, put_other, put-inside}
use Rattle.matrix.specs.Math.{at, row_times, times, rows, laid}
use Rattle.matrix.proofs.Believe.{length-laid}
use Rattle.decide.specs.Append.{final}
use Rattle.decide.specs.Stack.{made, pushed}
use Rattle.stage.proofs.Judged.{and_right}
use Rattle.original.specs.Math.{Mat4, mul4}
use Rattle.original.specs.Rsp.{Matrices, eq_mat, last_is, mv_top, recompute_mvp, with_stack, with_viewproj, push_model, write_top}
use Rattle.original.specs.Relation.{MatrixSame}
use Rattle.original.proofs.Alike.{mul4-same, mat-same, last-final}
use Rattle.numbers.specs.Choice.{pick}

-- ---- matrices of sixteen numbers

-- a matrix laid out and read again is the same to every product, and laid out again it is the same
pub times-right : (a b : List (List Float)) → times a (rows (laid b) 0) ≡ times a b
unfolding times row_times rows laid
times-right a b = refl

pub times-left : (a b : List (List Float)) → times (rows (laid a) 0) b ≡ times a b
unfolding times row_times rows laid
times-left a b = refl

pub laid-again : (a : List (List Float)) → laid (rows (laid a) 0) ≡ laid a
unfolding rows laid
laid-again a = refl

-- sixteen numbers that are the same one by one
pub rows-by : (f g : List Float) (i j : ℕ) → ((c : ℕ) → c < matrix_width → at f (i + c) ≡ at g (j + c)) → rows f i ≡ rows g j
unfolding rows
rows-by f g i j h = λ t.
    (first t ∷ h 1 (lit< tt) t ∷ h 2 (lit< tt) t ∷ h 3 (lit< tt) t ∷ [])
    ∷ (h 4 (lit< tt) t ∷ high 4 1 (lit< tt) t ∷ high 4 2 (lit< tt) t ∷ high 4 3 (lit< tt) t ∷ [])
    ∷ (h 8 (lit< tt) t ∷ high 8 1 (lit< tt) t ∷ high 8 2 (lit< tt) t ∷ high 8 3 (lit< tt) t ∷ [])
    ∷ (h 12 (lit< tt) t ∷ high 12 1 (lit< tt) t ∷ high 12 2 (lit< tt) t ∷ high 12 3 (lit< tt) t ∷ [])
    ∷ []
  where
    first : at f i ≡ at g j
    first = ap (at f) (sym (add-zero i)) ∙ h 0 (lit< tt) ∙ ap (at g) (add-zero j)

    high : (a b : ℕ) → a + b < matrix_width → at f (i + a + b) ≡ at g (j + a + b)
    high a b l = ap (at f) (add_assoc i a b) ∙ h (a + b) l ∙ ap (at g) (sym (add_assoc j a b))

-- a matrix put into the stack is read there, and no other changes
rows-put : (l v : List Float) (k : ℕ) → length v ≡ matrix_width → matrix_width * k + matrix_width ≤ length l → rows (put l (matrix_width * k) v) (matrix_width * k) ≡ rows v 0
rows-put l v k h fits = rows-by (put l (matrix_width * k) v) v (matrix_width * k) 0 (λ c q. put-inside l (matrix_width * k) v c nan (omega (arith, h)) (omega arith) ∙ ap (at v) (zero-plus c))
  where
    zero-plus : (c : ℕ) → c ≡ 0 + c
    zero-plus c = omega arith

rows-beside : (l v : List Float) (k i : ℕ) → i < k → rows (put l (matrix_width * k) v) (matrix_width * i) ≡ rows l (matrix_width * i)
rows-beside l v k i h = rows-by (put l (matrix_width * k) v) l (matrix_width * i) (matrix_width * i) (λ c q. put_other l (matrix_width * k) v (matrix_width * i + c) nan (inl (omega arith)))

-- ---- the last entry of table 1

pub get_or_map : {A B : Type 0} (g : A → B) (l : List A) (i : ℕ) (d : A) (e : B) → i < length l → get_or (map g l) i e ≡ g (get_or l i d)
get_or_map g [] i d e h = absurd (omega arith)
get_or_map g (x ∷ l) zero d e h = refl
get_or_map g (x ∷ l) (suc i) d e h = get_or_map g l i d e (omega arith)

pub map_snoc : {A B : Type 0} (g : A → B) (l : List A) (x : A) → map g (l ++ x ∷ []) ≡ map g l ++ g x ∷ []
map_snoc g [] x = refl
map_snoc {A} {B} g (y ∷ l) x = ap (λ (t : List B). g y ∷ t) (map_snoc g l x)

-- the two sides compare a new matrix with the same one
table-last : (t : List Mat4) (m : Mat4) → 0 < length t → last_is eq_mat t m ≡ matches eq (final (map laid t)) (laid m)
table-last t m h =
    last-final eq_mat t m [] h
    ∙ mat-same (get_or t (length t - 1) []) m
    ∙ ap (λ (x : List Float). matches eq x (laid m)) (sym (ap (λ (n : ℕ). get_or (map laid t) (n - 1) []) (length-map t laid) ∙ get_or_map laid t (length t - 1) [] [] (omega arith)))

-- ---- a combined matrix

-- the matrices with another combined matrix, appended unless the last entry equals it
unfoldable pub combined-by : Mat4 → Matrices → Matrices
combined-by mvp m =
    record {
      mvp_valid = true;
      model_stack = m.model_stack;
      model_stack_size = m.model_stack_size;
      viewproj = m.viewproj;
      mvp = mvp;
      mvp_table = cond (last_is eq_mat m.mvp_table mvp) m.mvp_table (m.mvp_table ++ mvp ∷ []);
      cur_mvp_index = cond (last_is eq_mat m.mvp_table mvp) m.cur_mvp_index (length (m.mvp_table ++ mvp ∷ []) - 1);
    }

pub recompute-is : (m : Matrices) → recompute_mvp m ≡ combined-by (mul4 (mv_top m) m.viewproj) m
unfolding recompute_mvp combined-by
recompute-is m = refl

module _ {d : ℕ} {st p c : List Float} {t : List (List Float)} {m : Matrices} (S : MatrixSame d st p c t m) (mvp : Mat4) where
  compared : last_is eq_mat m.mvp_table mvp ≡ matches eq (final t) (laid mvp)
  compared = table-last m.mvp_table mvp S.some_entry ∙ ap (λ (x : List (List Float)). matches eq (final x) (laid mvp)) (sym S.table)

  pub combined-same : matches eq (final t) (laid mvp) ≡ true → MatrixSame d st p (laid mvp) t (combined-by mvp m)
  unfolding combined-by
  combined-same e =
      let q : last_is eq_mat m.mvp_table mvp ≡ true = compared ∙ e in
      record {
        depth = S.depth;
        low = S.low;
        high = S.high;
        long = S.long;
        deep = S.deep;
        stack = S.stack;
        projection = S.projection;
        combined = refl;
        table = rw q S.table;
        some_entry = rw q S.some_entry;
        current = rw q S.current;
      }

  pub combined-new : matches eq (final t) (laid mvp) ≡ false → MatrixSame d st p (laid mvp) (t ++ laid mvp ∷ []) (combined-by mvp m)
  unfolding combined-by
  combined-new e =
      let q : last_is eq_mat m.mvp_table mvp ≡ false = compared ∙ e in
      record {
        depth = S.depth;
        low = S.low;
        high = S.high;
        long = S.long;
        deep = S.deep;
        stack = S.stack;
        projection = S.projection;
        combined = refl;
        table = rw (q, S.table) (sym (map_snoc laid m.mvp_table mvp));
        some_entry = rw q (omega (arith, length-append m.mvp_table (mvp ∷ [])));
        current = rw q refl;
      }

-- ---- the stack

module _ {d : ℕ} {st p c : List Float} {t : List (List Float)} {m : Matrices} (S : MatrixSame d st p c t m) where
  -- the model top
  pub top-same : rows st (matrix_width * (d - 1)) ≡ rows (laid (mv_top m)) 0
  top-same = rw (← S.depth) (S.stack (d - 1) (omega (arith, S.low)))

  -- top times projection
  pub product-same : laid (times (rows st (matrix_width * (d - 1))) (rows p 0)) ≡ laid (mul4 (mv_top m) m.viewproj)
  product-same =
      ap laid
      (ap₂ times top-same (ap (λ (x : List Float). rows x 0) S.projection)
      ∙ times-left (mv_top m) (rows (laid m.viewproj) 0)
      ∙ times-right (mv_top m) m.viewproj
      ∙ sym (mul4-same (mv_top m) m.viewproj))

  -- a smaller depth
  pub depth-lowered : (e : ℕ) → 1 ≤ e → e ≤ d → MatrixSame e st p c t (with_stack m m.model_stack e)
  depth-lowered e l h =
      record {
        depth = refl;
        low = l;
        high = omega (arith, S.high);
        long = S.long;
        deep = S.deep;
        stack = λ i q. S.stack i (omega arith);
        projection = S.projection;
        combined = S.combined;
        table = S.table;
        some_entry = S.some_entry;
        current = S.current;
      }

  -- what is made of the data
  pub made-same : (load : Bool) (x old : Mat4) (o : List (List Float)) → o ≡ rows (laid old) 0 → laid (made load x o) ≡ laid (cond load x (mul4 x old))
  unfolding made pick
  made-same true x old o e = refl
  made-same false x old o e = ap laid (ap (times x) e ∙ times-right x old ∙ sym (mul4-same x old))

  -- another projection
  pub projection-set : (load : Bool) (x : Mat4) → MatrixSame d st (laid (made load x (rows p 0))) c t (with_viewproj m (cond load x (mul4 x m.viewproj)))
  projection-set load x =
      record {
        depth = S.depth;
        low = S.low;
        high = S.high;
        long = S.long;
        deep = S.deep;
        stack = S.stack;
        projection = made-same load x m.viewproj (rows p 0) (ap (λ (y : List Float). rows y 0) S.projection);
        combined = S.combined;
        table = S.table;
        some_entry = S.some_entry;
        current = S.current;
      }

  -- a matrix y written at depth e, of which all below is as it was
  written : (e : ℕ) (y : Mat4) (v : List Float) (ms : List Mat4) → v ≡ laid y → 1 ≤ e → e ≤ 32 → length ms ≡ 32
      → ((i : ℕ) → i < e - 1 → rows st (matrix_width * i) ≡ rows (laid (get_or ms i [])) 0)
      → MatrixSame e (put st (matrix_width * (e - 1)) v) p c t (with_stack m (set ms (e - 1) y) e)
  written e y v ms q l h n below =
      record {
        depth = refl;
        low = l;
        high = h;
        long = length-put st (matrix_width * (e - 1)) v ∙ S.long;
        deep = length-set ms (e - 1) y ∙ n;
        stack = at_place;
        projection = S.projection;
        combined = S.combined;
        table = S.table;
        some_entry = S.some_entry;
        current = S.current;
      }
    where
      at_place : (i : ℕ) → i < e → rows (put st (matrix_width * (e - 1)) v) (matrix_width * i) ≡ rows (laid (get_or (set ms (e - 1) y) i [])) 0
      at_place i k = go (ℕ_discrete i (e - 1))
        where
          go : Dec (i ≡ e - 1) → rows (put st (matrix_width * (e - 1)) v) (matrix_width * i) ≡ rows (laid (get_or (set ms (e - 1) y) i [])) 0
          go (yes z) =
              rw (z, get_or-set_same ms (e - 1) y [] (omega (arith, n)))
              (rows-put st v (e - 1) (ap length q ∙ length-laid y) (omega (arith, S.long)) ∙ ap (λ (x : List Float). rows x 0) q)
          go (no z) =
              let below-it : i < e - 1 = omega (arith, z) in
              rw (get_or-set_other ms (e - 1) i y [] z) (rows-beside st v (e - 1) i below-it ∙ below i below-it)

  -- the same matrices, their depth under the stage's name
  abbrev named : Matrices
  named = with_stack m m.model_stack d

  named-is : named ≡ m
  named-is = λ i.
      record {
        mvp_valid = m.mvp_valid;
        model_stack = m.model_stack;
        model_stack_size = S.depth i;
        viewproj = m.viewproj;
        mvp = m.mvp;
        mvp_table = m.mvp_table;
        cur_mvp_index = m.cur_mvp_index;
      }

  top-there : rows st (matrix_width * (d - 1)) ≡ rows (laid (get_or m.model_stack (d - 1) [])) 0
  top-there = S.stack (d - 1) (omega (arith, S.low))

  -- where the push is done, and where there is none or it is dropped
  pushed-set : (load : Bool) (x : Mat4) → d < 32
      → MatrixSame (d + 1) (put st (matrix_width * (d + 1 - 1)) (laid (made load x (rows st (matrix_width * (d - 1)))))) p c t
      (write_top load x (with_stack named (set m.model_stack d (get_or m.model_stack (d - 1) [])) (d + 1)))
  unfolding write_top
  pushed-set load x l =
      written (d + 1) _ _ ms (made-same load x _ _ (top-there ∙ ap (λ (y : Mat4). rows (laid y) 0) (sym copy))) (omega arith) (omega arith) (length-set m.model_stack d _ ∙ S.deep)
      (λ i h. rw (get_or-set_other m.model_stack d i (get_or m.model_stack (d - 1) []) [] (λ z. omega (arith, z, h))) (S.stack i (omega (arith, h))))
    where
      ms : List Mat4
      ms = set m.model_stack d (get_or m.model_stack (d - 1) [])

      copy : get_or (set m.model_stack d (get_or m.model_stack (d - 1) [])) (d + 1 - 1) [] ≡ get_or m.model_stack (d - 1) []
      copy =
          let z : d + 1 - 1 ≡ d = omega arith in
          rw z (get_or-set_same m.model_stack d (get_or m.model_stack (d - 1) []) [] (omega (arith, S.deep)))

  kept_set : (load : Bool) (x : Mat4) → MatrixSame d (put st (matrix_width * (d - 1)) (laid (made load x (rows st (matrix_width * (d - 1)))))) p c t (write_top load x named)
  unfolding write_top
  kept_set load x = written d _ _ m.model_stack (made-same load x _ _ top-there) S.low S.high S.deep (λ i h. S.stack i (omega (arith, h)))

  -- the model matrix: a push copies the top, then the top is written
  pub model-set : (push load : Bool) (x : Mat4)
      → MatrixSame (pushed push d) (put st (matrix_width * (pushed push d - 1)) (laid (made load x (rows st (matrix_width * (d - 1)))))) p c t (write_top load x (push_model push m))
  unfolding pushed push_model pick
  model-set push load x =
      subst
      (λ (n : Matrices). MatrixSame (pick (push && ltb d 32) (d + 1) d) (put st (matrix_width * (pick (push && ltb d 32) (d + 1) d - 1)) (laid (made load x (rows st (matrix_width * (d - 1)))))) p c t (write_top load x (push_model push n)))
      named-is (go (push && ltb d 32) refl)
    where
      go : (b : Bool) → push && ltb d 32 ≡ b
          → MatrixSame (pick b (d + 1) d) (put st (matrix_width * (pick b (d + 1) d - 1)) (laid (made load x (rows st (matrix_width * (d - 1)))))) p c t
          (write_top load x (cond b (with_stack named (set m.model_stack d (get_or m.model_stack (d - 1) [])) (d + 1)) named))
      go true e = pushed-set load x (ltb-true d 32 (and_right push (ltb d 32) e))
      go false e = kept_set load x
