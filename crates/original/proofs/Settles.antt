-- A load of the two sides: what it settles before its vertices. Assumes nothing.
use mathlib.Core.Path.{◌≡◌, refl, sym, ap, ◌∙◌, subst}
use Prim.Native.Nat.{ℕ, zero, suc, ◌+◌, ◌-◌, ◌*◌}
use native.Mathlib.Omega.{arith}
use mathlib.Core.Bool.{Bool, true, false, not, ◌&&◌, ◌||◌, cond}
use mathlib.Core.List.{List, [], ◌∷◌, ◌++◌, map, append-nil}
use mathlib.Core.Option.{Option, none, some}
use lib.ListN.{length, get_or}
use lib.Dec.{eqb, ltb}
use lib.IntN.{ℤ}
use lib.Ieee.{Float, eq}
use borrow.Author.Tests.{eq-eqb}
use Rattle.areas.specs.Area.{matches, Wide}
use Rattle.areas.specs.Widths.{matrix_width, fog_width}
use Rattle.areas.proofs.Tables.{wide-append}
use Rattle.matrix.specs.Math.{col_times, times, rows, laid}
use Rattle.decide.specs.Append.{final}
use Rattle.fold.specs.Decision.{refold}
use Rattle.fold.specs.Direction.{three, folded}
use Rattle.fold.specs.Fog.{find}
use Rattle.fold.specs.Lights.{light_entry, directional, light_entries}
use Rattle.fold.specs.Lookat.{lookat_entry}
use Rattle.stage.specs.declared.Lights.{Lights}
use Rattle.stage.specs.declared.Lookat.{Lookat}
use Rattle.stage.specs.Plan.{pick, only_if}
use Rattle.stage.specs.With.{folded_lights, folded_lookat}
use Rattle.sequence.proofs.Turn.{edit}
use Rattle.original.specs.Math.{Mat4, f0, mul4, mul_col_vec3}
use Rattle.original.specs.Rsp.{Matrices, Lighting, Looking, eq_mat, key_is, mv_top, prepare_vertex, recompute_mvp}
use Rattle.original.specs.Drawing.{unit_length, fold_lights, lights_due, lighting_then, lighting_entries, looking_due, looking_then, lookat_entries, position, fog_entries}
use Rattle.original.specs.Relation.{joined, MatrixSame, KeySame, LightsSame, LookSame}
use Rattle.original.proofs.Alike.{mat-same, lights-same, lookat-same, position-same}
use Rattle.original.proofs.Stacks.{recompute-is, combined-same, combined-new, product-same, map_snoc}

-- entries appended where b says so
pub edit-if : {E : Type 0} (b : Bool) (es l : List E) → edit (only_if b es) l ≡ l ++ cond b es []
unfolding pick
edit-if true es l = refl
edit-if false es l = sym (append-nil l)

map-append : {A B : Type 0} (g : A → B) (l m : List A) → map g (l ++ m) ≡ map g l ++ map g m
map-append g [] m = refl
map-append {A} {B} g (x ∷ l) m = ap (λ (t : List B). g x ∷ t) (map-append g l m)

map-cond : {A B : Type 0} (g : A → B) (b : Bool) (l : List A) → map g (cond b l []) ≡ cond b (map g l) []
map-cond g true l = refl
map-cond g false l = refl

pub cond-true : {A : Type 0} (b : Bool) (x y : A) → b ≡ true → cond b x y ≡ x
cond-true b x y e = rw e

pub cond-false : {A : Type 0} (b : Bool) (x y : A) → b ≡ false → cond b x y ≡ y
cond-false b x y e = rw e

-- ---- the matrix in force

-- what a load has for its matrix: the combined one, or where that is undefined the product, which stays undefined
module _ {d : ℕ} {st p c : List Float} {t : List (List Float)} {m : Matrices} (S : MatrixSame d st p c t m) where
  abbrev pub product : List Float
  product = laid (times (rows st (matrix_width * (d - 1))) (rows p 0))

  abbrev pub now : Bool → List Float
  now b = pick b c product

  -- the two tables then
  pub prepared : (b : Bool) → m.mvp_valid ≡ b
      → MatrixSame d st p (now b) (edit (only_if (not b && not (matches eq (final t) (now b))) (now b ∷ [])) t) (prepare_vertex m)
  unfolding prepare_vertex pick
  prepared true e = subst (MatrixSame d st p c t) (sym (cond-true m.mvp_valid m _ e)) S
  prepared false e = go (matches eq (final t) product) refl
    where
      mvp : Mat4
      mvp = mul4 (mv_top m) m.viewproj

      undefined : {t' : List (List Float)} (n : Matrices) → MatrixSame d st p product t' n
          → MatrixSame d st p product t' (record { mvp_valid = false; model_stack = n.model_stack; model_stack_size = n.model_stack_size; viewproj = n.viewproj; mvp = n.mvp; mvp_table = n.mvp_table; cur_mvp_index = n.cur_mvp_index })
      undefined n T =
          record { depth = T.depth; low = T.low; high = T.high; long = T.long; deep = T.deep; stack = T.stack; projection = T.projection; combined = T.combined; table = T.table; some_entry = T.some_entry; current = T.current }

      same-product : product ≡ laid mvp
      same-product = product-same S

      go : (q : Bool) → matches eq (final t) product ≡ q
          → MatrixSame d st p product (edit (only_if (not q) (product ∷ [])) t)
          (cond m.mvp_valid m (record { mvp_valid = false; model_stack = (recompute_mvp m).model_stack; model_stack_size = (recompute_mvp m).model_stack_size; viewproj = (recompute_mvp m).viewproj; mvp = (recompute_mvp m).mvp; mvp_table = (recompute_mvp m).mvp_table; cur_mvp_index = (recompute_mvp m).cur_mvp_index }))
      go true q =
          subst (MatrixSame d st p product t) (sym (cond-false m.mvp_valid m _ e)) (undefined (recompute_mvp m) (rw (recompute-is m, same-product) (combined-same S mvp (rw same-product at q))))
      go false q =
          subst (MatrixSame d st p product (t ++ product ∷ [])) (sym (cond-false m.mvp_valid m _ e)) (undefined (recompute_mvp m) (rw (recompute-is m, same-product) (combined-new S mvp (rw same-product at q))))

-- ---- what is folded anew

pub key-same : (folded changed : Bool) (top : List Float) (k : Option (ℕ × Mat4)) (v : ℕ) (mv : Mat4) → KeySame folded changed top k v → refold folded changed top (laid mv) ≡ not (key_is k v mv)
unfolding refold key_is
key-same folded changed top none v mv h = rw h
key-same folded changed top (some k) v mv h = rw (h.0, h.1, h.2, ← (mat-same k.1 mv)) (neither (eqb k.0 v) (eq_mat k.1 mv))
  where
    neither : (a b : Bool) → false || not a || not b ≡ not (a && b)
    neither true b = refl
    neither false b = refl

-- ---- lights

-- a matrix laid out and read again folds the same
directional-laid : (mv : Mat4) (ds cs : List Float) (n : ℕ) → directional (rows (laid mv) 0) ds cs n ≡ directional mv ds cs n
unfolding directional light_entry folded col_times rows laid
directional-laid mv ds cs zero = refl
directional-laid mv ds cs (suc n) = ap (λ (t : List (List Float)). t ++ light_entry mv ds cs n ∷ []) (directional-laid mv ds cs n)

module _ {l : Lights} {x : Lighting} (S : LightsSame l x) (mv : Mat4) where
  light-rows : light_entries (rows (laid mv) 0) l.directions l.colours l.ambient l.number ≡ map joined (fold_lights mv x.lights x.num_dir ++ (f0 ∷ f0 ∷ f0 ∷ [], x.ambient_col) ∷ [])
  unfolding light_entries
  light-rows =
      rw (map_snoc joined (fold_lights mv x.lights x.num_dir) (f0 ∷ f0 ∷ f0 ∷ [], x.ambient_col), S.ambient, directional-laid mv l.directions l.colours l.number, S.number)
      (ap (λ (t : List (List Float)). t ++ (f0 ∷ f0 ∷ f0 ∷ three l.ambient 0) ∷ [])
      (sym (lights-same mv x.lights x.num_dir l.directions l.colours (λ k h. S.slots k (omega (arith, S.few, S.number))))))

-- the lights after a load, where b says that they are due: n entries of table 4 before it
lights-settled : {l : Lights} {x : Lighting} → LightsSame l x → (mv : Mat4) (n : ℕ) (b : Bool)
    → LightsSame (pick b (folded_lights l (laid mv) n) l)
    (record { lights = x.lights; ambient_col = x.ambient_col; num_dir = x.num_dir; light_version = x.light_version; last_light_key = cond b (some (x.light_version, mv)) x.last_light_key; cur_light_index = cond b n x.cur_light_index })
unfolding pick
lights-settled {l} {x} S mv n true =
    record {
      number = S.number;
      few = S.few;
      directions = S.directions;
      colours = S.colours;
      eight = S.eight;
      slots = S.slots;
      ambient = S.ambient;
      key = (refl, refl, rw (eq-eqb x.light_version x.light_version refl), omega arith);
      first = refl;
    }
lights-settled {l} {x} S mv n false =
    record {
      number = S.number;
      few = S.few;
      directions = S.directions;
      colours = S.colours;
      eight = S.eight;
      slots = S.slots;
      ambient = S.ambient;
      key = S.key;
      first = S.first;
    }

module _ {l : Lights} {x : Lighting} (S : LightsSame l x) (m : Matrices) (top : List Float) (t : top ≡ laid (mv_top m)) (lit : Bool) where
  abbrev due : Bool
  due = lit && refold l.folded l.changed l.top top

  -- both fold anew, or neither
  due-same : due ≡ lights_due lit m x
  due-same = ap (λ (b : Bool). lit && b) (ap (refold l.folded l.changed l.top) t ∙ key-same l.folded l.changed l.top x.last_light_key x.light_version (mv_top m) S.key)

  pub lights-after : (n k : ℕ) → n ≡ k → LightsSame (pick due (folded_lights l top n) l) (lighting_then lit m k x)
  unfolding lighting_then
  lights-after n k e = rw (← due-same, t, ← e) (lights-settled S (mv_top m) n (lit && refold l.folded l.changed l.top (laid (mv_top m))))

  pub light-table-after : (used : List (List Float)) (table : List (List Float × List Float)) → used ≡ map joined table
      → edit (only_if due (light_entries (rows top 0) l.directions l.colours l.ambient l.number)) used ≡ map joined (table ++ lighting_entries lit m x)
  unfolding lighting_entries
  light-table-after used table e =
      edit-if due (light_entries (rows top 0) l.directions l.colours l.ambient l.number) used
      ∙ rw (map-append joined table (cond (lights_due lit m x) (fold_lights (mv_top m) x.lights x.num_dir ++ (f0 ∷ f0 ∷ f0 ∷ [], x.ambient_col) ∷ []) []), map-cond joined (lights_due lit m x) (fold_lights (mv_top m) x.lights x.num_dir ++ (f0 ∷ f0 ∷ f0 ∷ [], x.ambient_col) ∷ []), ← due-same, e, t, light-rows S (mv_top m))

-- ---- lookat

lookat-laid : (mv : Mat4) (axes : List Float) → lookat_entry (rows (laid mv) 0) axes ≡ lookat_entry mv axes
unfolding lookat_entry folded col_times rows laid
lookat-laid mv axes = refl

looking-settled : {l : Lookat} {x : Looking} → LookSame l x → (mv : Mat4) (n : ℕ) (b : Bool)
    → LookSame (pick b (folded_lookat l (laid mv) n) l)
    (record { lookat_axes = x.lookat_axes; lookat_version = x.lookat_version; last_lookat_key = cond b (some (x.lookat_version, mv)) x.last_lookat_key; cur_lookat_index = cond b n x.cur_lookat_index })
unfolding pick
looking-settled {l} {x} S mv n true =
    record { long = S.long; two = S.two; axes = S.axes; key = (refl, refl, rw (eq-eqb x.lookat_version x.lookat_version refl), omega arith); place = refl }
looking-settled {l} {x} S mv n false = record { long = S.long; two = S.two; axes = S.axes; key = S.key; place = S.place }

module _ {l : Lookat} {x : Looking} (S : LookSame l x) (m : Matrices) (top : List Float) (t : top ≡ laid (mv_top m)) (mode : ℕ) where
  abbrev look : Bool
  look = not (eqb mode 0) && refold l.folded l.changed l.top top

  look-same : look ≡ looking_due mode m x
  look-same = ap (λ (b : Bool). not (eqb mode 0) && b) (ap (refold l.folded l.changed l.top) t ∙ key-same l.folded l.changed l.top x.last_lookat_key x.lookat_version (mv_top m) S.key)

  pub looking-after : (n k : ℕ) → n ≡ k → LookSame (pick look (folded_lookat l top n) l) (looking_then mode m k x)
  unfolding looking_then
  looking-after n k e = rw (← look-same, t, ← e) (looking-settled S (mv_top m) n (not (eqb mode 0) && refold l.folded l.changed l.top (laid (mv_top m))))

  look-entry : lookat_entry (rows top 0) l.axes ≡ joined (unit_length (mul_col_vec3 (mv_top m) (get_or x.lookat_axes 0 [])), unit_length (mul_col_vec3 (mv_top m) (get_or x.lookat_axes 1 [])))
  look-entry =
      ap (λ (y : List Float). lookat_entry (rows y 0) l.axes) t
      ∙ lookat-laid (mv_top m) l.axes
      ∙ sym (lookat-same (mv_top m) x.lookat_axes l.axes (S.axes 0 (omega arith)) (S.axes 1 (omega arith)))

  pub look-table-after : (used : List (List Float)) (table : List (List Float × List Float)) → used ≡ map joined table
      → edit (only_if look (lookat_entry (rows top 0) l.axes ∷ [])) used ≡ map joined (table ++ lookat_entries mode m x)
  unfolding lookat_entries
  look-table-after used table e =
      edit-if look (lookat_entry (rows top 0) l.axes ∷ []) used
      ∙ rw (map-append joined table (cond (looking_due mode m x) ((unit_length (mul_col_vec3 (mv_top m) (get_or x.lookat_axes 0 [])), unit_length (mul_col_vec3 (mv_top m) (get_or x.lookat_axes 1 []))) ∷ []) []), map-cond joined (looking_due mode m x) ((unit_length (mul_col_vec3 (mv_top m) (get_or x.lookat_axes 0 [])), unit_length (mul_col_vec3 (mv_top m) (get_or x.lookat_axes 1 []))) ∷ []), ← look-same, e, look-entry)

-- ---- fog

module _ (t : List (List ℤ)) (h : Wide fog_width t) (mul offset : ℤ) (foggy : Bool) where
  pub fog-number : pick foggy (find t (mul ∷ offset ∷ []) + 1) 0 ≡ cond foggy (position t mul offset + 1) 0
  unfolding pick
  fog-number = rw (position-same t mul offset h) (go foggy)
    where
      go : (b : Bool) → pick b (find t (mul ∷ offset ∷ []) + 1) 0 ≡ cond b (find t (mul ∷ offset ∷ []) + 1) 0
      go true = refl
      go false = refl

  pub fog-after : edit (only_if (foggy && not (ltb (find t (mul ∷ offset ∷ [])) (length t))) ((mul ∷ offset ∷ []) ∷ [])) t ≡ t ++ fog_entries foggy t mul offset
  fog-after = rw (position-same t mul offset h) (edit-if _ _ t)

  pub fog-wide : Wide fog_width (t ++ fog_entries foggy t mul offset)
  fog-wide = wide-append 2 t (fog_entries foggy t mul offset) h (go (foggy && not (ltb (position t mul offset) (length t))))
    where
      go : (b : Bool) → Wide fog_width (cond b ((mul ∷ offset ∷ []) ∷ []) [])
      go true = (refl, tt)
      go false = tt
