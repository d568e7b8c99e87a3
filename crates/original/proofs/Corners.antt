-- Rows of the two sides show the same corners. Assumes nothing.
use mathlib.Core.Path.{◌≡◌, refl, sym, ap, ◌∙◌}
use Prim.Native.Nat.{ℕ, zero, suc, ◌+◌, ◌-◌, ◌≤◌}
use native.Mathlib.Omega.{arith}
use mathlib.Core.List.{List, [], ◌∷◌, ◌++◌, map}
use mathlib.Core.Option.{none, some}
use lib.ListN.{length, get_or, get_or-map}
use lib.Seq.{get_or-append-add}
use lib.Dec.{eqb}
use lib.Ieee.{Float, nan}
use Rattle.areas.specs.Area.{part}
use Rattle.areas.specs.Widths.{float_width, flags_word, matrix_word, viewport_word, scale_word, colour_word, light_word, lights_word, texgen_word, fog_word, lookat_word}
use Rattle.stage.specs.Plan.{Row, pick}
use Rattle.sequence.specs.Sequence.{Book}
use Rattle.sequence.proofs.Spelled.{spells}
use Rattle.finished.specs.Shown.{entries_of, fog_shown, no_row, shown_by, shown, row_word}
use Rattle.original.specs.Walk.{World}
use Rattle.original.specs.Relation.{over, Offsets, Meets, joined, made_of, Since, Same, compared, seen, CornersSame}
use Rattle.original.proofs.RowsOf.{row_read}
use Rattle.original.proofs.Views.{fours-at}

-- a number at or after the point names the same entry on both sides
meets_at : {a b : ℕ} {t u : List (List Float)} → Meets a b t u → (m : ℕ) → a ≤ m → get_or t m [] ≡ get_or u (over a b m) []
meets_at {a} {b} M m h =
    let n : ℕ = m - a in
    let p : m ≡ length M.before + n = omega (arith, M.port_size) in
    let q : over a b m ≡ length M.under + n = omega (arith, M.rust_size) in
    rw (M.port_is, M.rust_is, q, get_or-append-add M.under M.since n []) (ap (λ (i : ℕ). get_or (M.before ++ M.since) i []) p ∙ get_or-append-add M.before M.since n [])

map-part : {A B : Type 0} (g : A → B) (l : List A) (i n : ℕ) → part (map g l) i n ≡ map g (part l i n)
map-part g [] i zero = refl
map-part g [] zero (suc n) = refl
map-part g [] (suc i) (suc n) = refl
map-part g (x ∷ l) zero zero = refl
map-part {A} {B} g (x ∷ l) zero (suc n) = ap (λ (t : List B). g x ∷ t) (map-part g l zero n)
map-part g (x ∷ l) (suc i) n = map-part g l i n

module _ {o : Offsets} {k : Book} {w : World} (S : Same o k w) where
  corner-same : (r : Row) → Since o r → compared (shown (entries_of k) r) ≡ seen w (made_of o r)
  unfolding shown shown_by seen made_of
  corner-same r h = λ i.
      record {
        floats = spells nan r.floats float_width h.floats i;
        flags = row_word r flags_word;
        matrix = get_or (S.space.matrices.table i) (row_word r matrix_word) [];
        viewport = (meets_at S.space.view.table (row_word r viewport_word) h.viewport ∙ get_or-map joined w.rsp.viewports.viewport_table _ ([], [])) i;
        scale = (meets_at S.held.scales.table (row_word r scale_word) h.scale ∙ fours-at w.rsp.texcoords.texcoord_table w.rsp.texcoords.texgen_scale_table S.held.scales.beside (over o.port3 o.rust3 (row_word r scale_word))) i;
        colour = row_word r colour_word;
        lights = (ap (λ t. part t (row_word r light_word) (row_word r lights_word)) S.held.recorded.light_table ∙ map-part joined w.scene.lights_table (row_word r light_word) (row_word r lights_word)) i;
        texgen = row_word r texgen_word;
        fog = fog_shown (S.held.recorded.fog_table i) (row_word r fog_word);
        lookat = pick (eqb (row_word r texgen_word) 0) none (some ((ap (λ t. get_or t (row_word r lookat_word) []) S.held.recorded.lookat_table ∙ get_or-map joined w.scene.lookat_table (row_word r lookat_word) ([], [])) i));
      }

  pub corners-same : CornersSame k w
  corners-same i h = corner-same (get_or k.rows.used i no_row) (S.held.rows.each i h) ∙ ap (seen w) (sym (row_read S.held.rows i h))
