-- What a row shows stays as the tables grow. Assumes nothing.
use mathlib.Core.Path.{◌≡◌, refl, ap}
use mathlib.Core.Logic.{◌≢◌}
use Prim.Native.Nat.{ℕ, zero, suc, ◌+◌, ◌≤◌, ◌<◌}
use native.Mathlib.Omega.{arith}
use mathlib.Core.Bool.{Bool, true, false}
use mathlib.Core.List.{List, []}
use mathlib.Core.Option.{none, some}
use lib.ListN.{length, get_or}
use lib.Dec.{eqb}
use lib.IntN.{ℤ}
use lib.Ieee.{Float}
use borrow.Author.Tests.{eqb-false}
use Rattle.areas.specs.Widths.{word_width, flags_word, matrix_word, viewport_word, scale_word, colour_word, light_word, lights_word, texgen_word, fog_word, lookat_word}
use Rattle.stage.specs.Plan.{Row, pick}
use Rattle.finished.specs.Shown.{Entries, fog_shown, shown_by, row_word, shown}
use Rattle.finished.proofs.Lists.{Longer, longer-length, longer-at, longer-part}

-- the table numbers among a row's words are in use
pub record InUse (t : Entries) (word : ℕ → ℕ) : Type 0 where
  pub matrix : word matrix_word < length t.matrices
  pub viewport : word viewport_word < length t.viewports
  pub scale : word scale_word < length t.scales
  pub lights : word light_word + word lights_word ≤ length t.lights
  pub fog : word fog_word ≤ length t.fogs
  pub lookat : word texgen_word ≢ 0 → word lookat_word < length t.lookats

-- a row has its words, and its table numbers are in use
pub record Sound (t : Entries) (r : Row) : Type 0 where
  pub wide : length r.words ≡ word_width
  pub in_use : InUse t (row_word r)

-- each table goes on
pub record Grown (t u : Entries) : Type 0 where
  pub matrices : Longer t.matrices u.matrices
  pub viewports : Longer t.viewports u.viewports
  pub scales : Longer t.scales u.scales
  pub lights : Longer t.lights u.lights
  pub lookats : Longer t.lookats u.lookats
  pub fogs : Longer t.fogs u.fogs

fog-stays : {t u : List (List ℤ)} → Longer t u → (i : ℕ) → i ≤ length t → fog_shown u i ≡ fog_shown t i
fog-stays g zero h = refl
fog-stays g (suc i) h = ap some (longer-at g [] i h)

lookat-stays : {t u : List (List Float)} → Longer t u → (mode i : ℕ) → (mode ≢ 0 → i < length t)
    → pick (eqb mode 0) none (some (get_or u i [])) ≡ pick (eqb mode 0) none (some (get_or t i []))
unfolding pick
lookat-stays {t} {u} g mode i h = go (eqb mode 0) refl
  where
    go : (b : Bool) → eqb mode 0 ≡ b → pick b none (some (get_or u i [])) ≡ pick b none (some (get_or t i []))
    go true e = refl
    go false e = ap some (longer-at g [] i (h (eqb-false mode 0 e)))

pub shown-stays : {t u : Entries} (r : Row) → Grown t u → Sound t r → shown u r ≡ shown t r
unfolding shown shown_by
shown-stays {t} {u} r g s =
    let n = s.in_use in
    λ i.
    record {
      floats = r.floats;
      flags = row_word r flags_word;
      matrix = longer-at g.matrices [] (row_word r matrix_word) n.matrix i;
      viewport = longer-at g.viewports [] (row_word r viewport_word) n.viewport i;
      scale = longer-at g.scales [] (row_word r scale_word) n.scale i;
      colour = row_word r colour_word;
      lights = longer-part g.lights (row_word r light_word) (row_word r lights_word) n.lights i;
      texgen = row_word r texgen_word;
      fog = fog-stays g.fogs (row_word r fog_word) n.fog i;
      lookat = lookat-stays g.lookats (row_word r texgen_word) (row_word r lookat_word) n.lookat i;
    }

pub sound-stays : {t u : Entries} (r : Row) → Grown t u → Sound t r → Sound u r
sound-stays {t} {u} r g s =
    let n = s.in_use in
    record {
      wide = s.wide;
      in_use = record {
        matrix = omega (arith, n.matrix, longer-length g.matrices);
        viewport = omega (arith, n.viewport, longer-length g.viewports);
        scale = omega (arith, n.scale, longer-length g.scales);
        lights = omega (arith, n.lights, longer-length g.lights);
        fog = omega (arith, n.fog, longer-length g.fogs);
        lookat = λ m. omega (arith, n.lookat m, longer-length g.lookats);
      };
    }
