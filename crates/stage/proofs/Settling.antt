-- What a load settles, from what the code's calls answered. Assumes nothing.
use mathlib.Core.Path.{◌≡◌, ap}
use Prim.Native.Nat.{ℕ}
use mathlib.Core.Bool.{Bool, true, false, not, ◌&&◌}
use mathlib.Core.List.{List}
use lib.ListN.{length}
use lib.IntN.{ℤ}
use lib.Dec.{ltb, eqb}
use lib.Ieee.{Float, eq}
use Rattle.areas.specs.Area.{matches}
use Rattle.matrix.specs.Math.{laid}
use Rattle.decide.specs.Append.{final, only_if}
use Rattle.decide.specs.Steps.{Put, put_by}
use Rattle.decide.specs.declared.family.Family.{Family}
use Rattle.decide.specs.Family.{lit, foggy, texgen_mode}
use Rattle.fold.specs.Decision.{refold}
use Rattle.fold.specs.Fog.{find}
use Rattle.fold.specs.Scales.{scale_entry, same_scale}
use Rattle.stage.specs.declared.State.{State}
use Rattle.stage.specs.Plan.{pick, counted, after}
use Rattle.stage.specs.Matrices.{model_top}
use Rattle.stage.specs.Load.{combined_now, fog_pair, settled}

module _ (f : Family) (s : State) (matrices scales : List (List Float)) (fogs : List (List ℤ)) (m e model : List Float) (last same light look lit? foggy? : Bool) (texgen p n : ℕ) where
  pub settled_is : m ≡ combined_now s → e ≡ scale_entry s.texture.sc s.texture.tc → model ≡ laid (model_top s) → lit? ≡ lit f s.geometry
      → texgen ≡ texgen_mode f s.geometry → foggy? ≡ foggy f s.geometry → p ≡ find fogs (fog_pair s) → last ≡ matches eq (final matrices) m
      → same ≡ same_scale scales e → light ≡ refold s.lights.folded s.lights.changed s.lights.top model
      → look ≡ refold s.lookat.folded s.lookat.changed s.lookat.top model → n ≡ length fogs
      → record {
        combined = m;
        newmatrix = not s.defined && not last;
        scales = e;
        newscale = not same;
        model = model;
        lit = lit?;
        newlights = lit? && light;
        texgen = texgen;
        newlookat = not (eqb texgen 0) && look;
        foggy = foggy?;
        fogat = p;
        newfog = foggy? && not (ltb p n);
      } ≡ settled f s matrices scales fogs
  unfolding settled
  settled_is a b c d x g h i j k l o = rw (i, j, k, l, o, h, a, b, c, d, x, g)

-- count and area, as the plan has them
pub put_count : {A : Type 0} (b : Bool) (w n c : ℕ) (es : List (List A)) (l a : List A) → record { count = c; area = a } ≡ put_by w n (only_if b es) l → c ≡ counted (only_if b es) n
unfolding pick
put_count {A} true w n c es l a e = ap (λ (p : Put A). p.count) e
put_count {A} false w n c es l a e = ap (λ (p : Put A). p.count) e

pub put-area : {A : Type 0} (b : Bool) (w n c : ℕ) (es : List (List A)) (l a : List A) → record { count = c; area = a } ≡ put_by w n (only_if b es) l → a ≡ after w n (only_if b es) l
unfolding pick
put-area {A} true w n c es l a e = ap (λ (p : Put A). p.area) e
put-area {A} false w n c es l a e = ap (λ (p : Put A). p.area) e
