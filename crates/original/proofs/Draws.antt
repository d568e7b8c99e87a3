-- Draw of the two sides. Assumes nothing.
use mathlib.Core.Path.{◌≡◌, refl, sym, ap, ◌∙◌}
use Prim.Native.Nat.{ℕ, zero, suc, ◌-◌, ◌<◌}
use native.Mathlib.Omega.{arith}
use mathlib.Core.Bool.{Bool, true, false, not, ◌&&◌, cond, beq}
use mathlib.Core.List.{List, [], ◌∷◌, ◌++◌, map}
use lib.ListN.{length, get_or, set, take, length-map}
use lib.Bits.{bit_and}
use lib.Dec.{eqb}
use lib.Ieee.{Float}
use Rattle.areas.specs.Area.{matches}
use Rattle.areas.specs.Widths.{settings_wide}
use Rattle.decide.specs.Append.{final}
use Rattle.decide.specs.Family.{f3dex2, family_of}
use Rattle.stage.specs.Sound.{limit}
use Rattle.triangle.specs.Run.{unclipped, settings, run_of, longer, same_run}
use Rattle.triangle.specs.Slot.{bit, corners, both, culls, swaps}
use Rattle.stage.specs.declared.settings.Microcode.{Microcode}
use Rattle.stage.specs.declared.settings.Microcode.TheVariants.{F3dex2, F3dex2NoN}
use Rattle.stage.specs.Plan.{grow, patch, Row, pick}
use Rattle.stage.specs.Lights.{microcode_number}
use Rattle.stage.specs.Draw.{edits89, mark, triangle, run_edit}
use Rattle.sequence.specs.Sequence.{draw, Book, plan}
use Rattle.sequence.proofs.Turn.{edit, enter}
use Rattle.sequence.proofs.Accepts.{Accepted, on-draw}
use Rattle.original.specs.Rsp.{Viewports, Texcoords, g_cull_front, g_cull_both}
use Rattle.original.specs.Drawing.{Columns, DrawRun, coalesces, grown, runs_then, is_non, draw_tri}
use Rattle.original.specs.Walk.{World, execute}
use Rattle.original.specs.Relation.{SlotsSame, run_numbers, Near}
use Rattle.original.specs.Domain.{Agrees}
use Rattle.original.proofs.Alike.{culling}
use Rattle.original.proofs.Nears.{held-near}
use Rattle.original.proofs.Stacks.{get_or_map, map_snoc}

-- ---- runs

and-false : (b : Bool) → b && false ≡ false
and-false true = refl
and-false false = refl

-- six tests in another order
reordered : (a b c d e f : Bool) → a && (b && (c && (d && (e && (f && true))))) ≡ e && (f && (a && (b && (c && d))))
reordered a b c d true true = rw (last-true d)
  where
    last-true : (x : Bool) → x && true ≡ x
    last-true true = refl
    last-true false = refl
reordered a b c d true false = simp and-false
reordered a b c d false f = simp and-false

bits-same : (x y : Bool) → eqb (bit x) (bit y) ≡ beq x y
bits-same true true = refl
bits-same true false = refl
bits-same false true = refl
bits-same false false = refl

non-same : (u : Microcode) → unclipped (microcode_number u) ≡ is_non u
non-same F3dex2 = refl
non-same F3dex2NoN = refl

-- a run's six settings are those asked, on each side
pub settings-same : (r : DrawRun) (kind non : Bool) (material mode fog prim : ℕ)
    → matches eqb (take settings_wide (run_numbers r)) (material ∷ mode ∷ fog ∷ prim ∷ bit kind ∷ bit non ∷ []) ≡ coalesces r kind non material mode fog prim
unfolding matches
settings-same r kind non material mode fog prim =
    rw (bits-same r.cull kind, bits-same r.unclipped_depth non)
    (reordered (eqb r.material_index material) (eqb r.render_mode_index mode) (eqb r.fog_color fog) (eqb r.prim_depth prim) (beq r.cull kind) (beq r.unclipped_depth non))

no_run : DrawRun
no_run = record { material_index = 0; render_mode_index = 0; fog_color = 0; prim_depth = 0; cull = false; unclipped_depth = false; index_count = 0; index_start = 0 }

pub map-set : {A B : Type 0} (g : A → B) (l : List A) (i : ℕ) (x : A) → map g (set l i x) ≡ set (map g l) i (g x)
map-set g [] i x = refl
map-set g (y ∷ l) zero x = refl
map-set {A} {B} g (y ∷ l) (suc i) x = ap (λ (t : List B). g y ∷ t) (map-set g l i x)

-- the last run, where there is one
runs_last : (same : DrawRun → Bool) (new : DrawRun) (rs : List DrawRun) → 0 < length rs → let r = get_or rs (length rs - 1) no_run in
    runs_then same new rs ≡ cond (same r) (set rs (length rs - 1) (grown r)) (rs ++ new ∷ [])
unfolding runs_then
runs_last same new [] h = absurd (omega arith)
runs_last same new (r ∷ []) h = refl
runs_last same new (r ∷ s ∷ rs) h =
    let q : length (r ∷ s ∷ rs) - 1 ≡ suc (length (s ∷ rs) - 1) = omega arith in
    let z : DrawRun = get_or (s ∷ rs) (length (s ∷ rs) - 1) no_run in
    ap (λ (t : List DrawRun). r ∷ t) (runs_last same new (s ∷ rs) (omega arith))
    ∙ pushed (same (get_or (s ∷ rs) (length (s ∷ rs) - 1) no_run))
    ∙ ap (λ (n : ℕ). cond (same (get_or (r ∷ s ∷ rs) n no_run)) (set (r ∷ s ∷ rs) n (grown (get_or (r ∷ s ∷ rs) n no_run))) (r ∷ s ∷ rs ++ new ∷ [])) (sym q)
  where
    pushed : (b : Bool) → r ∷ cond b (set (s ∷ rs) (length (s ∷ rs) - 1) (grown (get_or (s ∷ rs) (length (s ∷ rs) - 1) no_run))) (s ∷ rs ++ new ∷ [])
        ≡ cond b (r ∷ set (s ∷ rs) (length (s ∷ rs) - 1) (grown (get_or (s ∷ rs) (length (s ∷ rs) - 1) no_run))) (r ∷ s ∷ rs ++ new ∷ [])
    pushed true = refl
    pushed false = refl

-- the two sides' runs after a draw with the settings q, n indices before it
pub runs_same : (same : DrawRun → Bool) (new : DrawRun) (rs : List DrawRun) (q : List ℕ) (n : ℕ) → 0 < length q → ((r : DrawRun) → matches eqb (take settings_wide (run_numbers r)) q ≡ same r) → run_numbers new ≡ run_of q n 3
    → edit (run_edit (map run_numbers rs) n q) (map run_numbers rs) ≡ map run_numbers (runs_then same new rs)
unfolding run_edit same_run runs_then pick matches
runs_same same new [] [] n h e f = absurd (omega arith)
runs_same same new [] (x ∷ q) n h e f = ap (λ (t : List ℕ). t ∷ []) (sym f)
runs_same same new (r ∷ rs) q n h e f = go (same z) refl
  where
    i : ℕ
    i = length (r ∷ rs) - 1

    z : DrawRun
    z = get_or (r ∷ rs) (length (r ∷ rs) - 1) no_run

    us : List (List ℕ)
    us = map run_numbers (r ∷ rs)

    long : length (map run_numbers (r ∷ rs)) - 1 ≡ length (r ∷ rs) - 1
    long = ap (λ (m : ℕ). m - 1) (length-map (r ∷ rs) run_numbers)

    ends : final (map run_numbers (r ∷ rs)) ≡ run_numbers z
    ends = ap (λ (m : ℕ). get_or (map run_numbers (r ∷ rs)) m []) long ∙ get_or_map run_numbers (r ∷ rs) (length (r ∷ rs) - 1) no_run [] (omega arith)

    go : (b : Bool) → same z ≡ b
        → edit (pick (matches eqb (take settings_wide (final (map run_numbers (r ∷ rs)))) q) (patch (length (map run_numbers (r ∷ rs)) - 1) (longer 0 (final (map run_numbers (r ∷ rs))))) (grow (run_of q n 3 ∷ []))) (map run_numbers (r ∷ rs))
        ≡ map run_numbers (runs_then same new (r ∷ rs))
    go true b = rw (ends, e z, b, long, runs_last same new (r ∷ rs) (omega arith), b) (sym (map-set run_numbers (r ∷ rs) (length (r ∷ rs) - 1) (grown z)))
    go false b = rw (ends, e z, b, runs_last same new (r ∷ rs) (omega arith), b, ← f) (sym (map_snoc run_numbers (r ∷ rs) new))

-- ---- the command

three-more : (is : List ℕ) (x y z : ℕ) → map (λ (i : ℕ). i ∷ []) (is ++ x ∷ y ∷ z ∷ []) ≡ map (λ (i : ℕ). i ∷ []) is ++ (x ∷ []) ∷ (y ∷ []) ∷ (z ∷ []) ∷ []
three-more [] x y z = refl
three-more (i ∷ is) x y z = ap (λ (t : List (List ℕ)). (i ∷ []) ∷ t) (three-more is x y z)

-- the two sides exchange alike
turned_same : (row : List ℕ) (s : Bool) (a b c : ℕ)
    → map (λ (r : ℕ). r ∷ []) (corners s (get_or row a 0) (get_or row b 0) (get_or row c 0)) ≡ (get_or row (cond s c a) 0 ∷ []) ∷ (get_or row b 0 ∷ []) ∷ (get_or row (cond s a c) 0 ∷ []) ∷ []
unfolding pick
turned_same row true a b c = refl
turned_same row false a b c = refl

pub draw-agrees : {D : Bool → Bool → Type 0} {P : List Float → List (List Float) → Viewports → Type 0} {X : ℕ → List (List Float) → Texcoords → Type 0} {R : List Row → Columns → Type 0} {k : Book} {w : World} → Near D ◌≡◌ P X R k w → (a b c material mode colour prim : ℕ)
    → Accepted (λ vs t e. Agrees (Near D ◌≡◌ P X R) vs (enter t e k) (execute (draw a b c material mode colour prim) w)) (plan family_of limit (draw a b c material mode colour prim) k)
unfolding plan execute draw_tri
draw-agrees {D} {P} {X} {R} {k} {w} N a b c material mode colour prim =
    on-draw _ f3dex2 256 k.state k.drawing.indices k.drawing.runs a b c (material ∷ mode ∷ colour ∷ prim ∷ [])
    (λ e. rw (sides ∙ e) (refl, N))
    (λ e _ _ _ _.
    rw (sides ∙ e) (
      refl,
      held-near N
          (edits89 (grow (triangle f3dex2 k.state a b c)) (run_edit k.drawing.runs.used (length k.drawing.indices.used) (settings (material ∷ mode ∷ colour ∷ prim ∷ []) (culls f3dex2 k.state.geometry) k.state.microcode)))
          marked N.held.scales N.held.rows
          (record { light_table = N.held.recorded.light_table; lookat_table = N.held.recorded.lookat_table; fog_table = N.held.recorded.fog_table; fog_pairs = N.held.recorded.fog_pairs; indices = indexed; runs = run }),
    ))
  where
    g : ℕ
    g = w.rsp.geom

    sides : eqb (bit_and w.rsp.geom g_cull_both) g_cull_both ≡ both f3dex2 k.state.geometry
    sides = (culling w.rsp.geom).0 ∙ ap (both f3dex2) (sym N.modes.settings.geometry)

    front : eqb (bit_and w.rsp.geom g_cull_both) g_cull_front ≡ swaps f3dex2 k.state.geometry
    front = (culling w.rsp.geom).1 ∙ ap (swaps f3dex2) (sym N.modes.settings.geometry)

    some-side : not (eqb (bit_and w.rsp.geom g_cull_both) 0) ≡ culls f3dex2 k.state.geometry
    some-side = (culling w.rsp.geom).2 ∙ ap (culls f3dex2) (sym N.modes.settings.geometry)

    marked : SlotsSame k.state.row k.state.loaded (mark k.state.drawn (a ∷ b ∷ c ∷ [])) k.state.coded k.state.code k.state.deep k.state.z
        (record { cache_global_index = w.rsp.slots.cache_global_index; loaded = w.rsp.slots.loaded; clip_codes = w.rsp.slots.clip_codes; screen_z = w.rsp.slots.screen_z; used = set (set (set w.rsp.slots.used a true) b true) c true })
    marked =
        let S = N.held.slots in
        record { row = S.row; loaded = S.loaded; drawn = ap (λ (d : List Bool). mark d (a ∷ b ∷ c ∷ [])) S.drawn; coded = S.coded; code = S.code; deep = S.deep; z = S.z }

    indexed : k.drawing.indices.used ++ triangle f3dex2 k.state a b c
        ≡ map (λ (i : ℕ). i ∷ []) (w.scene.indices ++ get_or w.rsp.slots.cache_global_index (cond (eqb (bit_and w.rsp.geom g_cull_both) g_cull_front) c a) 0 ∷ get_or w.rsp.slots.cache_global_index b 0 ∷ get_or w.rsp.slots.cache_global_index (cond (eqb (bit_and w.rsp.geom g_cull_both) g_cull_front) a c) 0 ∷ [])
    indexed =
        rw (three-more, front, ← N.held.slots.row, ← N.held.recorded.indices)
        (ap (λ (t : List (List ℕ)). k.drawing.indices.used ++ t) (turned_same k.state.row (swaps f3dex2 k.state.geometry) a b c))

    six : settings (material ∷ mode ∷ colour ∷ prim ∷ []) (culls f3dex2 k.state.geometry) k.state.microcode ≡ material ∷ mode ∷ colour ∷ prim ∷ bit (not (eqb (bit_and w.rsp.geom g_cull_both) 0)) ∷ bit (is_non w.rsp.microcode) ∷ []
    six = rw (some-side, N.modes.settings.microcode, non-same w.rsp.microcode)

    run : edit (run_edit k.drawing.runs.used (length k.drawing.indices.used) (settings (material ∷ mode ∷ colour ∷ prim ∷ []) (culls f3dex2 k.state.geometry) k.state.microcode)) k.drawing.runs.used
        ≡ map run_numbers (runs_then (λ (q : DrawRun). coalesces q (not (eqb (bit_and w.rsp.geom g_cull_both) 0)) (is_non w.rsp.microcode) material mode colour prim)
        (record { material_index = material; render_mode_index = mode; fog_color = colour; prim_depth = prim; cull = not (eqb (bit_and w.rsp.geom g_cull_both) 0); unclipped_depth = is_non w.rsp.microcode; index_count = 3; index_start = length w.scene.indices })
        w.scene.draw_runs)
    run =
        rw (six, N.held.recorded.runs, N.held.recorded.indices, length-map w.scene.indices (λ (i : ℕ). i ∷ []))
        (runs_same _ _ w.scene.draw_runs _ (length w.scene.indices) (omega arith)
        (λ r. settings-same r (not (eqb (bit_and w.rsp.geom g_cull_both) 0)) (is_non w.rsp.microcode) material mode colour prim) refl)
