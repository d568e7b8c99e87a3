-- The edits of an accepted command have their tables' widths, and their areas have room for them. Assumes nothing.
use mathlib.Core.Path.{◌≡◌, refl, sym, ◌∙◌}
use Prim.Native.Nat.{ℕ, zero, suc, ◌+◌, ◌-◌, ◌*◌, ◌≤◌, ◌<◌}
use native.Mathlib.Nat.{add-zero, not-suc-le-zero, le_of_suc-le-suc}
use native.Mathlib.Omega.{arith}
use mathlib.Core.Bool.{Bool, true, false, not, ◌&&◌, false≢true}
use mathlib.Core.List.{List, [], ◌∷◌, map}
use lib.ListN.{length, get_or, length-map, length-set, length-append}
use lib.Dec.{eqb}
use lib.Ieee.{Float}
use Rattle.areas.specs.Area.{room, entries, Wide}
use Rattle.areas.proofs.Tables.{room_fits, length-entries, wide-entries, entry-is, matches-length}
use Rattle.areas.specs.Widths.{matrix_width, viewport_width, scale_width, light_width, lookat_width, fog_width, float_width, word_width, index_width, run_width, settings_wide}
use Rattle.decide.specs.Append.{final}
use Rattle.decide.specs.declared.family.Family.{Family}
use Rattle.matrix.specs.Math.{rows}
use Rattle.matrix.proofs.Believe.{length-laid}
use Rattle.layout.proofs.Believe.{pair-sizes}
use Rattle.layout.specs.declared.records.Vertex.{Vertex}
use Rattle.fold.proofs.Believe.{length-lookat, length-scale, wide-lights}
use Rattle.vertex.proofs.Believe.{floats-size, words_size}
use Rattle.change.specs.Decoded.{unit_entry, appends}
use Rattle.stage.specs.Modify.{moved, row_edit, row_change, scale_edit, modify_plan}
use Rattle.change.proofs.Kept.{floats-kept, words-kept}
use Rattle.triangle.specs.Run.{settings, run_of, longer, same_run}
use Rattle.triangle.specs.Slot.{culls}
use Rattle.stage.specs.declared.State.{State}
use Rattle.stage.specs.declared.Counts.{Counts}
use Rattle.stage.specs.declared.load.Settled.{Settled}
use Rattle.stage.specs.Plan.{table, row_table, Edit, keep, grow, patch, Row, row_floats, row_words, only, Edits, pick, more, untouched, only_if}
use Rattle.stage.specs.Matrices.{edits1, edits2, combine, viewport_entry}
use Rattle.stage.specs.Load.{fog_pair, settled, shared_by, vertex_row, load_edits, load_lent, load_plan}
use Rattle.stage.specs.Draw.{triangle, run_edit, draw_plan}
use Rattle.stage.proofs.RowEntries.{length-rows, row_at}
use Rattle.sequence.specs.Sequence.{Command, matrix, force, pop, viewport, geometry, texture, fog, number, light, lookat, microcode, load, cull, explain, depth, modify, draw, ink, Areas, Port, book, load_of, plan}
use Rattle.sequence.proofs.Accepts.{Accepted, Fit, on-combine, on-matrix, on-force, on-pop, on-viewport, on-load, on-modify, on-cull, on-explain, on-depth, on-ink, on-draw}
use Rattle.sequence.proofs.Quiet.{on-geometry, on-texture, on-fog, on-number, on-light, on-lookat, on-microcode}

-- ---- widths

module _ {A : Type 0} where
  -- an edit of a table of n entries has entries of w numbers, and replaces one in use
  abbrev pub EditOk : ℕ → ℕ → Edit (List A) → Type 0
  EditOk w n keep = Unit {0}
  EditOk w n (grow es) = Wide w es
  EditOk w n (patch i e) = (length e ≡ w) × (i < n)

  -- an edit that has the width, and for which the area has room behind the n entries in use
  pub record Sized (w n : ℕ) (ed : Edit (List A)) (l : List A) : Type 0 where
    pub wide : EditOk w n ed
    pub room : (n + more ed) * w ≤ length l

  -- an entry among those of one width has it
  pub wide_at : (w : ℕ) (es : List (List A)) (i : ℕ) → Wide w es → i < length es → length (get_or es i []) ≡ w
  wide_at w [] i h k = absurd (not-suc-le-zero k)
  wide_at w (e ∷ es) zero h k = h.0
  wide_at w (e ∷ es) (suc i) h k = wide_at w es i h.1 (le_of_suc-le-suc k)

  -- what is left as it is, is sized where the entries in use lie in the area
  pub kept : (w n : ℕ) (l : List A) → n * w ≤ length l → Sized w n keep l
  kept w n l h = record { wide = tt; room = rw add-zero h }

  -- what the judge has let through is sized
  pub fitted : (w n : ℕ) (ed : Edit (List A)) (l : List A) → EditOk w n ed → length (entries w n l) + more ed ≤ room w (length l) → Sized w n ed l
  fitted w n ed l o h = record { wide = o; room = (room_fits w (length l) (n + more ed) (omega (arith, h, length-entries w n l))).0 }

  -- entries appended where b says so have the width
  wide-if : (w n : ℕ) (b : Bool) (es : List (List A)) → Wide w es → EditOk w n (only_if b es)
  unfolding pick
  wide-if w n true es h = h
  wide-if w n false es h = tt

-- ---- table 7 in its two areas

-- an edit of rows appends as many entries to each area
more-only : {E F : Type 0} (f : E → F) (ed : Edit E) → more (only f ed) ≡ more ed
more-only f keep = refl
more-only f (grow es) = length-map es f
more-only f (patch i e) = refl

-- an edit of rows that the judge has let through is sized in both areas
pub fitted-rows : (n : ℕ) (ed : Edit Row) (x : List Float) (y : List ℕ)
    → EditOk float_width n (only row_floats ed)
    → EditOk word_width n (only row_words ed)
    → length (row_table n x y).used + more ed ≤ (row_table n x y).room
    → Sized float_width n (only row_floats ed) x × Sized word_width n (only row_words ed) y
fitted-rows n ed x y o q h =
    let e = length-rows n x y in
    let a : n + more (only row_floats ed) ≤ room float_width (length x) = rw (more-only row_floats ed) (omega arith) in
    let b : n + more (only row_words ed) ≤ room word_width (length y) = rw (more-only row_words ed) (omega arith) in
    (record { wide = o; room = (room_fits float_width (length x) _ a).0 }, record { wide = q; room = (room_fits word_width (length y) _ b).0 })

-- rows made of vertices, or of anything, have the width that each has
wide_rows : {A B : Type 0} (g : Row → List A) (w : ℕ) (h : B → Row) → ((v : B) → length (g (h v)) ≡ w) → (vs : List B) → Wide w (map g (map h vs))
wide_rows g w h k [] = tt
wide_rows g w h k (v ∷ vs) = (k v, wide_rows g w h k vs)

-- a row of so many numbers, copied to the end or put in place of one in use
wide_row : {A : Type 0} (g : Row → List A) (w n : ℕ) (d : Bool) (i : ℕ) (r : Row) → length (g r) ≡ w → i < n → EditOk w n (only g (row_edit d i r))
unfolding pick
wide_row g w n true i r h k = (h, tt)
wide_row g w n false i r h k = (h, k)

-- ---- single edits

-- the matrix that a load appends: where the combined matrix is defined it appends none
wide-matrix : (n : ℕ) (b c : Bool) (m l : List Float) → length l ≡ matrix_width → EditOk matrix_width n (only_if (not b && c) (pick b m l ∷ []))
unfolding pick
wide-matrix n true c m l h = tt
wide-matrix n false true m l h = (h, tt)
wide-matrix n false false m l h = tt

-- where the last of some runs has the settings asked there is one
run-some : (us : List (List ℕ)) (q : List ℕ) → length q ≡ settings_wide → same_run 0 us q ≡ true → 0 < length us
unfolding same_run
run-some [] q h e = absurd (false≢true (sym (matches-length eqb [] q (λ z. omega arith)) ∙ e))
run-some (u ∷ us) q h e = omega arith

-- the last run grown, or a run appended, has the numbers of a run
wide-run : (us : List (List ℕ)) (n : ℕ) (q : List ℕ) → length q ≡ settings_wide → Wide run_width us → EditOk run_width (length us) (run_edit us n q)
unfolding run_edit pick
wide-run us n q h k = go (same_run 0 us q) refl
  where
    go : (b : Bool) → same_run 0 us q ≡ b → EditOk run_width (length us) (pick b (patch (length us - 1) (longer 0 (final us))) (grow (run_of q n 3 ∷ [])))
    go true e =
        let s = run-some us q h e in
        (rw length-set (wide_at run_width us (length us - 1) k (omega arith)), omega arith)
    go false e = (rw (length-append, h), tt)

-- ---- all areas at once

-- the counts of a port are of entries that lie in its areas
pub record Fits (p : Port) : Type 0 where
  pub matrices : p.state.counts.matrices * matrix_width ≤ length p.areas.matrices
  pub viewports : p.state.counts.viewports * viewport_width ≤ length p.areas.viewports
  pub scales : p.state.counts.scales * scale_width ≤ length p.areas.scales
  pub lights : p.state.counts.lights * light_width ≤ length p.areas.lights
  pub lookats : p.state.counts.lookats * lookat_width ≤ length p.areas.lookats
  pub fogs : p.state.counts.fogs * fog_width ≤ length p.areas.fogs
  pub floats : p.state.counts.rows * float_width ≤ length p.areas.floats
  pub words : p.state.counts.rows * word_width ≤ length p.areas.words
  pub indices : p.state.counts.indices * index_width ≤ length p.areas.drawing.indices
  pub runs : p.state.counts.runs * run_width ≤ length p.areas.drawing.runs

-- every edit of a command is sized, for the counts c and the areas l
pub record AllSized (c : Counts) (e : Edits) (l : Areas) : Type 0 where
  pub matrices : Sized matrix_width c.matrices e.matrices l.matrices
  pub viewports : Sized viewport_width c.viewports e.viewports l.viewports
  pub scales : Sized scale_width c.scales e.scales l.scales
  pub lights : Sized light_width c.lights e.lights l.lights
  pub lookats : Sized lookat_width c.lookats e.lookats l.lookats
  pub fogs : Sized fog_width c.fogs e.fogs l.fogs
  pub floats : Sized float_width c.rows (only row_floats e.rows) l.floats
  pub words : Sized word_width c.rows (only row_words e.rows) l.words
  pub indices : Sized index_width c.indices e.drawing.indices l.drawing.indices
  pub runs : Sized run_width c.runs e.drawing.runs l.drawing.runs

-- an accepted plan's edits are sized for the port
abbrev pub Sizes : Port → List ℕ → State → Edits → Type 0
Sizes p vs t e = AllSized p.state.counts e p.areas

module _ (p : Port) (h : Fits p) where
  -- where nothing is edited, all is sized
  all_kept : AllSized p.state.counts untouched p.areas
  all_kept =
      record {
        matrices = kept matrix_width _ _ h.matrices;
        viewports = kept viewport_width _ _ h.viewports;
        scales = kept scale_width _ _ h.scales;
        lights = kept light_width _ _ h.lights;
        lookats = kept lookat_width _ _ h.lookats;
        fogs = kept fog_width _ _ h.fogs;
        floats = kept float_width _ _ h.floats;
        words = kept word_width _ _ h.words;
        indices = kept index_width _ _ h.indices;
        runs = kept run_width _ _ h.runs;
      }

  -- an edit of table 1 alone
  all-matrices : (e : Edit (List Float)) → Sized matrix_width p.state.counts.matrices e p.areas.matrices → AllSized p.state.counts (edits1 e) p.areas
  all-matrices e k =
      record {
        matrices = k;
        viewports = all_kept.viewports;
        scales = all_kept.scales;
        lights = all_kept.lights;
        lookats = all_kept.lookats;
        fogs = all_kept.fogs;
        floats = all_kept.floats;
        words = all_kept.words;
        indices = all_kept.indices;
        runs = all_kept.runs;
      }

  -- of table 2 alone
  all-viewports : (e : Edit (List Float)) → Sized viewport_width p.state.counts.viewports e p.areas.viewports → AllSized p.state.counts (edits2 e) p.areas
  all-viewports e k =
      record {
        matrices = all_kept.matrices;
        viewports = k;
        scales = all_kept.scales;
        lights = all_kept.lights;
        lookats = all_kept.lookats;
        fogs = all_kept.fogs;
        floats = all_kept.floats;
        words = all_kept.words;
        indices = all_kept.indices;
        runs = all_kept.runs;
      }

  -- m becomes the combined matrix
  sized-combine : (s : State) (m : List Float) → length m ≡ matrix_width → Accepted (Sizes p) (combine s (table matrix_width p.state.counts.matrices p.areas.matrices) m)
  sized-combine s m e =
      let n = p.state.counts.matrices in
      let l = p.areas.matrices in
      on-combine (Sizes p) s (table matrix_width n l) m
      (λ _. all_kept)
      (λ _ k. all-matrices (grow (m ∷ [])) (fitted matrix_width n (grow (m ∷ [])) l (e, tt) k))

  -- what a load gives each table is sized, where the matrix and the scales that are settled have their widths
  sized-edits : (d : Settled) (vs : List Vertex)
      → EditOk matrix_width p.state.counts.matrices (only_if d.newmatrix (d.combined ∷ []))
      → length d.scales ≡ scale_width
      → Fit (load_lent (load_of (book p)) (load_edits d p.state vs))
      → AllSized p.state.counts (load_edits d p.state vs) p.areas
  unfolding load_edits book
  sized-edits d vs m e k =
      let s = p.state in
      let c = s.counts in
      let l = p.areas in
      let o = shared_by d s in
      let r =
      fitted-rows c.rows (grow (map (vertex_row o) vs)) l.floats l.words
      (wide_rows row_floats float_width (vertex_row o) floats-size vs)
      (wide_rows row_words word_width (vertex_row o) (words_size o) vs)
      k.1.1.1.1.1.0 in
      record {
        matrices = fitted matrix_width c.matrices _ l.matrices m k.0;
        viewports = all_kept.viewports;
        scales = fitted scale_width c.scales _ l.scales (wide-if scale_width _ d.newscale (d.scales ∷ []) (e, tt)) k.1.0;
        lights = fitted light_width c.lights _ l.lights (wide-if light_width _ d.newlights _ (wide-lights (rows d.model 0) s.lights.directions s.lights.colours s.lights.ambient s.lights.number)) k.1.1.0;
        lookats = fitted lookat_width c.lookats _ l.lookats (wide-if lookat_width _ d.newlookat _ (length-lookat (rows d.model 0) s.lookat.axes, tt)) k.1.1.1.0;
        fogs = fitted fog_width c.fogs _ l.fogs (wide-if fog_width _ d.newfog (fog_pair s ∷ []) (refl, tt)) k.1.1.1.1.0;
        floats = r.0;
        words = r.1;
        indices = all_kept.indices;
        runs = all_kept.runs;
      }

  -- a load
  sized-load : (f : Family) (slots first count : ℕ) (bytes : List ℕ) (at : ℕ) → Accepted (Sizes p) (load_plan f slots p.state (load_of (book p)) first count bytes at)
  unfolding settled
  sized-load f slots first count bytes at =
      on-load (Sizes p) f slots p.state (load_of (book p)) first count bytes at
      (λ _ _ k.
      sized-edits _ _
      (wide-matrix _ p.state.defined _ p.state.combined _ (length-laid _))
      (length-scale p.state.texture.sc p.state.texture.tc) k)

  -- a row in use has the numbers of a row
  pub row-wide : (i : ℕ) → i < p.state.counts.rows
      → let r = get_or (row_table p.state.counts.rows p.areas.floats p.areas.words).used i (record { floats = []; words = [] }) in
      (length r.floats ≡ float_width) × (length r.words ≡ word_width)
  row-wide i k =
      let n = p.state.counts.rows in
      let x = p.areas.floats in
      let y = p.areas.words in (
        rw (row_at n x y i k, ← entry-is float_width n i x k) (wide_at float_width (entries float_width n x) i (wide-entries float_width n x h.floats) (rw length-entries k)),
        rw (row_at n x y i k, ← entry-is word_width n i y k) (wide_at word_width (entries word_width n y) i (wide-entries word_width n y h.words) (rw length-entries k)),
      )

  -- a modify
  sized-modify : (slots slot attribute value : ℕ) → Accepted (Sizes p) (modify_plan slots p.state (table scale_width p.state.counts.scales p.areas.scales) (row_table p.state.counts.rows p.areas.floats p.areas.words) slot attribute value)
  sized-modify slots slot attribute value =
      let s = p.state in
      let n = s.counts.scales in
      let m = s.counts.rows in
      let i = get_or s.row slot 0 in
      let t = table scale_width n p.areas.scales in
      let u = row_table m p.areas.floats p.areas.words in
      on-modify (Sizes p) slots s t u slot attribute value
      (λ c _ _ _ b k.
      let g = moved c s slot in
      let w = row-wide i b in
      let r =
      fitted-rows m (row_change c g s u slot) p.areas.floats p.areas.words
      (wide_row row_floats float_width m (get_or s.drawn slot false) i _ (floats-kept c _ ∙ w.0) b)
      (wide_row row_words word_width m (get_or s.drawn slot false) i _ (words-kept c (g.unit - 1) _ ∙ w.1) b)
      k.1.0 in
      record {
        matrices = all_kept.matrices;
        viewports = all_kept.viewports;
        scales = fitted scale_width n (scale_edit c s) p.areas.scales (wide-if scale_width n (appends c s.unit) (unit_entry ∷ []) (refl, tt)) k.0;
        lights = all_kept.lights;
        lookats = all_kept.lookats;
        fogs = all_kept.fogs;
        floats = r.0;
        words = r.1;
        indices = all_kept.indices;
        runs = all_kept.runs;
      })

  -- a draw
  sized-draw : (f : Family) (slots a b c : ℕ) (asked : List ℕ) → length asked ≡ 4
      → Accepted (Sizes p) (draw_plan f slots p.state (table index_width p.state.counts.indices p.areas.drawing.indices) (table run_width p.state.counts.runs p.areas.drawing.runs) a b c asked)
  sized-draw f slots a b c asked q =
      let s = p.state in
      let n = s.counts.indices in
      let m = s.counts.runs in
      let x = p.areas.drawing.indices in
      let y = p.areas.drawing.runs in
      let z = settings asked (culls f s.geometry) s.microcode in
      let e : length z ≡ settings_wide = rw (length-append, q) in
      let o : EditOk run_width m (run_edit (entries run_width m y) (length (entries index_width n x)) z) =
      rw (length-entries run_width m y) at (wide-run (entries run_width m y) (length (entries index_width n x)) z e (wide-entries run_width m y h.runs)) in
      on-draw (Sizes p) f slots s (table index_width n x) (table run_width m y) a b c asked
      (λ _. all_kept)
      (λ _ _ _ _ k.
      record {
        matrices = all_kept.matrices;
        viewports = all_kept.viewports;
        scales = all_kept.scales;
        lights = all_kept.lights;
        lookats = all_kept.lookats;
        fogs = all_kept.fogs;
        floats = all_kept.floats;
        words = all_kept.words;
        indices = fitted index_width n (grow (triangle f s a b c)) x (refl, (refl, (refl, tt))) k.0;
        runs = fitted run_width m _ y o k.1.0;
      })

  -- EVERY ACCEPTED PLAN IS SIZED
  pub sized-plan : (F : ℕ → Family) (limit : State → ℕ) (c : Command) → Accepted (Sizes p) (plan F limit c (book p))
  unfolding plan book
  sized-plan F limit (matrix flags bytes at) = on-matrix (Sizes p) p.state _ bytes at (F p.state.microcode) flags (λ _ s _. sized-combine s _ (length-laid _))
  sized-plan F limit (force bytes at) = on-force (Sizes p) p.state _ bytes at (λ _. sized-combine p.state _ (length-laid _))
  sized-plan F limit (pop count) = on-pop (Sizes p) p.state _ count (λ _. all_kept) (λ _ s _. sized-combine s _ (length-laid _))
  sized-plan F limit (viewport bytes at) =
      let n = p.state.counts.viewports in
      let l = p.areas.viewports in
      let v = pair-sizes bytes at in
      on-viewport (Sizes p) p.state (table viewport_width n l) bytes at
      (λ _ _. all_kept)
      (λ _ _ k. all-viewports (grow (viewport_entry bytes at ∷ [])) (fitted viewport_width n (grow (viewport_entry bytes at ∷ [])) l (rw (length-append, v.0, v.1), tt) k))
  sized-plan F limit (geometry off on) = on-geometry (Sizes p) (λ _ _. all_kept) p.state (F p.state.microcode) off on
  sized-plan F limit (texture tile level on sc tc) = on-texture (Sizes p) (λ _ _. all_kept) p.state tile level on sc tc
  sized-plan F limit (fog multiplier offset) = on-fog (Sizes p) (λ _ _. all_kept) p.state multiplier offset
  sized-plan F limit (number bytes) = on-number (Sizes p) (λ _ _. all_kept) p.state _
  sized-plan F limit (light slot bytes at) = on-light (Sizes p) (λ _ _. all_kept) p.state slot bytes at
  sized-plan F limit (lookat slot bytes at) = on-lookat (Sizes p) (λ _ _. all_kept) p.state slot bytes at
  sized-plan F limit (microcode to) = on-microcode (Sizes p) (λ _ _. all_kept) p.state to
  sized-plan F limit (load first count bytes at) = sized-load (F p.state.microcode) (limit p.state) first count bytes at
  sized-plan F limit (cull first last) = on-cull (Sizes p) (limit p.state) p.state first last (λ _ _ _. all_kept)
  sized-plan F limit (explain first last) = on-explain (Sizes p) (limit p.state) p.state first last (λ _ _ _. all_kept)
  sized-plan F limit (depth slot threshold) = on-depth (Sizes p) (limit p.state) p.state slot threshold (λ _ _. all_kept)
  sized-plan F limit (modify slot attribute value) = sized-modify (limit p.state) slot attribute value
  sized-plan F limit (draw a b c material mode colour prim) = sized-draw (F p.state.microcode) (limit p.state) a b c (material ∷ mode ∷ colour ∷ prim ∷ []) refl
  sized-plan F limit (ink colour) = on-ink (Sizes p) p.state _ _ colour (λ _. all_kept)
