-- Load of the two sides. Assumes nothing.
use mathlib.Core.Path.{◌≡◌, refl, sym, ap, ap₂, ◌∙◌, subst}
use mathlib.Core.Logic.{inl, ⊎_elim}
use Prim.Native.Nat.{ℕ, ◌+◌, ◌-◌, ◌*◌, ◌≤◌, ◌<◌}
use native.Mathlib.Omega.{arith}
use mathlib.Core.Bool.{Bool, true, false, not, cond, false≢true}
use mathlib.Core.List.{List, [], ◌∷◌, ◌++◌, map}
use lib.ListN.{length, get_or, length-append, length-map}
use lib.Seq.{take_at}
use lib.Dec.{eqb}
use lib.Ieee.{Float, nan, eq}
use borrow.Author.Tests.{lt-ltb}
use Rattle.areas.specs.Area.{matches, Wide}
use Rattle.areas.specs.Widths.{fog_width}
use Rattle.layout.specs.declared.records.Vertex.{Vertex}
use Rattle.matrix.specs.Math.{at, rows, laid}
use Rattle.decide.specs.Append.{final}
use Rattle.decide.specs.Family.{f3dex2, flag, lit, texgen_mode, family_of}
use Rattle.stage.specs.Sound.{limit}
use Rattle.fold.specs.Scales.{scale_entry, same_scale}
use Rattle.vertex.specs.declared.Shared.{Shared}
use Rattle.vertex.specs.Vertices.{slot_of, vertices_at}
use Rattle.stage.specs.declared.State.{State}
use Rattle.stage.specs.declared.load.Settled.{Settled}
use Rattle.stage.specs.Plan.{Row, pick, counted, only_if}
use Rattle.stage.specs.Matrices.{model_top}
use Rattle.stage.specs.With.{with_slots, slots_of}
use Rattle.stage.specs.Load.{lights_then, lookat_then, settled, settled_state, shared_by, vertex_row, load_edits}
use Rattle.stage.specs.Rows.{fill_slot, fill_slots}
use Rattle.sequence.specs.Sequence.{load, Book, load_of, plan}
use Rattle.sequence.proofs.Turn.{edit, enter}
use Rattle.sequence.proofs.Counted.{edit-counted, counted-then}
use Rattle.sequence.proofs.Accepts.{Accepted, on-load}
use Rattle.original.specs.Math.{f1, ix}
use Rattle.original.specs.Rsp.{Matrices, TextureState, Texcoords, Rsp, has, last_is, mv_top, prepare_vertex, g_lighting, g_fog_geom}
use Rattle.original.specs.Drawing.{Columns, tc_scale, tg_scale, eq2, texcoords_then, lighting_then, texgen_of, looking_then, Sharing, sharing_of, position, set_vertex}
use Rattle.original.specs.Walk.{World, with_rsp_matrices, with_both, execute}
use Rattle.original.specs.Relation.{over, Offsets, Meets, joined, MatrixSame, ViewSame, fours, ScaleSame, LightsSame, LookSame, SlotsSame, RowsSame, Near, Same}
use Rattle.original.specs.Domain.{Data, Agrees}
use Rattle.original.proofs.Alike.{has-lighting, has-fog, texgen-same, pair_same, last-final, three-is}
use Rattle.original.proofs.Readers.{tc-same, tg-same}
use Rattle.original.proofs.Small.{one-never}
use Rattle.original.proofs.Views.{ends_same, last-number, last-since, meets-more, some-rust, fours-at, fours-snoc, length-fours, snoc-pairs}
use Rattle.original.proofs.RowsOf.{rows-count}
use Rattle.original.proofs.Stacks.{top-same, laid-again}
use Rattle.original.proofs.Settles.{cond-true, cond-false, prepared, lights-after, light-table-after, looking-after, look-table-after, fog-number, fog-after, fog-wide}
use Rattle.original.proofs.Vertexes.{ShareSame, slots_filled, rows-filled}

-- ---- scales

-- the entry that both work out
pub scale-entry : (sc tc : ℕ) → sc < 65536 → tc < 65536 → scale_entry sc tc ≡ (tc_scale sc ∷ tc_scale tc ∷ []) ++ (tg_scale sc ∷ tg_scale tc ∷ [])
scale-entry sc tc h k = λ i. sym (tc-same sc h) i ∷ sym (tc-same tc k) i ∷ sym (tg-same sc h) i ∷ sym (tg-same tc k) i ∷ []

-- table 3 after a load's scales, and the number of the entry in force
pub record Scaled (a b u : ℕ) (t : List (List Float)) (x : Texcoords) : Type 0 where
  pub same : ScaleSame a b u t x
  pub number : over a b (length t - 1) ≡ x.cur_texcoord_index

module _ {a b u : ℕ} {t : List (List Float)} {x : Texcoords} (S : ScaleSame a b u t x) (s : TextureState) (hs : s.sc < 65536) (ht : s.tc < 65536) where
  abbrev e : List Float
  e = scale_entry s.sc s.tc

  abbrev tc-entry : List Float
  tc-entry = tc_scale s.sc ∷ tc_scale s.tc ∷ []

  abbrev tg-entry : List Float
  tg-entry = tg_scale s.sc ∷ tg_scale s.tc ∷ []

  abbrev cs : List (List Float)
  cs = x.texcoord_table

  abbrev gs : List (List Float)
  gs = x.texgen_scale_table

  some-scale : 0 < length cs
  some-scale = rw (length-fours cs gs S.beside) at (some-rust S.table)

  -- the last entry is a coordinate pair and a texgen pair
  last-four : final t ≡ get_or cs (length cs - 1) [] ++ get_or gs (length cs - 1) []
  last-four =
      ends_same S.table
      ∙ ap (λ (n : ℕ). get_or (fours cs gs) (n - 1) []) (length-fours cs gs S.beside)
      ∙ fours-at cs gs S.beside (length cs - 1)

  some-port : 0 < length t
  some-port =
      let p : length t ≡ length S.table.before + length S.table.since = ap length S.table.port_is ∙ length-append S.table.before S.table.since in
      omega (arith, S.table.some_since)

  compared : last_is eq2 cs tc-entry ≡ same_scale t e
  unfolding same_scale
  compared =
      let c : List Float = get_or cs (length cs - 1) [] in
      let two : length (get_or cs (length cs - 1) []) ≡ 2 = S.pairs (length cs - 1) (omega (arith, some-scale)) in
      last-final eq2 cs tc-entry [] some-scale
      ∙ pair_same (get_or cs (length cs - 1) []) tc-entry two refl
      ∙ sym (rw (lt-ltb 0 (length t) some-port, last-four, take_at (get_or cs (length cs - 1) []) (get_or gs (length cs - 1) []) 2 two) (ap (matches eq (get_or cs (length cs - 1) [])) (λ i. sym (tc-same s.sc hs) i ∷ sym (tc-same s.tc ht) i ∷ [])))

  -- a unit entry is not what a load's scales equal
  current-last : last_is eq2 cs tc-entry ≡ true → x.cur_texcoord_index ≡ length cs - 1
  current-last q = ⊎_elim (λ h. h) (λ h. absurd (false≢true (sym (never h) ∙ q))) S.current
    where
      never : get_or cs (length cs - 1) [] ≡ f1 ∷ f1 ∷ [] → last_is eq2 cs tc-entry ≡ false
      never h = last-final eq2 cs tc-entry [] some-scale ∙ rw (h, tc-same s.sc hs, one-never s.sc hs)

  pub scales-loaded : Scaled a b u (edit (only_if (not (same_scale t e)) (e ∷ [])) t) (texcoords_then s x)
  unfolding texcoords_then pick
  scales-loaded = go (same_scale t e) refl
    where
      go : (q : Bool) → same_scale t e ≡ q → Scaled a b u (edit (only_if (not q) (e ∷ [])) t) (texcoords_then s x)
      go true q =
          let z : last_is eq2 cs tc-entry ≡ true = compared ∙ q in
          rw z
          (record {
            same = record { table = S.table; beside = S.beside; pairs = S.pairs; current = S.current; unit = S.unit };
            number = sym (last-number S.table) ∙ ap (λ (n : ℕ). n - 1) (length-fours cs gs S.beside) ∙ sym (current-last z);
          })
      go false q =
          let z : last_is eq2 cs tc-entry ≡ false = compared ∙ q in
          let M : Meets a b (t ++ e ∷ []) (fours (cs ++ tc-entry ∷ []) (gs ++ tg-entry ∷ [])) =
          rw (fours-snoc cs gs tc-entry tg-entry S.beside, scale-entry s.sc s.tc hs ht) (meets-more S.table (tc-entry ++ tg-entry)) in
          let long : length (cs ++ tc-entry ∷ []) ≡ length (gs ++ tg-entry ∷ []) = length-append cs (tc-entry ∷ []) ∙ ap (λ (n : ℕ). n + 1) S.beside ∙ sym (length-append gs (tg-entry ∷ [])) in
          rw z
          (record {
            same = record { table = M; beside = long; pairs = snoc-pairs cs tc-entry S.pairs refl; current = inl refl; unit = S.unit };
            number = sym (last-number M) ∙ ap (λ (n : ℕ). n - 1) (length-fours (cs ++ tc-entry ∷ []) (gs ++ tg-entry ∷ []) long);
          })

-- ---- the command

-- filling slots changes the slots alone
filled_is : (vs : List Vertex) (u : State) (m : List (List Float)) (e : Shared) (k r : ℕ) → let t = fill_slots u m e k r vs in
    t ≡ with_slots u (slots_of t)
unfolding fill_slots fill_slot
filled_is [] u m e k r = refl
filled_is (v ∷ vs) u m e k r = filled_is vs (fill_slot u k r (slot_of m e v)) m e (k + 1) (r + 1)

at-2 : (s t : List Float) → length s ≡ 3 → at (s ++ t) 2 ≡ ix s 2
at-2 s t h = rw (three-is s nan h)

at_5 : (s t : List Float) → length s ≡ 3 → at (s ++ t) 5 ≡ ix t 2
at_5 s t h = rw (three-is s nan h)

module _ {X : ℕ → List (List Float) → Texcoords → Type 0} {R : List Row → Columns → Type 0} {o : Offsets} {k : Book} {w : World} (N : Near ◌≡◌ ◌≡◌ (ViewSame o.port2 o.rust2) X R k w)
    (sc : Scaled o.port3 o.rust3 k.state.unit (edit (only_if (not (same_scale k.scales.used (scale_entry w.rsp.texture_state.sc w.rsp.texture_state.tc))) (scale_entry w.rsp.texture_state.sc w.rsp.texture_state.tc ∷ [])) k.scales.used) (texcoords_then w.rsp.texture_state w.rsp.texcoords))
    (rs : RowsSame o k.rows.used w.scene.columns) (first count : ℕ) (bytes : List ℕ) (at_byte : ℕ) (I : Data bytes) (fits : at_byte + 16 * count ≤ length bytes) where
  abbrev d : Settled
  d = settled f3dex2 k.state k.matrices.used k.scales.used k.fogs.used

  -- the original's matrices, once prepared
  abbrev m : Matrices
  m = prepare_vertex w.rsp.matrices

  abbrev r : Rsp
  r = with_rsp_matrices w.rsp m

  abbrev x : Sharing
  x = sharing_of r w.scene w.fog_mul w.fog_offset

  matrices-then : MatrixSame k.state.depth k.state.stack k.state.projection d.combined (edit (only_if d.newmatrix (d.combined ∷ [])) k.matrices.used) m
  unfolding settled
  matrices-then = prepared N.space.matrices k.state.defined (sym N.space.defined)

  -- the mark stays
  mark-then : k.state.defined ≡ m.mvp_valid
  unfolding prepare_vertex
  mark-then = N.space.defined ∙ go w.rsp.matrices.mvp_valid refl
    where
      go : (b : Bool) → w.rsp.matrices.mvp_valid ≡ b → w.rsp.matrices.mvp_valid ≡ (prepare_vertex w.rsp.matrices).mvp_valid
      go true e = sym (ap (λ (n : Matrices). n.mvp_valid) (cond-true w.rsp.matrices.mvp_valid w.rsp.matrices _ e))
      go false e = e ∙ sym (ap (λ (n : Matrices). n.mvp_valid) (cond-false w.rsp.matrices.mvp_valid w.rsp.matrices _ e))

  -- the model top
  top-then : laid (model_top k.state) ≡ laid (mv_top m)
  top-then = ap laid (top-same matrices-then) ∙ laid-again (mv_top m)

  lit-same : lit f3dex2 k.state.geometry ≡ has w.rsp.geom g_lighting
  lit-same = ap (lit f3dex2) N.modes.settings.geometry ∙ sym (has-lighting w.rsp.geom)

  mode-same : texgen_mode f3dex2 k.state.geometry ≡ texgen_of (has w.rsp.geom g_lighting) w.rsp.geom
  mode-same = ap (texgen_mode f3dex2) N.modes.settings.geometry ∙ sym (texgen-same w.rsp.geom)

  foggy-same : flag f3dex2.fog k.state.geometry ≡ has w.rsp.geom g_fog_geom
  foggy-same = ap (flag f3dex2.fog) N.modes.settings.geometry ∙ sym (has-fog w.rsp.geom)

  light_count : k.state.counts.lights ≡ length w.scene.lights_table
  light_count = sym N.count.lights ∙ ap length N.held.recorded.light_table ∙ length-map w.scene.lights_table joined

  look-count : k.state.counts.lookats ≡ length w.scene.lookat_table
  look-count = sym N.count.lookats ∙ ap length N.held.recorded.lookat_table ∙ length-map w.scene.lookat_table joined

  lights-now : LightsSame (lights_then d k.state) (lighting_then (has w.rsp.geom g_lighting) m (length w.scene.lights_table) w.rsp.lighting)
  unfolding settled
  lights-now = rw (← lit-same) (lights-after N.modes.lights m (laid (model_top k.state)) top-then (lit f3dex2 k.state.geometry) k.state.counts.lights (length w.scene.lights_table) light_count)

  looking-now : LookSame (lookat_then d k.state) (looking_then (texgen_of (has w.rsp.geom g_lighting) w.rsp.geom) m (length w.scene.lookat_table) w.rsp.looking)
  unfolding settled
  looking-now = rw (← mode-same) (looking-after N.modes.lookat m (laid (model_top k.state)) top-then (texgen_mode f3dex2 k.state.geometry) k.state.counts.lookats (length w.scene.lookat_table) look-count)

  -- the texture settings that both read
  entry-same : scale_entry k.state.texture.sc k.state.texture.tc ≡ scale_entry w.rsp.texture_state.sc w.rsp.texture_state.tc
  entry-same = rw N.modes.settings.texture refl

  scales-now : Scaled o.port3 o.rust3 k.state.unit (edit (only_if d.newscale (d.scales ∷ [])) k.scales.used) (texcoords_then w.rsp.texture_state w.rsp.texcoords)
  unfolding settled
  scales-now = rw entry-same sc

  lit-then : d.lit ≡ has w.rsp.geom g_lighting
  unfolding settled
  lit-then = lit-same

  mode-then : d.texgen ≡ texgen_of (has w.rsp.geom g_lighting) w.rsp.geom
  unfolding settled
  mode-then = mode-same

  fog-then : pick d.foggy (d.fogat + 1) 0 ≡ cond (has w.rsp.geom g_fog_geom) (position w.scene.fog_table w.fog_mul w.fog_offset + 1) 0
  unfolding settled
  fog-then = rw (N.modes.settings.fogmul, N.modes.settings.fogoff, N.held.recorded.fog_table, foggy-same) (fog-number w.scene.fog_table N.held.recorded.fog_pairs w.fog_mul w.fog_offset (has w.rsp.geom g_fog_geom))

  -- one of two by a test, as each side says it
  pick-cond : {A : Type 0} (b : Bool) (p q : A) → pick b p q ≡ cond b p q
  unfolding pick
  pick-cond true p q = refl
  pick-cond false p q = refl

  cond-not : {A : Type 0} (b : Bool) (p q : A) → cond b p q ≡ cond (not b) q p
  cond-not true p q = refl
  cond-not false p q = refl

  shared_same : ShareSame o (shared_by d k.state) x
  unfolding shared_by sharing_of
  shared_same =
      record {
        matrix = matrix-number;
        viewport = view-number;
        scale = scale-number;
        light = pick-cond d.lit (lights_then d k.state).first 0 ∙ ap₂ (λ (b : Bool) (n : ℕ). cond b n 0) lit-then lights-now.first;
        lights = pick-cond d.lit (k.state.lights.number + 1) 0 ∙ ap₂ (λ (b : Bool) (n : ℕ). cond b (n + 1) 0) lit-then N.modes.lights.number;
        texgen = mode-then;
        fog = fog-then;
        lookat = pick-cond (eqb d.texgen 0) 0 (lookat_then d k.state).place ∙ cond-not (eqb d.texgen 0) 0 (lookat_then d k.state).place ∙ ap₂ (λ (g n : ℕ). cond (not (eqb g 0)) n 0) mode-then looking-now.place;
        since2 = rw (← N.count.viewports) (last-since N.space.view.table);
        since3 = rw (← (edit-counted (only_if d.newscale (d.scales ∷ [])) k.scales.used k.state.counts.scales N.count.scales)) (last-since scales-now.same.table);
        zscale = ap (λ (v : List Float). at v 2) N.space.view.now ∙ at-2 w.rsp.viewports.vp_scale w.rsp.viewports.vp_trans N.space.view.scale;
        ztranslation = ap (λ (v : List Float). at v 5) N.space.view.now ∙ at_5 w.rsp.viewports.vp_scale w.rsp.viewports.vp_trans N.space.view.scale;
      }
    where
      matrix-number : counted (only_if d.newmatrix (d.combined ∷ [])) k.state.counts.matrices - 1 ≡ m.cur_mvp_index
      matrix-number =
          ap (λ (n : ℕ). n - 1) (sym (edit-counted (only_if d.newmatrix (d.combined ∷ [])) k.matrices.used k.state.counts.matrices N.count.matrices) ∙ ap length matrices-then.table ∙ length-map m.mvp_table laid)
          ∙ sym matrices-then.current

      view-number : over o.port2 o.rust2 (k.state.counts.viewports - 1) ≡ w.rsp.viewports.cur_viewport_index
      view-number =
          ap (λ (n : ℕ). over o.port2 o.rust2 (n - 1)) (sym N.count.viewports)
          ∙ sym (last-number N.space.view.table)
          ∙ ap (λ (n : ℕ). n - 1) (length-map w.rsp.viewports.viewport_table joined)
          ∙ sym N.space.view.current

      scale-number : over o.port3 o.rust3 (counted (only_if d.newscale (d.scales ∷ [])) k.state.counts.scales - 1) ≡ (texcoords_then w.rsp.texture_state w.rsp.texcoords).cur_texcoord_index
      scale-number =
          ap (λ (n : ℕ). over o.port3 o.rust3 (n - 1)) (sym (edit-counted (only_if d.newscale (d.scales ∷ [])) k.scales.used k.state.counts.scales N.count.scales))
          ∙ scales-now.number

  abbrev vs : List Vertex
  vs = vertices_at bytes at_byte count

  abbrev then : State
  then = fill_slots (settled_state d k.state) (rows d.combined 0) (shared_by d k.state) first k.state.counts.rows vs

  abbrev after : World
  after = with_both w (set_vertex bytes at_byte count first w.fog_mul w.fog_offset (r, w.scene))

  row_count : k.state.counts.rows ≡ length w.scene.columns.raw_pos
  row_count = sym N.count.rows ∙ sym (rows-count rs)

  matrix-read : rows d.combined 0 ≡ rows (laid m.mvp) 0
  matrix-read = ap (λ (y : List Float). rows y 0) matrices-then.combined

  slots-now : SlotsSame then.row then.loaded then.drawn then.coded then.code then.deep then.z after.rsp.slots
  unfolding set_vertex settled_state sharing_of
  slots-now =
      rw (← row_count)
      (slots_filled o (shared_by d k.state) x shared_same (rows d.combined 0) matrix-read bytes I count at_byte first k.state.counts.rows (settled_state d k.state) w.rsp.slots fits
      N.held.slots)

  rows-now : RowsSame o (k.rows.used ++ map (vertex_row (shared_by d k.state)) vs) after.scene.columns
  unfolding set_vertex sharing_of
  rows-now = rows-filled o (shared_by d k.state) x shared_same (rows d.combined 0) matrix-read bytes I count at_byte k.rows.used w.scene.columns fits rs

  light-table-now : edit (load_edits d k.state vs).lights k.lights.used ≡ map joined after.scene.lights_table
  unfolding set_vertex load_edits settled
  light-table-now = rw (← lit-same) (light-table-after N.modes.lights m (laid (model_top k.state)) top-then (lit f3dex2 k.state.geometry) k.lights.used w.scene.lights_table N.held.recorded.light_table)

  look-table-now : edit (load_edits d k.state vs).lookats k.lookats.used ≡ map joined after.scene.lookat_table
  unfolding set_vertex load_edits settled
  look-table-now = rw (← mode-same) (look-table-after N.modes.lookat m (laid (model_top k.state)) top-then (texgen_mode f3dex2 k.state.geometry) k.lookats.used w.scene.lookat_table N.held.recorded.lookat_table)

  fog-table-now : edit (load_edits d k.state vs).fogs k.fogs.used ≡ after.scene.fog_table
  unfolding set_vertex load_edits settled
  fog-table-now =
      rw (N.modes.settings.fogmul, N.modes.settings.fogoff, N.held.recorded.fog_table, foggy-same) (fog-after w.scene.fog_table N.held.recorded.fog_pairs w.fog_mul w.fog_offset (has w.rsp.geom g_fog_geom))

  fog-pairs-now : Wide fog_width after.scene.fog_table
  unfolding set_vertex
  fog-pairs-now = fog-wide w.scene.fog_table N.held.recorded.fog_pairs w.fog_mul w.fog_offset (has w.rsp.geom g_fog_geom)

  -- the state with its slots apart
  abbrev apart : State
  apart = with_slots (settled_state d k.state) (slots_of then)

  loaded : Same o (enter apart (load_edits d k.state vs) k) after
  unfolding set_vertex settled_state load_edits sharing_of
  loaded =
      record {
        count = counted-then k k.state (load_edits d k.state vs) N.count;
        modes = record { settings = N.modes.settings; lights = lights-now; lookat = looking-now };
        space = record { matrices = matrices-then; defined = mark-then; view = N.space.view };
        held = record { slots = slots-now; scales = scales-now.same; rows = rows-now; recorded = record { light_table = light-table-now; lookat_table = look-table-now; fog_table = fog-table-now; fog_pairs = fog-pairs-now; indices = N.held.recorded.indices; runs = N.held.recorded.runs } };
      }

  load-owes : Agrees (Same o) (pick k.state.defined 0 1 ∷ []) (enter then (load_edits d k.state vs) k) (execute (load first count bytes at_byte) w)
  unfolding execute
  load-owes = (
    ap (λ (n : ℕ). n ∷ []) (pick-cond k.state.defined 0 1 ∙ ap (λ (b : Bool). cond b 0 1) N.space.defined),
    subst (λ (u : State). Same o (enter u (load_edits d k.state vs) k) after) (sym (filled_is vs (settled_state d k.state) (rows d.combined 0) (shared_by d k.state) first k.state.counts.rows)) loaded,
  )

-- a load once the viewport is the same, and the scales come to be
pub load-scaled : {X : ℕ → List (List Float) → Texcoords → Type 0} {R : List Row → Columns → Type 0} {o : Offsets} {k : Book} {w : World} → Near ◌≡◌ ◌≡◌ (ViewSame o.port2 o.rust2) X R k w
    → Scaled o.port3 o.rust3 k.state.unit (edit (only_if (not (same_scale k.scales.used (scale_entry w.rsp.texture_state.sc w.rsp.texture_state.tc))) (scale_entry w.rsp.texture_state.sc w.rsp.texture_state.tc ∷ [])) k.scales.used) (texcoords_then w.rsp.texture_state w.rsp.texcoords)
    → RowsSame o k.rows.used w.scene.columns → (first count : ℕ) (bytes : List ℕ) (at : ℕ) → Data bytes
    → Accepted (λ vs t e. Agrees (Same o) vs (enter t e k) (execute (load first count bytes at) w)) (plan family_of limit (load first count bytes at) k)
unfolding plan
load-scaled {X} {R} {o} {k} {w} N sc rs first count bytes p I =
    on-load _ f3dex2 256 k.state (load_of k) first count bytes p (λ _ n _. load-owes N sc rs first count bytes p I n)

-- a load of the domain
pub load-agrees : {o : Offsets} {k : Book} {w : World} → Same o k w → (first count : ℕ) (bytes : List ℕ) (at : ℕ) → Data bytes
    → Accepted (λ vs t e. Agrees (Same o) vs (enter t e k) (execute (load first count bytes at) w)) (plan family_of limit (load first count bytes at) k)
load-agrees {o} {k} {w} N first count bytes p I = load-scaled N (scales-loaded N.held.scales w.rsp.texture_state N.modes.settings.small.0 N.modes.settings.small.1) N.held.rows first count bytes p I
