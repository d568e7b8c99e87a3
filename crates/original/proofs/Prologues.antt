-- The prologue, from the start: after it the two sides are the same; and demand 2. Assumes nothing.
use mathlib.Core.Path.{◌≡◌, refl, sym, ap, ◌∙◌, subst}
use Prim.Native.Nat.{ℕ, ◌+◌}
use native.Mathlib.Omega.{arith}
use mathlib.Core.Bool.{false, not}
use mathlib.Core.List.{List, [], ◌∷◌, ◌++◌}
use lib.ListN.{length, length-append, length-map}
use lib.Ieee.{Float}
use Rattle.decide.specs.Family.{f3dex2, family_of}
use Rattle.stage.specs.declared.settings.Microcode.{Microcode}
use Rattle.stage.specs.Sound.{limit}
use Rattle.fold.specs.Scales.{scale_entry, same_scale}
use Rattle.stage.specs.declared.State.{State}
use Rattle.stage.specs.Plan.{Edits, Plan, refuse, does, only_if}
use Rattle.stage.specs.Load.{settled, load_edits}
use Rattle.sequence.specs.Sequence.{Command, pop, matrix, viewport, geometry, texture, fog, number, light, lookat, load, Areas, Book, book, load_of, plan, run}
use Rattle.sequence.proofs.Turn.{edit, turn, course}
use Rattle.sequence.proofs.Held.{run-book}
use Rattle.sequence.proofs.Accepts.{Accepted, on-load}
use Rattle.original.specs.Rsp.{TextureState, default}
use Rattle.original.specs.Walk.{World, Went, begun, execute}
use Rattle.original.specs.Relation.{Offsets, Meets, joined, ViewSame, Near, Same}
use Rattle.original.specs.Domain.{Data, IsDone, ours, AllWithin, Walked, Prologue, prologue, stage, port_scales, rust_scales, before, OneMore, opened_as, Demand2, BeforeIs}
use Rattle.original.specs.Drawing.{Result, Ok, Err, texcoords_then}
use Rattle.original.proofs.Corners.{corners-same}
use Rattle.original.proofs.Views.{length-fours}
use Rattle.original.proofs.Ours.{sent-rest}
use Rattle.original.proofs.Settings.{texture-agrees, fog-agrees, number-agrees, light-agrees, lookat-agrees, geometry-agrees}
use Rattle.original.proofs.Combined.{matrix-agrees, pop-agrees}
use Rattle.original.proofs.Loads.{Scaled, load-scaled}
use Rattle.original.proofs.Follows.{Owed, DoneFrom, tellings, on-books, Stepped, stepped, Follows, follows-none, follows-more, follows}
use Rattle.original.proofs.Starts.{Any, Geometry0, View0, Scale0, Rows0, begun-book, begun-is, start-near, View1, viewport-begins, geometry-begins, scale-count, scales-begun, rows-begun}

-- the texture settings that a command leaves the original with
abbrev textured : Result Went → TextureState
textured (Ok g) = g.world.rsp.texture_state
textured (Err d) = default.texture_state

-- the two sides at the end of the prologue
abbrev pub Ended : Offsets → Book → World → Type 0
Ended o k w = Same o k w × OneMore o k w

-- where the stage has one entry more, so has the original
also_one : {a b : ℕ} {t u : List (List Float)} → Meets a b t u → length t ≡ a + 1 → length u ≡ b + 1
also_one {a} {b} {t} {u} M h =
    let p : length t ≡ length M.before + length M.since = ap length M.port_is ∙ length-append M.before M.since in
    let q : length u ≡ length M.under + length M.since = ap length M.rust_is ∙ length-append M.under M.since in
    omega (arith, M.port_size, M.rust_size)

ended : (o : Offsets) (k : Book) (w : World) → Same o k w → length k.viewports.used ≡ o.port2 + 1 → length k.scales.used ≡ o.port3 + 1 → Ended o k w
ended o k w S a b =
    let x = w.rsp.texcoords in (
      S,
      record {
        port2 = a;
        rust2 = sym (length-map w.rsp.viewports.viewport_table joined) ∙ also_one S.space.view.table a;
        port3 = b;
        rust3 = sym (length-fours x.texcoord_table x.texgen_scale_table S.held.scales.beside) ∙ also_one S.held.scales.table b;
      },
    )

-- ---- the steps after the geometry mode, last to first, for any T that the commands after the prologue lead to from its end

module _ (p : Prologue) (rest : List Command) (T : Book → World → Type 0) (onward : (k : Book) (w : World) → Ended (before p) k w → AllWithin rest → DoneFrom rest k → Follows T rest k w) where
  abbrev o : Offsets
  o = before p

  -- the prologue's texture settings
  abbrev own : TextureState
  own = record { tile = p.tile; level = p.level; on = p.on; sc = p.sc; tc = p.tc }

  -- viewport, geometry mode and matrices are set; and the texture is too
  abbrev Set : Book → World → Type 0
  Set k w = Near ◌≡◌ ◌≡◌ (View1 p.viewport) Scale0 Rows0 k w

  abbrev Ready : Book → World → Type 0
  Ready k w = Set k w × (w.rsp.texture_state ≡ own)

  ready : (c : Command) (k : Book) (w : World) → Owed Set c k w → IsDone (stage c k) → textured (execute c w) ≡ own → Stepped Ready c k w
  ready c k w a d e =
      let s = stepped Set c k w a d in
      record { went = s.went; is = s.is; values = s.values; after = (s.after, sym (ap textured s.is) ∙ e) }

  -- what is owed of the commands cs then
  abbrev Rest : List Command → Type 0
  Rest cs = (k : Book) (w : World) → Ready k w → AllWithin cs → DoneFrom cs k → Follows T cs k w

  -- a setting that keeps what is said, and then the rest
  then : (c : Command) → ours c ≡ false → (cs : List Command) → Rest cs → (k : Book) (w : World) → Stepped Ready c k w → AllWithin cs → DoneFrom cs (turn (stage c k) k) → Follows T (c ∷ cs) k w
  then c q cs f k w s h d = follows-more T Ready c q cs k w s (λ v M. f (turn (stage c k) k) v M h d)

  -- the vertex
  abbrev vertex : Command
  vertex = load p.slot 1 p.vertex.bytes p.vertex.at

  module _ (k : Book) (w : World) (N : Ready k w) where
    -- the entry that it makes, and table 3 with it
    abbrev e : List Float
    e = scale_entry w.rsp.texture_state.sc w.rsp.texture_state.tc

    abbrev scales : List (List Float)
    scales = edit (only_if (not (same_scale k.scales.used e)) (e ∷ [])) k.scales.used

    scaled : Scaled o.port3 o.rust3 k.state.unit scales (texcoords_then w.rsp.texture_state w.rsp.texcoords)
    scaled =
        let h = N.0.held.scales in
        subst (λ (y : TextureState). Scaled (port_scales y.sc y.tc) (rust_scales y.sc y.tc) k.state.unit scales (texcoords_then w.rsp.texture_state w.rsp.texcoords)) N.1
        (rw (h.0, h.1, h.2) (scales-begun w.rsp.texture_state N.0.modes.settings.small.0 N.0.modes.settings.small.1))

    -- the count of table 2 left out
    viewed : Near ◌≡◌ ◌≡◌ (ViewSame o.port2 o.rust2) Scale0 Rows0 k w
    viewed =
        let s = N.0.space in
        record { count = N.0.count; modes = N.0.modes; space = record { matrices = s.matrices; defined = s.defined; view = s.view.0 }; held = N.0.held }

    vertex-owed : Data p.vertex.bytes → Owed (Same o) vertex k w
    vertex-owed I = load-scaled viewed scaled (rows-begun o k.rows.used w.scene.columns N.0.held.rows) p.slot 1 p.vertex.bytes p.vertex.at I

    -- what is in use of tables 2 and 3 after the vertex
    scale_one : length scales ≡ o.port3 + 1
    scale_one = subst (λ (y : TextureState). length scales ≡ port_scales y.sc y.tc + 1) N.1 (rw N.0.held.scales.1 (scale-count w.rsp.texture_state N.0.modes.settings.small.0 N.0.modes.settings.small.1))

    abbrev Counts : List ℕ → State → Edits → Type 0
    Counts vs t d = (length (edit d.viewports k.viewports.used) ≡ o.port2 + 1) × (length (edit d.scales k.scales.used) ≡ o.port3 + 1)

    vertex-counts : Accepted Counts (stage vertex k)
    unfolding plan load_edits settled
    vertex-counts = on-load _ f3dex2 256 k.state (load_of k) p.slot 1 p.vertex.bytes p.vertex.at (λ _ _ _. (N.0.space.view.1, rw N.0.modes.settings.texture scale_one))

    vertex-ends : Data p.vertex.bytes → IsDone (stage vertex k) → Stepped (Ended o) vertex k w
    unfolding turn Accepted
    vertex-ends I d =
        let s = stepped (Same o) vertex k w (vertex-owed I) d in
        let n = counts (stage vertex k) vertex-counts d in
        record { went = s.went; is = s.is; values = s.values; after = ended o (turn (stage vertex k) k) s.went.world s.after n.0 n.1 }
      where
        counts : (q : Plan) → Accepted Counts q → IsDone q → (length (turn q k).viewports.used ≡ o.port2 + 1) × (length (turn q k).scales.used ≡ o.port3 + 1)
        counts (refuse n vs) h i = absurd i
        counts (does vs t d) h i = h

  rest-vertex : Rest (vertex ∷ rest)
  rest-vertex k w N h d = follows-more T (Ended o) vertex refl rest k w (vertex-ends k w N h.0 d.0) (λ v E. onward (turn (stage vertex k) k) v E h.1 d.1)

  rest-lookat : (i : ℕ) (cs : List Command) → Rest cs → Rest (lookat i (p.lookat i).bytes (p.lookat i).at ∷ cs)
  unfolding execute
  rest-lookat i cs f k w N h d = then _ refl cs f k w (ready _ k w (lookat-agrees N.0 i (p.lookat i).bytes (p.lookat i).at h.0) d.0 N.1) h.1 d.1

  rest-light : (i : ℕ) (cs : List Command) → Rest cs → Rest (light i (p.light i).bytes (p.light i).at ∷ cs)
  unfolding execute
  rest-light i cs f k w N h d = then _ refl cs f k w (ready _ k w (light-agrees N.0 i (p.light i).bytes (p.light i).at h.0) d.0 N.1) h.1 d.1

  rest-number : (cs : List Command) → Rest cs → Rest (number 168 ∷ cs)
  unfolding execute
  rest-number cs f k w N h d = then _ refl cs f k w (ready _ k w (number-agrees N.0 168) d.0 N.1) h.1 d.1

  rest-fog : (cs : List Command) → Rest cs → Rest (fog p.multiplier p.offset ∷ cs)
  unfolding execute
  rest-fog cs f k w N h d = then _ refl cs f k w (ready _ k w (fog-agrees N.0 p.multiplier p.offset) d.0 N.1) h.1 d.1

  -- all from texture on
  abbrev lookats : List Command
  lookats = lookat 0 (p.lookat 0).bytes (p.lookat 0).at ∷ lookat 1 (p.lookat 1).bytes (p.lookat 1).at ∷ vertex ∷ rest

  abbrev lights_from : List Command
  lights_from =
      light 0 (p.light 0).bytes (p.light 0).at
      ∷ light 1 (p.light 1).bytes (p.light 1).at
      ∷ light 2 (p.light 2).bytes (p.light 2).at
      ∷ light 3 (p.light 3).bytes (p.light 3).at
      ∷ light 4 (p.light 4).bytes (p.light 4).at
      ∷ light 5 (p.light 5).bytes (p.light 5).at
      ∷ light 6 (p.light 6).bytes (p.light 6).at
      ∷ light 7 (p.light 7).bytes (p.light 7).at
      ∷ lookats

  abbrev lit : List Command
  lit = fog p.multiplier p.offset ∷ number 168 ∷ lights_from

  rest-lit : Rest lit
  rest-lit =
      rest-fog _
      (rest-number _
      (rest-light 0 _
      (rest-light 1 _
      (rest-light 2 _ (rest-light 3 _ (rest-light 4 _ (rest-light 5 _ (rest-light 6 _ (rest-light 7 _ (rest-lookat 0 _ (rest-lookat 1 _ rest-vertex)))))))))))

  abbrev settings : List Command
  settings = texture p.tile p.level p.on p.sc p.tc ∷ lit

  from-texture : (k : Book) (w : World) → Set k w → AllWithin settings → DoneFrom settings k → Follows T settings k w
  unfolding execute
  from-texture k w N h d = then _ refl lit rest-lit k w (ready _ k w (texture-agrees N p.tile p.level p.on p.sc p.tc h.0) d.0 refl) h.1 d.1

  -- ---- the steps before them: the viewport, and the geometry mode whole

  abbrev Turned : Book → World → Type 0
  Turned = Near ◌≡◌ Geometry0 View0 Scale0 Rows0

  abbrev seen : List Command
  seen = viewport p.viewport.bytes p.viewport.at ∷ geometry 0 p.geometry ∷ settings

  from-viewport : (k : Book) (w : World) → Turned k w → AllWithin seen → DoneFrom seen k → Follows T seen k w
  from-viewport k w N h d =
      follows-more T (Near ◌≡◌ Geometry0 (View1 p.viewport) Scale0 Rows0) (viewport p.viewport.bytes p.viewport.at) refl _ k w
      (stepped _ _ k w (viewport-begins N p.viewport h.0) d.0)
      (λ v M.
      let k₁ : Book = turn (stage (viewport p.viewport.bytes p.viewport.at) k) k in
      let g = geometry-begins k₁.state.geometry v.rsp.geom p.geometry M.modes.settings.geometry in
      follows-more T Set (geometry 0 p.geometry) refl _ k₁ v
      (stepped Set (geometry 0 p.geometry) k₁ v (geometry-agrees M ◌≡◌ 0 p.geometry g.0 g.1) d.1.0)
      (λ u S. from-texture (turn (stage (geometry 0 p.geometry) k₁) k₁) u S h.1.1 d.1.1))

  -- FROM THE START, THROUGH THE PROLOGUE, FOR EVERY LIST OF COMMANDS AFTER IT
  pub begins : (u : Microcode) (l : Areas) → AllWithin (prologue p ++ rest) → DoneFrom (prologue p ++ rest) (begun-book u l) → Follows T (prologue p ++ rest) (begun-book u l) (begun u)
  begins u l h d =
      follows-more T (Near Any Geometry0 View0 Scale0 Rows0) (pop 32) refl _ (begun-book u l) (begun u)
      (stepped _ (pop 32) (begun-book u l) (begun u) (pop-agrees (start-near u l) (λ _ _ _. tt) 32) d.0)
      (λ v M.
      follows-more T Turned (matrix 2 p.modelview.bytes p.modelview.at) refl _ _ v
      (stepped Turned _ _ v (matrix-agrees M 2 p.modelview.bytes p.modelview.at h.1.0) d.1.0)
      (λ x L.
      follows-more T Turned (matrix 6 p.projection.bytes p.projection.at) refl _ _ x
      (stepped Turned _ _ x (matrix-agrees L 6 p.projection.bytes p.projection.at h.1.1.0) d.1.1.0)
      (λ y S. from-viewport _ y S h.1.1.1 d.1.1.1)))

-- DEMAND 2
pub equals-original : Demand2
equals-original u l h p cs i d =
    let b = begun-is u l h in
    let k = on-books (prologue p ++ cs) (opened_as u l) b.0 d in
    let f = begins p cs (Same (before p)) (λ k w E. follows (before p) cs k w E.0) u l i (subst (DoneFrom (prologue p ++ cs)) b.1 k.0) in
    let m = subst (λ (k : Book). Same (before p) k f.walked.world) (sym ((run-book family_of limit (prologue p ++ cs) (opened_as u l) b.0).1 ∙ ap (course stage (prologue p ++ cs)) b.1)) f.after in
    record {
      walked = f.walked;
      is = f.is;
      values = k.1 ∙ ap (tellings (prologue p ++ cs)) b.1 ∙ f.values;
      after = m;
      corners = corners-same m;
      unmoved = sent-rest (prologue p ++ cs) (opened_as u l);
    }

-- WHAT `before` COUNTS
pub before-is : BeforeIs
before-is u l h p i d r e =
    let b = begun-is u l h in
    let k = on-books (prologue p) (opened_as u l) b.0 d in
    let f = begins p [] (Ended (before p)) (λ k w E _ _. follows-none (Ended (before p)) k w E) u l i (subst (DoneFrom (prologue p)) b.1 k.0) in
    let m = subst (λ (k : Book). OneMore (before p) k f.walked.world) (sym ((run-book family_of limit (prologue p) (opened_as u l) b.0).1 ∙ ap (course stage (prologue p)) b.1)) f.after.1 in
    subst (λ (y : Walked). OneMore (before p) (book (run stage (prologue p) (opened_as u l))) y.world) (same-walk f.walked r (sym f.is ∙ e)) m
  where
    same-walk : (x y : Walked) → ◌≡◌ {A = Result Walked} (Ok x) (Ok y) → x ≡ y
    same-walk x y q = cc
