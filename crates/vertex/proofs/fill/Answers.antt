use native.Mathlib.Omega.{arith}
use mathlib.Core.Bool.{true, false}
use mathlib.Core.Path.{◌≡◌, refl, ap, subst}
use Prim.Native.Nat.{ℕ, ◌+◌}
use Rattle.std.specs.Prelude.{is_some, unwrap_or}
use Rattle.matrix.specs.Math as math
use Rattle.matrix.proofs.Constants.{zero64}
use Rattle.areas.specs.Widths.{float_width, word_width}
use Rattle.areas.proofs.Tables.{length-write}
use Rattle.vertex.specs.declared.Slot.{Slot}
use Rattle.vertex.specs.Vertices.{floats_of, words_of}
use Rattle.vertex.specs.Steps.{slot_at_turn, Laid, Marked}
use Rattle.vertex.proofs.Believe.{floats-size, words_size}
use Rattle.vertex.proofs.Turns.{turned, rowed, laid_none, marked-none}
use Rattle.vertex.proofs.fill.Goals as goal

pub loop-i-init : goal.loop-i-init
loop-i-init c = (omega arith, laid_none _ _ _ _ _ _ _ _ _ _ _ _, marked-none _ _ _ _ _ _, refl, refl)

pub loop-i-preserved : goal.loop-i-preserved
loop-i-preserved c =
    let l = c.loop-i in
    let a = c.args in
    let h = l.invariant.1 in
    let u = l.invariant.2 in
    let y = c.lay-s.ensures in
    let v = slot_at_turn a.m a.e a.«data».now a.at in
    let d = rowed floats_of float_width a.n floats-size a.«data».now a.at l.i a.floats.now h.floats y.0 in
    let w = rowed (words_of a.e) word_width a.n (words_size a.e) a.«data».now a.at l.i a.words.now h.words y.1 in (
      omega arith,
      record {
        floats = d;
        words = w;
        codeds = turned (λ (i : ℕ). is_some (v i).code) a.coded.now a.first l.i h.codeds (ap (λ (s : Slot). is_some s.code) y.2) (rw c.is_some.ensures);
        codes = turned (λ (i : ℕ). unwrap_or (v i).code 0) a.code.now a.first l.i h.codes (ap (λ (s : Slot). unwrap_or s.code 0) y.2) (rw c.unwrap_or.ensures);
        deeps = turned (λ (i : ℕ). is_some (v i).z) a.deep.now a.first l.i h.deeps (ap (λ (s : Slot). is_some s.z) y.2) (rw c.is_some-in-loop-i.ensures);
        zs = turned (λ (i : ℕ). unwrap_or (v i).z math.zero) a.z.now a.first l.i h.zs (ap (λ (s : Slot). unwrap_or s.z math.zero) y.2) (rw (c.unwrap_or-in-loop-i.ensures, zero64));
      },
      record {
        rows = turned (λ (i : ℕ). a.n + i) a.row.now a.first l.i u.rows refl refl;
        evers = turned (λ (i : ℕ). true) a.ever.now a.first l.i u.evers refl refl;
        loadeds = turned (λ (i : ℕ). true) a.loaded.now a.first l.i u.loadeds refl refl;
        drawns = turned (λ (i : ℕ). false) a.drawn.now a.first l.i u.drawns refl refl;
      },
      rw (d, length-write),
      rw (w, length-write),
    )

pub returns : goal.returns
returns c =
    let a = c.args in
    let l = c.loop-i in
    let e : l.i ≡ a.count = omega (arith, c.loop-i-test.false, l.invariant.0) in
    subst (λ (i : ℕ). Laid a.m a.e a.«data».now a.at a.first a.n i a.floats.now a.words.now a.coded.now a.code.now a.deep.now a.z.now l.floats l.words l.coded l.code l.deep l.z × Marked a.first a.n i a.row.now a.ever.now a.loaded.now a.drawn.now l.row l.ever l.loaded l.drawn) e (l.invariant.1, l.invariant.2)
