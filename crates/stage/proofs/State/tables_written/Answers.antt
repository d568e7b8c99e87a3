use Prim.Native.Nat.{◌+◌}
use mir.Syntax.{w16}
use mir.Facts.{to_z-of_z}
use mir.Val.{SFits}
use borrow.Author.Rules.{rules}
use Rattle.stage.specs.Load.{load_edits}
use Rattle.stage.proofs.Settling.{put_count, put-area}
use Rattle.stage.proofs.State.tables_written.Goals as goal

pub put_if-n6-requires : goal.put_if-n6-requires
put_if-n6-requires c = c.requires.0.fogs

pub shape_of-matrices : goal.shape_of-matrices
shape_of-matrices c = c.put_if-n1.auto.area

pub shape_of-scales : goal.shape_of-scales
shape_of-scales c = c.put_if-n3.auto.area

pub returns : goal.returns
unfolding load_edits
returns c =
    let d = c.args.d in
    let s = c.args.self in
    let n = c.args.count in
    let a = c.put_if-n1.ensures in
    let b = c.put_if-n3.ensures in
    let l = rw c.from_flat-m.ensures at c.lights_if-n4.ensures in
    let o = rw c.from_flat-m.ensures at c.lookat_if-n5.ensures in
    let m : SFits w16 s.fogmul = search rules in
    let k : SFits w16 s.fogoff = search rules in
    let f = rw (to_z-of_z m, to_z-of_z k) at c.put_if-n6.ensures in
    record {
      counts = λ i. record {
        matrices = put_count d.newmatrix _ _ _ _ _ _ a i;
        viewports = s.counts.viewports;
        scales = put_count d.newscale _ _ _ _ _ _ b i;
        lights = put_count d.newlights _ _ _ _ _ _ l i;
        lookats = put_count d.newlookat _ _ _ _ _ _ o i;
        fogs = put_count d.newfog _ _ _ _ _ _ f i;
        rows = s.counts.rows + n;
        indices = s.counts.indices;
        runs = s.counts.runs;
      };
      matrices = put-area d.newmatrix _ _ _ _ _ _ a;
      scales = put-area d.newscale _ _ _ _ _ _ b;
      lights = put-area d.newlights _ _ _ _ _ _ l;
      lookats = put-area d.newlookat _ _ _ _ _ _ o;
      fogs = put-area d.newfog _ _ _ _ _ _ f;
    }
