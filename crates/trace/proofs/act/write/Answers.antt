-- `trace::act::write` meets its contract. Assumes nothing.
use mir.Syntax.{w16}
use Rattle.layout.proofs.Signed.{handed}
use Rattle.trace.specs.Acts.{written_to}
use Rattle.trace.proofs.act.write.Goals as goal

pub returns : goal.returns
unfolding written_to
returns c = record {
  fogs_after = rw (c.write_at.ensures, c.writes_to.ensures, handed w16 c.signed_half-half.type_inv c.signed_half-half.ensures, c.half.ensures);
  words_after = rw (c.write_at-2.ensures, c.writes_to-2.ensures);
  indices_after = rw (c.write_at-3.ensures, c.writes_to-3.ensures);
  runs_after = rw (c.write_at-4.ensures, c.writes_to-4.ensures);
}
