use Rattle.ci_volume.proofs.Fields.{slot_reads}
use Rattle.ci_volume.proofs.slot_bytes.write_slot.Goals as goal

pub returns-clause-read : goal.returns-clause-read
returns-clause-read c = slot_reads c.args.slot (record {
  generation = c.write_front.ensures.fits.0;
  pages = c.write_front.ensures.fits.1;
  root = c.write_back.ensures.fits.0;
  length = c.write_back.ensures.fits.1;
})
