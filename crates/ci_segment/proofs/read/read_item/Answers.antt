use Rattle.ci_segment.specs.SegmentReading.{fields_in}
use Rattle.ci_segment.proofs.ItemLemmas.{item_read}
use Rattle.ci_segment.proofs.read.read_item.Goals as goal

pub returns-clause-ok : goal.returns-clause-ok
returns-clause-ok c =
    item_read (record { at = c.args.at; before = c.args.before.now }) c.args.bytes.now (fields_in c.in_ok-fields.fields) c.in_ok-fields.rest.now c.in_ok-key.key c.in_ok-fields.ensures
    c.in_ok-key.ensures.ok.0 c.in_ok-key.ensures.ok.1 c.in_ok-check_postings.ensures.ok
