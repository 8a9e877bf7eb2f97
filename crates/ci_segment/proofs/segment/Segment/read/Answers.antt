use Rattle.std.proofs.Common.{Err, ap, sym, ◌∙◌}
use Rattle.ci_segment.specs.SegmentReading.{segment_of}
use Rattle.ci_segment.proofs.LayoutLemmas.{not_segment}
use Rattle.ci_segment.proofs.ReadLemmas.{fault_in}
use Rattle.ci_segment.proofs.segment.Segment.read.Goals as goal

pub returns-in-Err-clause-bad : goal.returns-in-Err-clause-bad
returns-in-Err-clause-bad c =
    λ bad items is e. not_segment c.args.bytes (ap segment_of (sym c.items.ensures) ∙ c.in-Err.ensures.bad (ap (λ r. Err (fault_in c.in-Err.fault r)) bad)) items is e
