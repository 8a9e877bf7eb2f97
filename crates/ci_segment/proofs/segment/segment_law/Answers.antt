use Rattle.ci_segment.proofs.SegmentLemmas.{one_segment}
use Rattle.ci_segment.proofs.segment.segment_law.Goals as goal

pub returns : goal.returns
returns c = one_segment
