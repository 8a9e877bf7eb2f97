use Rattle.std.proofs.Common.{◌≡◌, List, subst}
use Rattle.ci_segment.specs.Segment.{AreSegmentKeys, Item}
use Rattle.ci_segment.specs.SegmentReading.{items_in, segment_of}
use Rattle.ci_segment.proofs.OrderLemmas.{are_keys}
use Rattle.ci_segment.proofs.segment.Segment.len.Goals as goal

pub returns-clause-keys : goal.returns-clause-keys
returns-clause-keys c =
    let same : items_in (segment_of c.self.inside.bytes) ≡ c.args.self.now = cc c.self.view_is in
    subst (λ (v : List Item). AreSegmentKeys v) same (are_keys (items_in (segment_of c.self.inside.bytes)) c.self.invariant.is)
