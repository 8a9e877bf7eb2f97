use Rattle.std.proofs.Common.{◌≡◌, ap, length, ◌∙◌}
use Rattle.ci_segment.specs.Segment.{blocks}
use Rattle.ci_segment.specs.SegmentReading.{items_in, segment_of}
use Rattle.ci_segment.proofs.SegmentLemmas.{count_offsets}
use Rattle.ci_segment.proofs.segment.Segment.blocks.Goals as goal

pub returns-clause-count : goal.returns-clause-count
returns-clause-count c =
    let same : items_in (segment_of c.self.inside.bytes) ≡ c.args.self.now = cc c.self.view_is in
    ap length (c.as_slice.ensures.value ∙ c.self.invariant.begin) ∙ count_offsets (items_in (segment_of c.self.inside.bytes)) ∙ ap (λ v. blocks (length v)) same
