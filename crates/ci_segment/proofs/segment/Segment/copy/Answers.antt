use Rattle.std.proofs.Common.{◌≡◌, ap, subst, sym, ◌∙◌}
use Rattle.ci_segment.specs.SegmentReading.{IsLaidOut, items_in, segment_of}
use Rattle.ci_segment.proofs.segment.Segment.copy.Goals as goal

pub invariant_of-result : goal.invariant_of-result
invariant_of-result c =
    subst (λ t. IsLaidOut (items_in (segment_of c.in_ok-bytes.bytes)) c.in_ok-bytes.bytes t c.self.inside.count c.self.inside.body) (sym (c.in_ok-table.ensures.items ∙ c.as_slice.ensures.value))
    (subst (λ b. IsLaidOut (items_in (segment_of b)) b c.self.inside.table.items c.self.inside.count c.self.inside.body) (sym c.in_ok-bytes.ensures) c.self.invariant)

pub returns : goal.returns
returns c =
    let same : items_in (segment_of c.self.inside.bytes) ≡ c.args.self.now = cc c.self.view_is in
    ap (λ b. items_in (segment_of b)) c.in_ok-bytes.ensures ∙ same
