use Rattle.std.proofs.Common.{ap, codes, length, refl, subst, sym, ◌++◌, ◌∙◌}
use Rattle.std.specs.Int.{w32, to_be_bytes}
use Rattle.std.specs.List.{flat_map}
use Rattle.ci_base.specs.Varint.{varint}
use Rattle.ci_segment.specs.SegmentReading.{IsLaidOut, items_in, segment_of}
use Rattle.ci_segment.proofs.LayoutLemmas.{built}
use Rattle.ci_segment.proofs.segment.Segment.build.Goals as goal

pub invariant_of-result : goal.invariant_of-result
invariant_of-result c =
    let one = c.as_slice.ensures.value in
    let two = c.as_slice-2.ensures.value in
    let made = built c.args.keys.now c.in_ok-bytes.bytes.items c.in_ok-table.table.items c.in_ok-table.items.items (length c.args.keys.now) c.in_ok-bytes.body c.requires c.put_segment.ensures.few
    c.in_ok-table.ensures.each c.in_ok-table.ensures.near refl c.in_ok-table.ensures.table c.in_ok-table.ensures.items
    (c.in_ok-bytes.ensures.bytes ∙ (λ i. codes "CIS1" ++ (varint (length c.args.keys.now) ++ (flat_map (to_be_bytes w32) (one i) ++ two i))))
    c.in_ok-bytes.ensures.body.0 (c.in_ok-bytes.ensures.body.1 ∙ two) in
    subst (λ b. IsLaidOut (items_in (segment_of b)) b c.in_ok-table.table.items (length c.args.keys.now) c.in_ok-bytes.body) (sym c.from.ensures) made.0

pub returns : goal.returns
returns c =
    let one = c.as_slice.ensures.value in
    let two = c.as_slice-2.ensures.value in
    let made = built c.args.keys.now c.in_ok-bytes.bytes.items c.in_ok-table.table.items c.in_ok-table.items.items (length c.args.keys.now) c.in_ok-bytes.body c.requires c.put_segment.ensures.few
    c.in_ok-table.ensures.each c.in_ok-table.ensures.near refl c.in_ok-table.ensures.table c.in_ok-table.ensures.items
    (c.in_ok-bytes.ensures.bytes ∙ (λ i. codes "CIS1" ++ (varint (length c.args.keys.now) ++ (flat_map (to_be_bytes w32) (one i) ++ two i))))
    c.in_ok-bytes.ensures.body.0 (c.in_ok-bytes.ensures.body.1 ∙ two) in
    ap (λ b. items_in (segment_of b)) c.from.ensures ∙ made.1
