use Rattle.std.proofs.Common.{◌≡◌, ◌<◌, ◌≤◌, ◌*◌, ◌+◌, List, ap, arith, drop, get_or, length, subst, sym, ◌∙◌}
use Rattle.ci_segment.specs.Segment.{Item, blocks}
use Rattle.ci_segment.specs.SegmentReading.{items_in, segment_of}
use Rattle.ci_segment.specs.Tail.{tail_at}
use Rattle.ci_segment.proofs.LayoutLemmas.{block_place, block_tail}
use Rattle.ci_segment.proofs.SegmentLemmas.{count_offsets}
use Rattle.ci_segment.proofs.segment.Segment.from_block.Goals as goal

pub tail_of-requires-clause-block : goal.tail_of-requires-clause-block
tail_of-requires-clause-block c =
    let same : items_in (segment_of c.self.inside.bytes) ≡ c.args.self.now = cc c.self.view_is in
    let size : length c.as_slice.result.now ≡ blocks (length c.args.self.now) =
    ap length (c.as_slice.ensures.value ∙ c.self.invariant.begin) ∙ count_offsets (items_in (segment_of c.self.inside.bytes)) ∙ ap (λ v. blocks (length v)) same in
    omega (arith, size, c.requires)

pub tail_of-requires-clause-within : goal.tail_of-requires-clause-within
tail_of-requires-clause-within c =
    let same : items_in (segment_of c.self.inside.bytes) ≡ c.args.self.now = cc c.self.view_is in
    let few : c.args.block < blocks (length (items_in (segment_of c.self.inside.bytes))) = subst (λ (v : List Item). c.args.block < blocks (length v)) (sym same) c.requires in
    let place = block_place (items_in (segment_of c.self.inside.bytes)) c.self.inside.bytes c.self.inside.table.items c.self.inside.count c.self.inside.body c.args.block c.self.invariant few in
    subst (λ b. c.self.inside.body + get_or c.as_slice.result.now c.args.block 0 ≤ length b) (sym c.items-bytes.ensures) (subst (λ t. c.self.inside.body + get_or t c.args.block 0 ≤ length c.self.inside.bytes) (sym c.as_slice.ensures.value) place)

pub returns-clause-bytes : goal.returns-clause-bytes
returns-clause-bytes c =
    let same : items_in (segment_of c.self.inside.bytes) ≡ c.args.self.now = cc c.self.view_is in
    let few : c.args.block < blocks (length (items_in (segment_of c.self.inside.bytes))) = subst (λ (v : List Item). c.args.block < blocks (length v)) (sym same) c.requires in
    c.tail_of.ensures ∙ ap (λ b. drop (c.self.inside.body + get_or c.as_slice.result.now c.args.block 0) b) c.items-bytes.ensures
    ∙ ap (λ t. drop (c.self.inside.body + get_or t c.args.block 0) c.self.inside.bytes) c.as_slice.ensures.value
    ∙ block_tail (items_in (segment_of c.self.inside.bytes)) c.self.inside.bytes c.self.inside.table.items c.self.inside.count c.self.inside.body c.args.block c.self.invariant few
    ∙ ap (λ v. tail_at v (16 * c.args.block)) same
