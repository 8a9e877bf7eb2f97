use Rattle.std.proofs.Common.{ap, arith, length, sym, subst, ◌∙◌}
use Rattle.std.specs.Prelude.{IsSome}
use Rattle.ci_front.specs.Front.{many_at, u32_at}
use Rattle.ci_segment.specs.SegmentReading.{items_of}
use Rattle.ci_segment.proofs.LayoutLemmas.{layout_read, layout_short, table_long}
use Rattle.ci_segment.proofs.segment.read_layout.Goals as goal

pub check_items-requires : goal.check_items-requires
check_items-requires c =
    ap length c.as_slice.ensures.value ∙ table_long c.in_ok-count.count c.blocks-2.result c.in_ok-count.rest.now c.in_ok-table.table.items c.in_ok-table.body.now c.blocks-2.ensures c.in_ok-table.ensures

pub overflow_sub-result : goal.overflow_sub-result
overflow_sub-result c =
    layout_short c.args.bytes.now c.in_ok-rest.rest.now c.in_ok-count.rest.now c.in_ok-table.table.items c.in_ok-table.body.now c.in_ok-count.count c.blocks-2.result (λ i. omega (arith, c.type_inv.bytes i))
    c.in_ok-rest.ensures c.in_ok-count.ensures c.in_ok-table.ensures

pub returns-clause-ok : goal.returns-clause-ok
returns-clause-ok c =
    layout_read c.args.bytes.now c.in_ok-rest.rest.now c.in_ok-count.rest.now c.in_ok-table.table.items c.in_ok-table.body.now c.in_ok-count.count (λ i. omega (arith, c.type_inv.bytes i))
    c.in_ok-rest.ensures c.in_ok-count.ensures c.if-count-eq0.false (ap (λ n. many_at u32_at n c.in_ok-count.rest.now) (sym c.blocks-2.ensures) ∙ c.in_ok-table.ensures)
    (subst (λ t. IsSome (items_of c.in_ok-count.count t c.in_ok-table.body.now)) c.as_slice.ensures.value c.in_ok-check_items.ensures)
