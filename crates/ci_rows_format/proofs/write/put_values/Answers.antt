use Rattle.std.proofs.Common.{◌<◌, ◌^◌, length}
use Rattle.ci_base.specs.Varint.{varint}
use Rattle.ci_rows_format.specs.Rows.{IsHeld, value_bytes}
use Rattle.ci_rows_format.proofs.WriteLemmas.{written_more, all_more}
use Rattle.ci_rows_format.proofs.write.put_values.Goals as goal

pub loop-property-preserved : goal.loop-property-preserved
loop-property-preserved c = (
  written_more value_bytes c.args.out.now.items (varint (length c.args.values.now)) c.loop-property.out.items c.put_value.new.out.items c.args.values.now c.loop-property.property-index c.loop-property-item.result c.loop-property-test.true c.loop-property-item.is c.loop-property.invariant.0 c.in_ok-put_value.ensures.bytes,
  all_more (λ value. (value.0.0 < 2 ^ 16) × IsHeld value.1) c.args.values.now c.loop-property.property-index c.loop-property-item.result c.loop-property-test.true c.loop-property-item.is c.loop-property.invariant.1 (c.in_ok-put_value.ensures.range, c.in_ok-put_value.ensures.held),
)
