use Rattle.std.proofs.Common.{◌∙◌}
use Rattle.ci_segment.specs.SegmentReading.{fields_in}
use Rattle.ci_segment.proofs.SeekLemmas.{begins, block_some}
use Rattle.ci_segment.proofs.segment.Segment.begins_above.Goals as goal

pub front_key-requires : goal.front_key-requires
front_key-requires g c = block_some c.args.self.now c.args.block c.from_block.result.now c.from_block.ensures.grammar c.requires c.from_block.ensures.bytes

pub returns-clause-above : goal.returns-clause-above
returns-clause-above g c = λ item there.
    c.is_above.ensures ∙ begins c.args.self.now c.args.key.now c.args.block c.from_block.result.now (fields_in c.front_key.result.0) c.front_key.result.1.now c.compare-order.result.0
    c.from_block.ensures.grammar c.requires c.from_block.ensures.bytes c.front_key.ensures c.compare-order.ensures.order item there
