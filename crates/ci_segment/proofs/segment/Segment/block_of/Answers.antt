use Rattle.std.proofs.Common.{◌+◌, ◌-◌, ◌/◌, refl}
use Rattle.ci_segment.proofs.SeekLemmas.{narrow_on}
use Rattle.ci_segment.proofs.segment.Segment.block_of.Goals as goal

pub loop-low-preserved : goal.loop-low-preserved
loop-low-preserved g c =
    narrow_on c.args.self.now c.args.key.now c.args.steps.now c.loop-low.steps c.begins_above-above.new.steps c.loop-low.low c.loop-low.high (c.loop-low.low + (c.loop-low.high - c.loop-low.low) / 2)
    c.halves-next.result.0 c.halves-next.result.1 c.begins_above-above.result c.loop-low.invariant c.loop-low-test.true refl c.begins_above-above.ensures.above c.begins_above-above.ensures.step c.halves-next.ensures.low c.halves-next.ensures.high
