use Rattle.std.proofs.Common.{◌-◌}
use Rattle.ci_segment.proofs.SeekLemmas.{IsNarrowed}
use Rattle.ci_segment.proofs.segment.Segment.block_of.Given as goal

abbrev pub invariant-loop-low : goal.invariant-loop-low
invariant-loop-low g l = IsNarrowed l.self l.key l.fn.steps l.steps l.low l.high

abbrev pub decreases-loop-low : goal.decreases-loop-low
decreases-loop-low g l = l.high - l.low
