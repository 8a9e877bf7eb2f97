use Rattle.std.proofs.Common.{◌≡◌, ◌+◌, drop}
use Rattle.ci_segment.specs.Segment.{common}
use Rattle.ci_segment.proofs.fields.common.Given as goal

abbrev pub invariant-loop-same : goal.invariant-loop-same
invariant-loop-same l = common l.a l.b ≡ l.same + common (drop l.same l.a) (drop l.same l.b)
