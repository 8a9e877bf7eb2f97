use Rattle.std.proofs.Common.{◌≡◌, ◌*◌, ◌+◌}
use Rattle.ci_segment.specs.Tail.{tail_at}
use Rattle.ci_segment.proofs.WalkLemmas.{IsPastTo}
use Rattle.ci_segment.proofs.segment.Segment.walk.Given as goal

abbrev pub invariant-loop-at : goal.invariant-loop-at
invariant-loop-at g l = record {
  here : l.rest ≡ tail_at l.self l.at;
  past : IsPastTo l.self l.key (l.block * 16) l.at l.same;
  cost : l.steps + l.block * 16 ≡ l.fn.steps + l.at;
}
