use Rattle.std.proofs.Common.{◌≡◌, ◌*◌, ◌+◌, ◌/◌}
use Rattle.ci_segment.specs.Tail.{tail_at}
use Rattle.ci_segment.proofs.segment.Segment.postings_at.Given as goal

abbrev pub invariant-loop : goal.invariant-loop
invariant-loop l = l.rest ≡ tail_at l.self (16 * (l.index / 16) + l.counter)
