use Rattle.std.proofs.Common.{◌*◌, ◌+◌, ◌/◌}
use Rattle.ci_segment.proofs.PlaceLemmas.{IsWalked}
use Rattle.ci_segment.proofs.segment.Segment.key_at.Given as goal

abbrev pub invariant-loop : goal.invariant-loop
invariant-loop l = IsWalked l.self (16 * (l.index / 16)) (16 * (l.index / 16) + l.counter) l.rest l.property l.word.items
