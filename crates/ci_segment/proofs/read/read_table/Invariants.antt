use Rattle.std.proofs.Common.{◌≡◌, ◌-◌}
use Rattle.ci_front.specs.Front.{many_at, u32_at}
use Rattle.ci_front.proofs.CodeLemmas.{with_front}
use Rattle.ci_segment.proofs.read.read_table.Given as goal

abbrev pub invariant-loop : goal.invariant-loop
invariant-loop l = with_front l.table.items (many_at u32_at (l.count - l.counter) l.rest) ≡ many_at u32_at l.count l.bytes
