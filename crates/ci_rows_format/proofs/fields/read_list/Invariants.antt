use Rattle.std.proofs.Common.{◌≡◌, ◌-◌}
use Rattle.ci_front.specs.Front.{many_at}
use Rattle.ci_front.proofs.CodeLemmas.{with_front}
use Rattle.ci_rows_format.specs.Reading.{value_at}
use Rattle.ci_rows_format.proofs.fields.read_list.Given as goal

abbrev pub invariant-loop : goal.invariant-loop
invariant-loop l = with_front l.values.items (many_at value_at (l.count - l.counter) l.rest) ≡ many_at value_at l.count l.bytes
