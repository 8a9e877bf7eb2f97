use Rattle.ci_segment.proofs.CheckLemmas.{IsReadTo}
use Rattle.ci_segment.proofs.read.check_items.Given as goal

abbrev pub invariant-loop-at : goal.invariant-loop-at
invariant-loop-at l = IsReadTo l.count l.table l.bytes l.at l.before l.rest
