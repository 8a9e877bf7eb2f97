use Rattle.ci_part.proofs.RowsLemmas.{AreRowsBefore}
use Rattle.ci_part.proofs.view.View.rows.Given as goal

abbrev pub invariant-loop-at : goal.invariant-loop-at
invariant-loop-at l = AreRowsBefore l.self l.at l.all.items
