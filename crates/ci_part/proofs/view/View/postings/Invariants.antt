use Rattle.ci_part.proofs.PostingsLemmas.{ArePostingsBefore}
use Rattle.ci_part.proofs.view.View.postings.Given as goal

abbrev pub invariant-loop-at : goal.invariant-loop-at
invariant-loop-at g l = ArePostingsBefore l.self l.key l.at l.all.items
