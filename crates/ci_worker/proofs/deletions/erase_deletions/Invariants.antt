use Rattle.std.proofs.Common.{drop}
use Rattle.ci_worker.proofs.ErasingLemmas.{Erasing}
use Rattle.ci_worker.proofs.deletions.erase_deletions.Given as goal

abbrev pub invariant-loop-notice : goal.invariant-loop-notice
invariant-loop-notice g l = Erasing l.fn.by l.fn.catalog l.catalog (drop l.notice-index l.notice-items)
