use Rattle.std.proofs.Common.{arith}
use Rattle.ci_journal.proofs.ChainLemmas.{Chain-run}
use Rattle.ci_journal.proofs.RunLemmas.{requests_within}
use Rattle.ci_holdings.proofs.WithinLemmas.{IsWithin-small}
use Rattle.ci_holdings.proofs.holdings.Holdings.next_request.Goals as goal

pub overflow_add-result : goal.overflow_add-result
overflow_add-result g c =
    let kept = c.self.invariant.1 in
    omega (arith, requests_within _ _ (Chain-run _ _ kept.run), kept.counts.requests, IsWithin-small _ _ _ kept.run kept.within, kept.small)
