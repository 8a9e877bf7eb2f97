use Rattle.std.proofs.Common.{arith}
use Rattle.ci_journal.proofs.ChainLemmas.{Chain-run}
use Rattle.ci_holdings.proofs.DaemonLemmas.{failures_within}
use Rattle.ci_holdings.proofs.WithinLemmas.{IsWithin-small}
use Rattle.ci_holdings.proofs.holdings.Holdings.start_failed.Goals as goal

pub overflow_add-self-inside : goal.overflow_add-self-inside
overflow_add-self-inside g c =
    let kept = c.self.invariant.1 in
    omega (arith, failures_within _ _ (Chain-run _ _ kept.run), kept.counts.failed, IsWithin-small _ _ _ kept.run kept.within, kept.small)
