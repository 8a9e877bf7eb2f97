use Rattle.std.proofs.Common.{arith, ◌≡◌, ◌+◌, ◌==◌, false, subst, sym}
use Rattle.ci_journal.specs.Daemon.{failures, most_failures}
use Rattle.ci_journal.proofs.ChainLemmas.{Chain-run}
use Rattle.ci_holdings.specs.Core.{Core}
use Rattle.ci_holdings.proofs.DaemonLemmas.{failed-kept, failures_within}
use Rattle.ci_holdings.proofs.KeptLemmas.{IsHolding-stays, LacksRoom-stays}
use Rattle.ci_holdings.proofs.WithinLemmas.{IsWithin-small}
use Rattle.ci_holdings.proofs.holdings.Holdings.fail.Goals as goal

pub invariant_of-self : goal.invariant_of-self
invariant_of-self g c =
    (c.self.invariant.0, IsHolding-stays _ _ _ _ c.self.invariant.1 (LacksRoom-stays _ _ _ _ c.in_err-prepare.ensures.refused))

pub overflow_add-self : goal.overflow_add-self
overflow_add-self g c =
    let kept = c.self.invariant.1 in
    omega (arith, failures_within _ _ (Chain-run _ _ kept.run), kept.counts.failed, IsWithin-small _ _ _ kept.run kept.within, kept.small)

pub invariant_of-self-2 : goal.invariant_of-self-2
invariant_of-self-2 g c =
    let other = subst (λ (core : Core). (failures core.sheet.events + 1 == most_failures) ≡ false) (sym c.self.view_is) c.requires in
    (c.self.invariant.0, failed-kept _ _ _ c.self.invariant.1 c.prepare.new.self c.add.new.self c.args.by other c.in_ok-prepare.ensures.ok c.add.ensures)
