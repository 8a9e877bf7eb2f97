use Rattle.ci_holdings.proofs.DaemonLemmas.{started-kept}
use Rattle.ci_holdings.proofs.KeptLemmas.{IsHolding-stays, LacksRoom-stays}
use Rattle.ci_holdings.proofs.holdings.Holdings.started.Goals as goal

pub invariant_of-self : goal.invariant_of-self
invariant_of-self g c =
    (c.self.invariant.0, IsHolding-stays _ _ _ _ c.self.invariant.1 (LacksRoom-stays _ _ _ _ c.in_err-prepare.ensures.refused))

pub invariant_of-self-2 : goal.invariant_of-self-2
invariant_of-self-2 g c = (c.self.invariant.0, started-kept _ _ _ c.self.invariant.1 c.prepare.new.self c.add.new.self c.args.by c.in_ok-prepare.ensures.ok c.add.ensures)
