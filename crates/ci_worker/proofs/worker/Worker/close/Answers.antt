use Rattle.std.proofs.Common.{None, sym, subst}
use Rattle.ci_worker.specs.Links.{FitTold}
use Rattle.ci_worker.specs.Working.{Working}
use Rattle.ci_worker.proofs.LinkLemmas.{FitTold-stopped}
use Rattle.ci_worker.proofs.worker.Worker.close.Goals as goal

pub returns-clause-told : goal.returns-clause-told
returns-clause-told g c = λ first talks fit.
    subst (λ (w : Working). FitTold first w.records None talks) (sym c.worker.view_is)
    (FitTold-stopped first c.args.self.records c.stop.new.self.records talks c.args.self.held c.stop.ensures.records c.stop.ensures.tells_on fit)
