use Rattle.std.proofs.Common.{◌≡◌, ◌∙◌, ap, length, subst}
use Rattle.ci_journal.specs.Pending.{free}
use Rattle.ci_holdings.specs.Core.{Core}
use Rattle.ci_holdings.proofs.BatchLemmas.{free_is}
use Rattle.ci_holdings.proofs.holdings.Holdings.free.Goals as goal

pub returns : goal.returns
returns g c =
    subst (λ (core : Core). c.free.result ≡ length (free core.terms core.sheet.events)) c.self.view_is
    (c.free.ensures ∙ ap length (free_is _ _ _ c.self.invariant.1))
