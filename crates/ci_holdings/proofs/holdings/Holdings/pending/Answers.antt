use Rattle.std.proofs.Common.{subst}
use Rattle.ci_change.specs.Pending.{ListsByPath}
use Rattle.ci_journal.specs.Pending.{pending}
use Rattle.ci_holdings.specs.Core.{Core}
use Rattle.ci_holdings.proofs.PendingLemmas.{pending-tracks}
use Rattle.ci_holdings.proofs.holdings.Holdings.pending.Goals as goal

pub returns : goal.returns
returns g c =
    let kept = c.self.invariant.1 in
    let same = pending-tracks _ c.self.inside.book.events _ kept.tracks in
    subst (λ (core : Core). ListsByPath (pending core.terms core.sheet.events) c.from.result) c.self.view_is
    (rw c.from.ensures (subst (λ notices. ListsByPath notices c.in_ok-pending.field-0.items) same c.in_ok-pending.ensures))
