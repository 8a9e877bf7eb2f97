use Rattle.std.proofs.Common.{drop, refl, subst, sym}
use Rattle.ci_dialect.specs.declared.restriction.Restriction.{Restriction}
use Rattle.ci_journal.specs.Queries.{IsFirstWaiting}
use Rattle.ci_holdings.specs.Core.{Core}
use Rattle.ci_holdings.specs.Opening.{NoneWaits}
use Rattle.ci_holdings.specs.Waiting.{IsQueue}
use Rattle.ci_holdings.proofs.AskingLemmas.{front-is, none-first}
use Rattle.ci_holdings.proofs.QueueLemmas.{IsQueue-first, IsQueue-none}
use Rattle.ci_holdings.proofs.holdings.Holdings.first_waiting.Goals as goal

pub returns-in-Some-clause-some : goal.returns-in-Some-clause-some
returns-in-Some-clause-some g c =
    let first = c.in-Some.first.now in
    let queue = c.self.inside.waiting.items in
    let front = front-is queue (drop 1 queue) first (sym c.in-Some.ensures) refl in
    subst (λ (core : Core). (tree : Restriction) × IsFirstWaiting core.terms core.sheet.events first.id tree) c.self.view_is
    (first.tree, IsQueue-first _ _ first (drop 1 queue) (subst (IsQueue _ _) front c.self.invariant.1.waits))

pub returns-in-None-clause-none : goal.returns-in-None-clause-none
returns-in-None-clause-none g c =
    let empty = none-first c.self.inside.waiting.items (sym c.in-None.ensures) in
    subst (λ (core : Core). NoneWaits core.terms core.sheet.events) c.self.view_is
    (IsQueue-none _ _ (subst (IsQueue _ _) empty c.self.invariant.1.waits))
