use Rattle.std.proofs.Common.{ℕ, List, arith, subst}
use Rattle.std.proofs.lemmas.List.{length-map}
use Rattle.std.proofs.lemmas.List.Sorted.{length_permutation}
use Rattle.ci_change.specs.declared.notice.Notice.{Notice}
use Rattle.ci_change.specs.Pending.{ListsPaths, paths_of}
use Rattle.ci_journal.proofs.ChainLemmas.{Chain-run}
use Rattle.ci_journal.proofs.RunLemmas.{notices_within}
use Rattle.ci_journal.specs.Pending.{unfiltered}
use Rattle.ci_holdings.specs.Core.{Core, terms_of}
use Rattle.ci_holdings.proofs.PendingLemmas.{few_unfiltered, unfiltered-tracks}
use Rattle.ci_holdings.proofs.WithinLemmas.{IsWithin-small}
use Rattle.ci_holdings.proofs.holdings.Holdings.unfiltered.Goals as goal

lists : (g : _) (c : goal.After-from g) → ListsPaths (paths_of (unfiltered (terms_of c.self.inside.noise c.self.inside.retries) c.self.inside.book.events)) c.from.result
lists g c =
    let kept = c.self.invariant.1 in
    rw c.from.ensures (subst (λ notices. ListsPaths (paths_of notices) c.in_ok-unfiltered.field-0.items) (unfiltered-tracks _ _ _ kept.tracks) c.in_ok-unfiltered.ensures)

pub returns-clause-paths : goal.returns-clause-paths
returns-clause-paths g c = subst (λ (core : Core). ListsPaths (paths_of (unfiltered core.terms core.sheet.events)) c.from.result) c.self.view_is (lists g c)

pub returns-clause-few : goal.returns-clause-few
returns-clause-few g c =
    let kept = c.self.invariant.1 in
    let noted = unfiltered (terms_of c.self.inside.noise c.self.inside.retries) c.self.inside.book.events in
    let same = length_permutation (paths_of noted) c.from.result (lists g c).same in
    omega (arith, same, length-map {B = List ℕ} noted (λ (n : Notice). n.path), few_unfiltered _ c.self.inside.book.events kept.starts, notices_within _ _ (Chain-run _ _ kept.run), IsWithin-small _ _ _ kept.run kept.within, kept.small)
