use Rattle.std.proofs.Common.{arith, ◌≡◌, ◌+◌, ◌==◌, true, refl, subst, sym}
use Rattle.ci_journal.specs.Daemon.{failures, most_failures}
use Rattle.ci_journal.proofs.ChainLemmas.{Chain-run}
use Rattle.ci_holdings.specs.Core.{Core, terms_of}
use Rattle.ci_holdings.proofs.DaemonLemmas.{failures_within, lost-adds, lost-kept, lost-numbered, lost-within}
use Rattle.ci_holdings.proofs.KeptLemmas.{IsHolding-stays, LacksRoom-stays}
use Rattle.ci_holdings.proofs.WithinLemmas.{IsWithin-small, places_within}
use Rattle.ci_holdings.proofs.holdings.Holdings.fail_last.Goals as goal

pub invariant_of-self : goal.invariant_of-self
invariant_of-self g c =
    (c.self.invariant.0, IsHolding-stays _ _ _ _ c.self.invariant.1 (LacksRoom-stays _ _ _ _ c.in_err-prepare.ensures.refused))

pub overflow_add-self : goal.overflow_add-self
overflow_add-self g c =
    let kept = c.self.invariant.1 in
    omega (arith, failures_within _ _ (Chain-run _ _ kept.run), kept.counts.failed, IsWithin-small _ _ _ kept.run kept.within, kept.small)

pub overflow_add-self-inside : goal.overflow_add-self-inside
overflow_add-self-inside g c =
    let kept = c.self.invariant.1 in
    omega (arith, kept.counts.places, places_within _ _ _ kept.run kept.within, kept.small)

pub invariant_of-self-2 : goal.invariant_of-self-2
invariant_of-self-2 g c =
    let lost = subst (λ (core : Core). (failures core.sheet.events + 1 == most_failures) ≡ true) (sym c.self.view_is) c.requires in
    (c.self.invariant.0, lost-kept _ _ _ c.self.invariant.1 c.prepare.new.self _ _ c.args.by lost c.in_ok-prepare.ensures.ok c.add.ensures c.add-2.ensures)

pub returns : goal.returns
returns g c =
    let lost = subst (λ (core : Core). (failures core.sheet.events + 1 == most_failures) ≡ true) (sym c.self.view_is) c.requires in
    let kept = c.self.invariant.1 in
    rw (← c.self.view_is) (record {
      step = record {
        ok = record {
          adds = lost-adds _ _ _ kept c.prepare.new.self _ _ c.args.by lost c.in_ok-prepare.ensures.ok c.add.ensures c.add-2.ensures;
          within = lost-within _ _ _ kept c.prepare.new.self _ _ c.args.by lost c.in_ok-prepare.ensures.ok c.add.ensures c.add-2.ensures;
          told = record { terms = refl; most = refl };
          numbered = lost-numbered (terms_of c.self.inside.noise c.self.inside.retries) c.self.inside.book.events c.args.by _ lost;
        };
        refused = tt;
      };
    })
