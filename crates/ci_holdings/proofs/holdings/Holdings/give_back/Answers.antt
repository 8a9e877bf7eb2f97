use Rattle.std.proofs.Common.{◌≡◌, ◌∙◌, ◌++◌, [], ap, append-nil, arith, subst, sym}
use Rattle.ci_journal.specs.Filings.{fates}
use Rattle.ci_journal.specs.Pending.{charges_in}
use Rattle.ci_journal.specs.Served.{live_map}
use Rattle.ci_journal.specs.Step.{MayEnd}
use Rattle.ci_holdings.specs.Core.{Core, terms_of}
use Rattle.ci_holdings.proofs.BatchLemmas.{returned-kept}
use Rattle.ci_holdings.proofs.DeathLemmas.{returned-charges, returned-entries}
use Rattle.ci_holdings.proofs.WithinLemmas.{IsWithin-small}
use Rattle.ci_holdings.proofs.holdings.Holdings.give_back.Goals as goal

pub add-requires-clause-counted : goal.add-requires-clause-counted
add-requires-clause-counted g c =
    let kept = c.self.invariant.1 in
    omega (arith, IsWithin-small _ _ _ kept.run kept.within, kept.small)

pub invariant_of-self : goal.invariant_of-self
invariant_of-self g c =
    let may = subst (λ (core : Core). MayEnd core.sheet.events c.args.by c.args.batch.now.number c.args.batch.now) (sym c.self.view_is) c.requires in
    (c.self.invariant.0, returned-kept _ _ _ c.self.invariant.1 c.add.new.self c.args.by c.args.batch.now _ may c.give_back.ensures c.add.ensures)

pub returns-clause-entries : goal.returns-clause-entries
returns-clause-entries g c =
    let terms = terms_of c.self.inside.noise c.self.inside.retries in
    subst (λ (core : Core). live_map core.terms c.add.new.self.events ≡ live_map core.terms core.sheet.events) c.self.view_is
    (ap (live_map terms) c.add.ensures.adds.events ∙ returned-entries terms c.self.inside.book.events c.args.by c.args.batch.now.number)

pub returns-clause-charges : goal.returns-clause-charges
returns-clause-charges g c =
    subst (λ (core : Core). charges_in (fates c.add.new.self.events) ≡ charges_in (fates core.sheet.events) ++ []) c.self.view_is
    (ap (λ es. charges_in (fates es)) c.add.ensures.adds.events ∙ returned-charges c.self.inside.book.events c.args.by c.args.batch.now.number
    ∙ sym (append-nil (charges_in (fates c.self.inside.book.events))))
