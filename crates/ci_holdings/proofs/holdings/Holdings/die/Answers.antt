use Rattle.std.proofs.Common.{◌≡◌, ◌∙◌, ◌++◌, ap, arith, drop, get_or, subst, sym, take}
use Rattle.ci_journal.specs.Filings.{fates}
use Rattle.ci_journal.specs.Pending.{charges_in}
use Rattle.ci_journal.specs.Served.{live_map}
use Rattle.ci_journal.specs.Step.{MayEnd}
use Rattle.ci_holdings.specs.Core.{Core, terms_of}
use Rattle.ci_holdings.proofs.DeathLemmas.{died-charges, died-entries, died-kept}
use Rattle.ci_holdings.proofs.WithinLemmas.{IsWithin-small}
use Rattle.ci_holdings.proofs.holdings.Holdings.die.Goals as goal

pub add-requires-clause-counted : goal.add-requires-clause-counted
add-requires-clause-counted g c =
    let kept = c.self.invariant.1 in
    omega (arith, IsWithin-small _ _ _ kept.run kept.within, kept.small)

ended : (g : _) (c : goal.After-add g) → MayEnd c.self.inside.book.events c.args.by c.args.batch.now.number c.args.batch.now
ended g c = subst (λ (core : Core). MayEnd core.sheet.events c.args.by c.args.batch.now.number c.args.batch.now) (sym c.self.view_is) c.requires.may

-- the document at the place
at : (g : _) (c : goal.After-add g) → get_or c.args.batch.now.docs c.args.charged c.index-items-charged.result ≡ c.index-items-charged.result
at g c = subst (λ ds. get_or ds c.args.charged c.index-items-charged.result ≡ c.index-items-charged.result) c.items.ensures (sym c.index-items-charged.is)

pub invariant_of-self : goal.invariant_of-self
invariant_of-self g c =
    (c.self.invariant.0, died-kept _ _ _ c.self.invariant.1 c.args.batch.now c.args.charged c.index-items-charged.result (ended g c).is_out c.requires.place (at g c) c.add.new.self c.args.by _ _ (ended g c) c.charge.ensures c.give_back.ensures c.add.ensures)

pub returns-clause-entries : goal.returns-clause-entries
returns-clause-entries g c =
    let terms = terms_of c.self.inside.noise c.self.inside.retries in
    subst (λ (core : Core). live_map core.terms c.add.new.self.events ≡ live_map core.terms core.sheet.events) c.self.view_is
    (ap (live_map terms) c.add.ensures.adds.events
    ∙ died-entries _ _ _ c.self.invariant.1 c.args.batch.now c.args.charged c.index-items-charged.result (ended g c).is_out c.requires.place (at g c) c.args.by)

pub returns-clause-charges : goal.returns-clause-charges
returns-clause-charges g c =
    subst (λ (core : Core). charges_in (fates c.add.new.self.events) ≡ charges_in (fates core.sheet.events) ++ take 1 (drop c.args.charged c.args.batch.now.docs)) c.self.view_is
    (ap (λ es. charges_in (fates es)) c.add.ensures.adds.events
    ∙ died-charges _ _ _ c.self.invariant.1 c.args.batch.now c.args.charged c.index-items-charged.result (ended g c).is_out c.requires.place (at g c) c.args.by)
