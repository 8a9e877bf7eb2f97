use Rattle.std.proofs.Common.{refl}
use Rattle.ci_journal.specs.declared.event.Happened.TheVariants.{BatchDied}
use Rattle.ci_journal.specs.Tells.{event}
use Rattle.ci_holdings.specs.Steps.{Ends}
use Rattle.ci_core.proofs.EndsLemmas.{IsCatalog-ends, KeepsFixed-ends}
use Rattle.ci_core.proofs.catalog.Catalog.batch_died.Goals as goal

ends : (g : _) (c : goal.After-die g) → Ends (record c.self.inside.holdings { refusal = c.self.inside.refusal }) (record c.die.new.self { refusal = c.self.inside.refusal }) (event c.args.by (BatchDied c.args.batch.now.number c.args.charged))
ends g c =
    let made = c.die.ensures.ends in
    record { adds = made.adds; told = record { terms = made.told.terms; most = made.told.most }; numbered = made.numbered; refusal = refl }

pub invariant_of-self : goal.invariant_of-self
invariant_of-self g c = IsCatalog-ends _ _ _ (ends g c) refl c.self.invariant

pub returns-clause-fixed : goal.returns-clause-fixed
returns-clause-fixed g c = rw (← c.self.view_is) (KeepsFixed-ends _ _ _ (ends g c) refl)
