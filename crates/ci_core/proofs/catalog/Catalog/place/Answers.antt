use Rattle.std.proofs.Common.{◌∙◌, sym}
use Rattle.ci_core.proofs.RefusalLemmas.{IsOver-told}
use Rattle.ci_core.proofs.catalog.Catalog.place.Goals as goal

pub returns-then-is_some-clause-ended : goal.returns-then-is_some-clause-ended
returns-then-is_some-clause-ended g c =
    IsOver-told c.args.self.now (rw (← c.self.view_is) (sym c.is_some.ensures ∙ c.if-is_some.true))
