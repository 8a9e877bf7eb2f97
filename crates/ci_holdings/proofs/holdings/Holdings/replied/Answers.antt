use Rattle.std.proofs.Common.{◌∙◌}
use Rattle.ci_holdings.proofs.MarksLemmas.{is_marked-is_replied}
use Rattle.ci_holdings.proofs.holdings.Holdings.replied.Goals as goal

pub returns : goal.returns
returns g c = rw (← c.self.view_is) (c.has.ensures ∙ is_marked-is_replied _ _ c.self.invariant.1.run _ c.self.invariant.1.marks c.args.id)
