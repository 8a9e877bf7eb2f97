use Rattle.std.proofs.Common.{◌∙◌}
use Rattle.ci_change.proofs.OrderLemmas.{remove_entry-filter}
use Rattle.ci_change.proofs.order.take_out.Goals as goal

pub returns-clause-entries : goal.returns-clause-entries
returns-clause-entries c = c.remove.ensures.entries ∙ remove_entry-filter _ _ c.requires
