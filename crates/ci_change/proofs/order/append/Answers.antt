use Rattle.std.proofs.Common.{◌∙◌}
use Rattle.ci_change.proofs.OrderLemmas.{insert_entry-last}
use Rattle.ci_change.proofs.order.append.Goals as goal

pub returns-clause-ok : goal.returns-clause-ok
returns-clause-ok c = c.in_ok-insert.ensures.entries ∙ insert_entry-last _ _ _ c.requires
