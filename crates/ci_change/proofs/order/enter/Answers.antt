use Rattle.std.proofs.Common.{ap, ◌∙◌}
use Rattle.ci_change.specs.Order.{without_entry}
use Rattle.ci_change.proofs.OrderLemmas.{without-appended}
use Rattle.ci_change.proofs.order.enter.Goals as goal

pub returns-then-is_err-clause-ready_err : goal.returns-then-is_err-clause-ready_err
returns-then-is_err-clause-ready_err c =
    c.take_out.ensures.entries ∙ ap (without_entry c.args.number) c.in_ok-append.ensures.ok ∙ without-appended _ c.args.number c.args.entry c.requires.newest_ready
