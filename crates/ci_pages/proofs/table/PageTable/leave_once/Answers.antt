use Rattle.std.proofs.Common.{ap, refl, ⊎_elim}
use Rattle.ci_pages.specs.Tables.{is_held, is_leaving}
use Rattle.ci_pages.proofs.Lists.{passes_within}
use Rattle.ci_pages.proofs.table.PageTable.leave_once.Goals as goal

pub is_held-requires : goal.is_held-requires
is_held-requires c =
    let uses = c.args.self.now.uses.pages.items in
    ⊎_elim
    (λ held. passes_within is_held uses c.args.page refl (ap is_held held))
    (λ left. passes_within is_leaving uses c.args.page refl (ap is_leaving left))
    c.requires
