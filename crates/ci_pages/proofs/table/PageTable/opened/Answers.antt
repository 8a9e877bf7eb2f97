use Rattle.std.proofs.Common.{sym, subst}
use Rattle.ci_pages.specs.Uses.{AllFree, Marks}
use Rattle.ci_pages.specs.declared.page_use.PageUse.TheVariants.{Held}
use Rattle.ci_pages.proofs.Lists.{all_free_new}
use Rattle.ci_pages.proofs.table.PageTable.opened.Goals as goal

pub hold-requires : goal.hold-requires
hold-requires c = subst (λ us. AllFree us c.args.root.now) (sym c.in_ok-table.ensures.uses) (all_free_new c.args.pages c.args.root.now c.requires.data_pages)

pub returns-clause-marked : goal.returns-clause-marked
returns-clause-marked c = subst (λ us. Marks us c.hold.new.self.uses.pages.items c.args.root.now Held) c.in_ok-table.ensures.uses c.hold.ensures.marked
