use Rattle.std.proofs.Common.{◌≡◌, take}
use Rattle.ci_pages.specs.Uses.{Marks}
use Rattle.ci_pages.specs.declared.page_use.PageUse.TheVariants.{Leaving}
use Rattle.ci_pages.proofs.table.PageTable.leave_all.Given as goal

abbrev pub invariant-loop-page : goal.invariant-loop-page
invariant-loop-page l = record {
  marks : Marks l.initial.self.uses.pages.items l.self.uses.pages.items (take l.page-index l.pages) Leaving;
  links : l.self.links.items ≡ l.initial.self.links.items;
  pending : l.self.pending.items ≡ l.initial.self.pending.items;
}
