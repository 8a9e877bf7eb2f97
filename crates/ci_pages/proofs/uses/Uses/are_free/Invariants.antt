use Rattle.std.proofs.Common.{take}
use Rattle.ci_pages.specs.Uses.{AllFree}
use Rattle.ci_pages.proofs.uses.Uses.are_free.Given as goal

abbrev pub invariant-loop-page : goal.invariant-loop-page
invariant-loop-page l = AllFree l.self.pages.items (take l.page-index l.pages)
