use Rattle.std.proofs.Common.{take}
use Rattle.ci_pages.specs.Uses.{Marks}
use Rattle.ci_pages.proofs.uses.Uses.mark.Given as goal

abbrev pub invariant-loop-page : goal.invariant-loop-page
invariant-loop-page l = Marks l.initial.self.pages.items l.self.pages.items (take l.page-index l.pages) l.to
