use Rattle.std.proofs.Common.{◌≡◌, filter, take}
use Rattle.ci_pages.specs.Tables.{is_unused}
use Rattle.ci_pages.specs.Uses.{use_of}
use Rattle.ci_pages.proofs.table.pick_unused.Given as goal

abbrev pub invariant-loop-page : goal.invariant-loop-page
invariant-loop-page l = l.unused.items ≡ filter (λ page. is_unused (use_of l.uses.pages.items page)) (take l.page-index l.pages)
