use Rattle.std.proofs.Common.{arith, get_or}
use Rattle.std.proofs.lemmas.List.Elements.{Contains-get_or}
use Rattle.ci_pages.proofs.Marking.{marks_next}
use Rattle.ci_pages.proofs.uses.Uses.mark.Goals as goal

pub set-requires : goal.set-requires
set-requires c =
    let pages = c.args.pages.now in
    let i = c.loop-page.page-index in
    omega (arith, c.requires (get_or pages i 0) (Contains-get_or pages i 0 c.loop-page-test.true), c.loop-page.invariant.size)

pub loop-page-preserved : goal.loop-page-preserved
loop-page-preserved c =
    let pages = c.args.pages.now in
    let i = c.loop-page.page-index in
    marks_next c.args.self.now.pages.items c.loop-page.self.pages.items c.set.new.self.pages.items pages i c.args.to c.loop-page-test.true c.loop-page.invariant
    (c.requires (get_or pages i 0) (Contains-get_or pages i 0 c.loop-page-test.true)) c.set.ensures
