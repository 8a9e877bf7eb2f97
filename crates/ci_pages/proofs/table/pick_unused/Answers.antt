use Rattle.std.proofs.Common.{get_or}
use Rattle.std.proofs.lemmas.List.Elements.{Contains-get_or}
use Rattle.ci_pages.proofs.table.pick_unused.Goals as goal

pub is_unused-requires : goal.is_unused-requires
is_unused-requires c =
    let pages = c.args.pages.now in
    let i = c.loop-page.page-index in
    c.requires (get_or pages i 0) (Contains-get_or pages i 0 c.loop-page-test.true)
