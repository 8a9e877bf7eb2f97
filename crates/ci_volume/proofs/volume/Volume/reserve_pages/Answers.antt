use Rattle.std.proofs.Common.{◌≤◌, ◌∙◌, ap, arith, subst, sym}
use Rattle.std.specs.List.{count_by, filter}
use Rattle.ci_pages.specs.Tables.{IsOnce, is_unused}
use Rattle.ci_pages.specs.Uses.{free_pages, is_free, use_of}
use Rattle.ci_pages.specs.declared.page_use.PageUse.TheVariants.{Reserved}
use Rattle.ci_pages.proofs.Once.{once_free, once_take}
use Rattle.ci_volume.proofs.Giving.{given_count, given_free, held_not_free, held_stays, unused_more}
use Rattle.ci_volume.proofs.volume.Volume.reserve_pages.Goals as goal

pub returns-in-Ok-clause-count : goal.returns-in-Ok-clause-count
returns-in-Ok-clause-count g c =
    let uses = c.args.self.now.table.uses.pages.items in
    let fits : c.args.count ≤ count_by is_free uses = omega (arith, c.if-free-count.false, c.free-free.ensures) in
    given_count uses c.in-Ok.pages.items c.args.count c.in-Ok.ensures.least fits

pub returns-in-Ok-clause-unused : goal.returns-in-Ok-clause-unused
returns-in-Ok-clause-unused g c =
    let table = c.args.self.now.table in
    let uses = table.uses.pages.items in
    let pages = c.in-Ok.pages.items in
    let fits : c.args.count ≤ count_by is_free uses = omega (arith, c.if-free-count.false, c.free-free.ensures) in
    let given = given_free uses pages c.args.count c.in-Ok.ensures.least fits in
    let new = c.reserve.new.self in
    ap (λ xs. filter (λ page. is_unused (use_of new.uses.pages.items page)) xs) c.in-Ok.ensures.pending
    ∙ unused_more uses new.uses.pages.items table.pending.items pages table.pending_are given c.in-Ok.ensures.marked

pub returns-in-Ok-clause-held : goal.returns-in-Ok-clause-held
returns-in-Ok-clause-held g c page held =
    let uses = c.args.self.now.table.uses.pages.items in
    let pages = c.in-Ok.pages.items in
    let fits : c.args.count ≤ count_by is_free uses = omega (arith, c.if-free-count.false, c.free-free.ensures) in
    held_stays uses c.reserve.new.self.uses.pages.items pages Reserved c.in-Ok.ensures.marked
    (λ q contained was. held_not_free (use_of uses q) (given_free uses pages c.args.count c.in-Ok.ensures.least fits q contained) was) page held

pub returns-in-Ok-clause-apart : goal.returns-in-Ok-clause-apart
returns-in-Ok-clause-apart g c =
    let uses = c.args.self.now.table.uses.pages.items in
    subst IsOnce (sym c.in-Ok.ensures.least) (once_take c.args.count (free_pages uses) (once_free uses 0))
