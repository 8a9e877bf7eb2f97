use Rattle.std.proofs.Common.{◌≡◌, ◌++◌, ap₂, arith, refl, subst, sym, true≢false, ◌∙◌}
use Rattle.ci_pages.specs.Tables.{IsListOf, IsOnce, is_leaving, is_pending}
use Rattle.ci_pages.specs.Uses.{free_pages, is_free}
use Rattle.ci_pages.specs.declared.page_use.PageUse.TheVariants.{Reserved}
use Rattle.ci_pages.proofs.Lists.{behind_head, count_stays, free_fails, free_no_heads, heads_stay, opens, passes_within, list_grows, list_stays}
use Rattle.ci_pages.proofs.Once.{once_append, once_free, once_take}
use Rattle.ci_pages.proofs.table.PageTable.reserve.Goals as goal

pub invariant_of-self-2 : goal.invariant_of-self-2
invariant_of-self-2 c =
    let table = c.args.self.now in
    let old = table.uses.pages.items in
    let new = c.take.new.self.pages.items in
    let pages = c.in_ok-pages.pages.items in
    let marks = c.in_ok-pages.ensures.marked in
    let free' = c.in_ok-pages.ensures.free in
    let noted : c.note.new.pending.items ≡ table.pending.items ++ pages = c.note.ensures ∙ ap₂ (λ xs ys. xs ++ ys) c.reserve.ensures.items c.deref.ensures.value in
    record {
      headed = heads_stay old new pages Reserved marks (free_no_heads old pages free') table.headed;
      linked = omega (arith, marks.size, table.linked);
      pending_are = subst (IsListOf is_pending new) (sym noted) (list_grows is_pending old new pages Reserved marks table.pending.items refl table.pending_are);
      leaving_are = list_stays is_leaving old new pages Reserved marks table.leaving.items (free_fails is_leaving old pages refl free') table.leaving_are;
      leaving_count = table.leaving_count ∙ sym (count_stays is_leaving old new pages Reserved marks (free_fails is_leaving old pages refl free'));
      room = omega (arith, marks.size, table.room);
    }

pub returns-clause-data_pages : goal.returns-clause-data_pages
returns-clause-data_pages c page contained =
    let uses = c.args.self.now.uses.pages.items in
    let free' = c.in_ok-pages.ensures.free in (
      behind_head uses page c.args.self.now.headed (free_no_heads uses c.in_ok-pages.pages.items free' page contained),
      passes_within is_free uses page refl (free' page contained),
    )

pub returns-clause-once : goal.returns-clause-once
returns-clause-once c once =
    let table = c.args.self.now in
    let uses = table.uses.pages.items in
    let pages = c.in_ok-pages.pages.items in
    let free' = c.in_ok-pages.ensures.free in
    let noted : c.note.new.pending.items ≡ table.pending.items ++ pages = c.note.ensures ∙ ap₂ (λ xs ys. xs ++ ys) c.reserve.ensures.items c.deref.ensures.value in
    let listed = opens is_pending uses table.pending.items table.pending_are in
    subst IsOnce (sym noted) (once_append table.pending.items pages once
    (subst IsOnce (sym c.in_ok-pages.ensures.least) (once_take c.args.count (free_pages uses) (once_free uses 0)))
    (λ page was now. true≢false (sym (listed.only page was) ∙ free_fails is_pending uses pages refl free' page now)))
