use Rattle.std.proofs.Common.{◌≡◌, [], Contains, ap, arith, count_by, length, map, refl, subst, sym, ◌∙◌}
use Rattle.ci_pages.specs.Tables.{IsHeaded, IsListOf, is_leaving, is_pending, turned}
use Rattle.ci_pages.specs.Uses.{Marks}
use Rattle.ci_pages.specs.declared.page_use.PageUse.TheVariants.{Free, Held}
use Rattle.ci_pages.proofs.Lists.{count_leaving, heads_turn, none_leaving, none_pending, opens, passes_within, turns}
use Rattle.ci_pages.proofs.table.PageTable.turn.Goals as goal

pub mark-requires : goal.mark-requires
mark-requires c page contained =
    let table = c.args.self.now in
    let listed = opens is_pending table.uses.pages.items table.pending.items table.pending_are in
    passes_within is_pending table.uses.pages.items page refl (listed.only page (subst (λ xs. Contains xs page) c.deref.ensures.value contained))

pub mark-requires-2 : goal.mark-requires-2
mark-requires-2 c page contained =
    let table = c.args.self.now in
    let listed = opens is_leaving table.uses.pages.items table.leaving.items table.leaving_are in
    omega (arith, c.mark.ensures.size, passes_within is_leaving table.uses.pages.items page refl (listed.only page (subst (λ xs. Contains xs page) c.deref-2.ensures.value contained)))

pub returns-clause-uses : goal.returns-clause-uses
returns-clause-uses c =
    let table = c.args.self.now in
    let old = table.uses.pages.items in
    let mid = c.mark.new.self.pages.items in
    let new = c.mark-2.new.self.pages.items in
    turns old mid new table.pending.items table.leaving.items table.pending_are table.leaving_are
    (subst (λ xs. Marks old mid xs Held) c.deref.ensures.value c.mark.ensures)
    (subst (λ xs. Marks mid new xs Free) c.deref-2.ensures.value c.mark-2.ensures)

pub invariant_of-self : goal.invariant_of-self
invariant_of-self c =
    let table = c.args.self.now in
    let old = table.uses.pages.items in
    let mid = c.mark.new.self.pages.items in
    let new = c.mark-2.new.self.pages.items in
    let same : new ≡ map turned old = turns old mid new table.pending.items table.leaving.items table.pending_are table.leaving_are
    (subst (λ xs. Marks old mid xs Held) c.deref.ensures.value c.mark.ensures)
    (subst (λ xs. Marks mid new xs Free) c.deref-2.ensures.value c.mark-2.ensures) in
    record {
      headed = subst IsHeaded (sym same) (heads_turn old table.headed);
      linked = omega (arith, c.mark.ensures.size, c.mark-2.ensures.size, table.linked);
      pending_are = subst (IsListOf is_pending new) (sym c.clear.ensures.items) (subst (λ us. IsListOf is_pending us []) (sym same) (none_pending old));
      leaving_are = subst (IsListOf is_leaving new) (sym c.clear-2.ensures.items) (subst (λ us. IsListOf is_leaving us []) (sym same) (none_leaving old));
      leaving_count = ap length c.clear-2.ensures.items ∙ sym (ap (count_by is_leaving) same ∙ count_leaving old);
      room = omega (arith, c.mark.ensures.size, c.mark-2.ensures.size, table.room, c.clear-2.ensures.capacity);
    }
