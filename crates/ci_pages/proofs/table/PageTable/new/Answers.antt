use Rattle.std.proofs.Common.{◌≡◌, ◌∙◌, [], ap, arith, count_by, length, refl, set, subst, sym}
use Rattle.ci_pages.specs.Tables.{IsHeaded, IsListOf, is_leaving, is_pending, new_uses}
use Rattle.ci_pages.specs.declared.page_use.PageUse.TheVariants.{Head}
use Rattle.ci_pages.proofs.Lists.{heads_new, length_new, new_count, new_listed, set_heads}
use Rattle.ci_pages.proofs.table.PageTable.new.Goals as goal

pub invariant_of-result : goal.invariant_of-result
invariant_of-result c =
    let pages = c.args.pages in
    let uses = c.set-3.new.self.pages.items in
    let same : uses ≡ new_uses pages =
    c.set-3.ensures ∙ ap (λ us. set us 2 Head) (c.set-2.ensures ∙ ap (λ us. set us 1 Head) (c.set.ensures ∙ ap (λ us. set us 0 Head) c.in_ok-uses.ensures)) ∙ set_heads pages c.requires.least in
    record {
      headed = subst IsHeaded (sym same) (heads_new pages);
      linked = omega (arith, c.in_ok-links.ensures.len, c.in_ok-links.links.ok, ap length same, length_new pages c.requires.least);
      pending_are = subst (IsListOf is_pending uses) (sym c.new-2.ensures.items) (subst (λ us. IsListOf is_pending us []) (sym same) (new_listed is_pending pages refl refl));
      leaving_are = subst (IsListOf is_leaving uses) (sym c.in_ok-leaving.ensures.items) (subst (λ us. IsListOf is_leaving us []) (sym same) (new_listed is_leaving pages refl refl));
      leaving_count = ap length c.in_ok-leaving.ensures.items ∙ sym (ap (count_by is_leaving) same ∙ new_count is_leaving pages refl refl);
      room = omega (arith, c.in_ok-leaving.ensures.capacity, ap length same, length_new pages c.requires.least);
    }

pub returns-clause-uses : goal.returns-clause-uses
returns-clause-uses c =
    c.set-3.ensures ∙ ap (λ us. set us 2 Head) (c.set-2.ensures ∙ ap (λ us. set us 1 Head) (c.set.ensures ∙ ap (λ us. set us 0 Head) c.in_ok-uses.ensures)) ∙ set_heads c.args.pages c.requires.least
