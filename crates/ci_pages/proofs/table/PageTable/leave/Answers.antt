use Rattle.std.proofs.Common.{◌≡◌, ◌++◌, [], ◌∷◌, ap, arith, cond, count_by, ℕ, length, refl, subst, sym, ◌∙◌, length-append}
use Rattle.ci_pages.specs.Tables.{IsListOf, is_head, is_held, is_leaving, is_pending}
use Rattle.ci_pages.specs.Uses.{Marks, use_of}
use Rattle.ci_pages.specs.declared.page_use.PageUse.TheVariants.{Leaving}
use Rattle.ci_pages.proofs.Counting.{count_less, count_set}
use Rattle.ci_pages.proofs.Lists.{heads_stay, list_grows, list_stays, only_one, passes_within}
use Rattle.ci_pages.proofs.Marking.{marks_more, marks_none}
use Rattle.ci_pages.proofs.table.PageTable.leave.Goals as goal

pub set-requires : goal.set-requires
set-requires c = passes_within is_held c.args.self.now.uses.pages.items c.args.page refl (ap is_held c.requires)

pub push_within-requires : goal.push_within-requires
push_within-requires c =
    let table = c.args.self.now in
    let uses = table.uses.pages.items in
    let within = passes_within is_held uses c.args.page refl (ap is_held c.requires) in
    omega (arith, count_less is_leaving uses c.args.page within (ap is_leaving c.requires), table.leaving_count, table.room)

pub invariant_of-self : goal.invariant_of-self
invariant_of-self c =
    let table = c.args.self.now in
    let old = table.uses.pages.items in
    let page = c.args.page in
    let new = c.set.new.self.pages.items in
    let within = passes_within is_held old page refl (ap is_held c.requires) in
    let marks : Marks old new (page ∷ []) Leaving = subst (λ us. Marks old us (page ∷ []) Leaving) (sym c.set.ensures) (marks_more old old [] page Leaving (marks_none old Leaving) within) in
    let pushed : c.push_within.new.list.items ≡ table.leaving.items ++ page ∷ [] = c.push_within.ensures.items in
    record {
      headed = heads_stay old new (page ∷ []) Leaving marks (λ other contained. ap (λ p. is_head (use_of old p)) (only_one page other contained) ∙ ap is_head c.requires) table.headed;
      linked = omega (arith, marks.size, table.linked);
      pending_are = list_stays is_pending old new (page ∷ []) Leaving marks table.pending.items
          (λ other contained. ap (λ p. is_pending (use_of old p)) (only_one page other contained) ∙ ap is_pending c.requires) table.pending_are;
      leaving_are = subst (IsListOf is_leaving new) (sym pushed) (list_grows is_leaving old new (page ∷ []) Leaving marks table.leaving.items refl table.leaving_are);
      leaving_count = omega (
        arith,
        ap length pushed,
        length-append table.leaving.items (page ∷ []),
        table.leaving_count,
        count_set is_leaving old page Leaving within,
        ap {B = ℕ} (λ us. count_by is_leaving us) c.set.ensures,
        ap {B = ℕ} (λ u. cond (is_leaving u) 1 0) c.requires,
      );
      room = omega (arith, marks.size, table.room, c.push_within.ensures.room);
    }
