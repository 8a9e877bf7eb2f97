use Rattle.std.proofs.Common.{arith, refl, sym, ◌∙◌}
use Rattle.ci_pages.specs.Tables.{is_leaving, is_pending}
use Rattle.ci_pages.specs.Uses.{is_free}
use Rattle.ci_pages.specs.declared.page_use.PageUse.TheVariants.{Held}
use Rattle.ci_pages.proofs.Lists.{count_stays, free_fails, free_no_heads, heads_stay, list_stays, passes_within}
use Rattle.ci_pages.proofs.table.PageTable.hold.Goals as goal

pub mark-requires : goal.mark-requires
mark-requires c page contained = passes_within is_free c.args.self.now.uses.pages.items page refl (c.requires page contained)

pub link-requires : goal.link-requires
link-requires c page contained =
    omega (arith, passes_within is_free c.args.self.now.uses.pages.items page refl (c.requires page contained), c.args.self.now.linked)

pub invariant_of-self : goal.invariant_of-self
invariant_of-self c =
    let table = c.args.self.now in
    let old = table.uses.pages.items in
    let new = c.mark.new.self.pages.items in
    let chain = c.args.chain.now in
    record {
      headed = heads_stay old new chain Held c.mark.ensures (free_no_heads old chain c.requires) table.headed;
      linked = omega (arith, c.link.ensures.size, c.mark.ensures.size, table.linked);
      pending_are = list_stays is_pending old new chain Held c.mark.ensures table.pending.items (free_fails is_pending old chain refl c.requires) table.pending_are;
      leaving_are = list_stays is_leaving old new chain Held c.mark.ensures table.leaving.items (free_fails is_leaving old chain refl c.requires) table.leaving_are;
      leaving_count = table.leaving_count ∙ sym (count_stays is_leaving old new chain Held c.mark.ensures (free_fails is_leaving old chain refl c.requires));
      room = omega (arith, c.mark.ensures.size, table.room);
    }
