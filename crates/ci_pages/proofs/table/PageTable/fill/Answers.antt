use Rattle.std.proofs.Common.{ap, arith, refl, sym, ◌∙◌}
use Rattle.ci_pages.specs.Tables.{is_head, is_leaving, is_pending}
use Rattle.ci_pages.specs.declared.page_use.PageUse.TheVariants.{Used}
use Rattle.ci_pages.proofs.Lists.{behind_head, count_stays, heads_stay, list_stays, passes_within}
use Rattle.ci_pages.proofs.table.PageTable.fill.Goals as goal

pub mark-requires : goal.mark-requires
mark-requires c page contained = passes_within is_pending c.args.self.now.uses.pages.items page refl (ap is_pending (c.requires.unused page contained))

pub link-requires : goal.link-requires
link-requires c page contained =
    omega (arith, passes_within is_pending c.args.self.now.uses.pages.items page refl (ap is_pending (c.requires.unused page contained)), c.args.self.now.linked)

pub invariant_of-self : goal.invariant_of-self
invariant_of-self c =
    let table = c.args.self.now in
    let old = table.uses.pages.items in
    let new = c.mark.new.self.pages.items in
    let run = c.args.run.now in
    record {
      headed = heads_stay old new run Used c.mark.ensures (λ page contained. ap is_head (c.requires.unused page contained)) table.headed;
      linked = omega (arith, c.link.ensures.size, c.mark.ensures.size, table.linked);
      pending_are = list_stays is_pending old new run Used c.mark.ensures table.pending.items (λ page contained. ap is_pending (c.requires.unused page contained)) table.pending_are;
      leaving_are = list_stays is_leaving old new run Used c.mark.ensures table.leaving.items (λ page contained. ap is_leaving (c.requires.unused page contained)) table.leaving_are;
      leaving_count = table.leaving_count ∙ sym (count_stays is_leaving old new run Used c.mark.ensures (λ page contained. ap is_leaving (c.requires.unused page contained)));
      room = omega (arith, c.mark.ensures.size, table.room);
    }

pub returns-clause-data_pages : goal.returns-clause-data_pages
returns-clause-data_pages c page contained =
    let uses = c.args.self.now.uses.pages.items in (
      behind_head uses page c.args.self.now.headed (ap is_head (c.requires.unused page contained)),
      omega (arith, passes_within is_pending uses page refl (ap is_pending (c.requires.unused page contained)), c.args.self.now.uses.small),
    )
