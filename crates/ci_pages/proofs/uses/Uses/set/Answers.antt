use Rattle.std.proofs.Common.{◌≡◌, ◌/◌, ap, arith, length, length-set, set, subst, sym}
use Rattle.std.proofs.lemmas.List.{get_or_read}
use Rattle.ci_pages.specs.declared.page_use.PageUse.TheVariants.{Head}
use Rattle.ci_pages.specs.Uses.{IsFlagged, is_free, use_of}
use Rattle.ci_pages.proofs.Counting.{flagged_set, length-raised, recounted}
use Rattle.ci_pages.proofs.uses.Uses.set.Goals as goal

pub invariant_of-self : goal.invariant_of-self
invariant_of-self c =
    let uses = c.args.self.now.pages.items in
    let flags = c.args.self.now.blocks.items in
    let was : c.index.result.now ≡ use_of uses c.args.page = get_or_read uses c.args.page c.index.result.now c.requires c.index.ensures Head in
    record {
      small = omega (arith, length-set uses c.args.page c.args.to, c.args.self.now.small);
      few = omega (arith, ap length c.raise.ensures, length-raised (is_free c.args.to) flags (c.args.page / 512), c.args.self.now.few);
      counted = recounted uses c.args.page c.index.result.now c.args.to c.args.self.now.free c.recount-self.result c.requires was c.args.self.now.counted c.recount-self.ensures;
      flagged = subst (IsFlagged (set uses c.args.page c.args.to)) (sym c.raise.ensures) (flagged_set uses flags c.args.page c.args.to c.requires c.args.self.now.flagged);
    }
