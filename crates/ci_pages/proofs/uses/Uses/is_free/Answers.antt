use Rattle.std.proofs.Common.{ap, arith, sym}
use Rattle.std.proofs.lemmas.List.{get_or_past}
use Rattle.ci_pages.specs.declared.page_use.PageUse.TheVariants.{Head}
use Rattle.ci_pages.specs.Uses.{is_free}
use Rattle.ci_pages.proofs.uses.Uses.is_free.Goals as goal

pub returns : goal.returns
returns c = ap is_free (sym (get_or_past c.args.self.now.pages.items c.args.page Head (omega arith)))
