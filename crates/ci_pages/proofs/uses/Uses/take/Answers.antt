use Rattle.std.proofs.Common.{Contains, subst}
use Rattle.ci_pages.specs.declared.page_use.PageUse.TheVariants.{Reserved}
use Rattle.ci_pages.specs.Uses.{Marks}
use Rattle.ci_pages.proofs.LeastFree.{least, none_left, taken_free, taken_within}
use Rattle.ci_pages.proofs.uses.Uses.take.Goals as goal

pub mark-requires : goal.mark-requires
mark-requires c page contained =
    taken_within c.args.self.now.pages.items c.in_ok-stop.stop c.find.new.out.items c.in_ok-stop.ensures.found page
    (subst (λ xs. Contains xs page) c.deref.ensures.value contained)

pub lower-requires-clause-none : goal.lower-requires-clause-none
lower-requires-clause-none c =
    none_left c.args.self.now.pages.items c.in_ok-stop.stop c.find.new.out.items c.in_ok-stop.ensures.found c.mark.new.self.pages.items
    (subst (λ xs. Marks c.args.self.now.pages.items c.mark.new.self.pages.items xs Reserved) c.deref.ensures.value c.mark.ensures)

pub returns-clause-least : goal.returns-clause-least
returns-clause-least c =
    least c.args.self.now.pages.items c.in_ok-stop.stop c.find.new.out.items c.in_ok-stop.ensures.found c.args.count c.in_ok-stop.ensures.count

pub returns-clause-free : goal.returns-clause-free
returns-clause-free c =
    taken_free c.args.self.now.pages.items c.in_ok-stop.stop c.find.new.out.items c.in_ok-stop.ensures.found
