use Rattle.std.proofs.Common.{◌∙◌, ap, arith, get_or, inl, inr, refl, subst, take, take_all, ⊎_elim}
use Rattle.std.proofs.lemmas.List.Elements.{Contains-get_or}
use Rattle.ci_pages.specs.Tables.{is_held}
use Rattle.ci_pages.specs.Uses.{Marks}
use Rattle.ci_pages.specs.declared.page_use.PageUse.TheVariants.{Leaving}
use Rattle.ci_pages.proofs.Lists.{passes_within}
use Rattle.ci_pages.proofs.Marking.{contains_or, marks_next, marks_none}
use Rattle.ci_pages.proofs.table.PageTable.leave_all.Goals as goal

pub loop-page-init : goal.loop-page-init
loop-page-init c = record { marks = marks_none c.args.self.now.uses.pages.items Leaving; links = refl; pending = refl }

pub leave_once-requires : goal.leave_once-requires
leave_once-requires c =
    let pages = c.args.pages.now in
    let i = c.loop-page.page-index in
    let page = get_or pages i 0 in
    let marks = c.loop-page.invariant.marks in
    ⊎_elim
    (λ before. inr (marks.each page before))
    (λ not. inl (marks.others page not ∙ c.requires page (Contains-get_or pages i 0 c.loop-page-test.true)))
    (contains_or (take i pages) page)

pub loop-page-preserved : goal.loop-page-preserved
loop-page-preserved c =
    let pages = c.args.pages.now in
    let i = c.loop-page.page-index in
    let old = c.args.self.now.uses.pages.items in
    let within = passes_within is_held old (get_or pages i 0) refl (ap is_held (c.requires (get_or pages i 0) (Contains-get_or pages i 0 c.loop-page-test.true))) in
    record {
      marks = marks_next old c.loop-page.self.uses.pages.items c.leave_once.new.self.uses.pages.items pages i Leaving c.loop-page-test.true c.loop-page.invariant.marks within c.leave_once.ensures.uses;
      links = c.leave_once.ensures.links ∙ c.loop-page.invariant.links;
      pending = c.leave_once.ensures.pending ∙ c.loop-page.invariant.pending;
    }

pub returns-clause-marked : goal.returns-clause-marked
returns-clause-marked c =
    subst (λ xs. Marks c.args.self.now.uses.pages.items c.loop-page.self.uses.pages.items xs Leaving) (take_all c.loop-page.page-index c.args.pages.now (omega arith)) c.loop-page.invariant.marks
