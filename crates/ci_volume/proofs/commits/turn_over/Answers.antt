use Rattle.std.proofs.Common.{◌≡◌, ◌∙◌, ℕ, List, ap, length, subst, sym, ⊎_elim}
use Rattle.std.proofs.lemmas.List.{length-map}
use Rattle.ci_pages.specs.Tables.{Relinks, turned}
use Rattle.ci_pages.specs.Uses.{use_of}
use Rattle.ci_pages.proofs.Lists.{held_apart, use_of_turned}
use Rattle.ci_pages.proofs.Marking.{contains_or}
use Rattle.ci_volume.proofs.commits.turn_over.Goals as goal

pub leave_all-requires : goal.leave_all-requires
leave_all-requires c page contained =
    let old = c.args.table.now.uses.pages.items in
    let apart = held_apart old c.args.pages.now c.args.root.now c.requires.reserved c.requires.held page contained in
    c.fill.ensures.marked.others page apart ∙ c.requires.held page contained

pub returns-clause-turned : goal.returns-clause-turned
returns-clause-turned c =
    let old = c.args.table.now.uses.pages.items in
    let filled = c.fill.new.self.uses.pages.items in
    let left = c.leave_all.new.self.uses.pages.items in
    let use_now : (page : ℕ) → use_of c.turn.new.self.uses.pages.items page ≡ turned (use_of left page) = λ page. ap (λ us. use_of us page) c.turn.ensures.uses ∙ use_of_turned left page in
    record {
      root = λ page contained. use_now page ∙ ap turned (c.leave_all.ensures.marked.each page contained);
      others = λ page not.
          use_now page ∙ ap turned (c.leave_all.ensures.marked.others page not)
          ∙ ⊎_elim
          (λ here. ap turned (c.fill.ensures.marked.each page here) ∙ sym (ap turned (c.requires.reserved page here)))
          (λ there. ap turned (c.fill.ensures.marked.others page there))
          (contains_or c.args.pages.now page);
    }

pub returns-clause-size : goal.returns-clause-size
returns-clause-size c =
    ap length c.turn.ensures.uses ∙ length-map c.leave_all.new.self.uses.pages.items turned ∙ c.leave_all.ensures.marked.size ∙ c.fill.ensures.marked.size

pub returns-clause-linked : goal.returns-clause-linked
returns-clause-linked c =
    subst (λ (links : List ℕ). Relinks c.args.table.now.links.items links c.args.pages.now) (sym (c.turn.ensures.links ∙ c.leave_all.ensures.links)) c.fill.ensures.linked

pub returns-clause-filled : goal.returns-clause-filled
returns-clause-filled c page contained =
    let old = c.args.table.now.uses.pages.items in
    let left = c.leave_all.new.self.uses.pages.items in
    let apart = held_apart old c.args.pages.now c.args.root.now c.requires.reserved c.requires.held page in
    ap (λ us. use_of us page) c.turn.ensures.uses ∙ use_of_turned left page
    ∙ ap turned (c.leave_all.ensures.marked.others page (λ there. apart there contained) ∙ c.fill.ensures.marked.each page contained)
