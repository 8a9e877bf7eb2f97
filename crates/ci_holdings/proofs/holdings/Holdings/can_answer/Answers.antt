use Rattle.std.proofs.Common.{◌≡◌, ◌↔◌, ◌∙◌, ◌==◌, ◌&&◌, find, true, false, List, None, Some, subst, sym}
use Rattle.ci_journal.specs.Folds.{is_replied}
use Rattle.ci_journal.specs.Step.{MayAnswer}
use Rattle.ci_holdings.specs.declared.question.Question.{Question}
use Rattle.ci_holdings.specs.Core.{Core}
use Rattle.ci_holdings.proofs.AnswerLemmas.{answers, no_answer}
use Rattle.ci_holdings.proofs.MarksLemmas.{is_marked-is_replied}
use Rattle.ci_holdings.proofs.holdings.Holdings.can_answer.Goals as goal

pub returns-in_default : goal.returns-in_default
returns-in_default g c =
    let none = subst (λ (qs : List Question). find (λ (q : Question). q.id == c.args.id && q.at == c.args.at) qs ≡ None) c.as_slice.ensures.value (sym c.in_default.ensures) in
    subst (λ (core : Core). (false ≡ true) ↔ MayAnswer core.terms core.sheet.events c.args.id c.args.at c.args.paths.now) c.self.view_is (
      λ no. absurd (cc),
      λ may. absurd (no_answer _ _ _ c.args.id c.args.at c.args.paths.now c.self.invariant.1.opened none may),
    )

pub returns : goal.returns
returns g c =
    let unreplied : is_replied c.self.inside.book.events c.args.id ≡ false = sym (c.has.ensures ∙ is_marked-is_replied _ _ c.self.invariant.1.run _ c.self.invariant.1.marks c.args.id) ∙ c.if-has.false in
    let found = subst (λ (qs : List Question). find (λ (q : Question). q.id == c.args.id && q.at == c.args.at) qs ≡ Some c.in-Some.question.now) c.as_slice.ensures.value (sym c.in-Some.ensures) in
    let same : (c.are_same.result ≡ true) ↔ (c.in_ok-hits.hits ≡ c.args.paths.now) = (
      λ yes. sym c.items.ensures ∙ c.are_same.ensures.0 yes ∙ c.items-2.ensures,
      λ is. c.are_same.ensures.1 (c.items.ensures ∙ is ∙ sym c.items-2.ensures),
    ) in
    subst (λ (core : Core). (c.are_same.result ≡ true) ↔ MayAnswer core.terms core.sheet.events c.args.id c.args.at c.args.paths.now) c.self.view_is
    (answers _ _ _ c.args.id c.args.at c.args.paths.now c.self.invariant.1.opened c.query_law.ensures.one_tree unreplied c.in-Some.question.now found c.in_ok-hits.hits c.in_ok-hits.ensures c.are_same.result same)
