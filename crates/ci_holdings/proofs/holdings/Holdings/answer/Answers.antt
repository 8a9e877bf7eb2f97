use Rattle.std.proofs.Common.{arith, subst, sym}
use Rattle.ci_journal.specs.Step.{MayAnswer}
use Rattle.ci_holdings.specs.Core.{Core}
use Rattle.ci_journal.proofs.ChainLemmas.{Chain-run}
use Rattle.ci_journal.proofs.RunLemmas.{request_within}
use Rattle.ci_holdings.proofs.AskingLemmas.{replies_within}
use Rattle.ci_holdings.proofs.KeptLemmas.{IsHolding-moved, IsHolding-stays, LacksRoom-stays}
use Rattle.ci_holdings.proofs.StepLemmas.{answered-kept}
use Rattle.ci_holdings.proofs.WithinLemmas.{IsWithin-small}
use Rattle.ci_holdings.proofs.holdings.Holdings.answer.Goals as goal

pub invariant_of-self : goal.invariant_of-self
invariant_of-self g c =
    (c.self.invariant.0, IsHolding-stays _ _ _ _ c.self.invariant.1 (LacksRoom-stays _ _ _ _ c.in_err-lines.ensures.refused))

pub mark-requires-clause-within : goal.mark-requires-clause-within
mark-requires-clause-within g c =
    let may = subst (λ (core : Core). MayAnswer core.terms core.sheet.events c.args.id c.args.at c.args.paths) (sym c.self.view_is) c.requires in
    let asks = may.right.asks in
    omega (arith, (request_within c.self.inside.book.events c.args.id asks.request asks.found).1, c.self.invariant.1.marks.counted)

pub overflow_add-self : goal.overflow_add-self
overflow_add-self g c =
    let kept = c.self.invariant.1 in
    omega (arith, replies_within _ _ (Chain-run _ _ kept.run), kept.counts.replies, IsWithin-small _ _ _ kept.run kept.within, kept.small)

pub invariant_of-self-in_err-write : goal.invariant_of-self-in_err-write
invariant_of-self-in_err-write g c =
    let may = subst (λ (core : Core). MayAnswer core.terms core.sheet.events c.args.id c.args.at c.args.paths) (sym c.self.view_is) c.requires in
    let kept = answered-kept _ _ _ c.self.invariant.1 c.enter.new.self c.args.by c.args.id c.args.at c.args.paths c.mark.new.self _ may c.mark.ensures c.close_question.ensures c.in_ok-lines.ensures.ok in
    (c.self.invariant.0, IsHolding-moved _ _ _ _ kept c.in_err-write.ensures.refused.events (omega (arith, c.in_err-write.ensures.refused.spare)) c.in_err-write.ensures.refused.limit)

pub invariant_of-self-2 : goal.invariant_of-self-2
invariant_of-self-2 g c =
    let may = subst (λ (core : Core). MayAnswer core.terms core.sheet.events c.args.id c.args.at c.args.paths) (sym c.self.view_is) c.requires in
    let kept = answered-kept _ _ _ c.self.invariant.1 c.enter.new.self c.args.by c.args.id c.args.at c.args.paths c.mark.new.self _ may c.mark.ensures c.close_question.ensures c.in_ok-lines.ensures.ok in
    (c.self.invariant.0, IsHolding-moved _ _ _ _ kept c.in_ok-write.ensures.ok.events (omega (arith, c.in_ok-write.ensures.ok.spare)) c.in_ok-write.ensures.ok.limit)
