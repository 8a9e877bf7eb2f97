use Rattle.std.proofs.Common.{arith, ◌∙◌, ◌≡◌, ◌∷◌, ◌++◌, [], ap, refl, subst, sym, rules, length, drop}
use Rattle.ci_documents.proofs.DocumentsLemmas.{present-entries}
use Rattle.ci_holdings.specs.Core.{Core}
use Rattle.ci_holdings.specs.Opening.{NoneWaits}
use Rattle.ci_holdings.specs.Waiting.{IsQueue}
use Rattle.ci_holdings.proofs.AskingLemmas.{front-is, none-first, opens-first}
use Rattle.ci_holdings.proofs.HaltsLemmas.{Rests-refl}
use Rattle.ci_holdings.proofs.KeptLemmas.{IsHolding-stays, LacksRoom-stays}
use Rattle.ci_holdings.proofs.QueueLemmas.{IsQueue-none}
use Rattle.ci_holdings.proofs.StepLemmas.{opened-kept}
use Rattle.ci_holdings.proofs.holdings.Holdings.open_query.Goals as goal

pub returns-in_default-clause-ok : goal.returns-in_default-clause-ok
returns-in_default-clause-ok g c =
    let empty = none-first c.self.inside.waiting.items (sym c.in_default.ensures) in
    let none = IsQueue-none _ _ (subst (IsQueue _ _) empty c.self.invariant.1.waits) in
    (subst (λ (core : Core). NoneWaits core.terms core.sheet.events) c.self.view_is none, Rests-refl c.args.self.now)

pub invariant_of-self : goal.invariant_of-self
invariant_of-self g c =
    (c.self.invariant.0, IsHolding-stays _ _ _ _ c.self.invariant.1 (LacksRoom-stays _ _ _ _ c.in_err-prepare.ensures.refused))

pub invariant_of-self-in_err-tree : goal.invariant_of-self-in_err-tree
invariant_of-self-in_err-tree g c =
    (c.self.invariant.0, IsHolding-stays _ _ _ _ c.self.invariant.1 c.in_ok-prepare.ensures.ok.stays)

pub invariant_of-self-2 : goal.invariant_of-self-2
invariant_of-self-2 g c =
    let rest : c.pop_front.new.self.items ≡ drop 1 c.self.inside.waiting.items = search rules in
    let front = front-is c.self.inside.waiting.items c.pop_front.new.self.items c.in-Some.first.now (sym c.in-Some.ensures) rest in
    let plain = c.in_ok-plain.ensures ∙ c.in_ok-plain_list.ensures.plain ∙ present-entries _ _ c.in_ok-plain_list.ensures.order c.self.invariant.1.stands in
    let counted = ap length (c.events.ensures ∙ c.journal.ensures ∙ c.in_ok-prepare.ensures.ok.stays.events) in
    let more = c.in_ok-keep_question.ensures.ok ∙ ap (λ q. c.self.inside.questions.items ++ q ∷ []) c.in_ok-copy.ensures in (
      c.self.invariant.0,
      opened-kept _ _ _ c.self.invariant.1 c.prepare.new.self c.add.new.self c.args.by c.in-Some.first.now c.pop_front.new.self.items _ c.keep_question.new.questions.items _ refl c.in_ok-prepare.ensures.ok front
          refl c.in_ok-tree.ensures (omega (arith, counted)) plain more c.add.ensures,
    )

pub returns-clause-ok : goal.returns-clause-ok
returns-clause-ok g c =
    let rest : c.pop_front.new.self.items ≡ drop 1 c.self.inside.waiting.items = search rules in
    let front = front-is c.self.inside.waiting.items c.pop_front.new.self.items c.in-Some.first.now (sym c.in-Some.ensures) rest in
    let plain = c.in_ok-plain.ensures ∙ c.in_ok-plain_list.ensures.plain ∙ present-entries _ _ c.in_ok-plain_list.ensures.order c.self.invariant.1.stands in
    let counted = ap length (c.events.ensures ∙ c.journal.ensures ∙ c.in_ok-prepare.ensures.ok.stays.events) in
    rw (← c.self.view_is) (opens-first _ _ _ c.self.invariant.1 c.prepare.new.self c.args.by _ _ c.in-Some.first.now _ _ (record { terms = refl; most = refl }) refl
    refl c.in_ok-prepare.ensures.ok front c.add.ensures refl c.in_ok-tree.ensures (omega (arith, counted)) plain)
