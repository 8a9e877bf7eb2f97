use Rattle.std.proofs.Common.{arith, ◌∙◌, ◌+◌, [], ◌∷◌, ◌++◌, ap, refl, false}
use Rattle.ci_journal.specs.declared.event.Happened.TheVariants.{Asked}
use Rattle.ci_journal.specs.Folds.{is_opened, is_replied}
use Rattle.ci_journal.proofs.ChainLemmas.{Chain-run}
use Rattle.ci_journal.proofs.RunLemmas.{requests_within}
use Rattle.ci_journal.specs.Tells.{event}
use Rattle.ci_holdings.proofs.AskingLemmas.{unopened-asked, unreplied-asked}
use Rattle.ci_holdings.proofs.KeptLemmas.{IsHolding-shown, IsHolding-stays, LacksRoom-stays}
use Rattle.ci_holdings.proofs.StepLemmas.{asked-kept}
use Rattle.ci_holdings.proofs.WithinLemmas.{IsWithin-small}
use Rattle.ci_holdings.proofs.holdings.Holdings.ask.Goals as goal

pub overflow_add-id : goal.overflow_add-id
overflow_add-id g c =
    let kept = c.self.invariant.1 in
    omega (arith, requests_within _ _ (Chain-run _ _ kept.run), kept.counts.requests, IsWithin-small _ _ _ kept.run kept.within, kept.small)

pub invariant_of-self : goal.invariant_of-self
invariant_of-self g c =
    (c.self.invariant.0, IsHolding-stays _ _ _ _ c.self.invariant.1 (LacksRoom-stays _ _ _ _ c.in_err-prepare.ensures.refused))

pub invariant_of-self-in_err-tree : goal.invariant_of-self-in_err-tree
invariant_of-self-in_err-tree g c =
    (c.self.invariant.0, IsHolding-stays _ _ _ _ c.self.invariant.1 c.in_ok-prepare.ensures.ok.stays)

pub invariant_of-self-in_err-prepare-2 : goal.invariant_of-self-in_err-prepare-2
invariant_of-self-in_err-prepare-2 g c =
    (c.self.invariant.0, IsHolding-shown _ _ _ _ _ (IsHolding-stays _ _ _ _ c.self.invariant.1 c.in_ok-prepare.ensures.ok.stays) refl c.in_err-prepare-2.ensures.list)

pub invariant_of-self-in_err-enqueue : goal.invariant_of-self-in_err-enqueue
invariant_of-self-in_err-enqueue g c =
    (c.self.invariant.0, IsHolding-shown _ _ _ _ _ (IsHolding-stays _ _ _ _ c.self.invariant.1 c.in_ok-prepare.ensures.ok.stays) c.in_err-enqueue.ensures.err c.in_ok-prepare-2.ensures.list)

pub invariant_of-self-2 : goal.invariant_of-self-2
invariant_of-self-2 g c = (
  c.self.invariant.0,
  asked-kept _ _ _ c.self.invariant.1 _ _ c.args.by c.args.request c.in_ok-tree.tree _ _ c.requires _ c.asked_bytes.ensures c.in_ok-prepare.ensures.ok c.in_ok-tree.ensures c.in_ok-enqueue.ensures.ok
      (c.ask.ensures ∙ ap (λ ms. ms ++ false ∷ []) c.in_ok-prepare-2.ensures.list) c.add.ensures,
)

pub returns-clause-unreplied : goal.returns-clause-unreplied
returns-clause-unreplied g c =
    ap (λ es. is_replied es (c.self.inside.requests + 1)) (c.add.ensures.adds.events ∙ ap (λ es. es ++ event c.args.by (Asked (c.self.inside.requests + 1) c.args.request) ∷ []) c.in_ok-prepare.ensures.ok.stays.events)
    ∙ unreplied-asked _ c.self.inside.book.events c.args.by (c.self.inside.requests + 1) c.args.request c.self.invariant.1.run (omega (arith, c.self.invariant.1.counts.requests))

pub returns-clause-unopened : goal.returns-clause-unopened
returns-clause-unopened g c =
    ap (λ es. is_opened es (c.self.inside.requests + 1)) (c.add.ensures.adds.events ∙ ap (λ es. es ++ event c.args.by (Asked (c.self.inside.requests + 1) c.args.request) ∷ []) c.in_ok-prepare.ensures.ok.stays.events)
    ∙ unopened-asked _ c.self.inside.book.events c.args.by (c.self.inside.requests + 1) c.args.request c.self.invariant.1.run (omega (arith, c.self.invariant.1.counts.requests))
