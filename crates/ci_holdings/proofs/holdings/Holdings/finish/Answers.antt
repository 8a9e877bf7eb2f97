use Rattle.std.proofs.Common.{◌≡◌, ◌∙◌, All, ap, map, subst, sym, true}
use Rattle.ci_journal.specs.Terms.{Served}
use Rattle.ci_journal.specs.declared.event.Happened.TheVariants.{BatchDone}
use Rattle.ci_journal.specs.Bytes.{capped, event_bytes}
use Rattle.ci_holdings.specs.Batches.{CanFinish}
use Rattle.ci_holdings.specs.Core.{Core}
use Rattle.ci_holdings.specs.Serving.{settle_all, tell_all, verdict_of}
use Rattle.ci_documents.specs.Documents.{StandFor, has_place}
use Rattle.ci_holdings.proofs.BatchLemmas.{docs_known, finished-kept}
use Rattle.ci_holdings.proofs.KeptLemmas.{IsHolding-placed, IsHolding-stays, LacksRoom-stays}
use Rattle.ci_holdings.proofs.holdings.Holdings.finish.Goals as goal

pub invariant_of-self : goal.invariant_of-self
invariant_of-self g c =
    (c.self.invariant.0, IsHolding-stays _ _ _ _ c.self.invariant.1 (LacksRoom-stays _ _ _ _ c.in_err-prepare.ensures.refused))

pub invariant_of-self-in_err-verdicts : goal.invariant_of-self-in_err-verdicts
invariant_of-self-in_err-verdicts g c =
    (c.self.invariant.0, IsHolding-stays _ _ _ _ c.self.invariant.1 c.in_ok-prepare.ensures.ok.stays)

pub invariant_of-self-in_err-make_places : goal.invariant_of-self-in_err-make_places
invariant_of-self-in_err-make_places g c =
    (c.self.invariant.0, IsHolding-placed _ _ _ _ _ c.self.invariant.1 c.in_ok-prepare.ensures.ok.stays c.in_err-make_places.ensures.keeps)

pub settle_all-requires-clause-known : goal.settle_all-requires-clause-known
settle_all-requires-clause-known g c =
    let may = subst (λ (core : Core). CanFinish core.sheet.events c.args.by c.args.batch.now c.args.outcomes) (sym c.self.view_is) c.requires in
    docs_known _ _ _ c.self.invariant.1 c.args.batch.now may.is_out c.items-4.result.now c.items-4.ensures

pub settle_all-requires-clause-places : goal.settle_all-requires-clause-places
settle_all-requires-clause-places g c =
    subst (All (λ doc. has_place c.make_places.new.documents.entries doc.0 ≡ true)) (c.items-3.ensures ∙ sym c.items-4.ensures) c.in_ok-make_places.ensures.places

pub invariant_of-self-2 : goal.invariant_of-self-2
invariant_of-self-2 g c =
    let may = subst (λ (core : Core). CanFinish core.sheet.events c.args.by c.args.batch.now c.args.outcomes) (sym c.self.view_is) c.requires in
    let noise = c.self.inside.noise in
    let docs = c.items-4.ensures in
    let verdicts = c.in_ok-verdicts.ensures ∙ ap (map (verdict_of noise)) c.items-2.ensures in
    let served = c.settle_all.ensures.changes ∙ ap (λ ds. tell_all c.self.inside.changes ds c.in_ok-verdicts.verdicts.items) docs ∙ ap (tell_all c.self.inside.changes c.args.batch.now.docs) verdicts in
    let stands : (s : Served) → s.numbers ≡ c.self.inside.changes.served → StandFor s.documents c.make_places.new.documents.entries
    → StandFor (settle_all s c.args.batch.now.docs (map (verdict_of noise) c.args.outcomes)).documents c.settle_all.new.documents.entries =
    λ s numbers stood. subst (λ vs. StandFor (settle_all s c.args.batch.now.docs vs).documents c.settle_all.new.documents.entries) verdicts
    (subst (λ ds. StandFor (settle_all s ds c.in_ok-verdicts.verdicts.items).documents c.settle_all.new.documents.entries) docs (c.settle_all.ensures.stands s numbers stood)) in (
      c.self.invariant.0,
      finished-kept _ _ _ c.self.invariant.1 _ _ c.args.by c.args.batch.now c.args.outcomes _ _ c.make_places.new.documents.entries _ may _ (c.done_bytes.ensures ∙ ap (λ os. capped (event_bytes (BatchDone c.args.batch.now.number os))) c.items.ensures) c.in_ok-prepare.ensures.ok
          c.in_ok-make_places.ensures.keeps served c.give_back.ensures stands c.add.ensures,
    )
