use Rattle.std.proofs.Common.{arith, ◌∙◌, ap, refl, subst, sym}
use Rattle.ci_journal.proofs.ChainLemmas.{Chain-run}
use Rattle.ci_journal.proofs.RunLemmas.{batches_within}
use Rattle.ci_holdings.specs.Core.{terms_of}
use Rattle.ci_journal.specs.declared.event.Happened.TheVariants.{Begun}
use Rattle.ci_change.specs.HandedIn.{without_batch}
use Rattle.ci_holdings.specs.Batches.{IsNextBatch}
use Rattle.ci_journal.specs.Bytes.{capped}
use Rattle.ci_journal.specs.Tells.{event}
use Rattle.ci_book.specs.Changes.{Puts}
use Rattle.ci_holdings.proofs.BatchLemmas.{begun-kept, free_is, given_back, none-when, some-when, taken-next}
use Rattle.ci_book.proofs.ChangesLemmas.{Adds-prepared, fits-one, journal_bytes-one}
use Rattle.ci_holdings.proofs.HaltsLemmas.{HaltsBeginning-of, Halts-from_LacksRoom, Stays-refl}
use Rattle.ci_holdings.proofs.KeptLemmas.{IsHolding-stays, IsHolding-tracked, LacksRoom-stays}
use Rattle.ci_holdings.proofs.WithinLemmas.{IsWithin-small, places_within}
use Rattle.ci_holdings.proofs.holdings.Holdings.begin.Goals as goal

pub overflow_add-number : goal.overflow_add-number
overflow_add-number g c =
    let kept = c.self.invariant.1 in
    omega (arith, batches_within _ _ (Chain-run _ _ kept.run), kept.counts.begun, IsWithin-small _ _ _ kept.run kept.within, kept.small)

pub overflow_add-self-inside : goal.overflow_add-self-inside
overflow_add-self-inside g c =
    let kept = c.self.invariant.1 in
    omega (arith, kept.counts.places, places_within _ _ _ kept.run kept.within, kept.small)

pub overflow_add-self : goal.overflow_add-self
overflow_add-self g c =
    let kept = c.self.invariant.1 in
    omega (arith, kept.counts.places, places_within _ _ _ kept.run kept.within, kept.small)

pub returns-then-is_empty-clause-ok : goal.returns-then-is_empty-clause-ok
returns-then-is_empty-clause-ok g c =
    let none = sym c.items.ensures ∙ none-when c.items.result.now c.if-is_empty.ensures in
    rw (← c.self.view_is) (
      sym (free_is _ _ _ c.self.invariant.1) ∙ c.in_ok-batch.ensures.empty.0 none,
      record { stays = Stays-refl _; told = record { terms = refl; most = refl }; numbered = refl },
    )

next : (g : _) (c : goal.After-add g) → IsNextBatch (terms_of c.self.inside.noise c.self.inside.retries) c.self.inside.book.events c.args.max c.in_ok-batch.batch
next g c =
    taken-next _ _ _ c.self.invariant.1 c.args.max c.in_ok-batch.batch c.in_ok-batch.ensures.batch (some-when _ c.items.result.now c.items.ensures c.if-is_empty.ensures)

next_refused : (g : _) (c : goal.After-drop-batch-in-Err-1 g) → IsNextBatch (terms_of c.self.inside.noise c.self.inside.retries) c.self.inside.book.events c.args.max c.in_ok-batch.batch
next_refused g c =
    taken-next _ _ _ c.self.invariant.1 c.args.max c.in_ok-batch.batch c.in_ok-batch.ensures.batch (some-when _ c.items.result.now c.items.ensures c.if-is_empty.ensures)

added : (g : _) (c : goal.After-add g) → Puts c.ready_to_begin.new.book c.add.new.self (event c.args.by (Begun c.in_ok-batch.batch))
added g c = subst (λ b. Puts c.ready_to_begin.new.book c.add.new.self (event c.args.by (Begun b))) c.in-Ok.ensures.batch c.add.ensures

pub invariant_of-self-in-Ok : goal.invariant_of-self-in-Ok
invariant_of-self-in-Ok g c =
    (c.self.invariant.0, begun-kept _ _ _ c.self.invariant.1 _ _ c.args.by c.args.max c.in_ok-batch.batch _ (next g c) _ refl c.in-Ok.ensures.ok c.in_ok-batch.ensures.out (added g c))

pub invariant_of-self-in-Err-1 : goal.invariant_of-self-in-Err-1
invariant_of-self-in-Err-1 g c =
    let same = c.give_back.ensures ∙ ap (λ h. without_batch h c.in_ok-batch.batch.number) c.in_ok-batch.ensures.out ∙ given_back _ _ _ c.self.invariant.1 c.in_ok-batch.batch (next_refused g c).some (next_refused g c).number in
    (c.self.invariant.0, IsHolding-tracked _ _ _ _ (IsHolding-stays _ _ _ _ c.self.invariant.1 (LacksRoom-stays _ _ _ _ c.in-Err.ensures.refused)) same)

pub returns-in-Ok-clause-ok : goal.returns-in-Ok-clause-ok
returns-in-Ok-clause-ok g c =
    rw (← c.self.view_is) (
      next g c,
      record {
        adds = Adds-prepared _ _ _ _ c.in-Ok.ensures.ok.stays (added g c).adds;
        within = fits-one _ _ _ _ _ _ c.self.invariant.1.small refl c.in-Ok.ensures.ok (added g c).adds;
        told = record { terms = refl; most = refl };
        numbered = refl;
      },
    )

pub returns-in-Err-clause-refused : goal.returns-in-Err-clause-refused
returns-in-Err-clause-refused g c =
    rw (← c.self.view_is) (HaltsBeginning-of _ _ c.args.by c.args.max c.in_ok-batch.batch c.in-Err.fault _ _ c.of.ensures.fault c.of.ensures.tried (next_refused g c)
    (Halts-from_LacksRoom _ _ (event c.args.by (Begun c.in_ok-batch.batch)) _ c.in-Err.fault c.self.invariant.1.small (ap capped (sym (journal_bytes-one (event c.args.by (Begun c.in_ok-batch.batch))))) c.in-Err.ensures.refused (record { terms = refl; most = refl }) refl))
