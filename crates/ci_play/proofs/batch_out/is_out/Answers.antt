use Rattle.std.proofs.Common.{◌≡◌, ◌∙◌, ◌++◌, [], ◌∷◌, ◌↔◌, List, true, Contains, Option, Some, None, ap, refl, subst, sym, take}
use Rattle.std.proofs.lemmas.List.{take_all, take_more}
use Rattle.ci_change.specs.declared.batch.Batch.{Batch}
use Rattle.ci_journal.specs.Filings.{Filings, filings, out}
use Rattle.ci_journal.specs.Tells.{Filed, tells}
use Rattle.ci_journal.proofs.FoldsLemmas.{file_where, filings-push}
use Rattle.ci_play.specs.Told.{out_where}
use Rattle.ci_play.proofs.batch_out.is_out.Goals as goal

same_out : (so_far : Filings) (o : Option Filed) → (file_where so_far o).out ≡ out_where so_far o
same_out so_far None = refl
same_out so_far (Some filed) = refl

pub loop-event-preserved : goal.loop-event-preserved
loop-event-preserved c =
    let item = c.event-item.result in
    let so_far = filings (take c.loop-event.event-index c.args.events.now) in
    let more = take_more c.args.events.now c.loop-event.event-index item c.loop-event-test.true ∙ ap (λ e. take c.loop-event.event-index c.args.events.now ++ e ∷ []) (sym c.event-item.is) in
    let files = ap (λ (f : Filings). f.out) (ap filings more ∙ filings-push (take c.loop-event.event-index c.args.events.now) item) ∙ same_out so_far (tells item.what).filed in
    subst (λ (bs : List Batch). (c.is_out_behind-is_out.result ≡ true) ↔ Contains bs c.args.batch.now) (sym files) (c.is_out_behind-is_out.ensures so_far c.loop-event.invariant)

pub returns : goal.returns
returns c = subst (λ es. (c.loop-event.is_out ≡ true) ↔ Contains (out es) c.args.batch.now) (take_all c.loop-event.event-index c.args.events.now c.loop-event-test.false) c.loop-event.invariant
