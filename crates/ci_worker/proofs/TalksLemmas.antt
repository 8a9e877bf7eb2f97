-- What one more event adds to the talks of a journal.
use Rattle.std.proofs.Common.{arith, ◌≡◌, ◌==◌, ◌∙◌, ℕ, Bool, true, false, List, [], ◌∷◌, ◌++◌, Option, Some, None, fold, option_to_list, refl, ap, sym, append-nil}
use Rattle.std.proofs.lemmas.Bool.Decides.{nat_tests}
use Rattle.ci_change.specs.declared.batch.Batch.{Batch}
use Rattle.ci_journal.specs.declared.event.Event.{Event}
use Rattle.ci_journal.specs.Filings.{Filings, docs_out, file, filings, nothing_filed, out}
use Rattle.ci_journal.specs.Tells.{Ending, Filed, Tells, tellings, tells}
use Rattle.ci_journal.specs.Tells.Ending.{Back}
use Rattle.ci_journal.specs.Tells.Filed.{One, Begins, Ends}
use Rattle.ci_journal.proofs.TellsLemmas.{tellings-fold}
use Rattle.ci_worker.specs.Filtering.{is_of_batch}
use Rattle.ci_worker.specs.Talks.{BatchTalk, Heard, hear, heard, talk_at_end, talk_in, talks}

-- the talks are heard beside what is filed
filings-heard : (filed : List Filed) (so_far : Heard) → (fold hear so_far filed).filings ≡ fold file so_far.filings filed
filings-heard [] so_far = refl
filings-heard (f ∷ filed) so_far = filings-heard filed (hear so_far f)

heard_filings : (journal : List Event) → (heard journal).filings ≡ filings journal
heard_filings journal = filings-heard (tellings (λ t. t.filed) journal) (record { talks = []; filings = nothing_filed })

abbrev talk_where : List Batch → Option Filed → List BatchTalk
talk_where out None = []
talk_where out (Some filed) = talk_in out filed

talks-push : (journal : List Event) (e : Event) → talks (journal ++ e ∷ []) ≡ talks journal ++ talk_where (out journal) (tells e.what).filed
talks-push journal e =
    ap (λ (h : Heard). h.talks) (tellings-fold (λ (t : Tells). t.filed) hear (record { talks = []; filings = nothing_filed }) journal e)
    ∙ one (tells e.what).filed ∙ ap (λ (f : Filings). talks journal ++ talk_where f.out (tells e.what).filed) (heard_filings journal)
  where
    one : (o : Option Filed) → (fold hear (heard journal) (option_to_list o)).talks ≡ talks journal ++ talk_where (heard journal).filings.out o
    one None = sym (append-nil (talks journal))
    one (Some filed) = refl

-- the end of a batch is filed
abbrev pub ends_batch : Option Filed → Bool
ends_batch (Some (Ends number ending)) = true
ends_batch _ = false

pub unended : (o : Option Filed) → is_of_batch o ≡ false → ends_batch o ≡ false
unended None is = refl
unended (Some (One filing)) is = refl
unended (Some (Begins batch)) is = absurd (cc)
unended (Some (Ends number ending)) is = absurd (cc)

-- an event that ends no batch tells of no talk
pub talks-beside : (journal : List Event) (e : Event) → ends_batch (tells e.what).filed ≡ false → talks (journal ++ e ∷ []) ≡ talks journal
talks-beside journal e none_ends = talks-push journal e ∙ ap (λ ts. talks journal ++ ts) (none (tells e.what).filed none_ends) ∙ append-nil (talks journal)
  where
    none : (o : Option Filed) → ends_batch o ≡ false → talk_where (out journal) o ≡ []
    none None is = refl
    none (Some (One filing)) is = refl
    none (Some (Begins batch)) is = refl
    none (Some (Ends number ending)) is = absurd (cc)

docs-alone : (batch : Batch) → docs_out (batch ∷ []) batch.number ≡ batch.docs
docs-alone batch =
    let same : (batch.number == batch.number) ≡ true = grind (arith, nat_tests) in
    rw same (append-nil batch.docs)

-- the end of the one batch that is out tells of the talk over its documents
pub talks-ended : (journal : List Event) (e : Event) (batch : Batch) (ending : Ending) → out journal ≡ batch ∷ [] → (tells e.what).filed ≡ Some (Ends batch.number ending)
    → talks (journal ++ e ∷ []) ≡ talks journal ++ talk_at_end batch.docs ending
talks-ended journal e batch ending alone ends =
    talks-push journal e ∙ ap (λ o. talks journal ++ talk_where (out journal) o) ends ∙ ap (λ bs. talks journal ++ talk_at_end (docs_out bs batch.number) ending) alone
    ∙ ap (λ ds. talks journal ++ talk_at_end ds ending) (docs-alone batch)

-- a batch that is given back tells of none
pub talks-returned : (journal : List Event) (e : Event) (number : ℕ) → (tells e.what).filed ≡ Some (Ends number Back) → talks (journal ++ e ∷ []) ≡ talks journal
talks-returned journal e number back = talks-push journal e ∙ ap (λ o. talks journal ++ talk_where (out journal) o) back ∙ append-nil (talks journal)
