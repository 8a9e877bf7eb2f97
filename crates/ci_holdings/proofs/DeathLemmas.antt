-- What a catalogue keeps as a daemon dies within a document of a batch: the batch is out no more, and the one document is
-- charged.
use Rattle.std.proofs.Common.{arith, ◌≡◌, ◌∙◌, ℕ, ◌-◌, ◌<◌, IsTrue, List, [], ◌∷◌, ◌++◌, Contains, drop, get_or, length, map, take, refl, ap, sym, subst, append-nil, if◌then◌else◌}
use Rattle.std.proofs.lemmas.List.{drop_more}
use Rattle.ci_base.specs.declared.numbers.Seq.{Seq}
use Rattle.ci_change.specs.declared.batch.Batch.{Batch}
use Rattle.ci_change.specs.Charges.{was_reached, with_charge}
use Rattle.ci_change.specs.HandedIn.{HandedIn, without_batch}
use Rattle.ci_journal.specs.declared.event.Event.{Event}
use Rattle.ci_journal.specs.declared.event.Happened.TheVariants.{BatchDied, Returned}
use Rattle.ci_journal.specs.Filings.{Filings, docs_out, fates, fates_at_end, filing, out, without_number}
use Rattle.ci_journal.specs.Folds.{notices}
use Rattle.ci_journal.specs.Pending.{charge_of, charges_in, refusal_of, refusals_in}
use Rattle.ci_journal.specs.Served.{live_map, numbers_of, served_by}
use Rattle.ci_journal.specs.Step.{MayEnd}
use Rattle.ci_journal.specs.Tells.{Filing, event}
use Rattle.ci_journal.specs.Tells.Fate.{Charged}
use Rattle.ci_journal.specs.Tells.Ending.{Within}
use Rattle.ci_journal.specs.Terms.{Served, Terms}
use Rattle.ci_journal.proofs.FoldsLemmas.{filings-push, numbers_of-push, served_by-push}
use Rattle.ci_journal.proofs.TellsLemmas.{filter_map-push}
use Rattle.ci_book.specs.Book.{IsWithin}
use Rattle.ci_book.specs.Changes.{Puts}
use Rattle.ci_book.specs.Sheet.{Sheet}
use Rattle.ci_documents.specs.Documents.{StandFor}
use Rattle.ci_holdings.specs.Kept.{IsHolding, Shelf}
use Rattle.ci_holdings.proofs.KeptLemmas.{Follows, IsHolding-follows}
use Rattle.ci_holdings.proofs.OpenLemmas.{AreOpen-later}
use Rattle.ci_holdings.proofs.OutLemmas.{docs_out-is, docs_reached, out-push}
use Rattle.ci_holdings.proofs.QueueLemmas.{IsQueue-silent}
use Rattle.ci_holdings.proofs.WithinLemmas.{IsWithin-end, fewer-out}

-- the one document at a place
one_at : (docs : List (List ℕ × Seq)) (k : ℕ) (d : List ℕ × Seq) → k < length docs → take 1 (drop k docs) ≡ get_or docs k d ∷ []
one_at docs k d within = ap (take 1) (drop_more docs k d within)

module _ (terms : Terms) (old : Sheet) (shelf : Shelf) (kept : IsHolding terms old shelf) (batch : Batch) (charged : ℕ) (doc : List ℕ × Seq)
    (here : Contains (out old.events) batch) (within : charged < length batch.docs) (at : get_or batch.docs charged doc ≡ doc) where
  abbrev fate : Filing
  fate = filing doc Charged

  -- the fates that the death files: one charge
  filed_at : fates_at_end (docs_out (out old.events) batch.number) (Within charged) ≡ fate ∷ []
  filed_at =
      ap (λ ds. fates_at_end ds (Within charged)) (docs_out-is terms old.events kept.run batch here)
      ∙ ap (map (λ d. filing d Charged)) (one_at batch.docs charged doc within ∙ ap (λ d. d ∷ []) at)

  behind : fates old.events ++ fates_at_end (docs_out (out old.events) batch.number) (Within charged) ≡ fates old.events ++ fate ∷ []
  behind = ap (λ fs. fates old.events ++ fs) filed_at

  -- the change list counts the charge, since the document was noted under its number
  reached : IsTrue (was_reached shelf.changes.notices doc.0 doc.1.0)
  reached =
      subst (λ ns. IsTrue (was_reached ns doc.0 doc.1.0)) (sym kept.tracks.notices)
      (subst (λ (d : List ℕ × Seq). IsTrue (was_reached (notices terms old.events) d.0 d.1.0)) at (docs_reached terms old.events kept.run batch here charged doc within))

  charges_behind : (tried : HandedIn) → tried ≡ with_charge shelf.changes doc.0 doc.1 → tried.charges ≡ charges_in (fates old.events ++ fates_at_end (docs_out (out old.events) batch.number) (Within charged))
  charges_behind tried handed =
      ap (λ (h : HandedIn). h.charges) handed
      ∙ ap (λ b. if b then shelf.changes.charges ++ (doc.0, doc.1) ∷ [] else shelf.changes.charges) reached
      ∙ ap (λ cs. cs ++ (doc.0, doc.1) ∷ []) kept.tracks.charges
      ∙ sym (filter_map-push charge_of (fates old.events) fate)
      ∙ ap charges_in (sym behind)

  -- a charge serves nothing
  numbers_behind : numbers_of (fates old.events) ≡ numbers_of (fates old.events ++ fates_at_end (docs_out (out old.events) batch.number) (Within charged))
  numbers_behind = sym (append-nil (numbers_of (fates old.events))) ∙ sym (numbers_of-push (fates old.events) fate) ∙ ap numbers_of (sym behind)

  -- and isn't a refusal
  refusals_behind : refusals_in (fates old.events) ≡ refusals_in (fates old.events ++ fates_at_end (docs_out (out old.events) batch.number) (Within charged))
  refusals_behind = sym (append-nil (refusals_in (fates old.events))) ∙ sym (filter_map-push refusal_of (fates old.events) fate) ∙ ap refusals_in (sym behind)

  -- no entry changes, and the one document is charged
  pub died-entries : (by : ℕ) → live_map terms (old.events ++ event by (BatchDied batch.number charged) ∷ []) ≡ live_map terms old.events
  died-entries by =
      ap (λ (f : Filings). (served_by terms f.filed).documents) (filings-push old.events (event by (BatchDied batch.number charged)))
      ∙ ap (λ fs. (served_by terms fs).documents) behind ∙ ap (λ (s : Served). s.documents) (served_by-push terms (fates old.events) fate)

  pub died-charges : (by : ℕ) → charges_in (fates (old.events ++ event by (BatchDied batch.number charged) ∷ [])) ≡ charges_in (fates old.events) ++ take 1 (drop charged batch.docs)
  died-charges by =
      ap (λ (f : Filings). charges_in f.filed) (filings-push old.events (event by (BatchDied batch.number charged)))
      ∙ ap charges_in behind ∙ filter_map-push charge_of (fates old.events) fate
      ∙ ap (λ ds. charges_in (fates old.events) ++ ds) (sym (one_at batch.docs charged doc within ∙ ap (λ (d : List ℕ × Seq). d ∷ []) at))

  -- a daemon died within the document
  pub died-kept : (new : Sheet) (by : ℕ) (tried after : HandedIn) → MayEnd old.events by batch.number batch → tried ≡ with_charge shelf.changes doc.0 doc.1 → after ≡ without_batch tried batch.number →
      Puts old new (event by (BatchDied batch.number charged)) → IsHolding terms new (record shelf { changes = after; places = shelf.places - 1 })
  died-kept new by tried after may handed given puts =
      let after_death : Shelf = record shelf { changes = after; places = shelf.places - 1 } in
      let e : Event = event by (BatchDied batch.number charged) in
      let follows : Follows terms old e shelf after_death = record {
        may = (batch, may, within);
        alone = refl;
        requests = omega arith;
        replies = omega arith;
        noted = omega arith;
        begun = omega arith;
        places = omega (arith, kept.counts.places, fewer-out terms old.events batch kept.run here);
        failed = refl;
        opened = AreOpen-later terms old.events e shelf.questions refl kept.opened;
        waits = IsQueue-silent terms old.events e shelf.waiting refl refl kept.waits;
        marks = refl;
        notices = ap (λ (h : HandedIn). h.notices) given ∙ ap (λ (h : HandedIn). h.notices) handed ∙ sym (append-nil _);
        served = ap (λ (h : HandedIn). h.served) given ∙ ap (λ (h : HandedIn). h.served) handed ∙ kept.tracks.served ∙ ap (λ ns. terms.beginning.numbers ++ ns) numbers_behind;
        charges = ap (λ (h : HandedIn). h.charges) given ∙ charges_behind tried handed;
        refusals = ap (λ (h : HandedIn). h.refusals) given ∙ ap (λ (h : HandedIn). h.refusals) handed ∙ kept.tracks.refusals ∙ refusals_behind;
        retries = ap (λ (h : HandedIn). h.retries) given ∙ ap (λ (h : HandedIn). h.retries) handed;
        out = ap (λ (h : HandedIn). h.out) given ∙ ap (λ (h : HandedIn). without_number h.out batch.number) handed ∙ ap (λ bs. without_number bs batch.number) kept.tracks.out;
        stands = subst (λ fs. StandFor (served_by terms fs).documents shelf.documents) (sym behind)
            (subst (λ (s : Served). StandFor s.documents shelf.documents) (sym (served_by-push terms (fates old.events) fate)) kept.stands);
      } in
      IsHolding-follows terms old e shelf after_death kept follows new puts.adds.events puts.adds.limit
      (subst (λ n. IsWithin n (old.events ++ e ∷ [])) (sym puts.adds.limit) (IsWithin-end terms old.limit old.events batch e kept.run here refl (out-push old.events e) kept.within))
      (omega (arith, kept.room, kept.counts.places, puts.spare, fewer-out terms old.events batch kept.run here))

-- ---- a batch that is given back

pub returned-entries : (terms : Terms) (events : List Event) (by number : ℕ) → live_map terms (events ++ event by (Returned number) ∷ []) ≡ live_map terms events
returned-entries terms events by number =
    ap (λ (f : Filings). (served_by terms f.filed).documents) (filings-push events (event by (Returned number)))
    ∙ ap (λ fs. (served_by terms fs).documents) (append-nil (fates events))

pub returned-charges : (events : List Event) (by number : ℕ) → charges_in (fates (events ++ event by (Returned number) ∷ [])) ≡ charges_in (fates events)
returned-charges events by number =
    ap (λ (f : Filings). charges_in f.filed) (filings-push events (event by (Returned number))) ∙ ap charges_in (append-nil (fates events))
