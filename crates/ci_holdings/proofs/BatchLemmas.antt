-- What a catalogue keeps as a batch is begun, and as one is finished.
use Rattle.std.proofs.Common.{arith, All, Bool, Contains, IsTrue, ◌||◌, ◌≡◌, ◌≢◌, true, ◌∙◌, ◌==◌, ℕ, ◌+◌, ◌-◌, List, [], ◌∷◌, ◌++◌, length, map, refl, ap, sym, subst, append-nil, append_assoc, length-append, filter, if◌then◌else◌, false, take}
use Rattle.std.proofs.lemmas.Bool.Decides.{nat_tests}
use Rattle.std.proofs.lemmas.List.Elements.{All-weaker, filter_map-append}
use Rattle.std.proofs.lemmas.List.Sums.{fold-append}
use Rattle.ci_base.specs.declared.numbers.Seq.{Seq}
use Rattle.ci_change.specs.declared.batch.Batch.{Batch}
use Rattle.ci_change.specs.Charges.{was_reached}
use Rattle.ci_change.specs.HandedIn.{HandedIn, is_known, was_noted, was_served, with_batch, without_batch}
use Rattle.ci_change.specs.Pending as change
use Rattle.ci_journal.specs.declared.event.Event.{Event}
use Rattle.ci_journal.specs.Bytes.{capped, event_bytes}
use Rattle.ci_journal.specs.declared.event.Happened.TheVariants.{Begun, BatchDone, Returned}
use Rattle.ci_chunk.specs.declared.outcome.Outcome.{Outcome}
use Rattle.ci_journal.specs.Filings.{batches, docs_out, fates, fates_at_end, out, without_number}
use Rattle.ci_journal.specs.Folds.{notices}
use Rattle.ci_journal.specs.Pending.{charge_of, charges_in, free, refusal_of, refusals_in}
use Rattle.ci_journal.specs.Served.{number_of, numbers_of, serve, served_by}
use Rattle.ci_journal.specs.Step.{MayEnd, MayFinish}
use Rattle.ci_journal.specs.Tells.{Filing, event}
use Rattle.ci_journal.specs.Tells.Ending.{Through}
use Rattle.ci_journal.specs.Terms.{Served, Terms, found_served}
use Rattle.ci_holdings.specs.Batches.{CanFinish, IsNextBatch}
use Rattle.ci_book.specs.Book.{IsWithin}
use Rattle.ci_book.specs.Changes.{IsReady, Puts}
use Rattle.ci_holdings.specs.Kept.{IsHolding, Shelf}
use Rattle.ci_holdings.specs.Serving.{settle_all, tell_all, verdict_of}
use Rattle.ci_book.specs.Sheet.{Sheet}
use Rattle.ci_documents.specs.Documents.{KeepsEntries, Standings, StandFor}
use Rattle.ci_holdings.proofs.KeptLemmas.{Follows, IsHolding-adds, IsHolding-follows}
use Rattle.ci_holdings.proofs.OpenLemmas.{AreOpen-later}
use Rattle.ci_holdings.proofs.WithinLemmas.{IsWithin-end, fewer-out}
use Rattle.ci_holdings.proofs.QueueLemmas.{IsQueue-silent}
use Rattle.ci_holdings.proofs.OutLemmas.{docs_noted, docs_out-is, docs_reached, out-push, out_ascends, without_last}
use Rattle.ci_holdings.proofs.ServedLemmas.{served_by-numbers}
use Rattle.ci_holdings.proofs.OutcomeLemmas.{more, settled-outcomes, told-outcomes}
use Rattle.ci_holdings.proofs.StepLemmas.{no_shadow}
use Rattle.ci_holdings.proofs.PendingLemmas.{pending-tracks}

pub none-when : (docs : List (List ℕ × Seq)) → true ≡ (length docs == 0) → docs ≡ []
none-when [] e = refl
none-when (doc ∷ docs) e = let many : (length (doc ∷ docs) == 0) ≡ false = grind (arith, nat_tests) in let p : true ≡ false = e ∙ many in absurd (cc)

pub some-when : (docs items : List (List ℕ × Seq)) → items ≡ docs → false ≡ (length items == 0) → docs ≢ []
some-when docs items same e none = let p : false ≡ true = e ∙ ap (λ (ds : List (List ℕ × Seq)). length ds == 0) (same ∙ none) in absurd (cc)

-- a batch with documents is out behind the others
out_more : (outs : List Batch) (batch : Batch) (docs : List (List ℕ × Seq)) → docs ≢ [] → (if length docs == 0 then outs else outs ++ batch ∷ []) ≡ outs ++ batch ∷ []
out_more outs batch [] some = absurd (some refl)
out_more outs batch (doc ∷ docs) some = let many : (length (doc ∷ docs) == 0) ≡ false = grind (arith, nat_tests) in rw many refl

known_or : (b c : Bool) → b ≡ true → IsTrue (b || c)
known_or true c e = refl
known_or false c e = absurd (cc)

module _ (terms : Terms) (old : Sheet) (shelf : Shelf) (kept : IsHolding terms old shelf) where
  abbrev Kept : Sheet → Shelf → Type 0
  Kept new after = IsHolding terms new after

  -- the change list has free what the journal has
  pub free_is : change.free shelf.changes ≡ free terms old.events
  free_is =
      ap (λ bs. filter (change.is_free bs) (change.pending shelf.changes)) kept.tracks.out ∙ ap (filter (change.is_free (out old.events))) (pending-tracks terms old.events shelf.changes kept.tracks)

  -- the batch that was taken, where it has documents
  pub taken-next : (max : ℕ) (batch : Batch) → batch ≡ record { number = shelf.begun + 1; docs = change.docs_of (take max (change.free shelf.changes)) } → batch.docs ≢ [] → IsNextBatch terms old.events max batch
  taken-next max batch is some = record {
    number = ap (λ (b : Batch). b.number) is ∙ ap (λ n. n + 1) kept.counts.begun;
    docs = ap (λ (b : Batch). b.docs) is ∙ ap (λ ns. change.docs_of (take max ns)) free_is;
    some = some;
  }

  -- a batch was begun
  pub begun-kept : (ready new : Sheet) (by max : ℕ) (batch : Batch) (after : HandedIn) → IsNextBatch terms old.events max batch → (counted : ℕ) → counted ≡ capped (event_bytes (Begun batch)) → IsReady old ready (shelf.places + 1) counted → after ≡ with_batch shelf.changes batch →
      Puts ready new (event by (Begun batch)) → Kept new (record shelf { changes = after; begun = shelf.begun + 1; places = shelf.places + 1 })
  begun-kept ready new by max batch after next counted counts fits handed puts =
      let after_begin : Shelf = record shelf { changes = after; begun = shelf.begun + 1; places = shelf.places + 1 } in
      let follows : Follows terms old (event by (Begun batch)) shelf after_begin = record {
        may = record { next = next.number; some = next.some; most = max; first = next.docs };
        alone = refl;
        requests = omega arith;
        replies = omega arith;
        noted = omega arith;
        begun = omega arith;
        places = omega (arith, kept.counts.places, length-append (out old.events) (batch ∷ []));
        failed = refl;
        opened = AreOpen-later terms old.events (event by (Begun batch)) shelf.questions refl kept.opened;
        waits = IsQueue-silent terms old.events (event by (Begun batch)) shelf.waiting refl refl kept.waits;
        marks = refl;
        notices = ap (λ (h : HandedIn). h.notices) handed ∙ sym (append-nil _);
        served = ap (λ (h : HandedIn). h.served) handed ∙ kept.tracks.served;
        charges = ap (λ (h : HandedIn). h.charges) handed ∙ kept.tracks.charges;
        refusals = ap (λ (h : HandedIn). h.refusals) handed ∙ kept.tracks.refusals;
        retries = ap (λ (h : HandedIn). h.retries) handed;
        out = ap (λ (h : HandedIn). h.out) handed ∙ out_more shelf.changes.out batch batch.docs next.some ∙ ap (λ bs. bs ++ batch ∷ []) kept.tracks.out;
        stands = kept.stands;
      } in
      IsHolding-adds terms old ready new (shelf.places + 1) counted _ shelf after_begin kept counts fits (omega arith) puts follows

  -- a batch that was taken and given back leaves the change list as it was
  pub given_back : (batch : Batch) → batch.docs ≢ [] → batch.number ≡ length (batches old.events) + 1 → without_batch (with_batch shelf.changes batch) batch.number ≡ shelf.changes
  given_back batch some next =
      ap (λ bs. let h : HandedIn = record shelf.changes { out = bs } in h)
      (ap (λ bs. without_number bs batch.number) (out_more shelf.changes.out batch batch.docs some ∙ ap (λ bs. bs ++ batch ∷ []) kept.tracks.out)
      ∙ without_last (length (batches old.events)) (out old.events) batch (out_ascends terms old.events kept.run) (omega (arith, next)) ∙ sym kept.tracks.out)

  -- its documents are known to the change list
  pub docs_known : (batch : Batch) → Contains (out old.events) batch → (items : List (List ℕ × Seq)) → items ≡ batch.docs → All (λ (doc : List ℕ × Seq). IsTrue (is_known shelf.changes doc.0)) items
  docs_known batch here items same =
      subst (All (λ (doc : List ℕ × Seq). IsTrue (is_known shelf.changes doc.0))) (sym same)
      (All-weaker (λ (doc : List ℕ × Seq). was_noted (notices terms old.events) doc.0 ≡ true) (λ (doc : List ℕ × Seq). IsTrue (is_known shelf.changes doc.0))
      (λ doc noted. known_or _ (was_served shelf.changes.served doc.0) (ap (λ ns. was_noted ns doc.0) kept.tracks.notices ∙ noted)) batch.docs (docs_noted terms old.events kept.run batch here))

  filed_is : (by : ℕ) (batch : Batch) (outcomes : List Outcome) → CanFinish old.events by batch outcomes → fates_at_end (docs_out (out old.events) batch.number) (Through outcomes) ≡ fates_at_end batch.docs (Through outcomes)
  filed_is by batch outcomes can = ap (λ ds. fates_at_end ds (Through outcomes)) (docs_out-is terms old.events kept.run batch can.is_out)

  -- what was served behind a batch that is finished
  stands_behind : (by : ℕ) (batch : Batch) (outcomes : List Outcome) → CanFinish old.events by batch outcomes →
      served_by terms (fates old.events ++ fates_at_end (docs_out (out old.events) batch.number) (Through outcomes)) ≡ settle_all (served_by terms (fates old.events)) batch.docs (map (verdict_of terms.noise) outcomes)
  stands_behind by batch outcomes can =
      ap (λ fs. served_by terms (fates old.events ++ fs)) (filed_is by batch outcomes can)
      ∙ fold-append (serve terms) (found_served terms.beginning) (fates old.events) (fates_at_end batch.docs (Through outcomes))
      ∙ settled-outcomes terms (served_by terms (fates old.events)) batch.docs outcomes

  module _ (by : ℕ) (batch : Batch) (outcomes : List Outcome) (can : CanFinish old.events by batch outcomes) (told : HandedIn)
      (handed : told ≡ tell_all shelf.changes batch.docs (map (verdict_of terms.noise) outcomes)) where
    abbrev filed : List Filing
    filed = fates_at_end batch.docs (Through outcomes)

    abbrev all_filed : List Filing
    all_filed = fates old.events ++ fates_at_end (docs_out (out old.events) batch.number) (Through outcomes)

    -- the change list is told of each fate, since the documents were noted under their numbers
    told_is : told ≡ more shelf.changes (numbers_of filed) (charges_in filed) (refusals_in filed)
    told_is =
        handed ∙ told-outcomes terms.noise shelf.changes batch.docs outcomes
        (subst (λ ns. All (λ (d : List ℕ × Seq). IsTrue (was_reached ns d.0 d.1.0)) batch.docs) (sym kept.tracks.notices) (docs_reached terms old.events kept.run batch can.is_out))

    all_is : fates old.events ++ filed ≡ all_filed
    all_is = ap (λ fs. fates old.events ++ fs) (sym (filed_is by batch outcomes can))

    numbers_behind : told.served ≡ terms.beginning.numbers ++ numbers_of all_filed
    numbers_behind =
        ap (λ (h : HandedIn). h.served) told_is ∙ ap (λ ns. ns ++ numbers_of filed) kept.tracks.served
        ∙ append_assoc terms.beginning.numbers (numbers_of (fates old.events)) (numbers_of filed)
        ∙ ap (λ ns. terms.beginning.numbers ++ ns) (sym (filter_map-append number_of (fates old.events) filed) ∙ ap numbers_of all_is)

    charges_behind : told.charges ≡ charges_in all_filed
    charges_behind =
        ap (λ (h : HandedIn). h.charges) told_is ∙ ap (λ cs. cs ++ charges_in filed) kept.tracks.charges
        ∙ sym (filter_map-append charge_of (fates old.events) filed) ∙ ap charges_in all_is

    refusals_behind : told.refusals ≡ refusals_in all_filed
    refusals_behind =
        ap (λ (h : HandedIn). h.refusals) told_is ∙ ap (λ rs. rs ++ refusals_in filed) kept.tracks.refusals
        ∙ sym (filter_map-append refusal_of (fates old.events) filed) ∙ ap refusals_in all_is

  -- a batch that ends gives its place back
  fewer : (batch : Batch) → Contains (out old.events) batch → shelf.places - 1 ≡ length (without_number (out old.events) batch.number) + 1
  fewer batch here = omega (arith, kept.counts.places, fewer-out terms old.events batch kept.run here)

  -- a batch was finished
  pub finished-kept : (ready new : Sheet) (by : ℕ) (batch : Batch) (outcomes : List Outcome) (served after : HandedIn) (mid documents : Standings) → CanFinish old.events by batch outcomes → (counted : ℕ) → counted ≡ capped (event_bytes (BatchDone batch.number outcomes)) → IsReady old ready shelf.places counted → KeepsEntries shelf.documents mid →
      served ≡ tell_all shelf.changes batch.docs (map (verdict_of terms.noise) outcomes) → after ≡ without_batch served batch.number →
      ((s : Served) → s.numbers ≡ shelf.changes.served → StandFor s.documents mid → StandFor (settle_all s batch.docs (map (verdict_of terms.noise) outcomes)).documents documents) →
      Puts ready new (event by (BatchDone batch.number outcomes)) → Kept new (record shelf { documents = documents; changes = after; places = shelf.places - 1 })
  finished-kept ready new by batch outcomes served after mid documents can counted counts fits keeps handed given serves puts =
      let after_finishing : Shelf = record shelf { documents = documents; changes = after; places = shelf.places - 1 } in
      let told = told_is by batch outcomes can served handed in
      let may : MayFinish old.events by batch.number outcomes = (batch, record { is_out = can.is_out; numbered = refl; own = can.own }, can.each) in
      let follows : Follows terms old (event by (BatchDone batch.number outcomes)) shelf after_finishing = record {
        may = may;
        alone = ap (λ es. es ++ event by (BatchDone batch.number outcomes) ∷ []) (no_shadow terms old.events by kept.starts);
        requests = omega arith;
        replies = omega arith;
        noted = omega arith;
        begun = omega arith;
        places = fewer batch can.is_out;
        failed = refl;
        opened = AreOpen-later terms old.events (event by (BatchDone batch.number outcomes)) shelf.questions refl kept.opened;
        waits = IsQueue-silent terms old.events (event by (BatchDone batch.number outcomes)) shelf.waiting refl refl kept.waits;
        marks = refl;
        notices = ap (λ (h : HandedIn). h.notices) given ∙ ap (λ (h : HandedIn). h.notices) told ∙ sym (append-nil _);
        served = ap (λ (h : HandedIn). h.served) given ∙ numbers_behind by batch outcomes can served handed;
        charges = ap (λ (h : HandedIn). h.charges) given ∙ charges_behind by batch outcomes can served handed;
        refusals = ap (λ (h : HandedIn). h.refusals) given ∙ refusals_behind by batch outcomes can served handed;
        retries = ap (λ (h : HandedIn). h.retries) given ∙ ap (λ (h : HandedIn). h.retries) told;
        out = ap (λ (h : HandedIn). h.out) given ∙ ap (λ (h : HandedIn). (without_batch h batch.number).out) told ∙ ap (λ bs. (without_batch (record shelf.changes { out = bs }) batch.number).out) kept.tracks.out;
        stands = subst (λ (s : Served). StandFor s.documents documents) (sym (stands_behind by batch outcomes can))
            (serves (served_by terms (fates old.events)) (served_by-numbers terms (fates old.events) ∙ sym kept.tracks.served) (λ path. kept.stands path ∙ sym (keeps.entries path)));
      } in
      IsHolding-adds terms old ready new shelf.places counted _ shelf after_finishing kept counts fits (omega arith) puts follows

  -- a batch was given back
  pub returned-kept : (new : Sheet) (by : ℕ) (batch : Batch) (after : HandedIn) → MayEnd old.events by batch.number batch → after ≡ without_batch shelf.changes batch.number → Puts old new (event by (Returned batch.number)) →
      Kept new (record shelf { changes = after; places = shelf.places - 1 })
  returned-kept new by batch after may given puts =
      let after_returning : Shelf = record shelf { changes = after; places = shelf.places - 1 } in
      let e : Event = event by (Returned batch.number) in
      let follows : Follows terms old e shelf after_returning = record {
        may = (batch, may);
        alone = refl;
        requests = omega arith;
        replies = omega arith;
        noted = omega arith;
        begun = omega arith;
        places = fewer batch may.is_out;
        failed = refl;
        opened = AreOpen-later terms old.events e shelf.questions refl kept.opened;
        waits = IsQueue-silent terms old.events e shelf.waiting refl refl kept.waits;
        marks = refl;
        notices = ap (λ (h : HandedIn). h.notices) given ∙ sym (append-nil _);
        served = ap (λ (h : HandedIn). h.served) given ∙ kept.tracks.served ∙ ap (λ fs. terms.beginning.numbers ++ numbers_of fs) (sym (append-nil (fates old.events)));
        charges = ap (λ (h : HandedIn). h.charges) given ∙ kept.tracks.charges ∙ ap charges_in (sym (append-nil (fates old.events)));
        refusals = ap (λ (h : HandedIn). h.refusals) given ∙ kept.tracks.refusals ∙ ap refusals_in (sym (append-nil (fates old.events)));
        retries = ap (λ (h : HandedIn). h.retries) given;
        out = ap (λ (h : HandedIn). h.out) given ∙ ap (λ bs. without_number bs batch.number) kept.tracks.out;
        stands = subst (λ fs. StandFor (served_by terms fs).documents shelf.documents) (sym (append-nil (fates old.events))) kept.stands;
      } in
      IsHolding-follows terms old e shelf after_returning kept follows new puts.adds.events puts.adds.limit
      (subst (λ n. IsWithin n (old.events ++ e ∷ [])) (sym puts.adds.limit) (IsWithin-end terms old.limit old.events batch e kept.run may.is_out refl (out-push old.events e) kept.within))
      (omega (arith, kept.room, kept.counts.places, puts.spare, fewer-out terms old.events batch kept.run may.is_out))
