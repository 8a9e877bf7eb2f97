-- A batch begins, and ends.
use Rattle.std.proofs.Common.{arith, Result, Ok, Err, OnOk, IfErr, ◌≡◌, ◌≢◌, ◌<◌, ◌+◌, ◌∙◌, ◌==◌, ℕ, true, false, List, [], ◌∷◌, ◌++◌, Contains, None, Some, length, min, take, refl, ap, sym, subst, append-nil, inr, ⊎_elim, slice_get, suc, zero}
use Rattle.std.proofs.lemmas.Bool.Decides.{nat_tests}
use Rattle.std.proofs.lemmas.List.{length-map, length-take}
use Rattle.ci_base.specs.declared.numbers.Seq.{Seq}
use Rattle.ci_change.specs.declared.batch.Batch.{Batch}
use Rattle.ci_change.specs.declared.notice.Notice.{Notice}
use Rattle.ci_chunk.specs.Talk.{Talk}
use Rattle.ci_chunk.specs.declared.outcome.Outcome.{Outcome}
use Rattle.ci_keys.proofs.OneForm.{Contains-first, Contains-later}
use Rattle.ci_journal.specs.declared.event.Event.{Event}
use Rattle.ci_journal.specs.declared.event.Happened.TheVariants.{BatchDied, BatchDone, Begun, Returned}
use Rattle.ci_journal.specs.Bytes.{event_bytes, journal_bytes}
use Rattle.ci_journal.specs.Daemon.{holds_link, is_lost}
use Rattle.ci_journal.specs.Filings.{Filings, filings, out, without_number}
use Rattle.ci_journal.specs.Pending.{deletions, free}
use Rattle.ci_journal.specs.Step.{MayEnd}
use Rattle.ci_journal.specs.Tells.{event, tells}
use Rattle.ci_journal.specs.Tells.{Ending}
use Rattle.ci_journal.specs.Tells.Ending.{Through, Within, Back}
use Rattle.ci_journal.specs.Tells.Filed.{Ends as Ended}
use Rattle.ci_journal.specs.Terms.{Terms}
use Rattle.ci_journal.proofs.FoldsLemmas.{file_where, filings-push, journal_bytes-push}
use Rattle.ci_book.specs.declared.core_fault.CoreFault.{CoreFault}
use Rattle.ci_book.specs.declared.core_fault.CoreFault.TheVariants.{OutOfMemory}
use Rattle.ci_core.specs.Fixed.{KeepsFixed, PrintsAfter}
use Rattle.ci_holdings.specs.Batches.{CanFinish, IsNextBatch, IsStarved, RefusesBeginning}
use Rattle.ci_holdings.specs.Core.{Core}
use Rattle.ci_holdings.specs.Refusals.{Refuses}
use Rattle.ci_holdings.specs.Steps.{Ends, IsUnrefused, Makes}
use Rattle.ci_link.specs.Talking.{AreRead}
use Rattle.ci_worker.specs.Filtering.{GoesIdle, GoesOn, HasBegun, HasLessRoom, IsOut, StopsFiltering}
use Rattle.ci_worker.specs.Filtering.Filtering.{Begins}
use Rattle.ci_worker.specs.Stops.{IsAt, IsSound}
use Rattle.ci_worker.specs.Way.{BeginsNext, IsWanted, batch_docs, ends_trying, is_over}
use Rattle.ci_worker.specs.Working.{Holds, Keeps, KeepsBegun, Working, is_held}
use Rattle.ci_worker.proofs.BelowLemmas.{below-begun, below-ended}
use Rattle.ci_worker.proofs.FilteringLemmas.{GoesOn-one, GoesOn-then, filtering-halts, filtering-later, filtering-starves}
use Rattle.ci_worker.proofs.HoldsLemmas.{holds-linked, holds-unlinked, lost-unstarted}
use Rattle.ci_worker.proofs.KeepsLemmas.{Keeps-begun}
use Rattle.ci_worker.proofs.StepLemmas.{Remains-refl, at-silent, less-behind, one_event, step-below}
use Rattle.ci_worker.proofs.StopLemmas.{never_over, refused-same}
use Rattle.ci_worker.proofs.WayLemmas.{deletions-none, is_over-push}

Contains-last : {X : Type 0} (xs : List X) (x : X) → Contains (xs ++ x ∷ []) x
Contains-last [] x = Contains-first x []
Contains-last (y ∷ xs) x = Contains-later y (xs ++ x ∷ []) x (Contains-last xs x)

some_docs : (docs : List (List ℕ × Seq)) → docs ≢ [] → 0 < length docs
some_docs [] none = absurd (none refl)
some_docs (d ∷ docs) some = omega arith

-- ---- it begins

module _ (by : ℕ) (old : Core) (sound : IsSound old) (wanted : IsWanted old.terms old.sheet.events) (linked : holds_link old.sheet.events by ≡ true) (new : Core) (keeps : KeepsFixed old new) where
  module _ (batch : Batch) (next : IsNextBatch old.terms old.sheet.events batch_docs batch) where
    begins_next : BeginsNext old.terms old.sheet.events by batch
    begins_next = record { wanted = wanted; linked = linked; next = next }

    module _ (makes : Makes old new (event by (Begun batch))) (unrefused : IsUnrefused old new) where
      begun_at : IsAt old new (event by (Begun batch) ∷ [])
      begun_at =
          let e = event by (Begun batch) in
          step-below old new e sound refl makes unrefused keeps refl (below-begun old.terms old.sheet.events sound.below e refl batch batch_docs refl next.docs)

      pub batch-begun : HasBegun by old new batch
      batch-begun =
          let e = event by (Begun batch) in
          let at = begun_at in
          let count : length batch.docs ≡ min batch_docs (length (free old.terms old.sheet.events)) =
          ap length next.docs ∙ length-map {B = List ℕ × Seq} (take batch_docs (free old.terms old.sheet.events)) (λ (n : Notice). (n.path, n.seq)) ∙ length-take batch_docs (free old.terms old.sheet.events) in
          let bytes : journal_bytes new.sheet.events ≡ journal_bytes old.sheet.events + event_bytes (Begun batch) = ap journal_bytes at.events ∙ journal_bytes-push old.sheet.events e in
          record {
            goes = GoesOn-one by old new (Begun batch) begins_next at;
            alone = record {
              alone = ap out at.events ∙ ap (λ (f : Filings). f.out) (filings-push old.sheet.events e) ∙ ap (λ bs. bs ++ batch ∷ []) wanted.idle.back;
              own = subst (λ es. Contains es e) (sym at.events) (Contains-last old.sheet.events e);
            };
            erased = ap (λ (t : Terms). deletions t new.sheet.events) at.remains.told.terms ∙ ap (deletions old.terms) at.events ∙ deletions-none old.terms old.sheet.events e refl wanted.erased;
            some = some_docs batch.docs next.some;
            few = omega (arith, count);
            less = omega (arith, bytes, makes.within, makes.adds.limit);
            holds = ap (λ es. holds_link es by) at.events ∙ holds-unlinked old.sheet.events e by refl ∙ linked;
            lost = ap is_lost at.events ∙ lost-unstarted old.sheet.events e refl;
          }

      pub begun-keeps : KeepsBegun old.sheet.events new.sheet.events
      begun-keeps first worker kept = subst (Keeps first worker) (sym begun_at.events) (Keeps-begun old.sheet.events by batch linked first worker kept)

  -- it was refused
  starved : (fault : CoreFault) → fault ≡ OutOfMemory → IsStarved old new by → StopsFiltering by old new fault
  starved fault is starves = subst (StopsFiltering by old new) (sym is) (record {
    mid = old;
    remains = Remains-refl old;
    sound = sound;
    fits = ([], [], Begins, sym (append-nil old.sheet.events));
    halts = starves.starved.stays.events;
    fixed = keeps;
    prints = λ fixed has. subst (PrintsAfter fixed new.sheet) starves.kept (keeps fixed has).prints;
  })

  pub beginning-stops : (fault : CoreFault) → RefusesBeginning old new by batch_docs fault → StopsFiltering by old new fault
  beginning-stops fault refuses =
      ⊎_elim (λ over. absurd (never_over old new fault sound over))
      (λ other. ⊎_elim (λ starves. starved fault starves.0 starves.1)
      (λ refused. filtering-halts by old new (Begun refused.0) fault sound refl (begins_next refused.0 refused.1) (inr refused.2) keeps) other) refuses

  pub beginning-same : (fault : CoreFault) → RefusesBeginning old new by batch_docs fault → new.sheet.events ≡ old.sheet.events
  beginning-same fault refuses =
      ⊎_elim (λ over. absurd (never_over old new fault sound over))
      (λ other. ⊎_elim (λ starves. starves.1.starved.stays.events)
      (λ refused. refused-same old new (event by (Begun refused.0)) fault sound refl (inr refused.2)) other) refuses

-- ---- it ends

module _ (by : ℕ) (old : Core) (batch : Batch) (alone : IsOut by old batch) where
  pub may-end : MayEnd old.sheet.events by batch.number batch
  may-end = record { is_out = subst (λ bs. Contains bs batch) (sym alone.alone) (Contains-first batch []); numbered = refl; own = alone.own }

  pub can-finish : (outcomes : List Outcome) → length outcomes ≡ length batch.docs → CanFinish old.sheet.events by batch outcomes
  can-finish outcomes each = record { is_out = may-end.is_out; own = alone.own; each = each }

  -- nothing is out behind it
  none_out : (e : Event) (ending : Ending) → (tells e.what).filed ≡ Some (Ended batch.number ending) → out (old.sheet.events ++ e ∷ []) ≡ []
  none_out e ending ends =
      let same : (batch.number == batch.number) ≡ true = grind (arith, nat_tests) in
      ap (λ (f : Filings). f.out) (filings-push old.sheet.events e ∙ ap (file_where (filings old.sheet.events)) ends) ∙ ap (λ bs. without_number bs batch.number) alone.alone ∙ rw same refl

  ended-idle : (new : Core) (e : Event) (ending : Ending) → (tells e.what).filed ≡ Some (Ended batch.number ending) → (tells e.what).notice ≡ None → ends_trying e.what ≡ false → IsAt old new (e ∷ [])
      → GoesOn by old new → deletions old.terms old.sheet.events ≡ [] → GoesIdle by old new
  ended-idle new e ending ends no_notice goes_on at goes erased = record {
    goes = goes;
    idle = record { back = ap out at.events ∙ none_out e ending ends; goes_on = ap is_over at.events ∙ is_over-push old.sheet.events e ∙ goes_on };
    erased = ap (λ (t : Terms). deletions t new.sheet.events) at.remains.told.terms ∙ ap (deletions old.terms) at.events ∙ deletions-none old.terms old.sheet.events e no_notice erased;
  }

  module _ (sound : IsSound old) (new : Core) (keeps : KeepsFixed old new) where
    -- ---- each document has its outcome

    module _ (outcomes : List Outcome) (each : length outcomes ≡ length batch.docs) where
      abbrev done : Event
      done = event by (BatchDone batch.number outcomes)

      module _ (makes : Makes old new done) (unrefused : IsUnrefused old new) where
        done_at : IsAt old new (done ∷ [])
        done_at = step-below old new done sound refl makes unrefused keeps refl (below-ended old.terms old.sheet.events sound.below done refl batch.number (Through outcomes) refl)

        pub batch-done : deletions old.terms old.sheet.events ≡ [] → GoesIdle by old new
        batch-done erased =
            ended-idle new done (Through outcomes) refl refl refl done_at
            (GoesOn-one by old new (BatchDone batch.number outcomes) (batch, may-end, each) (subst (IsAt old new) (sym (one_event old done sound refl)) done_at)) erased

        pub done-holds : (worker : Working) → Holds worker old.sheet.events by → Holds worker new.sheet.events by
        done-holds worker holds = subst (λ es. Holds worker es by) (sym done_at.events) (record {
          held = holds.held ∙ sym (holds-unlinked old.sheet.events done by refl);
          lost = holds.lost ∙ sym (lost-unstarted old.sheet.events done refl);
        })

        pub done-events : new.sheet.events ≡ old.sheet.events ++ done ∷ []
        done-events = done_at.events

      pub finishing-stops : (fault : CoreFault) → Refuses old new done fault → StopsFiltering by old new fault
      finishing-stops fault refuses = filtering-halts by old new (BatchDone batch.number outcomes) fault sound refl (batch, may-end, each) refuses keeps

    -- ---- the daemon died within one

    module _ (charged : ℕ) (place : charged < length batch.docs) (ends : Ends old new (event by (BatchDied batch.number charged))) where
      abbrev death : Event
      death = event by (BatchDied batch.number charged)

      died_at : IsAt old new (death ∷ [])
      died_at =
          at-silent old new (death ∷ []) sound ends.adds.events ends.adds.limit ends.told ends.numbered (ends.refusal ∙ sound.unrefused) keeps refl
          (below-ended old.terms old.sheet.events sound.below death refl batch.number (Within charged) refl)

      pub batch-died : deletions old.terms old.sheet.events ≡ [] → GoesIdle by old new
      batch-died erased =
          ended-idle new death (Within charged) refl refl refl died_at (GoesOn-one by old new (BatchDied batch.number charged) (batch, may-end, place) died_at) erased

      pub died-holds : (worker now : Working) → now.held ≡ None → now.lost ≡ worker.lost → Holds worker old.sheet.events by → Holds now new.sheet.events by
      died-holds worker now none lost holds = subst (λ es. Holds now es by) (sym died_at.events) (record {
        held = ap is_held none ∙ sym (holds-linked old.sheet.events death false refl);
        lost = lost ∙ holds.lost ∙ sym (lost-unstarted old.sheet.events death refl);
      })

    -- ---- it is given back

    module _ (ends : Ends old new (event by (Returned batch.number))) where
      abbrev return : Event
      return = event by (Returned batch.number)

      returned_at : IsAt old new (return ∷ [])
      returned_at =
          at-silent old new (return ∷ []) sound ends.adds.events ends.adds.limit ends.told ends.numbered (ends.refusal ∙ sound.unrefused) keeps refl
          (below-ended old.terms old.sheet.events sound.below return refl batch.number Back refl)

      pub returned-stops : StopsFiltering by old new OutOfMemory
      returned-stops =
          filtering-later by old new new OutOfMemory (GoesOn-one by old new (Returned batch.number) (batch, may-end) returned_at) (filtering-starves by new returned_at.sound)

-- every document has an outcome
pub read-each : (docs : List (List ℕ × Seq)) (talks : List Talk) (outcomes : List Outcome) → AreRead docs talks outcomes → length outcomes ≡ length docs
read-each [] [] [] read = refl
read-each (d ∷ docs) (t ∷ talks) (o ∷ outcomes) read = ap suc (read-each docs talks outcomes read.1)
read-each [] [] (o ∷ outcomes) read = absurd read
read-each [] (t ∷ talks) outcomes read = absurd read
read-each (d ∷ docs) [] outcomes read = absurd read
read-each (d ∷ docs) (t ∷ talks) [] read = absurd read

-- a place that has a document is one of the batch
pub place-within : {X : Type 0} (xs : List X) (place : ℕ) (x : X) → slice_get xs place ≡ Some x → place < length xs
place-within [] place x found = absurd (cc)
place-within (y ∷ xs) zero x found = omega arith
place-within (y ∷ xs) (suc place) x found = omega (arith, place-within xs place x found)

-- ---- what was made behind some steps

pub GoesIdle-then : (by : ℕ) (old mid new : Core) → GoesOn by old mid → GoesIdle by mid new → GoesIdle by old new
GoesIdle-then by old mid new goes more = record { goes = GoesOn-then by old mid new goes more.goes; idle = more.idle; erased = more.erased }

pub HasLessRoom-then : (by : ℕ) (old mid new : Core) → HasLessRoom old mid → GoesIdle by mid new → HasLessRoom old new
HasLessRoom-then by old mid new less more =
    let at = more.goes.at in
    omega (arith, less, less-behind mid new more.goes.events at.events at.remains.limit)

module _ {T : Type 0} where
  pub OnOk-map : {P Q : Type 0} (result : Result T CoreFault) → (P → Q) → OnOk result P → OnOk result Q
  OnOk-map (Ok answer) follows holds = follows holds
  OnOk-map (Err fault) follows holds = tt

  pub IfErr-map : {P Q : CoreFault → Type 0} (result : Result T CoreFault) → ((fault : CoreFault) → P fault → Q fault) → IfErr result P → IfErr result Q
  IfErr-map (Ok answer) follows holds = tt
  IfErr-map (Err fault) follows holds = follows fault holds
