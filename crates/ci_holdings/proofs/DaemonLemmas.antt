-- What a catalogue keeps as starts of the daemon come and fail.
use Rattle.std.proofs.Common.{arith, ◌≡◌, ◌∙◌, ◌==◌, ◌||◌, ℕ, ◌+◌, ◌*◌, ◌≤◌, Bool, true, false, List, [], ◌∷◌, ◌++◌, fold, length, Option, Some, None, option_to_list, refl, ap, sym, subst, append-nil, append_assoc}
use Rattle.std.specs.Io.KnownBytes.{Appends, Keeps}
use Rattle.ci_journal.specs.declared.event.Event.{Event}
use Rattle.ci_journal.specs.declared.event.Happened.{Happened}
use Rattle.ci_journal.specs.declared.event.Happened.TheVariants.{Started, StartFailed, DaemonLost}
use Rattle.ci_journal.specs.Bytes.{journal_bytes}
use Rattle.ci_journal.specs.Daemon.{failures, failures_behind, most_failures}
use Rattle.ci_journal.specs.Filings.{Filings, batches, filings}
use Rattle.ci_journal.specs.Folds.{new_notices, notices, requests_in, reply_numbers}
use Rattle.ci_journal.specs.Pending.{charges_in, refusals_in}
use Rattle.ci_journal.specs.Served.{live_map, numbers_of, served_by}
use Rattle.ci_journal.specs.Step.{Chain, Run, step_of}
use Rattle.ci_journal.specs.Step.Chain.{NoEvent, Next}
use Rattle.ci_journal.specs.Step.Run.{Step}
use Rattle.ci_journal.specs.Tells.{Start, event, tells}
use Rattle.ci_journal.specs.Tells.Start.{Came, Failed, Lost}
use Rattle.ci_journal.specs.Terms.{Terms}
use Rattle.ci_journal.proofs.FoldsLemmas.{batch_of, batches-push, file_where, filings-push, is_number, is_replied-push, journal_bytes-push, new_notices-push, notices-push, reply_numbers-push, requests_in-push}
use Rattle.ci_documents.specs.Documents.{StandFor}
use Rattle.ci_book.specs.Changes.{Adds, IsReady, Puts}
use Rattle.ci_holdings.specs.Kept.{Counts, IsHolding, Shelf, Tracks}
use Rattle.ci_holdings.specs.Open.{AreOpen}
use Rattle.ci_book.specs.Sheet.{Sheet}
use Rattle.ci_holdings.specs.Steps.{numbered_behind}
use Rattle.ci_holdings.specs.Waiting.{IsQueue, MarksReplies}
use Rattle.ci_holdings.proofs.KeptLemmas.{Follows, IsHolding-adds, failures-push}
use Rattle.ci_holdings.proofs.OpenLemmas.{AreOpen-later}
use Rattle.ci_holdings.proofs.QueueLemmas.{IsQueue-silent}
use Rattle.ci_holdings.proofs.WithinLemmas.{IsWithin-whole}

-- what was kept, and then had nothing written to it twice
quiet_written : (old ready mid new : Option (List ℕ)) → Keeps old ready → Appends ready mid [] → Appends mid new [] → Appends old new []
quiet_written None ready mid new keeps one two = tt
quiet_written (Some xs) None mid new keeps one two = absurd keeps
quiet_written (Some xs) (Some ys) None new keeps one two = absurd one
quiet_written (Some xs) (Some ys) (Some zs) None keeps one two = absurd two
quiet_written (Some xs) (Some ys) (Some zs) (Some ws) keeps one two = two ∙ append-nil zs ∙ one ∙ append-nil ys ∙ keeps ∙ sym (append-nil xs)

or_false : (b : Bool) → (b || false) ≡ b
or_false true = refl
or_false false = refl

-- each event counts 64 bytes at least, so a bounded journal tells of few failed starts
one_more : (count : ℕ) (o : Option Start) → fold failures_behind count (option_to_list o) ≤ count + 1
one_more count None = omega arith
one_more count (Some Came) = omega arith
one_more count (Some Failed) = omega arith
one_more count (Some Lost) = omega arith

pub failures_within : (terms : Terms) (journal : List Event) → Chain terms journal → 64 * failures journal ≤ journal_bytes journal
failures_within terms _ NoEvent = omega arith
failures_within terms _ (Next journal e chain may) =
    omega (arith, failures-push journal e, one_more (failures journal) (tells e.what).start, failures_within terms journal chain, journal_bytes-push journal e)

-- an event that tells of starts alone
pub record IsQuiet (what : Happened) : Type 0 where
  pub request : (tells what).request ≡ None
  pub notice : (tells what).notice ≡ None
  pub filed : (tells what).filed ≡ None
  pub opening : (tells what).opening ≡ None
  pub reply : (tells what).reply ≡ None

-- what is kept beside a journal, whether or not this is a run
pub record IsBeside (terms : Terms) (events : List Event) (shelf : Shelf) : Type 0 where
  pub counts : Counts events shelf
  pub waits : IsQueue terms events shelf.waiting
  pub opened : AreOpen terms events shelf.questions
  pub marks : MarksReplies events shelf.marks.list
  pub tracks : Tracks terms events shelf.changes
  pub stands : StandFor (live_map terms events) shelf.documents

beside-of : (terms : Terms) (sheet : Sheet) (shelf : Shelf) → IsHolding terms sheet shelf → IsBeside terms sheet.events shelf
beside-of terms sheet shelf kept = record {
  counts = kept.counts;
  waits = kept.waits;
  opened = kept.opened;
  marks = kept.marks;
  tracks = kept.tracks;
  stands = kept.stands;
}

module _ (terms : Terms) (events : List Event) (shelf : Shelf) (kept : IsBeside terms events shelf) (e : Event) (quiet : IsQuiet e.what) where
  abbrev longer : List Event
  longer = events ++ e ∷ []

  -- how many starts failed behind it
  abbrev failed_now : ℕ
  failed_now = fold failures_behind shelf.failed (option_to_list (tells e.what).start)

  abbrev after : Shelf
  after = record shelf { failed = failed_now }

  no_more : {X : Type 0} (xs : List X) (o : Option X) → o ≡ None → xs ++ option_to_list o ≡ xs
  no_more xs o none = ap (λ p. xs ++ option_to_list p) none ∙ append-nil xs

  filings_same : filings longer ≡ filings events
  filings_same = filings-push events e ∙ ap (file_where (filings events)) quiet.filed

  batches_same : batches longer ≡ batches events
  batches_same = batches-push events e ∙ ap (λ o. batches events ++ batch_of o) quiet.filed ∙ append-nil (batches events)

  requests_same : requests_in longer ≡ requests_in events
  requests_same = requests_in-push events e ∙ no_more (requests_in events) (tells e.what).request quiet.request

  replied_same : (id : ℕ) → is_number id (tells e.what).reply ≡ false
  replied_same id = ap (is_number id) quiet.reply

  marks_same : MarksReplies longer shelf.marks.list
  marks_same = record {
    counted = kept.marks.counted ∙ ap length (sym requests_same);
    each = λ before within. kept.marks.each before within
        ∙ ap Some (sym (is_replied-push events e (before + 1) ∙ rw (replied_same (before + 1)) (or_false _)));
  }

  -- one event that tells of starts alone
  pub IsBeside-quiet : IsBeside terms longer after
  IsBeside-quiet = record {
    counts = record {
      requests = kept.counts.requests ∙ ap length (sym requests_same);
      replies = kept.counts.replies ∙ ap length (sym (reply_numbers-push events e ∙ no_more (reply_numbers events) (tells e.what).reply quiet.reply));
      noted = kept.counts.noted ∙ ap length (sym (new_notices-push events e ∙ no_more (new_notices events) (tells e.what).notice quiet.notice));
      begun = kept.counts.begun ∙ ap length (sym batches_same);
      places = kept.counts.places ∙ ap (λ (f : Filings). length f.out + 1) (sym filings_same);
      failed = ap (λ n. fold failures_behind n (option_to_list (tells e.what).start)) kept.counts.failed ∙ sym (failures-push events e);
    };
    waits = IsQueue-silent terms events e shelf.waiting quiet.request quiet.opening kept.waits;
    opened = AreOpen-later terms events e shelf.questions quiet.opening kept.opened;
    marks = marks_same;
    tracks = record {
      notices = kept.tracks.notices ∙ sym (notices-push terms events e ∙ no_more (notices terms events) (tells e.what).notice quiet.notice);
      served = kept.tracks.served ∙ ap (λ (f : Filings). terms.beginning.numbers ++ numbers_of f.filed) (sym filings_same);
      charges = kept.tracks.charges ∙ ap (λ (f : Filings). charges_in f.filed) (sym filings_same);
      refusals = kept.tracks.refusals ∙ ap (λ (f : Filings). refusals_in f.filed) (sym filings_same);
      out = kept.tracks.out ∙ ap (λ (f : Filings). f.out) (sym filings_same);
      retries = kept.tracks.retries;
    };
    stands = subst (λ (f : Filings). StandFor (served_by terms f.filed).documents shelf.documents) (sym filings_same) kept.stands;
  }

-- the two events of the last failed start
pub lost_is : (terms : Terms) (journal : List Event) (by : ℕ) → (failures journal + 1 == most_failures) ≡ true → step_of terms journal by StartFailed ≡ event by StartFailed ∷ event by DaemonLost ∷ []
lost_is terms journal by lost = rw lost refl

-- and they note nothing
pub lost-numbered : (terms : Terms) (journal : List Event) (by : ℕ) (numbered : List (List ℕ)) → (failures journal + 1 == most_failures) ≡ true → numbered ≡ numbered_behind numbered (step_of terms journal by StartFailed)
lost-numbered terms journal by numbered lost = ap (numbered_behind numbered) (sym (lost_is terms journal by lost))

-- the one event of another
pub failed_is : (terms : Terms) (journal : List Event) (by : ℕ) → (failures journal + 1 == most_failures) ≡ false → step_of terms journal by StartFailed ≡ event by StartFailed ∷ []
failed_is terms journal by other = rw other refl

module _ (terms : Terms) (old : Sheet) (shelf : Shelf) (kept : IsHolding terms old shelf) where
  -- the daemon was started
  pub started-kept : (ready new : Sheet) (by : ℕ) → IsReady old ready shelf.places 64 → Puts ready new (event by Started) → IsHolding terms new (record shelf { failed = 0 })
  started-kept ready new by fits puts =
      let after_start : Shelf = record shelf { failed = 0 } in
      let follows : Follows terms old (event by Started) shelf after_start = record {
        may = tt;
        alone = refl;
        requests = omega arith;
        replies = omega arith;
        noted = omega arith;
        begun = omega arith;
        places = kept.counts.places;
        failed = refl;
        opened = AreOpen-later terms old.events (event by Started) shelf.questions refl kept.opened;
        waits = IsQueue-silent terms old.events (event by Started) shelf.waiting refl refl kept.waits;
        marks = refl;
        notices = sym (append-nil _);
        served = kept.tracks.served;
        charges = kept.tracks.charges;
        refusals = kept.tracks.refusals;
        retries = refl;
        out = kept.tracks.out;
        stands = kept.stands;
      } in
      IsHolding-adds terms old ready new shelf.places 64 _ shelf after_start kept (omega arith) fits (omega arith) puts follows

  -- a start failed, and another may be tried
  pub failed-kept : (ready new : Sheet) (by : ℕ) → (failures old.events + 1 == most_failures) ≡ false → IsReady old ready shelf.places 64 → Puts ready new (event by StartFailed) → IsHolding terms new (record shelf { failed = shelf.failed + 1 })
  failed-kept ready new by other fits puts =
      let after_failing : Shelf = record shelf { failed = shelf.failed + 1 } in
      let follows : Follows terms old (event by StartFailed) shelf after_failing = record {
        may = tt;
        alone = failed_is terms old.events by other;
        requests = omega arith;
        replies = omega arith;
        noted = omega arith;
        begun = omega arith;
        places = kept.counts.places;
        failed = refl;
        opened = AreOpen-later terms old.events (event by StartFailed) shelf.questions refl kept.opened;
        waits = IsQueue-silent terms old.events (event by StartFailed) shelf.waiting refl refl kept.waits;
        marks = refl;
        notices = sym (append-nil _);
        served = kept.tracks.served;
        charges = kept.tracks.charges;
        refusals = kept.tracks.refusals;
        retries = refl;
        out = kept.tracks.out;
        stands = kept.stands;
      } in
      IsHolding-adds terms old ready new shelf.places 64 _ shelf after_failing kept (omega arith) fits (omega arith) puts follows

  -- a start failed, and it was the last
  module _ (ready mid new : Sheet) (by : ℕ) (lost : (failures old.events + 1 == most_failures) ≡ true) (fits : IsReady old ready (shelf.places + 1) 128)
      (first : Puts ready mid (event by StartFailed)) (second : Puts mid new (event by DaemonLost)) where
    mid_events : mid.events ≡ old.events ++ event by StartFailed ∷ []
    mid_events = first.adds.events ∙ ap (λ es. es ++ event by StartFailed ∷ []) fits.stays.events

    new_events : new.events ≡ (old.events ++ event by StartFailed ∷ []) ++ event by DaemonLost ∷ []
    new_events = second.adds.events ∙ ap (λ es. es ++ event by DaemonLost ∷ []) mid_events

    both_events : new.events ≡ old.events ++ event by StartFailed ∷ event by DaemonLost ∷ []
    both_events = new_events ∙ append_assoc old.events (event by StartFailed ∷ []) (event by DaemonLost ∷ [])

    limit_same : new.limit ≡ old.limit
    limit_same = second.adds.limit ∙ first.adds.limit ∙ fits.stays.limit

    pub lost-within : journal_bytes new.events ≤ new.limit
    lost-within =
        omega (arith, ap journal_bytes new_events, journal_bytes-push (old.events ++ event by StartFailed ∷ []) (event by DaemonLost), journal_bytes-push old.events (event by StartFailed), fits.fits, limit_same)

    pub lost-adds : Adds old new (step_of terms old.events by StartFailed)
    lost-adds = rw (lost_is terms old.events by lost) (record {
      events = both_events;
      limit = limit_same;
      written = quiet_written old.written ready.written mid.written new.written fits.stays.written first.adds.written second.adds.written;
      faults = second.adds.faults ∙ first.adds.faults ∙ fits.stays.faults;
    })

    pub lost-kept : IsHolding terms new (record shelf { failed = shelf.failed + 1 })
    lost-kept =
        let one = IsBeside-quiet terms old.events shelf (beside-of terms old shelf kept) (event by StartFailed) (record { request = refl; notice = refl; filed = refl; opening = refl; reply = refl }) in
        let two = IsBeside-quiet terms (old.events ++ event by StartFailed ∷ []) (record shelf { failed = shelf.failed + 1 }) one (event by DaemonLost) (record { request = refl; notice = refl; filed = refl; opening = refl; reply = refl }) in
        let both = subst (λ es. IsBeside terms es (record shelf { failed = shelf.failed + 1 })) (sym new_events) two in
        let run : Run terms (old.events ++ step_of terms old.events by StartFailed) = Step old.events by StartFailed kept.run tt in
        record {
          starts = kept.starts;
          run = subst (Run terms) (ap (λ es. old.events ++ es) (lost_is terms old.events by lost) ∙ sym both_events) run;
          within = IsWithin-whole new.limit new.events lost-within;
          room = omega (arith, fits.room, first.spare, second.spare, kept.counts.places, both.counts.places);
          small = rw limit_same kept.small;
          counts = both.counts;
          waits = both.waits;
          opened = both.opened;
          marks = both.marks;
          tracks = both.tracks;
          stands = both.stands;
        }
