-- What is kept beside the journal, as one more event comes.
use Rattle.std.proofs.Common.{arith, ◌≡◌, ◌∙◌, ℕ, ◌+◌, ◌≤◌, List, [], ◌∷◌, ◌++◌, fold, length, option_to_list, refl, ap, sym, subst, length-append}
use Rattle.std.specs.FinMap as map_of_keys
use Rattle.ci_change.specs.HandedIn.{HandedIn}
use Rattle.ci_journal.specs.declared.event.Event.{Event}
use Rattle.ci_journal.specs.Bytes.{capped, event_bytes}
use Rattle.ci_journal.specs.Daemon.{failures, failures_behind}
use Rattle.ci_journal.specs.Filings.{Filings, filings, batches, out}
use Rattle.ci_journal.specs.Folds.{requests_in, new_notices, reply_numbers}
use Rattle.ci_journal.specs.Pending.{charges_in, refusals_in}
use Rattle.ci_journal.specs.Served.{numbers_of, served_by}
use Rattle.ci_journal.specs.Step.{May, Run, step_of}
use Rattle.ci_journal.specs.Step.Run.{Empty}
use Rattle.ci_journal.specs.Tells.{Tells, tells}
use Rattle.ci_journal.specs.Terms.{Terms, path_cmp, found_served, Beginning}
use Rattle.ci_journal.proofs.TellsLemmas.{tellings-fold}
use Rattle.ci_journal.proofs.ChainLemmas.{Run-one}
use Rattle.ci_journal.proofs.FoldsLemmas.{requests_in-push, new_notices-push, notices-push, reply_numbers-push, batch_of, batches-push, file_where, filings-push}
use Rattle.ci_book.specs.declared.settings.TheConstants.{JOURNAL_MOST}
use Rattle.ci_book.specs.declared.core_fault.CoreFault.{CoreFault}
use Rattle.ci_book.specs.declared.core_fault.CoreFault.TheVariants.{TooManyDocuments, JournalFull, OutOfMemory, WriteFault, Ended}
use Rattle.ci_book.specs.Book.{IsWithin}
use Rattle.ci_book.specs.Changes.{IsReady, LacksRoom, Puts, Stays}
use Rattle.ci_documents.specs.Documents.{KeepsEntries, Standings, StandFor}
use Rattle.ci_holdings.specs.Kept.{IsHolding, Shelf, StartsEmpty}
use Rattle.ci_holdings.specs.Open.{AreOpen}
use Rattle.ci_holdings.specs.declared.question.Question.{Question}
use Rattle.ci_book.specs.Sheet.{Sheet}
use Rattle.ci_holdings.specs.Waiting.{IsQueue, Marks}
use Rattle.ci_holdings.specs.declared.waiting.Waiting.{Waiting}
use Rattle.ci_book.proofs.ChangesLemmas.{fits-one}
use Rattle.ci_holdings.proofs.MarksLemmas.{marks_behind, marks-follow}
use Rattle.ci_holdings.proofs.OpenLemmas.{AreOpen-empty}
use Rattle.ci_holdings.proofs.OutLemmas.{out-push}
use Rattle.ci_holdings.proofs.QueueLemmas.{IsQueue-empty}
use Rattle.ci_holdings.proofs.WithinLemmas.{IsWithin-whole}

-- the failed starts behind one event more
pub failures-push : (journal : List Event) (e : Event) → failures (journal ++ e ∷ []) ≡ fold failures_behind (failures journal) (option_to_list (tells e.what).start)
failures-push journal e = tellings-fold (λ (t : Tells). t.start) failures_behind 0 journal e

-- an empty journal says nothing
pub IsHolding-empty : (terms : Terms) (sheet : Sheet) (shelf : Shelf) → StartsEmpty terms → sheet.events ≡ [] → sheet.limit ≤ JOURNAL_MOST → shelf.documents ≡ [] → shelf.waiting ≡ [] → shelf.questions ≡ [] → shelf.marks.list ≡ [] →
    shelf.changes.notices ≡ [] → shelf.changes.served ≡ [] → shelf.changes.charges ≡ [] → shelf.changes.refusals ≡ [] → shelf.changes.out ≡ [] → shelf.changes.retries ≡ terms.retries → shelf.requests ≡ 0 → shelf.replies ≡ 0 → shelf.noted ≡ 0 → shelf.begun ≡ 0 → shelf.places ≡ 1 → shelf.failed ≡ 0 → IsHolding terms sheet shelf
IsHolding-empty terms sheet shelf starts none small no_document no_query no_question no_mark no_notice no_served no_charge no_refusal no_out retries requests replies noted begun places failed = record {
  starts = starts;
  run = rw none Empty;
  within = rw none (IsWithin-whole sheet.limit [] (omega arith));
  room = rw none (omega arith);
  small = small;
  counts = rw none (record { requests = requests; replies = replies; noted = noted; begun = begun; places = places; failed = failed });
  waits = rw (none, no_query) (IsQueue-empty terms);
  opened = rw (none, no_question) (AreOpen-empty terms);
  marks = rw (none, no_mark) (record { counted = refl; each = λ k within. absurd (omega (arith, within)) });
  tracks = rw none (record {
    notices = no_notice ∙ sym (ap (λ (b : Beginning). b.notices ++ []) starts.beginning);
    served = no_served ∙ sym (ap (λ (b : Beginning). b.numbers ++ []) starts.beginning);
    charges = no_charge;
    refusals = no_refusal;
    out = no_out;
    retries = retries;
  });
  stands = rw (none, no_document) (λ path. ap (λ (b : Beginning). map_of_keys.get (found_served b).documents path) starts.beginning ∙ map_of_keys.get-empty path_cmp path);
}

-- what a step that adds an event makes of what is kept
pub record Follows (terms : Terms) (old : Sheet) (event : Event) (before after : Shelf) : Type 0 where
  pub may : May terms old.events event.by event.what
  pub alone : step_of terms old.events event.by event.what ≡ event ∷ []
  pub requests : after.requests ≡ before.requests + length (option_to_list (tells event.what).request)
  pub replies : after.replies ≡ before.replies + length (option_to_list (tells event.what).reply)
  pub noted : after.noted ≡ before.noted + length (option_to_list (tells event.what).notice)
  pub begun : after.begun ≡ before.begun + length (batch_of (tells event.what).filed)
  pub places : after.places ≡ length (file_where (filings old.events) (tells event.what).filed).out + 1
  pub failed : after.failed ≡ fold failures_behind before.failed (option_to_list (tells event.what).start)
  pub waits : IsQueue terms (old.events ++ event ∷ []) after.waiting
  pub opened : AreOpen terms (old.events ++ event ∷ []) after.questions
  pub marks : after.marks.list ≡ marks_behind before.marks.list event.what
  pub notices : after.changes.notices ≡ before.changes.notices ++ option_to_list (tells event.what).notice
  pub served : after.changes.served ≡ terms.beginning.numbers ++ numbers_of (file_where (filings old.events) (tells event.what).filed).filed
  pub charges : after.changes.charges ≡ charges_in (file_where (filings old.events) (tells event.what).filed).filed
  pub refusals : after.changes.refusals ≡ refusals_in (file_where (filings old.events) (tells event.what).filed).filed
  pub retries : after.changes.retries ≡ before.changes.retries
  pub out : after.changes.out ≡ (file_where (filings old.events) (tells event.what).filed).out
  pub stands : StandFor (served_by terms (file_where (filings old.events) (tells event.what).filed).filed).documents after.documents

module _ (terms : Terms) (old : Sheet) (event : Event) (before after : Shelf) (kept : IsHolding terms old before) (step : Follows terms old event before after) where
  -- the longer journal and what is kept beside it
  pub IsHolding-follows : (new : Sheet) → new.events ≡ old.events ++ event ∷ [] → new.limit ≡ old.limit → IsWithin new.limit (old.events ++ event ∷ []) → after.places ≤ new.spare + 1 → IsHolding terms new after
  IsHolding-follows new events limit within room = record {
    starts = kept.starts;
    run = rw events (Run-one terms old.events event kept.run step.may step.alone);
    within = subst (IsWithin new.limit) (sym events) within;
    room = omega (arith, room, step.places, ap length (ap out events ∙ out-push old.events event));
    small = rw limit kept.small;
    counts = rw events (record {
      requests = omega (arith, kept.counts.requests, step.requests, ap length (requests_in-push old.events event), length-append (requests_in old.events) (option_to_list (tells event.what).request));
      replies = omega (arith, kept.counts.replies, step.replies, ap length (reply_numbers-push old.events event), length-append (reply_numbers old.events) (option_to_list (tells event.what).reply));
      noted = omega (arith, kept.counts.noted, step.noted, ap length (new_notices-push old.events event), length-append (new_notices old.events) (option_to_list (tells event.what).notice));
      begun = omega (arith, kept.counts.begun, step.begun, ap length (batches-push old.events event), length-append (batches old.events) (batch_of (tells event.what).filed));
      places = step.places ∙ ap (λ bs. length bs + 1) (sym (out-push old.events event));
      failed = step.failed ∙ ap (λ n. fold failures_behind n (option_to_list (tells event.what).start)) kept.counts.failed ∙ sym (failures-push old.events event);
    });
    opened = subst (λ es. AreOpen terms es after.questions) (sym events) step.opened;
    waits = subst (λ es. IsQueue terms es after.waiting) (sym events) step.waits;
    marks = rw (events, step.marks) (marks-follow terms old.events kept.run before.marks.list kept.marks event.by event.what step.may);
    tracks = rw events (record {
      notices = step.notices ∙ ap (λ ns. ns ++ option_to_list (tells event.what).notice) kept.tracks.notices ∙ sym (notices-push terms old.events event);
      served = step.served ∙ ap (λ (f : Filings). terms.beginning.numbers ++ numbers_of f.filed) (sym (filings-push old.events event));
      charges = step.charges ∙ ap (λ (f : Filings). charges_in f.filed) (sym (filings-push old.events event));
      refusals = step.refusals ∙ ap (λ (f : Filings). refusals_in f.filed) (sym (filings-push old.events event));
      out = step.out ∙ ap (λ (f : Filings). f.out) (sym (filings-push old.events event));
      retries = step.retries ∙ kept.tracks.retries;
    });
    stands = rw events (subst (λ (f : Filings). StandFor (served_by terms f.filed).documents after.documents) (sym (filings-push old.events event)) step.stands);
  }

-- a step that made room, and then added its event
pub IsHolding-adds : (terms : Terms) (old ready new : Sheet) (places counted : ℕ) (event : Event) (before after : Shelf) → IsHolding terms old before → counted ≡ capped (event_bytes event.what) → IsReady old ready places counted
    → after.places ≤ places → Puts ready new event → Follows terms old event before after → IsHolding terms new after
IsHolding-adds terms old ready new places counted event before after kept counts fits few puts step =
    let adds = puts.adds in
    let events = adds.events ∙ ap (λ es. es ++ event ∷ []) fits.stays.events in
    IsHolding-follows terms old event before after kept step new events (adds.limit ∙ fits.stays.limit)
    (subst (IsWithin new.limit) events (IsWithin-whole new.limit new.events (fits-one old ready new places counted event kept.small counts fits adds)))
    (omega (arith, fits.room, few, puts.spare))

-- what is kept goes by the events, the room and the bound alone
pub IsHolding-moved : (terms : Terms) (old new : Sheet) (shelf : Shelf) → IsHolding terms old shelf → new.events ≡ old.events → old.spare ≤ new.spare → new.limit ≡ old.limit → IsHolding terms new shelf
IsHolding-moved terms old new shelf kept events spare limit = record {
  starts = kept.starts;
  run = subst (Run terms) (sym events) kept.run;
  within = rw (events, limit) kept.within;
  room = omega (arith, kept.room, spare, ap (λ es. length (out es)) events);
  small = rw limit kept.small;
  counts = rw events kept.counts;
  waits = subst (λ es. IsQueue terms es shelf.waiting) (sym events) kept.waits;
  opened = subst (λ es. AreOpen terms es shelf.questions) (sym events) kept.opened;
  marks = rw events kept.marks;
  tracks = rw events kept.tracks;
  stands = rw events kept.stands;
}

-- a step that was refused before it changed anything
pub IsHolding-stays : (terms : Terms) (old new : Sheet) (shelf : Shelf) → IsHolding terms old shelf → Stays old new → IsHolding terms new shelf
IsHolding-stays terms old new shelf kept stays = IsHolding-moved terms old new shelf kept stays.events stays.spare stays.limit

-- room that was made for an entry changes nothing that is kept
pub IsHolding-placed : (terms : Terms) (old new : Sheet) (shelf : Shelf) (documents : Standings) → IsHolding terms old shelf → Stays old new → KeepsEntries shelf.documents documents → IsHolding terms new (record shelf { documents = documents })
IsHolding-placed terms old new shelf documents kept stays keeps =
    let same = IsHolding-stays terms old new shelf kept stays in
    record {
      starts = same.starts;
      run = same.run;
      within = same.within;
      room = same.room;
      small = same.small;
      counts = record { requests = same.counts.requests; replies = same.counts.replies; noted = same.counts.noted; begun = same.counts.begun; places = same.counts.places; failed = same.counts.failed };
      waits = same.waits;
      opened = same.opened;
      marks = same.marks;
      tracks = same.tracks;
      stands = λ path. same.stands path ∙ sym (keeps.entries path);
    }

-- a refusal to make room leaves the journal
pub LacksRoom-stays : (old new : Sheet) (bytes : ℕ) (fault : CoreFault) → LacksRoom old new bytes fault → Stays old new
LacksRoom-stays old new bytes TooManyDocuments none = absurd none
LacksRoom-stays old new bytes (JournalFull used more) full = full.stays
LacksRoom-stays old new bytes OutOfMemory starves = starves.stays
LacksRoom-stays old new bytes WriteFault none = absurd none
LacksRoom-stays old new bytes Ended none = absurd none

-- marks and queries that show the same change nothing that is kept
pub IsHolding-shown : (terms : Terms) (sheet : Sheet) (shelf : Shelf) (waiting : List Waiting) (marks : Marks) → IsHolding terms sheet shelf → waiting ≡ shelf.waiting → marks.list ≡ shelf.marks.list
    → IsHolding terms sheet (record shelf { waiting = waiting; marks = marks })
IsHolding-shown terms sheet shelf waiting marks kept waits marked = record {
  starts = kept.starts;
  run = kept.run;
  within = kept.within;
  room = kept.room;
  small = kept.small;
  counts = record { requests = kept.counts.requests; replies = kept.counts.replies; noted = kept.counts.noted; begun = kept.counts.begun; places = kept.counts.places; failed = kept.counts.failed };
  waits = subst (IsQueue terms sheet.events) (sym waits) kept.waits;
  opened = kept.opened;
  marks = rw marked kept.marks;
  tracks = kept.tracks;
  stands = kept.stands;
}

-- a change list that stayed changes nothing that is kept
pub IsHolding-tracked : (terms : Terms) (sheet : Sheet) (shelf : Shelf) (changes : HandedIn) → IsHolding terms sheet shelf → changes ≡ shelf.changes → IsHolding terms sheet (record shelf { changes = changes })
IsHolding-tracked terms sheet shelf changes kept same = record {
  starts = kept.starts;
  run = kept.run;
  within = kept.within;
  room = kept.room;
  small = kept.small;
  counts = record { requests = kept.counts.requests; replies = kept.counts.replies; noted = kept.counts.noted; begun = kept.counts.begun; places = kept.counts.places; failed = kept.counts.failed };
  waits = kept.waits;
  opened = kept.opened;
  marks = kept.marks;
  tracks = rw same (record { notices = kept.tracks.notices; served = kept.tracks.served; charges = kept.tracks.charges; refusals = kept.tracks.refusals; out = kept.tracks.out; retries = kept.tracks.retries });
  stands = kept.stands;
}

-- questions that stayed change nothing that is kept
pub IsHolding-unasked : (terms : Terms) (sheet : Sheet) (shelf : Shelf) (questions : List Question) → IsHolding terms sheet shelf → questions ≡ shelf.questions → IsHolding terms sheet (record shelf { questions = questions })
IsHolding-unasked terms sheet shelf questions kept same = record {
  starts = kept.starts;
  run = kept.run;
  within = kept.within;
  room = kept.room;
  small = kept.small;
  counts = record { requests = kept.counts.requests; replies = kept.counts.replies; noted = kept.counts.noted; begun = kept.counts.begun; places = kept.counts.places; failed = kept.counts.failed };
  waits = kept.waits;
  opened = rw same kept.opened;
  marks = kept.marks;
  tracks = kept.tracks;
  stands = kept.stands;
}
