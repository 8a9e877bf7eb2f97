-- What a catalogue keeps of its journal.
use Rattle.std.specs.Prelude.{◌≡◌, ◌≢◌, ◌≤◌, ◌+◌, ℕ, false, List, length}
use Rattle.ci_change.specs.HandedIn.{HandedIn}
use Rattle.ci_journal.specs.declared.event.Event.{Event}
use Rattle.ci_journal.specs.Daemon.{failures}
use Rattle.ci_journal.specs.Filings.{batches, fates, out}
use Rattle.ci_journal.specs.Folds.{requests_in, new_notices, notices, reply_numbers}
use Rattle.ci_journal.specs.Pending.{charges_in, refusals_in}
use Rattle.ci_journal.specs.Served.{live_map, served_numbers}
use Rattle.ci_journal.specs.Step.{Run}
use Rattle.ci_journal.specs.Terms.{Terms, empty_beginning}
use Rattle.ci_holdings.specs.declared.question.Question.{Question}
use Rattle.ci_book.specs.declared.settings.TheConstants.{JOURNAL_MOST}
use Rattle.ci_holdings.specs.declared.waiting.Waiting.{Waiting}
use Rattle.ci_documents.specs.Documents.{Standings, StandFor}
use Rattle.ci_book.specs.Book.{IsWithin}
use Rattle.ci_holdings.specs.Open.{AreOpen}
use Rattle.ci_book.specs.Sheet.{Sheet}
use Rattle.ci_holdings.specs.Waiting.{IsQueue, Marks, MarksReplies}

-- what is kept beside the journal: the documents, the change list, the queries that wait and those that are open, the
-- marks of replies, how many requests, replies, notices and batches there were, how many places the next event and the
-- ends of batches take, and how many starts of the daemon failed in a row
pub record Shelf : Type 0 where
  pub documents : Standings
  pub changes : HandedIn
  pub waiting : List Waiting
  pub questions : List Question
  pub marks : Marks
  pub requests : ℕ
  pub replies : ℕ
  pub noted : ℕ
  pub begun : ℕ
  pub places : ℕ
  pub failed : ℕ

-- the session found nothing, entries are kept whole, and a document is tried at least once
pub record StartsEmpty (terms : Terms) : Type 0 where
  pub beginning : terms.beginning ≡ empty_beginning
  pub whole : terms.in_lists ≡ false
  pub retries : terms.retries ≢ 0

-- the change list has what the journal tells: its notices, what was served, the attempts that were spent, the
-- refusals, and the batches that are out
pub record Tracks (terms : Terms) (events : List Event) (changes : HandedIn) : Type 0 where
  pub notices : changes.notices ≡ notices terms events
  pub served : changes.served ≡ served_numbers terms events
  pub charges : changes.charges ≡ charges_in (fates events)
  pub refusals : changes.refusals ≡ refusals_in (fates events)
  pub out : changes.out ≡ out events
  pub retries : changes.retries ≡ terms.retries

-- the numbers of requests, replies, notices and batches, of places, and of failed starts
pub record Counts (events : List Event) (shelf : Shelf) : Type 0 where
  pub requests : shelf.requests ≡ length (requests_in events)
  pub replies : shelf.replies ≡ length (reply_numbers events)
  pub noted : shelf.noted ≡ length (new_notices events)
  pub begun : shelf.begun ≡ length (batches events)
  pub places : shelf.places ≡ length (out events) + 1
  pub failed : shelf.failed ≡ failures events

-- the journal is a run, within its bound, each batch that is out has room for its end, and what is kept beside the
-- journal says of it what it says
pub record IsHolding (terms : Terms) (sheet : Sheet) (shelf : Shelf) : Type 0 where
  pub starts : StartsEmpty terms
  pub run : Run terms sheet.events
  pub within : IsWithin sheet.limit sheet.events
  pub room : length (out sheet.events) ≤ sheet.spare
  pub small : sheet.limit ≤ JOURNAL_MOST
  pub counts : Counts sheet.events shelf
  pub waits : IsQueue terms sheet.events shelf.waiting
  pub opened : AreOpen terms sheet.events shelf.questions
  pub marks : MarksReplies sheet.events shelf.marks.list
  pub tracks : Tracks terms sheet.events shelf.changes
  pub stands : StandFor (live_map terms sheet.events) shelf.documents
