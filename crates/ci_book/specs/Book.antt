-- What a journal under a bound keeps.
use Rattle.std.specs.Prelude.{◌≡◌, ◌≤◌, ◌+◌, ℕ, List, ◌++◌, length}
use Rattle.ci_journal.specs.declared.event.Event.{Event}
use Rattle.ci_journal.specs.Bytes.{journal_bytes}
use Rattle.ci_journal.specs.Filings.{out}
use Rattle.ci_journal.specs.Printed.{AreEnds}
use Rattle.ci_book.specs.declared.settings.TheConstants.{JOURNAL_MOST}

-- the journal is within its bound, but for ends of batches behind it, each of one that was out there and is out no more
pub record IsWithin (limit : ℕ) (journal : List Event) : Type 0 where
  pub front : List Event
  pub ends : List Event
  pub whole : journal ≡ front ++ ends
  pub each : AreEnds ends
  pub few : length ends + length (out journal) ≤ length (out front)
  pub within : journal_bytes front ≤ limit

-- `used` is what the events count
pub record IsBook (events : List Event) (limit used : ℕ) : Type 0 where
  pub counted : used ≡ journal_bytes events
  pub small : limit ≤ JOURNAL_MOST
