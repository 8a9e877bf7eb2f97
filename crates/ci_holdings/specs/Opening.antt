-- What opening a query gives.
use Rattle.std.specs.Prelude.{◌≡◌, ◌⊎◌, ℕ, List, length, Option, Some, None}
use Rattle.std.specs.FinMap.{entries}
use Rattle.ci_dialect.specs.declared.restriction.Restriction.{Restriction}
use Rattle.ci_journal.specs.declared.event.Event.{Event}
use Rattle.ci_journal.specs.declared.event.Happened.TheVariants.{Opened}
use Rattle.ci_journal.specs.Queries.{IsFirstWaiting, Waits}
use Rattle.ci_journal.specs.Served.{live_map}
use Rattle.ci_journal.specs.Tells.{event}
use Rattle.ci_journal.specs.Terms.{Terms}
use Rattle.ci_book.specs.declared.core_fault.CoreFault.{CoreFault}
use Rattle.ci_holdings.specs.declared.question.Question.{Question}
use Rattle.ci_holdings.specs.Core.{Core}
use Rattle.ci_holdings.specs.Refusals.{IsOver, IsRefused}
use Rattle.ci_holdings.specs.Steps.{Makes, Rests}

-- no query waits to be opened
abbrev pub NoneWaits : Terms → List Event → Type 0
NoneWaits terms events = (id : ℕ) (tree : Restriction) → Waits terms events id tree → ⊥

-- the first query that waited is open: the question speaks of the map right behind the event
pub record Opens (old new : Core) (by : ℕ) (question : Question) : Type 0 where
  pub makes : Makes old new (event by (Opened question.id))
  pub first : IsFirstWaiting old.terms old.sheet.events question.id question.tree
  pub at : question.at ≡ length new.sheet.events
  pub plain : question.plain ≡ entries (live_map old.terms new.sheet.events)

-- a question where one waited, and otherwise nothing
abbrev pub OpensFirst : Core → Core → ℕ → Option Question → Type 0
OpensFirst old new by None = NoneWaits old.terms old.sheet.events × Rests old new
OpensFirst old new by (Some question) = Opens old new by question

-- opening the first query that waited was refused
abbrev pub RefusesOpening : Core → Core → ℕ → CoreFault → Type 0
RefusesOpening old new by fault =
    IsOver old new fault ⊎ ((id : ℕ) × IsRefused old new (event by (Opened id)) fault)
