-- What filtering does to a catalogue: its steps, one by one, and where it stops.
use Rattle.std.specs.Prelude.{◌≡◌, ◌<◌, ◌≤◌, ◌-◌, ℕ, Bool, true, false, List, [], ◌∷◌, ◌++◌, Option, Some, None, Contains, length}
use Rattle.std.specs.List.{AllByRecursion}
use Rattle.ci_change.specs.declared.batch.Batch.{Batch}
use Rattle.ci_journal.specs.declared.event.Event.{Event}
use Rattle.ci_journal.specs.declared.event.Happened.{Happened}
use Rattle.ci_journal.specs.declared.event.Happened.TheVariants.{Begun}
use Rattle.ci_journal.specs.Bytes.{journal_bytes}
use Rattle.ci_journal.specs.Daemon.{holds_link, is_lost}
use Rattle.ci_journal.specs.Filings.{out}
use Rattle.ci_journal.specs.Pending.{deletions}
use Rattle.ci_journal.specs.Step.{step_of}
use Rattle.ci_journal.specs.Tells.{event, tells}
use Rattle.ci_journal.specs.Tells.Filed.{Begins as Out, Ends as Ended}
use Rattle.ci_journal.specs.Tells.{Filed}
use Rattle.ci_journal.specs.Terms.{Terms}
use Rattle.ci_book.specs.declared.core_fault.CoreFault.{CoreFault}
use Rattle.ci_holdings.specs.Core.{Core}
use Rattle.ci_worker.specs.Stops.{IsAt, StopsIn}
use Rattle.ci_worker.specs.Way.{IsFiltered, IsHopeless, IsIdle, IsNextOf, IsWanted, batch_docs}

-- the first steps of an author's filtering behind the journal, in order, and the events that they came to
pub data Filtering (terms : Terms) (by : ℕ) (journal : List Event) : List Happened → List Event → Type 0 where
  Begins : Filtering terms by journal [] []
  Goes : (steps : List Happened) (events : List Event) (what : Happened)
      → Filtering terms by journal steps events → IsNextOf terms by (journal ++ events) what
      → Filtering terms by journal (steps ++ what ∷ []) (events ++ step_of terms (journal ++ events) by what)

-- these steps were made, and none was refused
pub record GoesOn (by : ℕ) (old new : Core) : Type 0 where
  pub steps : List Happened
  pub events : List Event
  pub made : Filtering old.terms by old.sheet.events steps events
  pub at : IsAt old new events

-- the journal goes on with the first steps
abbrev pub FitsFiltering : Terms → ℕ → List Event → List Event → Type 0
FitsFiltering terms by before journal =
    (steps : List Happened) × (events : List Event) × Filtering terms by before steps events × (journal ≡ before ++ events)

-- the first steps were made, and the next one was refused
abbrev pub StopsFiltering : ℕ → Core → Core → CoreFault → Type 0
StopsFiltering by old new fault = StopsIn (FitsFiltering old.terms by old.sheet.events) old new fault

-- all was filtered, or no daemon could be had
abbrev pub IsThrough : Terms → List Event → List Event → Bool → Type 0
IsThrough terms journal since true = IsFiltered terms journal
IsThrough terms journal since false = IsHopeless terms journal since

pub record Filters (by : ℕ) (old new : Core) (whole : Bool) : Type 0 where
  pub goes : GoesOn by old new
  pub through : IsThrough new.terms new.sheet.events goes.events whole
  pub back : out new.sheet.events ≡ []

-- the steps went on, nothing is out, and no deletion is pending
pub record GoesIdle (by : ℕ) (old new : Core) : Type 0 where
  pub goes : GoesOn by old new
  pub idle : IsIdle new.sheet.events
  pub erased : deletions new.terms new.sheet.events ≡ []

-- a link is held, and something is free
pub record IsHeldFor (by : ℕ) (old new : Core) : Type 0 where
  pub goes : GoesOn by old new
  pub wanted : IsWanted new.terms new.sheet.events
  pub linked : holds_link new.sheet.events by ≡ true

-- no daemon can be had
pub record IsDenied (by : ℕ) (old new : Core) : Type 0 where
  pub goes : GoesOn by old new
  pub hopeless : IsHopeless new.terms new.sheet.events goes.events
  pub back : out new.sheet.events ≡ []

abbrev pub Starts : ℕ → Core → Core → Bool → Type 0
Starts by old new true = IsHeldFor by old new
Starts by old new false = IsDenied by old new

-- the batch alone is out, and was begun by this author
pub record IsOut (by : ℕ) (core : Core) (batch : Batch) : Type 0 where
  pub alone : out core.sheet.events ≡ batch ∷ []
  pub own : Contains core.sheet.events (event by (Begun batch))

-- the room that is left under the bound
abbrev pub room_left : Core → ℕ
room_left core = core.sheet.limit - journal_bytes core.sheet.events

-- a batch of some documents, and of few, was begun
pub record HasBegun (by : ℕ) (old new : Core) (batch : Batch) : Type 0 where
  pub goes : GoesOn by old new
  pub alone : IsOut by new batch
  pub erased : deletions new.terms new.sheet.events ≡ []
  pub some : 0 < length batch.docs
  pub few : length batch.docs ≤ batch_docs
  pub less : room_left new < room_left old
  pub holds : holds_link new.sheet.events by ≡ true
  pub lost : is_lost new.sheet.events ≡ is_lost old.sheet.events

-- it is less than before
abbrev pub HasLessRoom : Core → Core → Type 0
HasLessRoom old new = room_left new < room_left old

abbrev pub is_of_batch : Option Filed → Bool
is_of_batch (Some (Out batch)) = true
is_of_batch (Some (Ended number ending)) = true
is_of_batch _ = false

-- the event begins and ends no batch, tells of no start, and says nothing of who holds a link
pub record IsBeside (e : Event) : Type 0 where
  pub unbatched : is_of_batch (tells e.what).filed ≡ false
  pub unstarted : (tells e.what).start ≡ None
  pub unlinked : (tells e.what).link ≡ None

-- the journal goes on with events beside the filtering
pub record GoesBeside (before now : List Event) : Type 0 where
  pub events : List Event
  pub whole : now ≡ before ++ events
  pub each : AllByRecursion IsBeside events
