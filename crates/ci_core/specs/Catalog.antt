-- What a catalogue keeps of its refusals.
use Rattle.std.specs.Prelude.{◌≡◌, ◌<◌, ◌≤◌, ◌+◌, ⊤, ℕ, false, List, ◌∷◌, Option, Some, None, IfSome, length, drop, take}
use Rattle.ci_change.specs.declared.notice.Notice.{Notice}
use Rattle.ci_journal.specs.declared.event.Event.{Event}
use Rattle.ci_journal.specs.declared.event.Happened.{Happened}
use Rattle.ci_journal.specs.Bytes.{capped, journal_bytes}
use Rattle.ci_journal.specs.Folds.{is_numbered, numbered_paths}
use Rattle.ci_journal.specs.Printed.{AreEnds}
use Rattle.ci_journal.specs.Step.{May, step_of}
use Rattle.ci_journal.specs.Tells.{event, tells}
use Rattle.ci_book.specs.declared.core_fault.CoreFault.{CoreFault}
use Rattle.ci_book.specs.declared.core_fault.CoreFault.TheVariants.{TooManyDocuments, JournalFull, OutOfMemory, WriteFault, Ended}
use Rattle.ci_book.specs.declared.refusal.Refusal.{Refusal}
use Rattle.ci_holdings.specs.Core.{Core}

-- the paths that are numbered are those that were noted
abbrev pub NumbersNoted : Core → Type 0
NumbersNoted core = core.numbered ≡ numbered_paths core.terms core.sheet.events

-- want of memory leaves it open, since a path may have been numbered before its notice was refused
abbrev pub NumbersUnless : Core → CoreFault → Type 0
NumbersUnless core TooManyDocuments = NumbersNoted core
NumbersUnless core (JournalFull used more) = NumbersNoted core
NumbersUnless core OutOfMemory = ⊤
NumbersUnless core WriteFault = NumbersNoted core
NumbersUnless core Ended = NumbersNoted core

abbrev pub NumbersAfter : Core → Option Refusal → Type 0
NumbersAfter core None = NumbersNoted core
NumbersAfter core (Some refusal) = NumbersUnless core refusal.fault

-- the journal as the refused step found it, and what stands behind that
abbrev pub journal_before : Core → ℕ → List Event
journal_before core at = take at core.sheet.events

abbrev pub events_behind : Core → ℕ → List Event
events_behind core at = drop at core.sheet.events

-- it notes a path that is new, and as many paths are numbered as may be
pub record Crowds (core : Core) (before : List Event) (by : ℕ) (what : Happened) : Type 0 where
  pub may : May core.terms before by what
  pub notice : Notice
  pub notes : (tells what).notice ≡ Some notice
  pub new_path : is_numbered core.numbered notice.path ≡ false
  pub many : core.most ≤ length core.numbered

-- with the step's events the journal is above the bound
pub record Overfills (core : Core) (before : List Event) (by : ℕ) (what : Happened) (used more : ℕ) : Type 0 where
  pub may : May core.terms before by what
  pub counted : used ≡ journal_bytes before
  pub wanted : more ≡ capped (journal_bytes (step_of core.terms before by what))
  pub over : core.sheet.limit < used + more

-- the event was being printed: it comes first, and ends of batches behind it
pub record IsCutOff (core : Core) (before behind : List Event) (by : ℕ) (what : Happened) : Type 0 where
  pub may : May core.terms before by what
  pub ends : List Event
  pub events : behind ≡ event by what ∷ ends
  pub each : AreEnds ends

-- the cause of the first refusal holds of the catalogue as it is now, and of the journal as the step found it; behind
-- that stand ends of batches, and the one event that was being printed
abbrev pub CausedBy : Core → List Event → List Event → ℕ → CoreFault → Option Happened → Type 0
CausedBy core before behind by TooManyDocuments None = ⊥
CausedBy core before behind by TooManyDocuments (Some what) = Crowds core before by what × AreEnds behind
CausedBy core before behind by (JournalFull used more) None = ⊥
CausedBy core before behind by (JournalFull used more) (Some what) =
    Overfills core before by what used more × AreEnds behind
CausedBy core before behind by OutOfMemory None = AreEnds behind
CausedBy core before behind by OutOfMemory (Some what) = ⊥
CausedBy core before behind by WriteFault None = ⊥
CausedBy core before behind by WriteFault (Some what) = IsCutOff core before behind by what
CausedBy core before behind by Ended tried = ⊥

pub record IsCaused (core : Core) (refusal : Refusal) : Type 0 where
  pub place : refusal.at ≤ length core.sheet.events
  pub cause : CausedBy core (journal_before core refusal.at) (events_behind core refusal.at) refusal.by refusal.fault refusal.tried

pub record IsCatalog (core : Core) : Type 0 where
  pub numbered : NumbersAfter core core.refusal
  pub cause : IfSome core.refusal (IsCaused core)
