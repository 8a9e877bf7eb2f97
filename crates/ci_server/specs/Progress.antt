-- How far a session has come.
use Rattle.std.specs.Prelude.{◌≡◌, ◌≢◌, ◌+◌, ℕ, Bool, true, false, List, [], ◌∷◌, ◌++◌, ◌⊎◌, Option, Some, length}
use Rattle.std.specs.List.{AllByRecursion}
use Rattle.std.specs.Io.KnownBytes.{IsAtEnd}
use Rattle.ci_io.specs.Causes.{Rose}
use Rattle.ci_io.specs.Lines.{HasNoFeed}
use Rattle.ci_io.specs.Reading.{Reading, IsOver, Loses, BeginsTooLong, ahead}
use Rattle.ci_journal.specs.declared.event.Event.{Event}
use Rattle.ci_journal.specs.declared.request.Request.{Request}
use Rattle.ci_journal.specs.declared.request.Request.TheVariants.{Quit}
use Rattle.ci_journal.specs.Folds.{requests_in}
use Rattle.ci_journal.specs.Requests.{is_quit}
use Rattle.ci_journal.specs.Tells.{last_of}
use Rattle.ci_journal.specs.Terms.{Terms}
use Rattle.ci_book.specs.declared.core_fault.CoreFault.TheVariants as fault
use Rattle.ci_holdings.specs.Core.{Core}
use Rattle.ci_server.specs.declared.status.Status.{Status}
use Rattle.ci_server.specs.declared.status.Status.TheVariants.{Done, Usage, ReadFault, WriteFault, JournalFull, TooManyDocuments, OutOfMemory, EndlessLine}
use Rattle.ci_server.specs.Requests.{IsOfLine, Reads, Feeds}
use Rattle.ci_server.specs.Served.{IsBetween, FitsTurn, ServesTurn}
use Rattle.ci_server.specs.Session.{InTurns, AsksFirst}
use Rattle.ci_worker.specs.Stops.{Remains, StopsIn}
use Rattle.ci_server.specs.Turns.{Turns}

-- one line was read, and its request served, which may end the session
pub record ServesLine (before now : Reading) (old new : Core) (quit : Bool) : Type 0 where
  pub request : Request
  pub of_line : IsOfLine request
  pub quits : is_quit request ≡ quit
  pub reads : Reads (ahead before) (ahead now) (request ∷ []) quit
  pub feeds : now.ended ≡ false → Feeds (ahead before) (ahead now) (request ∷ [])
  pub at_end : now.ended ≡ true → IsAtEnd now.left
  pub stays_ended : before.ended ≡ true → now.ended ≡ true
  pub faults : now.faults ≡ before.faults
  pub serves : ServesTurn old new (length (requests_in old.sheet.events) + 1) request

-- the source had ended, and nothing was done
pub record FindsEnd (before now : Reading) (old new : Core) : Type 0 where
  pub untouched : new ≡ old
  pub over : IsOver before now

-- the next line was served; or it ended the session, or the source had ended
abbrev pub GoesOn : Reading → Reading → Core → Core → Bool → Type 0
GoesOn before now old new true = ServesLine before now old new false
GoesOn before now old new false = ServesLine before now old new true ⊎ FindsEnd before now old new

-- the journal is as it was, or goes on with the first events of the next line's turn
abbrev pub FitsLine : Terms → Option (List ℕ) → List Event → List Event → Type 0
FitsLine terms left before journal =
    (journal ≡ before)
    ⊎ ((request : Request) × (rest : Option (List ℕ))
    × Reads left rest (request ∷ []) (is_quit request) × IsOfLine request
    × FitsTurn terms before (length (requests_in before) + 1) request journal)

-- no line was read: at most its beginning was taken, and the source hadn't told its end before
pub record IsUnread (before now : Reading) : Type 0 where
  pub loses : Loses before now
  pub begun : HasNoFeed (loses.lost ++ now.held)
  pub before_end : before.ended ≡ false

-- a line was not read or not served, and this is why
abbrev pub StopsAt : Reading → Reading → Core → Core → Status → Type 0
StopsAt before now old new Done = ⊥
StopsAt before now old new Usage = ⊥
StopsAt before now old new ReadFault = (new ≡ old) × IsUnread before now × Rose before.faults now.faults
StopsAt before now old new EndlessLine = (new ≡ old) × IsUnread before now × BeginsTooLong (ahead before)
StopsAt before now old new WriteFault = StopsIn (FitsLine old.terms (ahead before) old.sheet.events) old new fault.WriteFault
StopsAt before now old new (JournalFull used more) =
    StopsIn (FitsLine old.terms (ahead before) old.sheet.events) old new (fault.JournalFull used more)
StopsAt before now old new TooManyDocuments =
    StopsIn (FitsLine old.terms (ahead before) old.sheet.events) old new fault.TooManyDocuments
StopsAt before now old new OutOfMemory = StopsIn (FitsLine old.terms (ahead before) old.sheet.events) old new fault.OutOfMemory

-- whole turns were served, of the lines that were read, the last of which may have ended the session
pub record Progress (first : Reading) (start : Core) (now : Reading) (core : Core) (quit : Bool) : Type 0 where
  pub served : List Request
  pub turns : Turns start.terms core.sheet.events served
  pub of_lines : AllByRecursion IsOfLine served
  pub remains : Remains start core
  pub between : IsBetween core
  pub reads : Reads (ahead first) (ahead now) served quit
  pub feeds : now.ended ≡ false → Feeds (ahead first) (ahead now) served
  pub at_end : quit ≡ true → now.ended ≡ true → IsAtEnd now.left
  pub last : quit ≡ true → last_of served ≡ Some Quit
  pub goes_on : quit ≡ false → last_of served ≢ Some Quit
  pub faults : now.faults ≡ first.faults

-- whole turns were served, and then the source had ended
pub record EndsOver (first : Reading) (start : Core) (now : Reading) (core : Core) : Type 0 where
  pub before : Reading
  pub progress : Progress first start before core false
  pub over : IsOver before now

-- whole turns were served, and then a line was not read
pub record EndsUnread (first : Reading) (start : Core) (before now : Reading) (core : Core) : Type 0 where
  pub progress : Progress first start before core false
  pub unread : IsUnread before now

-- turns of the first requests of the bytes
pub record FitsSession (terms : Terms) (all : Option (List ℕ)) (journal : List Event) : Type 0 where
  pub turns : InTurns terms journal
  pub lines : AsksFirst all journal

-- how a session that ends with this status went
abbrev pub Ends : Reading → Core → Reading → Core → Status → Type 0
Ends first start now core Done = Progress first start now core true ⊎ EndsOver first start now core
Ends first start now core Usage = ⊥
Ends first start now core ReadFault =
    (before : Reading) × EndsUnread first start before now core × Rose before.faults now.faults
Ends first start now core EndlessLine =
    (before : Reading) × EndsUnread first start before now core × BeginsTooLong (ahead before)
Ends first start now core WriteFault = StopsIn (FitsSession start.terms (ahead first)) start core fault.WriteFault
Ends first start now core (JournalFull used more) =
    StopsIn (FitsSession start.terms (ahead first)) start core (fault.JournalFull used more)
Ends first start now core TooManyDocuments = StopsIn (FitsSession start.terms (ahead first)) start core fault.TooManyDocuments
Ends first start now core OutOfMemory = StopsIn (FitsSession start.terms (ahead first)) start core fault.OutOfMemory
