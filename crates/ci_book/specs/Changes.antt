-- What a step does to the journal under its bound: it adds events, or it is refused.
use Rattle.std.specs.Prelude.{◌≡◌, ◌≤◌, ◌<◌, ◌+◌, ℕ, List, [], ◌∷◌, ◌++◌}
use Rattle.std.specs.Io.KnownBytes.{Appends, Keeps}
use Rattle.ci_io.specs.Causes.{Rose}
use Rattle.ci_io.specs.Putting.{AppendsFront}
use Rattle.ci_journal.specs.declared.event.Event.{Event}
use Rattle.ci_journal.specs.declared.event.Happened.TheVariants.{Noted}
use Rattle.ci_change.specs.declared.notice.What.{What}
use Rattle.ci_journal.specs.Bytes.{capped, journal_bytes}
use Rattle.ci_journal.specs.Printed.{lines_of, printed}
use Rattle.ci_journal.specs.Tells.{event}
use Rattle.ci_book.specs.declared.core_fault.CoreFault.{CoreFault}
use Rattle.ci_book.specs.declared.core_fault.CoreFault.TheVariants.{TooManyDocuments, JournalFull, OutOfMemory, WriteFault, Ended}
use Rattle.ci_book.specs.Sheet.{Sheet}

-- the events stand at the journal's end, and their lines are printed
pub record Adds (old new : Sheet) (more : List Event) : Type 0 where
  pub events : new.events ≡ old.events ++ more
  pub limit : new.limit ≡ old.limit
  pub written : Appends old.written new.written (printed more)
  pub faults : new.faults ≡ old.faults

-- nothing was added or printed, and no room was lost
pub record Stays (old new : Sheet) : Type 0 where
  pub events : new.events ≡ old.events
  pub spare : old.spare ≤ new.spare
  pub limit : new.limit ≡ old.limit
  pub written : Keeps old.written new.written
  pub faults : new.faults ≡ old.faults

-- so many bytes more are above the bound
pub record IsFull (old new : Sheet) (bytes used more : ℕ) : Type 0 where
  pub stays : Stays old new
  pub counted : used ≡ journal_bytes old.events
  pub wanted : more ≡ capped bytes
  pub over : old.limit < used + more

-- so many bytes more are within the bound, and there was no memory
pub record Starves (old new : Sheet) (bytes : ℕ) : Type 0 where
  pub stays : Stays old new
  pub fits : journal_bytes old.events + bytes ≤ old.limit

-- the sink failed while the event was printed: it stands in the journal, and its lines lack bytes
-- at their end
pub record Breaks (old new : Sheet) (event : Event) : Type 0 where
  pub events : new.events ≡ old.events ++ event ∷ []
  pub limit : new.limit ≡ old.limit
  pub within : journal_bytes new.events ≤ new.limit
  pub written : AppendsFront old.written new.written (lines_of event.what)
  pub rose : Rose old.faults new.faults

-- events of so many bytes can be added at once, and so many events take no memory
pub record IsReady (old new : Sheet) (places bytes : ℕ) : Type 0 where
  pub stays : Stays old new
  pub fits : journal_bytes old.events + bytes ≤ old.limit
  pub room : places ≤ new.spare

-- events of so many bytes, as they are counted, can't be added
abbrev pub LacksRoom : Sheet → Sheet → ℕ → CoreFault → Type 0
LacksRoom old new bytes TooManyDocuments = ⊥
LacksRoom old new bytes (JournalFull used more) = IsFull old new bytes used more
LacksRoom old new bytes OutOfMemory = Starves old new bytes
LacksRoom old new bytes WriteFault = ⊥
LacksRoom old new bytes Ended = ⊥

-- an event was added in the room that was made for it
pub record Puts (old new : Sheet) (event : Event) : Type 0 where
  pub adds : Adds old new (event ∷ [])
  pub spare : new.spare + 1 ≡ old.spare

-- the event stands at the journal's end, within the bound, and its lines are still to be printed; beside it there was
-- room for so many events less one
pub record Enters (old new : Sheet) (places : ℕ) (event : Event) : Type 0 where
  pub events : new.events ≡ old.events ++ event ∷ []
  pub room : places ≤ new.spare + 1
  pub limit : new.limit ≡ old.limit
  pub within : journal_bytes new.events ≤ new.limit
  pub written : Keeps old.written new.written
  pub faults : new.faults ≡ old.faults

-- the bytes were printed
pub record Writes (old new : Sheet) (bytes : List ℕ) : Type 0 where
  pub events : new.events ≡ old.events
  pub spare : new.spare ≡ old.spare
  pub limit : new.limit ≡ old.limit
  pub written : Appends old.written new.written bytes
  pub faults : new.faults ≡ old.faults

-- the sink failed, and bytes at the end were not printed
pub record CutsOff (old new : Sheet) (bytes : List ℕ) : Type 0 where
  pub events : new.events ≡ old.events
  pub spare : new.spare ≡ old.spare
  pub limit : new.limit ≡ old.limit
  pub written : AppendsFront old.written new.written bytes
  pub rose : Rose old.faults new.faults

-- the event that notes a path under this number
abbrev pub noted : ℕ → List ℕ → ℕ → What → Event
noted by path number what =
    event by (Noted (record { path = path; seq = record { 0 = number }; what = what }))
