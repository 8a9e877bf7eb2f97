-- What a session was given, what it left, and all that is promised of them: once, for every call that runs a session.
use Rattle.std.specs.Prelude.{◌≡◌, ◌≢◌, ◌≤◌, ◌⊎◌, ℕ, false, List, Option, None, length}
use Rattle.std.specs.Io.KnownBytes.{Appends, IsAtEnd}
use Rattle.ci_io.specs.Causes.{Rose}
use Rattle.ci_journal.specs.declared.event.Event.{Event}
use Rattle.ci_book.specs.Book.{IsWithin}
use Rattle.ci_journal.specs.Folds.{numbered_paths}
use Rattle.ci_journal.specs.Law.{AllAnswer}
use Rattle.ci_journal.specs.Printed.{PrintsCut, printed}
use Rattle.ci_journal.specs.Step.{Run}
use Rattle.ci_journal.specs.Terms.{Terms}
use Rattle.ci_link.specs.declared.record.LinkRecord.{LinkRecord}
use Rattle.ci_worker.specs.Working.{Keeps, Working}
use Rattle.ci_server.specs.declared.status.Status.{Status}
use Rattle.ci_server.specs.declared.status.Status.TheVariants.{Done, Usage, ReadFault, WriteFault, JournalFull, TooManyDocuments, EndlessLine}
use Rattle.ci_server.specs.Right.{AllReply}
use Rattle.ci_server.specs.Session.{InTurns, IsWhole, EndsBetween, AsksFirst, AsksAll, AsksBefore, AsksTaken, EndsByQuit, ComesTooLong, IsFullAt, IsCrowdedAt, EndsWell, Told}

-- the settings; the source, the sink and the spawner before and after; the status and the journal
pub record Course : Type 0 where
  pub terms : Terms
  pub limit : ℕ
  pub most : ℕ
  pub bytes : Option (List ℕ)
  pub left : Option (List ℕ)
  pub read_faults : ℕ
  pub read_faults_after : ℕ
  pub written : Option (List ℕ)
  pub written_after : Option (List ℕ)
  pub write_faults : ℕ
  pub write_faults_after : ℕ
  pub records : Option (List LinkRecord)
  pub records_after : Option (List LinkRecord)
  pub spawn_faults : ℕ
  pub spawn_faults_after : ℕ
  pub status : Status
  pub journal : List Event

-- what the session was told at its start
abbrev pub told_of : Course → Told
told_of c = record { terms = c.terms; limit = c.limit; most = c.most; bytes = c.bytes }

-- its journal is a run, in which each answer lists the hits at its own point and each reply is right to its request
pub record IsServed (c : Course) : Type 0 where
  pub run : Run c.terms c.journal
  pub answers : AllAnswer c.terms c.journal
  pub replies : AllReply c.terms c.journal
  -- between a request's asking and its reply stand just its steps, and between turns nothing
  pub turns : InTurns c.terms c.journal
  pub whole : EndsBetween c.status → IsWhole c.terms c.journal

-- what was asked is what the lines ask for, up to and including the first `quit`; where the session ended before the
-- source, that is of the lines whose feeds were taken, and what was taken besides asked for nothing
pub record IsAsked (c : Course) : Type 0 where
  pub lines : AsksFirst c.bytes c.journal
  pub all_lines : c.status ≡ Done → AsksAll c.bytes c.journal
  pub done : c.status ≡ Done → IsAtEnd c.left ⊎ EndsByQuit c.journal
  pub ends_at_quit : EndsByQuit c.journal → EndsBetween c.status → c.status ≡ Done
  pub left_at_quit : c.status ≡ Done → IsAtEnd c.left ⊎ AsksBefore c.bytes c.left c.journal
  pub taken_at_fault : c.status ≡ ReadFault → AsksTaken c.bytes c.left c.journal
  pub taken_at_long : c.status ≡ EndlessLine → AsksTaken c.bytes c.left c.journal

-- what was written is the printed journal
pub record IsWritten (c : Course) : Type 0 where
  pub all_printed : c.status ≢ WriteFault → Appends c.written c.written_after (printed c.journal)
  pub cut_off : c.status ≡ WriteFault → PrintsCut c.written c.written_after c.journal

-- each status has its cause
pub record HasCause (c : Course) : Type 0 where
  pub usage : c.status ≢ Usage
  pub read_fault : c.status ≡ ReadFault → Rose c.read_faults c.read_faults_after
  pub write_fault : c.status ≡ WriteFault → Rose c.write_faults c.write_faults_after
  pub journal_full : (used more : ℕ) → c.status ≡ JournalFull used more → IsFullAt (told_of c) c.journal used more
  pub crowded : c.status ≡ TooManyDocuments → IsCrowdedAt (told_of c) c.journal
  pub endless : c.status ≡ EndlessLine → ComesTooLong c.bytes c.left c.journal

-- where no count rose and no bound was met, the session ends well
abbrev pub IsComplete : Course → Type 0
IsComplete c =
    (Rose c.read_faults c.read_faults_after → ⊥) → (Rose c.write_faults c.write_faults_after → ⊥)
    → ((used more : ℕ) → IsFullAt (told_of c) c.journal used more → ⊥) → (IsCrowdedAt (told_of c) c.journal → ⊥)
    → EndsWell c.status

-- a worker that holds no link, whose spawner tells this
abbrev pub unheld : Option (List LinkRecord) → ℕ → Working
unheld records faults = record { records = records; faults = faults; held = None; lost = false }

-- where the spawner tells the records of links, the journal's talks are the readings of those that were given back, and are
-- backed by the bytes sent; each failed start that is told was a fault of the spawner; and an author begins batches while
-- it holds a link
abbrev pub IsDriven : Course → Type 0
IsDriven c = Keeps (unheld c.records c.spawn_faults) (unheld c.records_after c.spawn_faults_after) c.journal

-- the settings bound the journal at every end
pub record IsBounded (c : Course) : Type 0 where
  pub within : IsWithin c.limit c.journal
  pub bounded : length (numbered_paths c.terms c.journal) ≤ c.most

-- all that a session promises
pub record IsTold (c : Course) : Type 0 where
  pub served : IsServed c
  pub asked : IsAsked c
  pub prints : IsWritten c
  pub cause : HasCause c
  pub complete : IsComplete c
  pub driven : IsDriven c
  pub bounds : IsBounded c
