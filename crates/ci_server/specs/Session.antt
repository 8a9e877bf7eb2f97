-- What a session that has ended says of its journal, its source and its sink.
use Rattle.std.specs.Prelude.{◌≡◌, ◌<◌, ◌≤◌, ◌+◌, ⊤, ◌⊎◌, ℕ, false, List, [], ◌++◌, Option, Some, None, length, map, flat_map}
use Rattle.std.specs.List.{AllByRecursion}
use Rattle.ci_io.specs.Lines.{HasNoFeed}
use Rattle.ci_io.specs.Reading.{BeginsTooLong}
use Rattle.ci_change.specs.declared.notice.Notice.{Notice}
use Rattle.ci_journal.specs.declared.event.Event.{Event}
use Rattle.ci_journal.specs.declared.request.Request.{Request}
use Rattle.ci_journal.specs.declared.request.Request.TheVariants as request
use Rattle.ci_journal.specs.Bytes.{capped, journal_bytes}
use Rattle.ci_journal.specs.Folds.{is_numbered, numbered_paths, requests_in}
use Rattle.ci_journal.specs.Step.{May, step_of}
use Rattle.ci_journal.specs.Tells.{last_of, tells}
use Rattle.ci_journal.specs.Terms.{Terms}
use Rattle.ci_server.specs.declared.status.Status.{Status}
use Rattle.ci_server.specs.declared.status.Status.TheVariants.{Done, Usage, ReadFault, WriteFault, JournalFull, TooManyDocuments, OutOfMemory, EndlessLine}
use Rattle.ci_server.specs.Requests.{IsOfLine, requests, line_request, with_feed}
use Rattle.ci_server.specs.Turns.{IsTurnFront, Turns}

-- whole turns, of these requests
abbrev pub IsWhole : Terms → List Event → Type 0
IsWhole terms journal = (served : List Request) × Turns terms journal served

-- whole turns, and behind them the first events of one more turn, or none
pub record InTurns (terms : Terms) (journal : List Event) : Type 0 where
  pub whole : List Event
  pub turns : IsWhole terms whole
  pub front : List Event
  pub events : journal ≡ whole ++ front
  pub cut : (front ≡ []) ⊎ ((id : ℕ) × (request : Request) × IsTurnFront terms whole id request front)

-- where the source's bytes are told: the requests that were asked are the first of theirs; where they aren't, each
-- is a line's
abbrev pub AsksFirst : Option (List ℕ) → List Event → Type 0
AsksFirst None journal = AllByRecursion IsOfLine (requests_in journal)
AsksFirst (Some all) journal = (more : List Request) × (requests all ≡ requests_in journal ++ more)

-- and these are all of them
abbrev pub AsksAll : Option (List ℕ) → List Event → Type 0
AsksAll None journal = ⊤
AsksAll (Some all) journal = requests all ≡ requests_in journal

-- the last request that was asked ends the session
abbrev pub EndsByQuit : List Event → Type 0
EndsByQuit journal = last_of (requests_in journal) ≡ Some request.Quit

-- the session took lines with their line feeds, which ask for what was asked, and then some bytes more
pub record TakesLines (all left : List ℕ) (journal : List Event) : Type 0 where
  pub raws : List (List ℕ)
  pub begun : List ℕ
  pub whole : all ≡ flat_map with_feed raws ++ begun ++ left
  pub each : AllByRecursion HasNoFeed raws
  pub asked_are : requests_in journal ≡ map line_request raws

-- where the bytes are told: of these bytes, which a reader's buffer holds, the session used nothing
abbrev pub AsksBefore : Option (List ℕ) → Option (List ℕ) → List Event → Type 0
AsksBefore None left journal = ⊤
AsksBefore (Some all) None journal = ⊥
AsksBefore (Some all) (Some left) journal =
    (takes : TakesLines all left journal) × (length takes.begun ≤ 65537)

-- where the bytes are told: these bytes are the beginning of one more line, or none
abbrev pub AsksTaken : Option (List ℕ) → Option (List ℕ) → List Event → Type 0
AsksTaken None left journal = ⊤
AsksTaken (Some all) None journal = ⊥
AsksTaken (Some all) (Some left) journal = (takes : TakesLines all left journal) × HasNoFeed takes.begun

-- and that line, of which the session took the beginning, has more bytes than a line may have
abbrev pub ComesTooLong : Option (List ℕ) → Option (List ℕ) → List Event → Type 0
ComesTooLong None left journal = ⊤
ComesTooLong (Some all) None journal = ⊥
ComesTooLong (Some all) (Some left) journal =
    (takes : TakesLines all left journal) × HasNoFeed takes.begun × BeginsTooLong (Some (takes.begun ++ left))

-- what a session was told at its start, and what its source had
pub record Told : Type 0 where
  pub terms : Terms
  pub limit : ℕ
  pub most : ℕ
  pub bytes : Option (List ℕ)

-- the event notes a path that never was noted, and as many paths were noted as may be
pub record IsOneTooMany (told : Told) (journal : List Event) (event : Event) : Type 0 where
  pub notice : Notice
  pub notes : (tells event.what).notice ≡ Some notice
  pub new_path : is_numbered (numbered_paths told.terms journal) notice.path ≡ false
  pub many : told.most ≤ length (numbered_paths told.terms journal)

-- the events of the step that tells this one, behind the journal
abbrev pub step_told : Told → List Event → Event → List Event
step_told told journal event = step_of told.terms journal event.by event.what

-- the step may come next: it goes on with the turn, and what it asks is asked by the lines
pub record ComesNext (told : Told) (journal : List Event) (event : Event) : Type 0 where
  pub may : May told.terms journal event.by event.what
  pub in_turn : InTurns told.terms (journal ++ step_told told journal event)
  pub lines : AsksFirst told.bytes (journal ++ step_told told journal event)

-- the next step is above the bound, and notes no path too many
pub record IsFullAt (told : Told) (journal : List Event) (used more : ℕ) : Type 0 where
  pub event : Event
  pub next : ComesNext told journal event
  pub counted : used ≡ journal_bytes journal
  pub wanted : more ≡ capped (journal_bytes (step_told told journal event))
  pub over : told.limit < used + more
  pub room : IsOneTooMany told journal event → ⊥

-- the next step notes a path too many
pub record IsCrowdedAt (told : Told) (journal : List Event) : Type 0 where
  pub event : Event
  pub next : ComesNext told journal event
  pub many : IsOneTooMany told journal event

-- a session that ends with this status ends between two turns
abbrev pub EndsBetween : Status → Type 0
EndsBetween Done = ⊤
EndsBetween ReadFault = ⊤
EndsBetween EndlessLine = ⊤
EndsBetween Usage = ⊥
EndsBetween WriteFault = ⊥
EndsBetween (JournalFull used more) = ⊥
EndsBetween TooManyDocuments = ⊥
EndsBetween OutOfMemory = ⊥

-- a session ends well, unless memory was wanted or a line had no end
abbrev pub EndsWell : Status → Type 0
EndsWell status = (status ≡ Done) ⊎ (status ≡ OutOfMemory) ⊎ (status ≡ EndlessLine)
