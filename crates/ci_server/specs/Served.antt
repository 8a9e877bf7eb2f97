-- What serving a request does to a catalogue.
use Rattle.std.specs.Prelude.{◌≡◌, ◌<◌, ◌+◌, ℕ, false, List, [], ◌∷◌, ◌++◌, Some, length}
use Rattle.ci_base.specs.declared.numbers.Seq.{Seq}
use Rattle.ci_change.specs.declared.notice.What.{What}
use Rattle.ci_dialect.specs.declared.restriction.Restriction.{Restriction}
use Rattle.ci_journal.specs.declared.event.Event.{Event}
use Rattle.ci_journal.specs.declared.event.Happened.TheVariants.{Said}
use Rattle.ci_journal.specs.declared.reply.Reply.{Reply}
use Rattle.ci_journal.specs.declared.request.Request.{Request}
use Rattle.ci_journal.specs.Filings.{out}
use Rattle.ci_journal.specs.Folds.{requests_in, next_notice, request_at, is_opened}
use Rattle.ci_journal.specs.Queries.{Waits}
use Rattle.ci_journal.specs.Step.{MaySay}
use Rattle.ci_journal.specs.Tells.{event}
use Rattle.ci_journal.specs.Terms.{Terms}
use Rattle.ci_book.specs.declared.core_fault.CoreFault.{CoreFault}
use Rattle.ci_book.specs.Changes.{noted}
use Rattle.ci_holdings.specs.Core.{Core}
use Rattle.ci_holdings.specs.Opening.{NoneWaits}
use Rattle.ci_server.specs.Right.{AreRepliedBefore}
use Rattle.ci_worker.specs.Filtering.{room_left}
use Rattle.ci_worker.specs.Stops.{IsAt, IsSound, Remains, StopsIn}
use Rattle.ci_worker.specs.Way.{IsIdle}
use Rattle.ci_server.specs.Turns.{AreSteps, AreFirst, IsTurn, IsTurnFront}

-- between two turns each request has its reply, no query waits, and no batch is out
pub record IsBetween (core : Core) : Type 0 where
  pub sound : IsSound core
  pub replied : AreRepliedBefore core.sheet.events (length (requests_in core.sheet.events) + 1)
  pub all_opened : NoneWaits core.terms core.sheet.events
  pub back : out core.sheet.events ≡ []

-- no query waits but that of this request
abbrev pub WaitsAlone : Terms → List Event → ℕ → Type 0
WaitsAlone terms events id = (other : ℕ) (tree : Restriction) → Waits terms events other tree → other ≡ id

-- the request was the last thing that happened: it alone has no reply, and its query is the only one that may wait
pub record IsJustAsked (core : Core) (id : ℕ) (request : Request) : Type 0 where
  pub sound : IsSound core
  pub may_reply : MaySay core.sheet.events id
  pub last : id ≡ length (requests_in core.sheet.events)
  pub found : request_at core.sheet.events id ≡ Some request
  pub replied : AreRepliedBefore core.sheet.events id
  pub unopened : is_opened core.sheet.events id ≡ false
  pub waits : WaitsAlone core.terms core.sheet.events id
  pub idle : IsIdle core.sheet.events

-- the steps of a request were made, its reply the last
pub record ServesSteps (old new : Core) (id : ℕ) (request : Request) : Type 0 where
  pub steps : List Event
  pub made : AreSteps old.terms old.sheet.events id request steps
  pub events : new.sheet.events ≡ old.sheet.events ++ steps
  pub remains : Remains old new
  pub sound : IsSound new

-- the journal goes on with the first steps of a request
abbrev pub FitsSteps : Terms → List Event → ℕ → Request → List Event → Type 0
FitsSteps terms before id request journal =
    (steps : List Event) × AreFirst terms before id request steps × (journal ≡ before ++ steps)

-- the first steps of a request were made, and the next one was refused
abbrev pub StopsSteps : Core → Core → ℕ → Request → CoreFault → Type 0
StopsSteps old new id request fault = StopsIn (FitsSteps old.terms old.sheet.events id request) old new fault

-- the path was noted, under the next number
pub record IsNotedHere (old new : Core) (path : List ℕ) (seq : Seq) (what : What) : Type 0 where
  pub next : seq.0 ≡ next_notice old.terms old.sheet.events
  pub at : IsAt old new (noted 0 path seq.0 what ∷ [])

-- noting the path was refused: this stops each request that has it as its first step
abbrev pub StopsNoting : Core → Core → List ℕ → What → CoreFault → Type 0
StopsNoting old new path what fault =
    (id : ℕ) (request : Request)
    → AreFirst old.terms old.sheet.events id request (noted 0 path (next_notice old.terms old.sheet.events) what ∷ [])
    → StopsSteps old new id request fault

-- the reply was made: whatever steps stand before it, where it ends them the request is served
abbrev pub Replies : Core → Core → ℕ → Reply → Type 0
Replies now new id reply =
    (old : Core) (request : Request) (steps : List Event) → IsAt old now steps
    → AreSteps old.terms old.sheet.events id request (steps ++ event 0 (Said id reply) ∷ [])
    → ServesSteps old new id request

-- the reply was refused: whatever steps stand before it, where it ends them the request stops in its steps
abbrev pub StopsReplying : Core → Core → ℕ → Reply → CoreFault → Type 0
StopsReplying now new id reply fault =
    (old : Core) (request : Request) (steps : List Event) → IsAt old now steps
    → AreFirst old.terms old.sheet.events id request steps
    → AreSteps old.terms old.sheet.events id request (steps ++ event 0 (Said id reply) ∷ [])
    → StopsSteps old new id request fault

-- the request was asked, and its steps were made, so that less room is left
pub record ServesTurn (old new : Core) (id : ℕ) (request : Request) : Type 0 where
  pub events : List Event
  pub turn : IsTurn old.terms old.sheet.events id request events
  pub events_are : new.sheet.events ≡ old.sheet.events ++ events
  pub remains : Remains old new
  pub between : IsBetween new
  pub grows : room_left new < room_left old

-- the journal goes on with the first events of a request's turn
abbrev pub FitsTurn : Terms → List Event → ℕ → Request → List Event → Type 0
FitsTurn terms before id request journal =
    (front : List Event) × IsTurnFront terms before id request front × (journal ≡ before ++ front)

-- the first events of the request's turn were added, and the next one was refused
abbrev pub StopsTurn : Core → Core → ℕ → Request → CoreFault → Type 0
StopsTurn old new id request fault = StopsIn (FitsTurn old.terms old.sheet.events id request) old new fault
