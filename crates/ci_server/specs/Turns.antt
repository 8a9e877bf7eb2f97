-- A session in turns: a request is asked, its steps are made one by one, and it is replied to, before the next one is
-- asked.
use Rattle.std.specs.Prelude.{◌≡◌, ◌⊎◌, ℕ, List, [], ◌∷◌, ◌++◌}
use Rattle.ci_base.specs.declared.numbers.Seq.{Seq}
use Rattle.ci_change.specs.declared.notice.What.{What}
use Rattle.ci_change.specs.declared.notice.What.TheVariants.{Changed, Deleted}
use Rattle.ci_chunk.specs.Plain.{plain}
use Rattle.ci_journal.specs.declared.event.Event.{Event}
use Rattle.ci_journal.specs.declared.event.Happened.{Happened}
use Rattle.ci_journal.specs.declared.event.Happened.TheVariants.{Asked, Noted, Put, Erased, Opened, Answered, Said}
use Rattle.ci_journal.specs.declared.reply.Reply.{Reply}
use Rattle.ci_journal.specs.declared.request.Request.{Request}
use Rattle.ci_journal.specs.declared.request.Request.TheVariants as request
use Rattle.ci_journal.specs.Queries.{IsAnswer}
use Rattle.ci_journal.specs.Step.{step_of}
use Rattle.ci_journal.specs.Tells.{event}
use Rattle.ci_journal.specs.Terms.{Terms}
use Rattle.ci_server.specs.Right.{IsRight}
use Rattle.ci_worker.specs.Way.{IsNextOf}

-- ---- which step comes next

-- the first step notes the path, under some number
abbrev pub IsNoting : List ℕ → What → List Happened → Happened → Type 0
IsNoting path kind steps what =
    (steps ≡ []) × (seq : Seq) × (what ≡ Noted (record { path = path; seq = seq; what = kind }))

-- the path was noted under this number, and nothing was done besides
abbrev pub HasNoted : List ℕ → What → Seq → List Happened → Type 0
HasNoted path kind seq steps = steps ≡ Noted (record { path = path; seq = seq; what = kind }) ∷ []

-- behind the journal, and these steps of the request, this is the next one; the requests that aren't here have no steps
abbrev pub IsNextStep : Terms → List Event → ℕ → Request → List Happened → Happened → Type 0
IsNextStep terms journal id (request.Changed path) steps what = IsNoting path Changed steps what
IsNextStep terms journal id (request.Deleted path) steps what =
    IsNoting path Deleted steps what ⊎ ((seq : Seq) × HasNoted path Deleted seq steps × (what ≡ Erased path seq))
IsNextStep terms journal id (request.Put path text) steps what =
    IsNoting path Changed steps what
    ⊎ ((seq : Seq) × HasNoted path Changed seq steps × (what ≡ Put path seq (plain path text)))
IsNextStep terms journal id (request.Query text) steps what = (steps ≡ []) × (what ≡ Opened id)
IsNextStep terms journal id request.Filter steps what = IsNextOf terms 0 journal what
IsNextStep terms journal id _ steps what = ⊥

-- the first steps of a request, which was just asked behind the journal's other events, in order, and the events that
-- they came to; the foreground makes them all
pub data Front (terms : Terms) (journal : List Event) (id : ℕ) (request : Request)
    : List Happened → List Event → Type 0 where
  Begins : Front terms journal id request [] []
  Goes : (steps : List Happened) (events : List Event) (what : Happened) →
      Front terms journal id request steps events → IsNextStep terms (journal ++ events) id request steps what →
      Front terms journal id request (steps ++ what ∷ []) (events ++ step_of terms (journal ++ events) 0 what)

-- ---- what ends a turn

-- the request is replied to, and rightly
abbrev pub EndsReplied : Terms → List Event → List Event → ℕ → Request → Happened → Type 0
EndsReplied terms journal events id request what =
    (said : Reply) × (what ≡ Said id said) × IsRight terms (journal ++ events) events id request said

-- its query, which was opened, is answered
abbrev pub EndsAnswered : Terms → List Event → ℕ → List Happened → Happened → Type 0
EndsAnswered terms journal id steps what =
    (steps ≡ Opened id ∷ []) × (at : ℕ) × (paths : List (List ℕ)) × (what ≡ Answered id at paths)
    × IsAnswer terms journal id at paths

-- all steps of a request that was just asked, and what ends its turn
pub record AreSteps (terms : Terms) (journal : List Event) (id : ℕ) (request : Request) (all : List Event)
    : Type 0 where
  pub steps : List Happened
  pub events : List Event
  pub front : Front terms journal id request steps events
  pub last : Happened
  pub ends : EndsReplied terms journal events id request last ⊎ EndsAnswered terms (journal ++ events) id steps last
  pub events_are : all ≡ events ++ event 0 last ∷ []

-- the first events behind the asking: those of some steps, or the whole turn
abbrev pub AreFirst : Terms → List Event → ℕ → Request → List Event → Type 0
AreFirst terms journal id request events =
    ((steps : List Happened) × Front terms journal id request steps events) ⊎ AreSteps terms journal id request events

-- ---- turns

-- a whole turn behind a journal: the asking, and the steps
pub record IsTurn (terms : Terms) (journal : List Event) (id : ℕ) (request : Request) (events : List Event)
    : Type 0 where
  pub steps : List Event
  pub made : AreSteps terms (journal ++ event 0 (Asked id request) ∷ []) id request steps
  pub events_are : events ≡ event 0 (Asked id request) ∷ steps

-- the first events of a turn behind a journal: none, the asking, or some steps besides
abbrev pub IsTurnFront : Terms → List Event → ℕ → Request → List Event → Type 0
IsTurnFront terms journal id request front =
    (front ≡ []) ⊎ ((steps : List Event)
    × AreFirst terms (journal ++ event 0 (Asked id request) ∷ []) id request steps
    × (front ≡ event 0 (Asked id request) ∷ steps))

-- whole turns, one behind the other, of these requests
pub data Turns (terms : Terms) : List Event → List Request → Type 0 where
  None : Turns terms [] []
  Turn : (journal : List Event) (requests : List Request) (id : ℕ) (request : Request) (events : List Event) →
      Turns terms journal requests → IsTurn terms journal id request events →
      Turns terms (journal ++ events) (requests ++ request ∷ [])
