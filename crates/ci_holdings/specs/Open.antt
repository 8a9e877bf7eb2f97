-- The queries that are open, as the catalogue keeps them.
use Rattle.std.specs.Prelude.{◌≡◌, ℕ, false, List, All, Contains, take}
use Rattle.std.specs.FinMap.{entries}
use Rattle.ci_journal.specs.declared.event.Event.{Event}
use Rattle.ci_journal.specs.Folds.{is_replied}
use Rattle.ci_journal.specs.Queries.{AsksAt, OpensBefore}
use Rattle.ci_journal.specs.Served.{live_map}
use Rattle.ci_journal.specs.Terms.{Terms}
use Rattle.ci_holdings.specs.declared.question.Question.{Question}

-- its query was opened right before its place, and these are the documents that there were
pub record IsOpen (terms : Terms) (events : List Event) (question : Question) : Type 0 where
  pub asks : AsksAt terms events question.id question.tree
  pub opens : OpensBefore events question.id question.at
  pub plain : question.plain ≡ entries (live_map terms (take question.at events))

-- the question of the query that was opened right before a place
pub record IsKept (questions : List Question) (id at : ℕ) : Type 0 where
  pub question : Question
  pub here : Contains questions question
  pub own : question.id ≡ id
  pub place : question.at ≡ at

-- queries that were opened, and among them each that has no reply
pub record AreOpen (terms : Terms) (events : List Event) (questions : List Question) : Type 0 where
  pub each : All (IsOpen terms events) questions
  pub every : (id at : ℕ) → OpensBefore events id at → is_replied events id ≡ false → IsKept questions id at
