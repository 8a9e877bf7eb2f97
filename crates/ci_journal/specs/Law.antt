-- What an answer in a run says of the events before it.
use Rattle.std.specs.Prelude.{◌≡◌, ◌≤◌, ◌-◌, ℕ, false, List, Some, take, slice_get}
use Rattle.ci_dialect.specs.declared.restriction.Restriction.{Restriction}
use Rattle.ci_journal.specs.declared.event.Event.{Event}
use Rattle.ci_journal.specs.declared.event.Happened.TheVariants.{Answered}
use Rattle.ci_journal.specs.Folds.{is_replied}
use Rattle.ci_journal.specs.Queries.{AsksAt, OpensBefore}
use Rattle.ci_journal.specs.Served.{live_map, hits}
use Rattle.ci_journal.specs.Terms.{Terms}

-- the query was asked, then opened right before place `at`, and the answer at this place, its only reply so far, lists
-- the documents that satisfy its tree in the map at `at`
pub record AnswersAt (terms : Terms) (journal : List Event) (place id at : ℕ) (paths : List (List ℕ)) : Type 0 where
  pub tree : Restriction
  pub asks : AsksAt terms (take (at - 1) journal) id tree
  pub opens : OpensBefore journal id at
  pub before : at ≤ place
  pub hits : paths ≡ hits tree (live_map terms (take at journal))
  pub only : is_replied (take place journal) id ≡ false

-- each answer of the journal does so
abbrev pub AllAnswer : Terms → List Event → Type 0
AllAnswer terms journal =
    (place : ℕ) (event : Event) (id at : ℕ) (paths : List (List ℕ)) →
    slice_get journal place ≡ Some event → event.what ≡ Answered id at paths →
    AnswersAt terms journal place id at paths
