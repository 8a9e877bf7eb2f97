-- The queries of a journal: which of them wait, and what answers them.
use Rattle.std.specs.Prelude.{◌≡◌, ◌<◌, ◌≤◌, ◌-◌, ℕ, false, List, Some, take, slice_get}
use Rattle.ci_dialect.specs.declared.restriction.Restriction.{Restriction}
use Rattle.ci_dialect.specs.Tree.{IsTree}
use Rattle.ci_journal.specs.declared.event.Event.{Event}
use Rattle.ci_journal.specs.declared.event.Happened.TheVariants.{Opened}
use Rattle.ci_journal.specs.declared.request.Request.{Request}
use Rattle.ci_journal.specs.declared.request.Request.TheVariants as request
use Rattle.ci_journal.specs.Folds.{request_at, is_opened}
use Rattle.ci_journal.specs.Served.{hits, live_map}
use Rattle.ci_journal.specs.Terms.{Terms}

-- the request is a query whose text has this tree, under a list of noise words
abbrev pub Asks : List (List ℕ) → Request → Restriction → Type 0
Asks noise (request.Query text) tree = IsTree noise text tree
Asks noise _ tree = ⊥

-- the request of this number asks for the tree
pub record AsksAt (terms : Terms) (journal : List Event) (id : ℕ) (tree : Restriction) : Type 0 where
  pub request : Request
  pub found : request_at journal id ≡ Some request
  pub asks : Asks terms.noise request tree

-- and it wasn't opened yet
pub record Waits (terms : Terms) (journal : List Event) (id : ℕ) (tree : Restriction) : Type 0 where
  pub asks : AsksAt terms journal id tree
  pub unopened : is_opened journal id ≡ false

-- it is the first of those that wait
pub record IsFirstWaiting (terms : Terms) (journal : List Event) (id : ℕ) (tree : Restriction) : Type 0 where
  pub waits : Waits terms journal id tree
  pub least : (other : ℕ) (its : Restriction) → Waits terms journal other its → id ≤ other

-- the event right before the place opened the query
pub record OpensBefore (journal : List Event) (id at : ℕ) : Type 0 where
  pub behind : 0 < at
  pub opening : Event
  pub opened_at : slice_get journal (at - 1) ≡ Some opening
  pub opens : opening.what ≡ Opened id

-- the query was opened right before place `at`, and the paths are the hits of its tree in the map there
pub record IsAnswer (terms : Terms) (journal : List Event) (id at : ℕ) (paths : List (List ℕ)) : Type 0 where
  pub tree : Restriction
  pub asks : AsksAt terms journal id tree
  pub opens : OpensBefore journal id at
  pub hits : paths ≡ hits tree (live_map terms (take at journal))
