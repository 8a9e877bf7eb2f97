-- The requests and the queries as the catalogue keeps them: which have their replies, and which
-- wait to be opened.
use Rattle.std.specs.Prelude.{◌≡◌, ◌-◌, ◌+◌, ◌<◌, ⊤, ℕ, Bool, true, false, zero, suc, Contains, List, [], ◌∷◌, Some, length, map, slice_get, unwrap_or, slice_set}
use Rattle.std.specs.List.{AllByRecursion}
use Rattle.ci_dialect.specs.declared.restriction.Restriction.{Restriction}
use Rattle.ci_journal.specs.declared.event.Event.{Event}
use Rattle.ci_journal.specs.Folds.{requests_in, is_replied}
use Rattle.ci_journal.specs.Queries.{Waits}
use Rattle.ci_journal.specs.Terms.{Terms}
use Rattle.ci_holdings.specs.declared.waiting.Waiting.{Waiting}

-- each has a number below those behind it
abbrev pub Ascend : List Waiting → Type 0
Ascend [] = ⊤
Ascend (w ∷ more) = AllByRecursion (λ v. w.id < v.id) more × Ascend more

-- the queries that wait, each with its tree, in the order of their numbers: those alone, and all of them
pub record IsQueue (terms : Terms) (events : List Event) (queue : List Waiting) : Type 0 where
  pub each : AllByRecursion (λ w. Waits terms events w.id w.tree) queue
  pub every : (id : ℕ) (tree : Restriction) → Waits terms events id tree → Contains (map (λ w. w.id) queue) id
  pub order : Ascend queue

-- a mark for each request, and how many more take no memory
pub record Marks : Type 0 where
  pub list : List Bool
  pub spare : ℕ

-- the request's mark, and none for what wasn't asked
abbrev pub is_marked : List Bool → ℕ → Bool
is_marked marks zero = false
is_marked marks (suc before) = unwrap_or (slice_get marks before) false

-- the marks with that of this request set
abbrev pub marked_at : List Bool → ℕ → List Bool
marked_at marks id = slice_set marks (id - 1) true

-- each request that was asked is marked just where it has its reply
pub record MarksReplies (events : List Event) (marks : List Bool) : Type 0 where
  pub counted : length marks ≡ length (requests_in events)
  pub each : (before : ℕ) → before < length marks →
      slice_get marks before ≡ Some (is_replied events (before + 1))
