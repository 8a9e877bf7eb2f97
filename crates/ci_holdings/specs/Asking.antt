-- What a request that is asked adds to the queries that wait.
use Rattle.std.specs.Prelude.{ℕ, List, [], ◌∷◌, ◌++◌, Option, Some, None}
use Rattle.ci_dialect.specs.declared.restriction.Restriction.{Restriction}
use Rattle.ci_journal.specs.declared.request.Request.{Request}
use Rattle.ci_journal.specs.Queries.{Asks}
use Rattle.ci_holdings.specs.declared.waiting.Waiting.{Waiting}

-- it asks for the tree, or for none
abbrev pub TellsTree : List (List ℕ) → Request → Option Restriction → Type 0
TellsTree noise request (Some tree) = Asks noise request tree
TellsTree noise request None = (tree : Restriction) → Asks noise request tree → ⊥

-- the queue with the query of a number, if there is one
abbrev pub grown : List Waiting → ℕ → Option Restriction → List Waiting
grown queue id None = queue
grown queue id (Some tree) = queue ++ record { id = id; tree = tree } ∷ []
