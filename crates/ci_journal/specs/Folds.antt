-- What a journal tells as a whole: its requests, its notices, its openings and its replies.
use Rattle.std.specs.Prelude.{ℕ, ◌+◌, Bool, zero, suc, ◌==◌, List, [], ◌∷◌, ◌++◌, Option, None, filter, fold, length, map, slice_get, bytes_eq, if◌then◌else◌}
use Rattle.std.specs.List.{list_any}
use Rattle.ci_change.specs.declared.notice.Notice.{Notice}
use Rattle.ci_journal.specs.declared.event.Event.{Event}
use Rattle.ci_journal.specs.declared.request.Request.{Request}
use Rattle.ci_journal.specs.Tells.{tellings, last_of}
use Rattle.ci_journal.specs.Terms.{Terms}

-- the requests, in the order of their numbers
abbrev pub requests_in : List Event → List Request
requests_in journal = tellings (λ t. t.request) journal

-- the request of a number; the first has 1
abbrev pub request_at : List Event → ℕ → Option Request
request_at journal zero = None
request_at journal (suc before) = slice_get (requests_in journal) before

-- the notices of this session, in the order of their numbers
abbrev pub new_notices : List Event → List Notice
new_notices journal = tellings (λ t. t.notice) journal

-- the number of the next notice
abbrev pub next_notice : Terms → List Event → ℕ
next_notice terms journal = terms.beginning.next + length (new_notices journal)

-- all notices: those that the session found come first
abbrev pub notices : Terms → List Event → List Notice
notices terms journal = terms.beginning.notices ++ new_notices journal

-- the last notice of a path, where it has one
abbrev pub latest : Terms → List Event → List ℕ → Option Notice
latest terms journal path = last_of (filter (λ n. bytes_eq n.path path) (notices terms journal))

-- the numbers of the queries that were opened
abbrev pub openings : List Event → List ℕ
openings journal = tellings (λ t. t.opening) journal

-- the request's query was opened
abbrev pub is_opened : List Event → ℕ → Bool
is_opened journal id = list_any (λ o. o == id) (openings journal)

-- the numbers of the requests that have their replies
abbrev pub reply_numbers : List Event → List ℕ
reply_numbers journal = tellings (λ t. t.reply) journal

-- the request has its reply
abbrev pub is_replied : List Event → ℕ → Bool
is_replied journal id = list_any (λ r. r == id) (reply_numbers journal)

-- the paths that are numbered, with one more: a path is numbered once
abbrev pub is_numbered : List (List ℕ) → List ℕ → Bool
is_numbered numbered path = list_any (bytes_eq path) numbered

abbrev pub with_path : List (List ℕ) → List ℕ → List (List ℕ)
with_path numbered path = if is_numbered numbered path then numbered else numbered ++ path ∷ []

-- the paths that were served before the session or noted, each once, in the order in which they came
abbrev pub numbered_paths : Terms → List Event → List (List ℕ)
numbered_paths terms journal =
    fold with_path [] (map (λ s. s.0) terms.beginning.numbers ++ map (λ n. n.path) (notices terms journal))
