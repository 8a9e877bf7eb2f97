-- The requests of some bytes: one for each line, up to and including the first that ends the session.
use Rattle.std.specs.Prelude.{◌≡◌, ⊤, ℕ, Bool, true, false, List, [], ◌∷◌, ◌++◌, Option, Some, None, length, map, flat_map, nat_le, if◌then◌else◌}
use Rattle.std.specs.List.{AllByRecursion}
use Rattle.ci_io.specs.declared.line.Line.{Line}
use Rattle.ci_io.specs.declared.line.Line.TheVariants as line
use Rattle.ci_io.specs.Lines.{raw_lines, HasNoFeed}
use Rattle.ci_io.specs.Reading.{IsShort, line_of}
use Rattle.ci_journal.specs.declared.request.Request.{Request}
use Rattle.ci_journal.specs.declared.request.Request.TheVariants as request
use Rattle.ci_journal.specs.Requests.{is_quit, request_of}

-- the request of a line that still has its carriage return
abbrev pub line_request : List ℕ → Request
line_request raw = request_of (line_of raw)

-- up to and including the first that ends the session
abbrev pub through_quit : List Request → List Request
through_quit [] = []
through_quit (request ∷ rest) = request ∷ (if is_quit request then [] else through_quit rest)

-- the lines before the first that is endless: that many bytes are no line, and nothing behind them is read
abbrev pub before_endless : List (List ℕ) → List (List ℕ)
before_endless [] = []
before_endless (raw ∷ rest) = if nat_le 1073741824 (length raw) then [] else raw ∷ before_endless rest

abbrev pub requests : List ℕ → List Request
requests bytes = through_quit (map line_request (before_endless (raw_lines bytes)))

-- the request has a filtering made
abbrev pub is_filter : Request → Bool
is_filter request.Filter = true
is_filter _ = false

-- a line asks for it whose text is as long as a text may be, at most
abbrev pub IsOfLine : Request → Type 0
IsOfLine request = (given : Line) × IsShort given × (request ≡ request_of given)

-- the requests of the bytes behind a line, which may have ended the session
abbrev pub requests_behind : Bool → List ℕ → List Request
requests_behind quit rest = if quit then [] else requests rest

-- where the bytes are told, their requests are these, and then, unless the session was ended, those of the bytes left
abbrev pub Reads : Option (List ℕ) → Option (List ℕ) → List Request → Bool → Type 0
Reads None left so_far quit = ⊤
Reads (Some all) None so_far quit = ⊥
Reads (Some all) (Some rest) so_far quit = requests all ≡ so_far ++ requests_behind quit rest

abbrev pub with_feed : List ℕ → List ℕ
with_feed raw = raw ++ 10 ∷ []

-- the bytes are lines with their line feeds, which make these requests, and then the rest
pub record IsFed (all rest : List ℕ) (so_far : List Request) : Type 0 where
  pub raws : List (List ℕ)
  pub whole : all ≡ flat_map with_feed raws ++ rest
  pub each : AllByRecursion HasNoFeed raws
  pub requests_are : so_far ≡ map line_request raws

-- where the bytes are told, these requests are of lines whose line feed was taken
abbrev pub Feeds : Option (List ℕ) → Option (List ℕ) → List Request → Type 0
Feeds None left so_far = ⊤
Feeds (Some all) None so_far = ⊥
Feeds (Some all) (Some rest) so_far = IsFed all rest so_far

-- no line, but the end of the source
abbrev pub is_end : Line → Bool
is_end (line.Text text) = false
is_end line.Long = false
is_end line.End = true
