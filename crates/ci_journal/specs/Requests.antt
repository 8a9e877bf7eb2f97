-- The request of a line: a command word, alone or with one space and its argument.
use Rattle.std.specs.Prelude.{◌==◌, ◌&&◌, ◌≤◌, ◌+◌, ◌*◌, ◌-◌, ℕ, Bool, true, false, nat_le, nat_lt, List, ⊤, fold, length, codes, bytes_eq, if◌then◌else◌}
use Rattle.std.specs.List.{list_all, position_or_len, before_first, after_first}
use Rattle.std.specs.Str.{is_utf8}
use Rattle.ci_base.specs.Path.{has_path_form}
use Rattle.ci_io.specs.declared.line.Line.{Line}
use Rattle.ci_io.specs.declared.line.Line.TheVariants as line
use Rattle.ci_io.specs.Limits.{line_bytes}
use Rattle.ci_journal.specs.declared.request.Request.{Request}
use Rattle.ci_journal.specs.declared.request.Request.TheVariants.{Changed, Deleted, Put, Query, Filter, Shadow, Master, Step, Scan, Pending, Unfiltered, Status, Load, Wait, Quit, Bad, Long}

abbrev pub is_space : ℕ → Bool
is_space byte = byte == 32

-- a space stands in the text, so there is something before it and something behind it
abbrev pub has_space : List ℕ → Bool
has_space text = nat_lt (position_or_len is_space text) (length text)

-- `changed P`: P is a path
abbrev pub changed_request : List ℕ → Request
changed_request path = if has_path_form path then Changed path else Bad

-- `deleted P`
abbrev pub deleted_request : List ℕ → Request
deleted_request path = if has_path_form path then Deleted path else Bad

-- `put P TEXT`: a path without a space, one space, and any text, which may be empty
abbrev pub put_request : List ℕ → Request
put_request argument =
    if has_space argument && has_path_form (before_first is_space argument)
    then Put (before_first is_space argument) (after_first is_space argument)
    else Bad

abbrev pub is_digit : ℕ → Bool
is_digit byte = nat_le 48 byte && nat_le byte 57

-- 1 to 5 decimal digits; zeros may lead
abbrev pub is_short_number : List ℕ → Bool
is_short_number text = nat_le 1 (length text) && nat_le (length text) 5 && list_all is_digit text

abbrev pub number_in : List ℕ → ℕ
number_in digits = fold (λ so_far digit. 10 * so_far + (digit - 48)) 0 digits

-- a seed of at most 65,535, and 1 to 65,536 documents
abbrev pub is_load : ℕ → ℕ → Bool
is_load seed count = nat_le seed 65535 && nat_le 1 count && nat_le count 65536

abbrev pub load_of : List ℕ → List ℕ → Request
load_of seed count =
    if is_short_number seed && is_short_number count && is_load (number_in seed) (number_in count)
    then Load (number_in seed) (number_in count) else Bad

-- `load SEED N`
abbrev pub load_request : List ℕ → Request
load_request argument =
    if has_space argument then load_of (before_first is_space argument) (after_first is_space argument) else Bad

-- a command word and its argument; a query may have any text
abbrev pub argument_request : List ℕ → List ℕ → Request
argument_request word argument =
    if bytes_eq word (codes "changed") then changed_request argument
    else (if bytes_eq word (codes "deleted") then deleted_request argument
    else (if bytes_eq word (codes "put") then put_request argument
    else (if bytes_eq word (codes "query") then Query argument
    else (if bytes_eq word (codes "load") then load_request argument else Bad))))

-- a command word alone
abbrev pub word_request : List ℕ → Request
word_request word =
    if bytes_eq word (codes "filter") then Filter
    else (if bytes_eq word (codes "shadow") then Shadow
    else (if bytes_eq word (codes "master") then Master
    else (if bytes_eq word (codes "step") then Step
    else (if bytes_eq word (codes "scan") then Scan
    else (if bytes_eq word (codes "pending") then Pending
    else (if bytes_eq word (codes "unfiltered") then Unfiltered
    else (if bytes_eq word (codes "status") then Status
    else (if bytes_eq word (codes "wait") then Wait
    else (if bytes_eq word (codes "quit") then Quit else Bad)))))))))

-- a line of text; every line that isn't known is bad
abbrev pub text_request : List ℕ → Request
text_request line =
    if has_space line then argument_request (before_first is_space line) (after_first is_space line)
    else word_request line

-- bytes that aren't UTF-8 are bad
abbrev pub bytes_request : List ℕ → Request
bytes_request line = if is_utf8 line then text_request line else Bad

-- a line of too many bytes is long, whatever it says
abbrev pub request_of : Line → Request
request_of (line.Text text) = bytes_request text
request_of line.Long = Long
request_of line.End = Bad

-- a request that a line makes: its text and its numbers are within their bounds
abbrev pub IsAskable : Request → Type 0
IsAskable (Put path text) = length text ≤ line_bytes
IsAskable (Query text) = length text ≤ line_bytes
IsAskable (Load seed count) = (seed ≤ 65535) × (1 ≤ count) × (count ≤ 65536)
IsAskable _ = ⊤

-- the request ends the session
abbrev pub is_quit : Request → Bool
is_quit Quit = true
is_quit _ = false
