-- What an event counts in the bound on a journal: 64 bytes, and what it holds.
use Rattle.std.specs.Prelude.{ℕ, ◌+◌, ◌-◌, ◌^◌, min, List, Option, Some, None, length, sum_by}
use Rattle.ci_base.specs.declared.numbers.Seq.{Seq}
use Rattle.ci_base.specs.declared.value.Value.{Value}
use Rattle.ci_base.specs.declared.value.Value.TheVariants.{Int, Str}
use Rattle.ci_chunk.specs.declared.outcome.Outcome.{Outcome}
use Rattle.ci_chunk.specs.declared.outcome.Outcome.TheVariants.{Done}
use Rattle.ci_chunk.specs.declared.piece.Piece.{Piece}
use Rattle.ci_chunk.specs.declared.piece.Piece.TheVariants.{Words, Held}
use Rattle.ci_journal.specs.declared.event.Event.{Event}
use Rattle.ci_journal.specs.declared.event.Happened.{Happened}
use Rattle.ci_journal.specs.declared.event.Happened.TheVariants.{Asked, Noted, Put, Erased, Started, StartFailed, DaemonLost, Begun, BatchDone, BatchDied, Returned, Shadowed, MasterBegun, MasterStep, MasterEnded, Opened, Answered, Said}
use Rattle.ci_journal.specs.declared.request.Request.{Request}
use Rattle.ci_journal.specs.declared.request.Request.TheVariants as request
use Rattle.ci_journal.specs.Printed.{reply_lines}

-- a path or a text counts 8 bytes and its own
abbrev pub text_bytes : List ℕ → ℕ
text_bytes text = 8 + length text

abbrev pub texts_bytes : List (List ℕ) → ℕ
texts_bytes texts = sum_by text_bytes texts

-- a text value counts as a text, a number and no value nothing
abbrev pub value_bytes : Option Value → ℕ
value_bytes None = 0
value_bytes (Some (Int number)) = 0
value_bytes (Some (Str text)) = text_bytes text

-- a piece counts 40 bytes beside its text or its text value
abbrev pub piece_bytes : Piece → ℕ
piece_bytes (Words chunk text) = text_bytes text + 40
piece_bytes (Held chunk value) = value_bytes value + 40

abbrev pub transcript_bytes : List Piece → ℕ
transcript_bytes pieces = sum_by piece_bytes pieces

-- an outcome counts 8 bytes beside its transcript
abbrev pub outcome_bytes : Outcome → ℕ
outcome_bytes (Done transcript) = transcript_bytes transcript + 8
outcome_bytes _ = 8

-- a document of a batch counts 8 bytes beside its path
abbrev pub doc_bytes : List ℕ × Seq → ℕ
doc_bytes doc = text_bytes doc.0 + 8

-- a request counts its path and its text
abbrev pub request_bytes : Request → ℕ
request_bytes (request.Changed path) = text_bytes path
request_bytes (request.Deleted path) = text_bytes path
request_bytes (request.Put path text) = text_bytes path + text_bytes text
request_bytes (request.Query text) = text_bytes text
request_bytes _ = 0

-- what stands beside the 64 bytes
abbrev pub held_bytes : Happened → ℕ
held_bytes (Asked id asked) = request_bytes asked
held_bytes (Noted notice) = text_bytes notice.path
held_bytes (Put path seq transcript) = text_bytes path + transcript_bytes transcript
held_bytes (Erased path seq) = text_bytes path
held_bytes Started = 0
held_bytes StartFailed = 0
held_bytes DaemonLost = 0
held_bytes (Begun batch) = sum_by doc_bytes batch.docs
held_bytes (BatchDone number outcomes) = sum_by outcome_bytes outcomes
held_bytes (BatchDied number charged) = 0
held_bytes (Returned number) = 0
held_bytes Shadowed = 0
held_bytes MasterBegun = 0
held_bytes (MasterStep split) = text_bytes split.word
held_bytes MasterEnded = 0
held_bytes (Opened id) = 0
held_bytes (Answered id at paths) = texts_bytes paths
held_bytes (Said id reply) = length (reply_lines id reply)

abbrev pub event_bytes : Happened → ℕ
event_bytes what = held_bytes what + 64

-- a count ends at the greatest number of 64 bits
abbrev pub capped : ℕ → ℕ
capped count = min count (2 ^ 64 - 1)

abbrev pub journal_bytes : List Event → ℕ
journal_bytes journal = sum_by (λ e. event_bytes e.what) journal
