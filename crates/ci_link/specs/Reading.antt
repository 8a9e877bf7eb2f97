-- How a document is read: which answer is legal to which call, what is asked next, and when the document has its outcome.
use Rattle.std.specs.Prelude.{◌≡◌, ◌==◌, ◌||◌, ◌&&◌, ◌^◌, ℕ, ◌+◌, ◌-◌, ◌++◌, List, [], ◌∷◌, length, if◌then◌else◌, nat_lt}
use Rattle.std.specs.List.{list_all}
use Rattle.ci_chunk.specs.Talk.{Talk}
use Rattle.ci_chunk.specs.declared.chunk.ChunkState.TheVariants.{Text as HasText, Value as HasValue, FilterOwnedValue}
use Rattle.ci_chunk.specs.declared.chunk.ChunkState.{ChunkState}
use Rattle.ci_chunk.specs.declared.outcome.Outcome.{Outcome}
use Rattle.ci_chunk.specs.declared.outcome.Outcome.TheVariants.{Done, Failed, Refused}
use Rattle.ci_chunk.specs.declared.piece.Piece.{Piece}
use Rattle.ci_chunk.specs.declared.status.Status.{Status as Code}
use Rattle.ci_chunk.specs.declared.talk.Answer.{Answer}
use Rattle.ci_chunk.specs.declared.talk.Answer.TheVariants.{Status, Chunk, Text, Value}
use Rattle.ci_chunk.specs.declared.talk.Call.{Call}
use Rattle.ci_chunk.specs.declared.talk.Call.TheVariants.{Init, GetChunk, GetText, GetValue}
use Rattle.ci_words.specs.Front.{front_within}
use Rattle.ci_link.specs.Pieces.{bytes_of_value, chunks_of, ids_of, pieces_of, size_of}

-- the most bytes of a document's texts and text values
abbrev pub clip_bytes : ℕ
clip_bytes = 1048576

-- the most chunks that are asked for in a document
abbrev pub clip_chunks : ℕ
clip_chunks = 65536

-- what follows an answer: the next call; the outcome of the document; or nothing, since the answer isn't legal
pub data Next : Type 0 where
  Ask : Call → Next
  Ends : Outcome → Next
  Illegal : Next

-- the document is done, with these pieces
abbrev pub done : List Piece → Next
done pieces = Ends (Done pieces)

-- a status that tells its call nothing of its own: the filter refuses the document, or failed in it; one that isn't a
-- failing one isn't legal
abbrev pub after_status : Code → Next
after_status status =
    if (status.0 == 0x8004170B) || (status.0 == 0x8004170C) then Ends (Refused status)
    else if nat_lt status.0 (2 ^ 31) then Illegal else Ends (Failed status)

-- a document is opened for the index alone, with the attributes that an index applies
abbrev pub init_call : List ℕ → Call
init_call path = Init 80 path

-- texts are asked for in parts of at most 65,536 bytes
abbrev pub text_call : Call
text_call = GetText 65536

-- a chunk has its text or its value asked for; one with a value that its filter keeps is skipped
abbrev pub after_state : ChunkState → Next
after_state HasText = Ask text_call
after_state HasValue = Ask GetValue
after_state FilterOwnedValue = Ask GetChunk

-- an answer to Init: the document is open unless the status is a failing one
abbrev pub after_init : Answer → Next
after_init (Status status) = if nat_lt status.0 (2 ^ 31) then Ask GetChunk else after_status status
after_init _ = Illegal

-- an answer to GetChunk, behind these exchanges: a chunk has an identifier above those before it; no more chunks; or
-- that an embedding or a link can't be had
abbrev pub after_chunk : Talk → Answer → Next
after_chunk before (Chunk chunk) = if list_all (λ id. nat_lt id chunk.id) (ids_of before) then after_state chunk.state else Illegal
after_chunk before (Status status) =
    if status.0 == 0x80041700 then done (pieces_of before)
    else if (status.0 == 0x80041707) || (status.0 == 0x80041708) then Ask GetChunk else after_status status
after_chunk before _ = Illegal

-- the last chunk that may be asked for isn't read: the document is done with the pieces before it
abbrev pub or_done : List Piece → Next → Next
or_done pieces (Ask _) = done pieces
or_done pieces next = next

abbrev pub after_counted : Talk → Answer → Next
after_counted before answer =
    if nat_lt (chunks_of before + 1) clip_chunks then after_chunk before answer else or_done (pieces_of before) (after_chunk before answer)

-- the text that still fits, and its exchange
abbrev pub cut_text : Talk → Code → List ℕ → Talk
cut_text before status text = before ++ (text_call, Text status (front_within (clip_bytes - size_of before) text)) ∷ []

-- a text goes on after one that isn't empty, and isn't told to be the last
abbrev pub after_text : Talk → Answer → Next
after_text before (Text status text) =
    if nat_lt clip_bytes (size_of before + length text) then done (pieces_of (cut_text before status text))
    else if (status.0 == 0) && nat_lt 0 (length text) then Ask text_call else Ask GetChunk
after_text before (Status status) = if (status.0 == 0x80041701) || (status.0 == 0x80041705) then Ask GetChunk else after_status status
after_text before _ = Illegal

-- a value that doesn't fit isn't recorded
abbrev pub after_value : Talk → Answer → Next
after_value before (Value status value) =
    if nat_lt clip_bytes (size_of before + bytes_of_value value) then done (pieces_of before) else Ask GetChunk
after_value before (Status status) = if (status.0 == 0x80041702) || (status.0 == 0x80041706) then Ask GetChunk else after_status status
after_value before _ = Illegal

-- what follows an answer to a call, where these exchanges of the document stand before it
abbrev pub after : Talk → Call → Answer → Next
after before (Init _ _) answer = after_init answer
after before GetChunk answer = after_counted before answer
after before (GetText _) answer = after_text before answer
after before GetValue answer = after_value before answer

-- the exchanges are legal, each in its turn, and this call is next
pub data IsBegun (path : List ℕ) : Talk → Call → Type 0 where
  Opening : IsBegun path [] (init_call path)
  Answered : (talk : Talk) (call : Call) (answer : Answer) (next : Call) → IsBegun path talk call
      → after talk call answer ≡ Ask next → IsBegun path (talk ++ (call, answer) ∷ []) next

-- the exchanges are legal, and the last of them gave the document this outcome
pub record IsRead (path : List ℕ) (talk : Talk) (outcome : Outcome) : Type 0 where
  pub before : Talk
  pub call : Call
  pub answer : Answer
  pub whole : talk ≡ before ++ (call, answer) ∷ []
  pub begun : IsBegun path before call
  pub ends : after before call answer ≡ Ends outcome
