-- What the exchanges of a document come to, whatever was asked in them: its pieces, its size, its chunks.
use Rattle.std.specs.Prelude.{ℕ, ◌+◌, ◌++◌, List, [], ◌∷◌, Option, Some, None, length}
use Rattle.ci_base.specs.declared.value.Value.{Value as Held}
use Rattle.ci_base.specs.declared.value.Value.TheVariants.{Int, Str}
use Rattle.ci_chunk.specs.Talk.{Talk}
use Rattle.ci_chunk.specs.declared.chunk.ChunkState.TheVariants.{Text as HasText, Value as HasValue, FilterOwnedValue}
use Rattle.ci_chunk.specs.declared.chunk.ChunkState.{ChunkState}
use Rattle.ci_chunk.specs.declared.chunk.StatChunk.{StatChunk}
use Rattle.ci_chunk.specs.declared.piece.Piece.{Piece}
use Rattle.ci_chunk.specs.declared.piece.Piece.TheVariants as piece
use Rattle.ci_chunk.specs.declared.talk.Answer.{Answer}
use Rattle.ci_chunk.specs.declared.talk.Answer.TheVariants.{Chunk, Text, Value}
use Rattle.ci_chunk.specs.declared.talk.Call.{Call}
use Rattle.ci_chunk.specs.declared.talk.Call.TheVariants.{GetChunk, GetText, GetValue}

-- the text of a chunk: those of the texts that follow it, up to the first exchange that gives none
abbrev pub before_text : Call → Answer → List ℕ → List ℕ
before_text (GetText _) (Text _ text) more = text ++ more
before_text _ _ more = []

abbrev pub text_of : Talk → List ℕ
text_of [] = []
text_of (e ∷ rest) = before_text e.0 e.1 (text_of rest)

-- the value of a chunk: that of the exchange that follows it, if it gives one
abbrev pub value_in : Call → Answer → Option Held
value_in GetValue (Value _ value) = Some value
value_in _ _ = None

abbrev pub value_of : Talk → Option Held
value_of [] = None
value_of (e ∷ rest) = value_in e.0 e.1

-- the piece of a chunk that these exchanges follow: a text, a value, or none
abbrev pub piece_of : StatChunk → ChunkState → Talk → List Piece
piece_of chunk HasText rest = piece.Words chunk (text_of rest) ∷ []
piece_of chunk HasValue rest = piece.Held chunk (value_of rest) ∷ []
piece_of chunk FilterOwnedValue rest = []

abbrev pub piece_in : Call → Answer → Talk → List Piece
piece_in GetChunk (Chunk chunk) rest = piece_of chunk chunk.state rest
piece_in _ _ rest = []

-- one piece for each chunk that has a text or a value, in order
abbrev pub pieces_of : Talk → List Piece
pieces_of [] = []
pieces_of (e ∷ rest) = piece_in e.0 e.1 rest ++ pieces_of rest

-- the bytes of an answer's text or text value
abbrev pub bytes_of_value : Held → ℕ
bytes_of_value (Int _) = 0
bytes_of_value (Str text) = length text

abbrev pub bytes_in : Answer → ℕ
bytes_in (Text _ text) = length text
bytes_in (Value _ value) = bytes_of_value value
bytes_in _ = 0

-- the bytes of all texts and text values
abbrev pub size_of : Talk → ℕ
size_of [] = 0
size_of (e ∷ rest) = bytes_in e.1 + size_of rest

-- how many times a chunk was asked for
abbrev pub asks_chunk : Call → ℕ
asks_chunk GetChunk = 1
asks_chunk _ = 0

abbrev pub chunks_of : Talk → ℕ
chunks_of [] = 0
chunks_of (e ∷ rest) = asks_chunk e.0 + chunks_of rest

-- the identifiers of the chunks that were told, in order
abbrev pub id_in : Answer → List ℕ
id_in (Chunk chunk) = chunk.id ∷ []
id_in _ = []

abbrev pub ids_of : Talk → List ℕ
ids_of [] = []
ids_of (e ∷ rest) = id_in e.1 ++ ids_of rest
