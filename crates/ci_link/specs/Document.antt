-- A document that is being read, as the reader keeps it.
use Rattle.std.specs.Prelude.{◌≡◌, ℕ, Bool, true, ◌+◌, ◌-◌, ◌*◌, ◌<◌, ⊤, List, [], ◌∷◌, ◌++◌, Option, Some, None, nat_lt, if◌then◌else◌}
use Rattle.std.specs.List.{list_all}
use Rattle.ci_chunk.specs.Talk.{Talk}
use Rattle.ci_chunk.specs.declared.chunk.ChunkState.{ChunkState}
use Rattle.ci_chunk.specs.declared.chunk.ChunkState.TheVariants.{Text as HasText, Value as HasValue, FilterOwnedValue}
use Rattle.ci_chunk.specs.declared.chunk.StatChunk.{StatChunk}
use Rattle.ci_chunk.specs.declared.piece.Piece.{Piece}
use Rattle.ci_chunk.specs.declared.piece.Piece.TheVariants as piece
use Rattle.ci_chunk.specs.declared.talk.Answer.{Answer}
use Rattle.ci_chunk.specs.declared.talk.Call.{Call}
use Rattle.ci_chunk.specs.declared.talk.Call.TheVariants.{GetChunk, GetValue}
use Rattle.ci_link.specs.Pieces.{chunks_of, ids_of, pieces_of, size_of, text_of, value_of}
use Rattle.ci_link.specs.Reading as reading
use Rattle.ci_link.specs.declared.document.Document.{Document}
use Rattle.ci_link.specs.declared.document.Next.{Next}
use Rattle.ci_chunk.specs.declared.outcome.Outcome.TheVariants.{Done}
use Rattle.ci_link.specs.declared.document.Next.TheVariants.{Ask, Ends, Illegal}
use Rattle.ci_link.specs.declared.stage.Stage.{Stage}
use Rattle.ci_link.specs.declared.stage.Stage.TheVariants.{Opening, Chunks, Text, Value}

-- the call that is next
abbrev pub asked : List ℕ → Stage → Call
asked path Opening = reading.init_call path
asked path Chunks = GetChunk
asked path (Text chunk text) = reading.text_call
asked path (Value chunk) = GetValue

-- the pieces that the exchanges come to: those kept, and that of the chunk being read with what may follow
abbrev pub Keeps : Talk → List Piece → Stage → Type 0
Keeps talk pieces (Text chunk text) =
    (more : Talk) → pieces_of (talk ++ more) ≡ pieces ++ piece.Words chunk (text ++ text_of more) ∷ pieces_of more
Keeps talk pieces (Value chunk) =
    (more : Talk) → pieces_of (talk ++ more) ≡ pieces ++ piece.Held chunk (value_of more) ∷ pieces_of more
Keeps talk pieces Opening = (talk ≡ []) × (pieces ≡ [])
Keeps talk pieces Chunks = pieces_of talk ≡ pieces

-- a number is above the last identifier, if there is one
abbrev pub is_above : Option ℕ → ℕ → Bool
is_above None id = true
is_above (Some last) id = nat_lt last id

-- what is due of a chunk that was told
abbrev pub stage_for : StatChunk → ChunkState → Stage
stage_for chunk HasText = Text chunk []
stage_for chunk HasValue = Value chunk
stage_for chunk FilterOwnedValue = Chunks

-- one chunk more was asked for: the document goes on, unless that was the last one that it may have
abbrev pub counted : Document → Next
counted document =
    if nat_lt (document.chunks + 1) reading.clip_chunks then Ask (record document { chunks = document.chunks + 1 })
    else Ends (Done document.pieces)

-- the reader stands where these exchanges lead
pub record Stands (path : List ℕ) (document : Document) (talk : Talk) : Type 0 where
  pub begun : reading.IsBegun path talk (asked path document.stage)
  pub chunks : document.chunks ≡ chunks_of talk
  pub size : document.size ≡ size_of talk
  pub last : (id : ℕ) → list_all (λ other. nat_lt other id) (ids_of talk) ≡ is_above document.last id
  pub pieces : Keeps talk document.pieces document.stage

-- the answer was heard: the reader stands behind it, or the document has its outcome, or the answer isn't legal
abbrev pub Hears : List ℕ → Talk → Call → Answer → Next → Type 0
Hears path talk call answer (Ask document) = Stands path document (talk ++ (call, answer) ∷ [])
Hears path talk call answer (Ends outcome) = reading.after talk call answer ≡ reading.Ends outcome
Hears path talk call answer Illegal = reading.after talk call answer ≡ reading.Illegal

-- how many calls a document may still have, at most
abbrev pub stage_left : Stage → ℕ
stage_left Opening = 1
stage_left Chunks = 0
stage_left (Text _ _) = 1
stage_left (Value _) = 1

abbrev pub left : Document → ℕ
left document =
    2 * (reading.clip_chunks - document.chunks) + (reading.clip_bytes - document.size) + stage_left document.stage

-- a document that goes on has fewer calls left
abbrev pub IsNearer : ℕ → Next → Type 0
IsNearer count (Ask document) = left document < count
IsNearer count _ = ⊤
