-- What a filter says of a plain text.
use Rattle.std.specs.Prelude.{ℕ, pos, ◌==◌, List, [], ◌∷◌, Some, length}
use Rattle.std.specs.List.{after_last}
use Rattle.ci_base.specs.declared.numbers.PropNo.{PropNo}
use Rattle.ci_base.specs.declared.value.Value.TheVariants.{Int, Str}
use Rattle.ci_chunk.specs.declared.chunk.Break.TheVariants.{Eop}
use Rattle.ci_chunk.specs.declared.chunk.ChunkState.{ChunkState}
use Rattle.ci_chunk.specs.declared.chunk.ChunkState.TheVariants.{Text, Value}
use Rattle.ci_chunk.specs.declared.chunk.StatChunk.{StatChunk}
use Rattle.ci_chunk.specs.declared.piece.Piece.{Piece}
use Rattle.ci_chunk.specs.declared.piece.Piece.TheVariants.{Words, Held}

-- a chunk that begins a paragraph, and is its own source
abbrev pub paragraph : ℕ → ChunkState → PropNo → StatChunk
paragraph id state property = record {
  id = id;
  break_type = Eop;
  state = state;
  locale = 0;
  property = property;
  source = id;
  start = 0;
  length = 0;
}

-- the name of the file as Filename, the number of bytes as Size, the text as Contents
abbrev pub plain : List ℕ → List ℕ → List Piece
plain path text =
    Held (paragraph 1 Value record { 0 = 2 }) (Some (Str (after_last (λ b. b == 47) path)))
    ∷ Held (paragraph 2 Value record { 0 = 3 }) (Some (Int (pos (length text))))
    ∷ Words (paragraph 3 Text record { 0 = 1 }) text
    ∷ []
