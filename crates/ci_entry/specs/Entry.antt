-- What is known of a document from its transcript.
use Rattle.std.specs.Prelude.{ℕ, List}
use Rattle.ci_chunk.specs.declared.piece.Piece.{Piece}
use Rattle.ci_keys.specs.Entry.{EntryLists}
use Rattle.ci_entry.specs.Values.{values_of}
use Rattle.ci_entry.specs.Words.{words_of}

-- the entry of a transcript, under a list of noise words
abbrev pub entry_of : List (List ℕ) → List Piece → EntryLists
entry_of noise pieces = record { words = words_of noise pieces; values = values_of pieces }
