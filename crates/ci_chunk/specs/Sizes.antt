-- How much a transcript holds.
use Rattle.std.specs.Prelude.{◌≤◌, ℕ, List, length}
use Rattle.std.specs.List.{sum_by}
use Rattle.ci_chunk.specs.declared.piece.Piece.{Piece}
use Rattle.ci_chunk.specs.declared.piece.Piece.TheVariants.{Words, Held}

-- the bytes of a piece's text; a value isn't counted
abbrev pub piece_length : Piece → ℕ
piece_length (Words _ text) = length text
piece_length (Held _ _) = 0

-- the bytes of all texts
abbrev pub text_length : List Piece → ℕ
text_length pieces = sum_by piece_length pieces

-- the most pieces that a document may come to, one for each chunk that is asked for, and the most
-- bytes of their texts
pub record IsBounded (pieces : List Piece) : Type 0 where
  pub count : length pieces ≤ 65536
  pub bytes : text_length pieces ≤ 1048576
