-- What is left of a query to be read.
use Rattle.std.specs.Prelude.{ℕ, List, [], ◌∷◌, drop, length, Option, Some, None}
use Rattle.ci_pieces.specs.declared.piece.PieceKind.{PieceKind}
use Rattle.ci_pieces.specs.Cut.{Cut}
use Rattle.ci_pieces.specs.Pieces.{pieces}

-- the pieces that are still to be read, how many words were read, and the length of the whole text
pub record Left : Type 0 where
  pub pieces : List Cut
  pub words : ℕ
  pub size : ℕ

-- all of a text
abbrev pub start : List ℕ → Left
start text = record { pieces = pieces text; words = 0; size = length text }

-- where the next piece stands, or the text ends
abbrev pub place_in : ℕ → List Cut → ℕ
place_in size [] = size
place_in size (piece ∷ more) = piece.at

abbrev pub place : Left → ℕ
place l = place_in l.size l.pieces

abbrev pub first_piece : List Cut → Option Cut
first_piece [] = None
first_piece (piece ∷ more) = Some piece

abbrev pub first_kind : List Cut → Option PieceKind
first_kind [] = None
first_kind (piece ∷ more) = Some piece.kind

-- the piece that comes next, and its kind
abbrev pub foremost : Left → Option Cut
foremost l = first_piece l.pieces

abbrev pub ahead : Left → Option PieceKind
ahead l = first_kind l.pieces

-- what is left behind the next piece
abbrev pub next : Left → Left
next l = record l { pieces = drop 1 l.pieces }
