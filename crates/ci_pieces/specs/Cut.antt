-- A piece that was cut from a query.
use Rattle.std.specs.Prelude.{ℕ, List}
use Rattle.ci_pieces.specs.declared.piece.PieceKind.{PieceKind}

-- what a piece is, what it says, and how many bytes stand before it
pub record Cut : Type 0 where
  pub kind : PieceKind
  pub text : List ℕ
  pub at : ℕ
