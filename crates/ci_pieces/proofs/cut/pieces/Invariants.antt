use Rattle.std.proofs.Common.{◌≡◌, ◌-◌, ◌++◌, ◌≤◌, length}
use denote.Text.{Utf8}
use denote.Shadow.{shadow}
use Rattle.ci_pieces.specs.Pieces.{pieces, pieces_from}
use Rattle.ci_pieces.proofs.cut.pieces.Given as goal

abbrev pub invariant-loop-piece : goal.invariant-loop-piece
invariant-loop-piece l =
    shadow (Utf8 l.rest) × (length l.rest ≤ length l.text)
    × (pieces l.text ≡ l.list.items ++ pieces_from l.due (length l.text - length l.rest) 0 l.rest)

abbrev pub decreases-loop-piece : goal.decreases-loop-piece
decreases-loop-piece l = length l.rest
