use Rattle.std.proofs.Common.{◌≡◌, drop, slice_get}
use Rattle.ci_entry.specs.Values.{right_values}
use Rattle.ci_entry.proofs.value.first_value.Given as goal

abbrev pub invariant-loop-piece : goal.invariant-loop-piece
invariant-loop-piece l =
    slice_get (right_values l.property.0 (drop l.piece-index l.pieces)) 0 ≡ slice_get (right_values l.property.0 l.pieces) 0
