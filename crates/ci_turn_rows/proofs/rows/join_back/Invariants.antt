use Rattle.std.proofs.Common.{◌≡◌, ◌+◌, false, length}
use Rattle.ci_turn.specs.Calls.{knows, IsSeatOf}
use Rattle.ci_turn_rows.specs.Seats.{AreFreeSeatsOf}
use Rattle.ci_turn_rows.proofs.rows.join_back.Given as goal

abbrev pub decreases-loop-seat : goal.decreases-loop-seat
decreases-loop-seat g l = length l.seats.items

abbrev pub invariant-loop-seat : goal.invariant-loop-seat
invariant-loop-seat g l =
    IsSeatOf l.turn l.first × ((knows l.first).holds ≡ false) × ((knows l.first).number ≡ 0)
    × (length (knows l.first).joined + length l.seats.items ≡ (knows l.first).made)
    × AreFreeSeatsOf l.turn l.seats.items
