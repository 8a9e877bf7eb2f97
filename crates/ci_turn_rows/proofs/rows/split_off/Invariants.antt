use Rattle.std.proofs.Common.{◌≡◌, false, [], length}
use Rattle.ci_turn.specs.Calls.{knows, IsSeatOf}
use Rattle.ci_turn_rows.specs.Seats.{AreFreeSeatsOf}
use Rattle.ci_turn_rows.proofs.rows.split_off.Given as goal

abbrev pub invariant-loop : goal.invariant-loop
invariant-loop l =
    IsSeatOf l.turn l.first × ((knows l.first).holds ≡ false) × ((knows l.first).number ≡ 0)
    × ((knows l.first).made ≡ length l.seats.items) × ((knows l.first).joined ≡ [])
    × AreFreeSeatsOf l.turn l.seats.items
