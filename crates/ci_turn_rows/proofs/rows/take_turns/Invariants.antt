use Rattle.std.proofs.Common.{◌≡◌, false}
use Rattle.ci_turn.specs.Calls.{knows, IsSeatOf}
use Rattle.ci_turn_rows.specs.Turns.{turns_of, IsSame}
use Rattle.ci_turn_rows.proofs.rows.take_turns.Given as goal

abbrev pub invariant-loop-k : goal.invariant-loop-k
invariant-loop-k g l =
    IsSeatOf l.turn l.seat × ((knows l.seat).holds ≡ false) × IsSame (knows l.fn.seat) (knows l.seat)
    × ((knows l.seat).own ≡ turns_of (knows l.fn.seat).number l.k)
