-- Seats that are handed on in a list.
use Rattle.std.specs.Prelude.{◌≡◌, List, All, false}
use Rattle.ci_turn.specs.declared.stands.Stands.{Ghosts}
use Rattle.ci_turn.specs.declared.seat.Seat.{Seat}
use Rattle.ci_turn.specs.declared.turn.Turn.{Turn}
use Rattle.ci_turn.specs.Calls.{knows, IsSeatOf}

-- each belongs to the lock, and holds no turn
abbrev pub AreFreeSeatsOf : {X E F : Type 0} {S : Ghosts X E F} → Turn X E F → List (Seat X E F S) → Type 0
AreFreeSeatsOf turn seats = All (λ s. IsSeatOf turn s × ((knows s).holds ≡ false)) seats
