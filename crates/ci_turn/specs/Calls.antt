-- A lock and its seats, as contracts name them.
use Rattle.std.specs.Prelude.{◌≡◌, ◌^◌, ◌<◌, ◌≤◌, ℕ, [], All}
use mathlib.Core.List.{IsPrefix}
use Rattle.ci_turn.specs.declared.stands.Stands.{Ghosts}
use Rattle.ci_turn.specs.declared.view.View.{View}
use Rattle.ci_turn.specs.declared.seat.Seat.{Seat}
use Rattle.ci_turn.specs.declared.turn.Turn.{Turn}
use Rattle.ci_turn.specs.Views.{events_of, StandsFor, Adds, with_turn}

module _ {X E F : Type 0} {S : Ghosts X E F} where
  -- what a seat knows
  abbrev pub knows : Seat X E F S → View E F
  knows seat = seat.token.me.0

  -- the seat belongs to the lock
  abbrev pub IsSeatOf : Turn X E F → Seat X E F S → Type 0
  IsSeatOf turn seat = seat.token.table_id ≡ turn.table.shared.table_id

  -- the value has the seat's fixed part
  abbrev pub HasFixed : Seat X E F S → X → Type 0
  HasFixed seat value = StandsFor S.stands value (knows seat).fixed

  -- the value's list begins with what the seat has seen
  abbrev pub BeginsWithSeen : Seat X E F S → X → Type 0
  BeginsWithSeen seat value = IsPrefix (knows seat).seen (S.list value)

  -- the value's events of the seat's number are the seat's own
  abbrev pub HasOwn : Seat X E F S → X → Type 0
  HasOwn seat value = events_of S.author (knows seat).number (S.list value) ≡ (knows seat).own

  -- the value's events of the number of each seat that joined this one are that seat's own
  abbrev pub HasJoined : Seat X E F S → X → Type 0
  HasJoined seat value = All (λ j. events_of S.author j.0 (S.list value) ≡ j.1) (knows seat).joined

  -- the value has no events of a number that no seat had
  abbrev pub HasNoOthers : Seat X E F S → X → Type 0
  HasNoOthers seat value = (n : ℕ) → (knows seat).made < n → events_of S.author n (S.list value) ≡ []

  -- the value's list is what the seat has seen, followed by events of the seat's number
  abbrev pub AddsOwn : Seat X E F S → X → Type 0
  AddsOwn seat value = Adds S.author (knows seat).number (knows seat).seen (S.list value)

  -- the seat holds a value, has seen its list, and stays the same otherwise
  abbrev pub HasTaken : Seat X E F S → Seat X E F S → X → Type 0
  HasTaken before now value = knows now ≡ with_turn (knows before) (knows now).ticket (S.list value)

  -- the seat's ticket is a later one, and not the one that is never drawn
  pub record HasTicket (before now : Seat X E F S) : Type 0 where
    pub later : (knows before).ticket ≤ (knows now).ticket
    pub drawn : (knows now).ticket < 2 ^ 62
