-- The entries of seats that take turn after turn.
use Rattle.std.specs.Prelude.{◌≡◌, ℕ, zero, suc, List, [], ◌∷◌, ◌++◌}
use Rattle.ci_turn.specs.declared.view.View.{View}
use Rattle.ci_turn.specs.Views.{events_of}
use Rattle.ci_turn_rows.specs.declared.tally.Entry.{Entry}

abbrev pub entry : ℕ → ℕ → Entry
entry seat count = record { seat = seat; count = count }

-- a seat's entries, in the order of its turns
abbrev pub turns_of : ℕ → ℕ → List Entry
turns_of seat zero = []
turns_of seat (suc count) = turns_of seat count ++ entry seat count ∷ []

-- the entries of a seat in a list
abbrev pub entries_of : ℕ → List Entry → List Entry
entries_of seat entries = events_of (λ e. e.seat) seat entries

-- the seat has one entry more, of this count
abbrev pub AddsEntry : {F : Type 0} → ℕ → View Entry F → View Entry F → Type 0
AddsEntry count v w = w.own ≡ v.own ++ entry v.number count ∷ []

-- a seat that takes turns stays the same otherwise
pub record IsSame {E F : Type 0} (v w : View E F) : Type 0 where
  pub number : w.number ≡ v.number
  pub fixed : w.fixed ≡ v.fixed
  pub made : w.made ≡ v.made
  pub joined : w.joined ≡ v.joined
