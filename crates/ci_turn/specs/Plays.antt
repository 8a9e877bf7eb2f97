-- What each step tells the seat that makes it.
use Rattle.std.specs.Prelude.{◌≡◌, ℕ, ◌+◌, ◌^◌, ◌≤◌, ◌==◌, Bool, List, [], ◌∷◌, Option, Some, None, MatchBool}
use mathlib.Core.List.{IsPrefix}
use Rattle.atomic_table.specs.Table.{Me, Step}
use Rattle.ci_turn.specs.declared.view.View.{View}
use Rattle.ci_turn.specs.Views.{events_of, StandsFor, longer, after_number, after_look, after_miss, after_draw, after_served, after_pass}

-- the list of a value that a seat carries
abbrev pub carried_list : {X E : Type 0} → (X → List E) → List (ℕ × Option X) → List E
carried_list list [] = []
carried_list list ((slot, None) ∷ rest) = []
carried_list list ((slot, Some x) ∷ rest) = list x

module _ {X E F : Type 0} where
  -- the number of a seat, which is one above the last
  abbrev pub DrewNumber : Step (Option X) → Me (Option X) (View E F) → ℕ → Me (Option X) (View E F) → Type 0
  DrewNumber s m n w = (w ≡ (after_number m.0, m.1)) × (n ≡ m.0.drawn + 1)

  -- what was seen and what was told are fronts of the longer
  abbrev pub Compared : Step (Option X) → Me (Option X) (View E F) → ℕ → Me (Option X) (View E F) → Type 0
  Compared s m n w = (w ≡ (after_look m.0, m.1)) × IsPrefix m.0.seen (longer m.0.seen m.0.told) × IsPrefix m.0.told (longer m.0.seen m.0.told)

  -- the ticket is the seat's where it was found as expected, and else it is known to be another; it is none that the seat knew to be past
  abbrev pub DrewIf : Bool → Me (Option X) (View E F) → ℕ → Me (Option X) (View E F) → Type 0
  DrewIf hit m n w = MatchBool hit (w ≡ (after_draw m.0 n, m.1)) (w ≡ (after_miss m.0 n, m.1)) × (m.0.ticket ≤ n) × (n ≤ 2 ^ 62)

  abbrev pub DrewTicket : Step (Option X) → Me (Option X) (View E F) → ℕ → Me (Option X) (View E F) → Type 0
  DrewTicket s m n w = DrewIf (n == s.first) m n w

  module _ (list : X → List E) (author : E → ℕ) (stands : X → F → Type 0) where
    -- the value is at hand: it has the seat's fixed part, its list begins with what was seen, and has the seat's own events
    abbrev pub Took : Me (Option X) (View E F) → Me (Option X) (View E F) → Type 0
    Took m w =
        (x : X) × (w ≡ (after_served m.0 (list x), (0, Some x) ∷ [])) × StandsFor stands x m.0.fixed
        × IsPrefix m.0.seen (list x) × (events_of author m.0.number (list x) ≡ m.0.own)

    -- the value is at hand where the seat's ticket is served
    abbrev pub LookedIf : Bool → Me (Option X) (View E F) → Me (Option X) (View E F) → Type 0
    LookedIf served m w = MatchBool served (Took m w) (w ≡ m)

    -- the same, by the ticket that was found to be served
    abbrev pub Served : ℕ → Me (Option X) (View E F) → Me (Option X) (View E F) → Type 0
    Served n m w = (n ≡ m.0.ticket → Took m w) × (¬ (n ≡ m.0.ticket) → w ≡ m)

    abbrev pub Looked : Step (Option X) → Me (Option X) (View E F) → ℕ → Me (Option X) (View E F) → Type 0
    Looked s m n w = LookedIf (n == m.0.ticket) m w

  -- the value that was carried is given back
  abbrev pub Passed : (X → List E) → Step (Option X) → Me (Option X) (View E F) → ℕ → Me (Option X) (View E F) → Type 0
  Passed list s m n w = w ≡ (after_pass m.0 (carried_list list m.1), [])
