-- What every step needs: the parts of the rule that it leaves as they were.
use Rattle.std.proofs.Common.{◌≡◌, ℕ, List, [], ◌∷◌, map, Option, set, sym, subst}
use mathlib.Core.Option.{some}
use lib.ListN.{get_elem?}
use Rattle.atomic_table.specs.Table.{State}
use Rattle.atomic_table.proofs.Lists.{at_map}
use Rattle.ci_turn.specs.declared.view.View.{View}
use Rattle.ci_turn.specs.Rule.{stand_of, memory_of, role_of, Line, Remembers, AllRemember, Roster, is_away, Kept}
use Rattle.ci_turn.proofs.Places.{map_same}

module _ {E F : Type 0} where
  -- a part of the rule stays where a change isn't seen by it
  pub unseen : {B : Type 0} (f : View E F → B) (P : List B → Type 0) (views : List (View E F)) (id : ℕ) (v w : View E F) → get_elem? views id ≡ some v → f w ≡ f v
      → P (map f views) → P (map f (set views id w))
  unseen f P views id v w at same = subst P (sym (map_same f views id v w at same))

module _ {X E F : Type 0} (list : X → List E) (author : E → ℕ) (stands : X → F → Type 0) (fixed : F) where
  abbrev pub Rule : State (Option X) (View E F) → Type 0
  Rule = Kept list author stands fixed

  -- a step that leaves the list and the slot as they were
  pub still : (s : State (Option X) (View E F)) (k : Rule s) (words : List ℕ) (views : List (View E F)) (seats next : ℕ)
      → words ≡ seats ∷ next ∷ k.serving ∷ []
      → Line next k.serving (is_away k.home) (map stand_of views)
      → AllRemember author fixed k.log (map memory_of views)
      → Roster author k.log seats (map role_of views)
      → Rule (record { words = words; homes = s.homes; views = views })
  still s k words views seats next words_are line memories roster = record {
    log = k.log;
    seats = seats;
    next = next;
    serving = k.serving;
    home = k.home;
    words = words_are;
    homes = k.homes;
    line = line;
    memories = memories;
    roster = roster;
    lies = k.lies;
  }

  -- what the rule knows of a seat
  pub remembered : (s : State (Option X) (View E F)) (k : Rule s) (id : ℕ) (v : View E F) → get_elem? s.views id ≡ some v → Remembers author fixed k.log (memory_of v)
  remembered s k id v at = k.memories id (memory_of v) (at_map memory_of s.views id v at)
