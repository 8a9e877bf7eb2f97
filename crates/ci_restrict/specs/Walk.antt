-- Lists of places in order, and what is found by walking along two of them.
use Rattle.std.specs.Prelude.{◌≡◌, ◌≤◌, ℕ, ◌&&◌, Bool, nat_le, nat_lt, List, [], ◌∷◌, map, if◌then◌else◌, ⊤}
use Rattle.std.specs.List.{list_any}
use Rattle.std.specs.List.Sorted.{IsNonDecreasing}
use Rattle.ci_base.specs.declared.numbers.Place.{Place}

-- the places as numbers
abbrev pub numbers : List Place → List ℕ
numbers places = map (λ p. p.0) places

-- no place is below the one before it
abbrev pub Rise : List Place → Type 0
Rise places = IsNonDecreasing (numbers places)

-- the two lists have the same places, in whatever order and however often
abbrev pub HaveTheSame : List ℕ → List ℕ → Type 0
HaveTheSame one other = (test : ℕ → Bool) → list_any test one ≡ list_any test other

abbrev pub is_between : ℕ → ℕ → ℕ → Bool
is_between low high at = nat_le low at && nat_le at high

-- the list from the first place on that isn't below `low`
abbrev pub from : ℕ → List ℕ → List ℕ
from low [] = []
from low (at ∷ more) = if nat_lt at low then from low more else at ∷ more

-- the first place, if there is one, isn't below `low`
abbrev pub BeginsFrom : ℕ → List ℕ → Type 0
BeginsFrom low [] = ⊤
BeginsFrom low (at ∷ more) = low ≤ at
