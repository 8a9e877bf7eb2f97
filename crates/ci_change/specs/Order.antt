-- The unserved notices by number, as a register keeps them: each entry names the place of its path.
use Rattle.std.specs.Prelude.{◌==◌, ◌&&◌, ◌<◌, ◌++◌, ℕ, Bool, not, nat_le, nat_lt, All, List, [], ◌∷◌, filter, length, if◌then◌else◌}
use Rattle.std.specs.List.Sorted.{IsStrictlySortedBy}
use Rattle.std.specs.Map.{keys_of}
use Rattle.std.specs.Ordering.{nat_cmp}
use Rattle.ci_change.specs.declared.order.Entry.{Entry}
use Rattle.ci_change.specs.declared.rows.Numbers.{Numbers}
use Rattle.ci_change.specs.Rows.{sets_aside}

-- the entries without the one at a number
abbrev pub without_entry : ℕ → List (ℕ × Entry) → List (ℕ × Entry)
without_entry number order = filter (λ e. not (e.0 == number)) order

-- the entries when a path with these numbers has a newer one, which joins them if it isn't served
abbrev pub renewed : List (ℕ × Entry) → Numbers → ℕ × Entry → Bool → List (ℕ × Entry)
renewed order numbers newest joins =
    without_entry numbers.latest order
    ++ (if joins && nat_lt numbers.served newest.0 then newest ∷ [] else [])

-- the entries when the notice with a path's latest number is set aside
abbrev pub given_up : List (ℕ × Entry) → Numbers → ℕ → List (ℕ × Entry)
given_up order numbers retries =
    if nat_lt 0 numbers.latest && sets_aside numbers retries
    then without_entry numbers.latest order
    else order

-- the entries when a path whose latest number this is was served up to a number
abbrev pub retired : List (ℕ × Entry) → ℕ → ℕ → List (ℕ × Entry)
retired order latest served = if nat_le latest served then without_entry latest order else order

-- each entry names the place of a path, and the numbers ascend
pub record IsIndexed (rows : List (List ℕ × Numbers)) (order : List (ℕ × Entry)) : Type 0 where
  pub places : All (λ e. e.1.place < length rows) order
  pub ordered : IsStrictlySortedBy nat_cmp (keys_of order)
