-- Lists in order.
use Rattle.std.specs.Prelude.{List, map}
use Rattle.std.specs.declared.cmp.Ordering.{Ordering}
use Rattle.std.specs.List.Sorted.{IsStrictlySortedBy}

-- what `of` reads of each element is below what it reads of all later ones
abbrev pub Ascends : {X K : Type 0} → (X → K) → (K → K → Ordering) → List X → Type 0
Ascends of cmp xs = IsStrictlySortedBy cmp (map of xs)
