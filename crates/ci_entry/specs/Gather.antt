-- Lists in order, and lists in which neighbours are joined.
use Rattle.std.specs.Prelude.{Bool, List, [], ◌∷◌, if◌then◌else◌}
use Rattle.std.specs.declared.cmp.Ordering.{Ordering}
use Rattle.std.specs.Ordering.{match_ordering}

-- an element in its place among elements in order, unless it is there
abbrev pub insert_in_order : {X : Type 0} → (X → X → Ordering) → X → List X → List X
insert_in_order cmp x [] = x ∷ []
insert_in_order cmp x (y ∷ ys) =
    match_ordering (cmp x y) (x ∷ y ∷ ys) (y ∷ ys) (y ∷ insert_in_order cmp x ys)

-- the elements in order, each once
abbrev pub in_order : {X : Type 0} → (X → X → Ordering) → List X → List X
in_order cmp [] = []
in_order cmp (x ∷ xs) = insert_in_order cmp x (in_order cmp xs)

-- an element in front of others, with the first of which it may belong together
abbrev pub gather_onto : {X : Type 0} → (X → X → Bool) → (X → X → X) → X → List X → List X
gather_onto belong join x [] = x ∷ []
gather_onto belong join x (y ∷ ys) = if belong x y then join x y ∷ ys else x ∷ y ∷ ys

-- the elements, with neighbours that belong together joined into one
abbrev pub gathered : {X : Type 0} → (X → X → Bool) → (X → X → X) → List X → List X
gathered belong join [] = []
gathered belong join (x ∷ xs) = gather_onto belong join x (gathered belong join xs)
