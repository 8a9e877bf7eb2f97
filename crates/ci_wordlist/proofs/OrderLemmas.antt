-- Lists in order, and what stands in them.
use Rattle.std.proofs.Common.{◌≡◌, List, [], ◌∷◌, map, get_or, All, Contains, inl, inr, subst}
use Rattle.std.specs.declared.cmp.Ordering.{Ordering}
use Rattle.std.specs.declared.cmp.Ordering.TheVariants.{Less}
use Rattle.std.specs.List.{AllByRecursion}
use Rattle.std.specs.List.Sorted.{IsStrictlySortedBy}
use Rattle.std.proofs.lemmas.List.Elements.{Contains-get_or}
use Rattle.ci_keys.specs.Order.{Ascends}
use Rattle.ci_keys.proofs.OneForm.{Contains-cons_cases, Contains-first, Contains-later, none_in_empty}

all_by_recursion : {X : Type 0} (P : X → Type 0) (xs : List X) → ((z : X) → Contains xs z → P z) → AllByRecursion P xs
all_by_recursion P [] each = tt
all_by_recursion P (x ∷ xs) each = (each x (Contains-first x xs), all_by_recursion P xs (λ z has. each z (Contains-later x xs z has)))

-- what holds of all that a list contains
pub all_from : {X : Type 0} (P : X → Type 0) (xs : List X) → ((z : X) → Contains xs z → P z) → All P xs
all_from P xs each = λ k d within. each (get_or xs k d) (Contains-get_or xs k d within)

-- what is read of an element comes from an element
pub Contains-unmap : {X Y : Type 0} (f : X → Y) (xs : List X) (y : Y) → Contains (map f xs) y → (x : X) × Contains xs x × (f x ≡ y)
Contains-unmap f [] y has = absurd (none_in_empty y has)
Contains-unmap f (x ∷ xs) y has =
    elim (Contains-cons_cases (f x) (map f xs) y has) [
      | inl first ↦ (x, Contains-first x xs, first)
      | inr later ↦ let (z, there, is) = Contains-unmap f xs y later in (z, Contains-later x xs z there, is)
    ]

-- in front of elements in order comes what is below all of them
pub Ascends-cons : {X K : Type 0} (f : X → K) (cmp : K → K → Ordering) (x : X) (xs : List X) → ((z : X) → Contains xs z → cmp (f x) (f z) ≡ Less) → Ascends f cmp xs → Ascends f cmp (x ∷ xs)
unfolding IsStrictlySortedBy
Ascends-cons f cmp x xs below up =
    (all_by_recursion (λ k. cmp (f x) k ≡ Less) (map f xs) (λ k has. let (z, there, is) = Contains-unmap f xs k has in subst (λ k. cmp (f x) k ≡ Less) is (below z there)), up)

pub Ascends-nil : {X K : Type 0} (f : X → K) (cmp : K → K → Ordering) → Ascends f cmp []
unfolding IsStrictlySortedBy
Ascends-nil f cmp = tt
