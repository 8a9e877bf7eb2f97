-- Elements in order, each once.
use Rattle.std.proofs.Common.{◌≡◌, ◌⊎◌, Bool, List, [], ◌∷◌, map, get_or, All, Contains, IsPermutation, IsSorted, inl, inr, refl, sym, ap, subst, ◌∙◌}
use Rattle.std.specs.declared.cmp.Ordering.{Ordering}
use Rattle.std.specs.declared.cmp.Ordering.TheVariants.{Less, Equal, Greater}
use Rattle.std.specs.Cmp.{Equal-is, IsTotalOrder}
use Rattle.std.specs.FinMap.{IsAntisymmetric}
use Rattle.std.specs.List.{dedup}
use Rattle.std.specs.List.Retain.{DiffersFromLast, IsFiltered}
use Rattle.std.specs.List.Sorted.{IsStrictlySortedBy}
use Rattle.std.specs.Ordering.{eq_by_cmp, match_ordering, ordering_reverse}
use Rattle.std.proofs.lemmas.Cmp.{eq_by_cmp_equiv}
use Rattle.std.proofs.lemmas.List.{map-id}
use Rattle.std.proofs.lemmas.List.Elements.{All-contains, Contains-get_or}
use Rattle.std.proofs.lemmas.List.Filters.{dedup_is}
use Rattle.std.proofs.lemmas.List.Kept.{Contains-dedup, Contains-from_dedup, IsStrictlySortedBy-dedup}
use Rattle.std.proofs.lemmas.List.Sorted.{Contains-permutation, IsPermutation-sym}
use Rattle.std.proofs.lemmas.Map.Keys.{sorted_tail}
use Rattle.ci_keys.specs.Order.{Ascends}
use Rattle.ci_keys.proofs.OneForm.{Contains-cons_cases, Contains-first, Contains-later, Less-later, none_in_empty, same_list}
use Rattle.ci_entry.specs.Gather.{in_order, insert_in_order}
use Rattle.ci_entry.proofs.OrderLemmas.{Ascends-cons, Ascends-nil}

module _ {X : Type 0} {R : X → X → Ordering} (o : IsTotalOrder R) (same : IsAntisymmetric R) where
  -- in order, with no element twice
  abbrev Up : List X → Type 0
  Up = Ascends (λ x. x) R

  -- the element comes in front of the first, or is the first, or has its place behind it
  insert_cases : (P : List X → Type 0) (x y : X) (ys : List X) → (R x y ≡ Less → P (x ∷ y ∷ ys)) → (R x y ≡ Equal → P (y ∷ ys)) → (R x y ≡ Greater → P (y ∷ insert_in_order R x ys)) → P (insert_in_order R x (y ∷ ys))
  insert_cases P x y ys front first behind =
      elim (R x y) as (λ r. R x y ≡ r → P (match_ordering r (x ∷ y ∷ ys) (y ∷ ys) (y ∷ insert_in_order R x ys))) [
        | Less ↦ front
        | Equal ↦ first
        | Greater ↦ behind
      ] refl

  -- the element is there
  Contains-inserted : (x : X) (ys : List X) → Contains (insert_in_order R x ys) x
  Contains-inserted x [] = Contains-first x []
  Contains-inserted x (y ∷ ys) =
      insert_cases (λ l. Contains l x) x y ys
      (λ less. Contains-first x (y ∷ ys))
      (λ equal. subst (Contains (y ∷ ys)) (sym (same x y equal)) (Contains-first y ys))
      (λ greater. Contains-later y (insert_in_order R x ys) x (Contains-inserted x ys))

  -- and so are the others
  Contains-insert : (x : X) (ys : List X) (z : X) → Contains ys z → Contains (insert_in_order R x ys) z
  Contains-insert x [] z has = absurd (none_in_empty z has)
  Contains-insert x (y ∷ ys) z has =
      insert_cases (λ l. Contains l z) x y ys
      (λ less. Contains-later x (y ∷ ys) z has)
      (λ equal. has)
      (λ greater. elim (Contains-cons_cases y ys z has) [
        | inl first ↦ subst (Contains (y ∷ insert_in_order R x ys)) first (Contains-first y (insert_in_order R x ys))
        | inr later ↦ Contains-later y (insert_in_order R x ys) z (Contains-insert x ys z later)
      ])

  -- and nothing else
  Contains-from_insert : (x : X) (ys : List X) (z : X) → Contains (insert_in_order R x ys) z → (x ≡ z) ⊎ Contains ys z
  Contains-from_insert x [] z has = Contains-cons_cases x [] z has
  Contains-from_insert x (y ∷ ys) z has =
      insert_cases (λ l. Contains l z → (x ≡ z) ⊎ Contains (y ∷ ys) z) x y ys
      (λ less. Contains-cons_cases x (y ∷ ys) z)
      (λ equal. inr)
      (λ greater within. elim (Contains-cons_cases y (insert_in_order R x ys) z within) [
        | inl first ↦ inr (subst (Contains (y ∷ ys)) first (Contains-first y ys))
        | inr later ↦ elim (Contains-from_insert x ys z later) [
          | inl is ↦ inl is
          | inr behind ↦ inr (Contains-later y ys z behind)
        ]
      ])
      has

  Ascends-insert : (x : X) (ys : List X) → Up ys → Up (insert_in_order R x ys)
  Ascends-insert x [] up = Ascends-cons (λ x. x) R x [] (λ z has. absurd (none_in_empty z has)) up
  Ascends-insert x (y ∷ ys) up =
      insert_cases Up x y ys
      (λ less. Ascends-cons (λ x. x) R x (y ∷ ys)
      (λ z has. elim (Contains-cons_cases y ys z has) [
        | inl first ↦ subst (λ v. R x v ≡ Less) first less
        | inr later ↦ o.trans x y z less (Less-later o (λ x. x) y ys z up later)
      ]) up)
      (λ equal. up)
      (λ greater. Ascends-cons (λ x. x) R y (insert_in_order R x ys)
      (λ z has. elim (Contains-from_insert x ys z has) [
        | inl is ↦ subst (λ v. R y v ≡ Less) is (o.antisymm y x ∙ ap ordering_reverse greater)
        | inr later ↦ Less-later o (λ x. x) y ys z up later
      ])
      (Ascends-insert x ys (sorted_tail R y (map (λ x. x) ys) up)))

  Ascends-in_order : (xs : List X) → Up (in_order R xs)
  Ascends-in_order [] = Ascends-nil (λ (x : X). x) R
  Ascends-in_order (x ∷ xs) = Ascends-insert x (in_order R xs) (Ascends-in_order xs)

  -- in order are just the elements
  pub Contains-in_order : (xs : List X) (z : X) → Contains xs z → Contains (in_order R xs) z
  Contains-in_order [] z has = has
  Contains-in_order (x ∷ xs) z has =
      elim (Contains-cons_cases x xs z has) [
        | inl first ↦ subst (Contains (in_order R (x ∷ xs))) first (Contains-inserted x (in_order R xs))
        | inr later ↦ Contains-insert x (in_order R xs) z (Contains-in_order xs z later)
      ]

  pub Contains-from_in_order : (xs : List X) (z : X) → Contains (in_order R xs) z → Contains xs z
  Contains-from_in_order [] z has = has
  Contains-from_in_order (x ∷ xs) z has =
      elim (Contains-from_insert x (in_order R xs) z has) [
        | inl first ↦ subst (Contains (x ∷ xs)) first (Contains-first x xs)
        | inr later ↦ Contains-later x xs z (Contains-from_in_order xs z later)
      ]

  pub IsStrictlySortedBy-in_order : (xs : List X) → IsStrictlySortedBy R (in_order R xs)
  IsStrictlySortedBy-in_order xs = subst (IsStrictlySortedBy R) (map-id (in_order R xs)) (Ascends-in_order xs)

  pub All-in_order : (P : X → Type 0) (xs : List X) → All P xs → All P (in_order R xs)
  All-in_order P xs all = λ k d within. All-contains P xs (get_or (in_order R xs) k d) all (Contains-from_in_order xs (get_or (in_order R xs) k d) (Contains-get_or (in_order R xs) k d within))

  -- a sort and a `dedup` put elements in order, each once
  pub dedup-in_order : {E : X → X → Bool} → ((x y : X) → E x y ≡ eq_by_cmp R x y) → (found : List X) {sorted : List X} {left : List X} → IsPermutation found sorted → IsSorted R sorted → IsFiltered (DiffersFromLast E) [] sorted left → left ≡ in_order R found
  dedup-in_order {E = E} ties found {sorted = sorted} {left = left} moved up filtered =
      dedup_is E sorted left filtered ∙ same_list o (λ x. x) (dedup E sorted) (in_order R found)
      (subst (IsStrictlySortedBy R) (sym (map-id (dedup E sorted))) (IsStrictlySortedBy-dedup o ties sorted up))
      (Ascends-in_order found)
      (λ z has. Contains-in_order found z (Contains-permutation sorted found z (IsPermutation-sym found sorted moved) (Contains-from_dedup E sorted z has)))
      (λ z has. subst (λ F. Contains (dedup F sorted) z) (sym (λ i x y. ties x y i))
      (Contains-dedup (eq_by_cmp_equiv o) (λ x y tied. same x y ((Equal-is (R x y)).0 tied)) sorted z
      (Contains-permutation found sorted z moved (Contains-from_in_order found z has))))
