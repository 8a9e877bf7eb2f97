-- What lists contain, and lists that were sorted.
use Rattle.std.proofs.Common.{◌≡◌, ℕ, ◌+◌, ◌<◌, Bool, true, false, List, [], ◌∷◌, ◌++◌, length, map, get_or, Contains, inl, inr, refl, sym, ap, subst, ◌∙◌, arith}
use Rattle.std.specs.declared.cmp.Ordering.{Ordering}
use Rattle.std.specs.declared.cmp.Ordering.TheVariants.{Less, Equal, Greater}
use Rattle.std.specs.Cmp.{IsTotalOrder}
use Rattle.std.specs.List.{AllByRecursion, IsDistinct, filter, flat_map}
use Rattle.std.specs.List.Sorted.{IsPermutation, IsSortedByKey, IsStrictlySortedBy}
use Rattle.std.specs.Ordering.{eq_by_cmp, is_eq, is_lt, ordering_reverse}
use Rattle.std.proofs.lemmas.Bool.{cases_Bool}
use Rattle.std.proofs.lemmas.List.{get_or-map, length-map}
use Rattle.std.proofs.lemmas.List.Elements.{All-contains, All-from_recursion, Contains-append_left, Contains-append_right, Contains-append_cases, recursion_from_All}
use Rattle.std.proofs.lemmas.List.Sorted.{IsPermutation-map}
use Rattle.std.proofs.lemmas.Map.Keys.{IsDistinct-IsPermutation, IsDistinct-cons, IsDistinct-head, IsDistinct-tail, apart_from_distinct, sorted_from_all_adjacent, sorted_tail}
use Rattle.ci_keys.specs.Order.{Ascends}
use Rattle.ci_keys.proofs.OneForm.{Contains-cons_cases, Contains-first, Contains-later, Less-later, none_in_empty}
use Rattle.ci_wordlist.proofs.OrderLemmas.{Ascends-cons, Ascends-nil, all_from}

-- ---- what a filter keeps

hit : {X : Type 0} (p : X → Bool) (x : X) (xs : List X) → p x ≡ true → filter p (x ∷ xs) ≡ x ∷ filter p xs
hit p x xs passes = rw passes refl

miss : {X : Type 0} (p : X → Bool) (x : X) (xs : List X) → p x ≡ false → filter p (x ∷ xs) ≡ filter p xs
miss p x xs fails = rw fails refl

pub Contains-filter : {X : Type 0} (p : X → Bool) (xs : List X) (x : X) → Contains (filter p xs) x → Contains xs x × (p x ≡ true)
Contains-filter p [] x has = absurd (none_in_empty x has)
Contains-filter p (y ∷ ys) x has =
    elim (cases_Bool (p y)) [
      | inl passes ↦ elim (Contains-cons_cases y (filter p ys) x (subst (λ zs. Contains zs x) (hit p y ys passes) has)) [
        | inl first ↦ (subst (Contains (y ∷ ys)) first (Contains-first y ys), subst (λ z. p z ≡ true) first passes)
        | inr later ↦ let (there, good) = Contains-filter p ys x later in (Contains-later y ys x there, good)
      ]
      | inr fails ↦ let (there, good) = Contains-filter p ys x (subst (λ zs. Contains zs x) (miss p y ys fails) has) in (Contains-later y ys x there, good)
    ]

pub filter-Contains : {X : Type 0} (p : X → Bool) (xs : List X) (x : X) → Contains xs x → p x ≡ true → Contains (filter p xs) x
filter-Contains p [] x has good = absurd (none_in_empty x has)
filter-Contains p (y ∷ ys) x has good =
    elim (Contains-cons_cases y ys x has) [
      | inl first ↦ subst (λ zs. Contains zs x) (sym (hit p y ys (subst (λ z. p z ≡ true) (sym first) good))) (subst (Contains (y ∷ filter p ys)) first (Contains-first y (filter p ys)))
      | inr later ↦ elim (cases_Bool (p y)) [
        | inl passes ↦ subst (λ zs. Contains zs x) (sym (hit p y ys passes)) (Contains-later y (filter p ys) x (filter-Contains p ys x later good))
        | inr fails ↦ subst (λ zs. Contains zs x) (sym (miss p y ys fails)) (filter-Contains p ys x later good)
      ]
    ]

pub up_filter : {X K : Type 0} {R : K → K → Ordering} (o : IsTotalOrder R) (of : X → K) (p : X → Bool) (xs : List X) → Ascends of R xs → Ascends of R (filter p xs)
up_filter {X} {K} {R} o of p [] up = Ascends-nil of R
up_filter {X} {K} {R} o of p (x ∷ xs) up =
    let later = up_filter o of p xs (sorted_tail R (of x) (map of xs) up) in
    elim (cases_Bool (p x)) [
      | inl passes ↦ subst (Ascends of R) (sym (hit p x xs passes)) (Ascends-cons of R x (filter p xs) (λ z has. Less-later o of x xs z up (Contains-filter p xs z has).0) later)
      | inr fails ↦ subst (Ascends of R) (sym (miss p x xs fails)) later
    ]

-- ---- lists joined end to end

pub Contains-joined : {X Y : Type 0} (f : Y → List X) (ys : List Y) (y : Y) (x : X) → Contains ys y → Contains (f y) x → Contains (flat_map f ys) x
Contains-joined f [] y x among has = absurd (none_in_empty y among)
Contains-joined f (z ∷ zs) y x among has =
    elim (Contains-cons_cases z zs y among) [
      | inl first ↦ Contains-append_left (f z) (flat_map f zs) x (subst (λ w. Contains (f w) x) (sym first) has)
      | inr later ↦ Contains-append_right (f z) (flat_map f zs) x (Contains-joined f zs y x later has)
    ]

pub joined-Contains : {X Y : Type 0} (f : Y → List X) (ys : List Y) (x : X) → Contains (flat_map f ys) x → (y : Y) × Contains ys y × Contains (f y) x
joined-Contains f [] x has = absurd (none_in_empty x has)
joined-Contains f (z ∷ zs) x has =
    elim (Contains-append_cases (f z) (flat_map f zs) x has) [
      | inl here ↦ (z, Contains-first z zs, here)
      | inr there ↦ let (y, among, is) = joined-Contains f zs x there in (y, Contains-later z zs y among, is)
    ]

-- ---- elements that differ

one_contained : {K : Type 0} (P : K → Type 0) (xs : List K) → AllByRecursion P xs → (y : K) → Contains xs y → P y
one_contained P xs all y has = All-contains P xs y (All-from_recursion P xs all) has

pub distinct_append : {K : Type 0} (e : K → K → Bool) (xs ys : List K) → IsDistinct e xs → IsDistinct e ys → ((x y : K) → Contains xs x → Contains ys y → e x y ≡ false) → IsDistinct e (xs ++ ys)
distinct_append e [] ys left right apart = right
distinct_append {K} e (x ∷ xs) ys left right apart =
    IsDistinct-cons e x (xs ++ ys)
    (recursion_from_All (λ (y : K). e x y ≡ false) (xs ++ ys) (all_from (λ (y : K). e x y ≡ false) (xs ++ ys) (λ y has.
    elim (Contains-append_cases xs ys y has) [
      | inl early ↦ one_contained (λ (y : K). e x y ≡ false) xs (IsDistinct-head e x xs left) y early
      | inr late ↦ apart x y (Contains-first x xs) late
    ])))
    (distinct_append e xs ys (IsDistinct-tail e x xs left) right (λ z y there has. apart z y (Contains-later x xs z there) has))

-- ---- a list that was sorted, whose keys differ

lower : (o : Ordering) → is_eq o ≡ false → is_lt (ordering_reverse o) ≡ false → o ≡ Less
lower Less differ fall = refl
lower Equal differ fall = let no : true ≡ false = differ in cc
lower Greater differ fall = let no : true ≡ false = fall in cc

pub is_equal : (o : Ordering) → is_eq o ≡ true → o ≡ Equal
is_equal Less e = let no : false ≡ true = e in cc
is_equal Equal e = refl
is_equal Greater e = let no : false ≡ true = e in cc

flips : (o : Ordering) → is_eq (ordering_reverse o) ≡ is_eq o
flips Less = refl
flips Equal = refl
flips Greater = refl

module _ {X K : Type 0} {R : K → K → Ordering} (o : IsTotalOrder R) (of : X → K) (xs ys : List X)
    (moved : IsPermutation xs ys) (differ : IsDistinct (eq_by_cmp R) (map of xs)) (up : IsSortedByKey of R ys) where
  differ_still : IsDistinct (eq_by_cmp R) (map of ys)
  differ_still = IsDistinct-IsPermutation (eq_by_cmp R) (λ x y. ap is_eq (o.antisymm x y) ∙ flips (R y x)) (map of xs) (map of ys) (IsPermutation-map of xs ys moved) differ

  next_is_above : (k : ℕ) (d : X) → k + 1 < length (map of ys) → R (get_or (map of ys) k (of d)) (get_or (map of ys) (k + 1) (of d)) ≡ Less
  next_is_above k d within =
      let size : length (map of ys) ≡ length ys = length-map ys of in
      let here : get_or (map of ys) k (of d) ≡ of (get_or ys k d) = get_or-map of ys k d (of d) (omega (arith, size, within)) in
      let next : get_or (map of ys) (k + 1) (of d) ≡ of (get_or ys (k + 1) d) = get_or-map of ys (k + 1) d (of d) (omega (arith, size, within)) in
      let apart : is_eq (R (get_or (map of ys) k (of d)) (get_or (map of ys) (k + 1) (of d))) ≡ false = apart_from_distinct (eq_by_cmp R) (map of ys) k (k + 1) (of d) differ_still (omega arith) within in
      let no_fall : is_lt (R (of (get_or ys (k + 1) d)) (of (get_or ys k d))) ≡ false = up k d (omega arith) (omega (arith, size, within)) in
      let no_fall_map : is_lt (R (get_or (map of ys) (k + 1) (of d)) (get_or (map of ys) k (of d))) ≡ false = rw (here, next) no_fall in
      lower (R (get_or (map of ys) k (of d)) (get_or (map of ys) (k + 1) (of d))) apart
      (sym (ap is_lt (o.antisymm (get_or (map of ys) (k + 1) (of d)) (get_or (map of ys) k (of d)))) ∙ no_fall_map)

module _ {X K : Type 0} {R : K → K → Ordering} (o : IsTotalOrder R) (of : X → K) where
  pub rising : (xs ys : List X) → IsPermutation xs ys → IsDistinct (eq_by_cmp R) (map of xs) → IsSortedByKey of R ys → Ascends of R ys
  unfolding IsStrictlySortedBy
  rising xs [] moved differ up = tt
  rising xs (y ∷ ys) moved differ up = sorted_from_all_adjacent o (map of (y ∷ ys)) (of y) (λ k within. next_is_above o of xs (y ∷ ys) moved differ up k y within)
