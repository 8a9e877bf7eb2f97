-- One more element of a list that is read up to a place.
use Rattle.std.proofs.Common.{◌≡◌, ℕ, ◌+◌, ◌-◌, ◌<◌, List, [], ◌∷◌, ◌++◌, length, get_or, take, Option, Some, None, sym, ap, ◌∙◌, arith, append_assoc}
use Rattle.std.specs.List.{filter_map, flat_map, cons_option, sum_by}
use Rattle.std.proofs.lemmas.Grind.{flat_map-append}
use Rattle.std.proofs.lemmas.List.{append-nil, get_or_default, take_more}
use Rattle.std.proofs.lemmas.List.Sums.{sum_by-append, sum_by-cons}
use Rattle.std.proofs.lemmas.List.Elements.{filter_map-append}

module _ {X Y : Type 0} (h : X → Option Y) (xs : List X) (i : ℕ) (x : X) (within : i < length xs) (is : x ≡ get_or xs i x) where
  filter_map-more : filter_map h (take (i + 1) xs) ≡ filter_map h (take i xs) ++ cons_option (h x) []
  filter_map-more =
      ap (filter_map h) (take_more xs i x within) ∙ filter_map-append h (take i xs) (get_or xs i x ∷ [])
      ∙ ap (λ y. filter_map h (take i xs) ++ cons_option (h y) []) (sym is)

  -- it is read as y
  pub filter_map-taken : (y : Y) → Some y ≡ h x → filter_map h (take (i + 1) xs) ≡ filter_map h (take i xs) ++ y ∷ []
  filter_map-taken y gives = filter_map-more ∙ ap (λ o. filter_map h (take i xs) ++ cons_option o []) (sym gives)

  -- it is passed over
  pub filter_map-passed : None ≡ h x → filter_map h (take (i + 1) xs) ≡ filter_map h (take i xs)
  filter_map-passed gives = filter_map-more ∙ ap (λ o. filter_map h (take i xs) ++ cons_option o []) (sym gives) ∙ append-nil _

-- the last element, however it was read
pub last_read : {X : Type 0} (xs : List X) (n m : ℕ) (d x : X) → length xs ≡ n + 1 → m ≡ length xs - 1 → x ≡ get_or xs m x → get_or xs n d ≡ x
last_read xs n m d x last here is =
    let same : m ≡ n = omega arith in
    get_or_default xs n d x (omega arith) ∙ sym (is ∙ ap (λ i. get_or xs i x) same)

-- what may come between two lists comes in front of the second
pub append-cons_option : {Y : Type 0} (xs : List Y) (o : Option Y) (ys : List Y) → (xs ++ cons_option o []) ++ ys ≡ xs ++ cons_option o ys
append-cons_option xs None ys = ap (λ l. l ++ ys) (append-nil xs)
append-cons_option xs (Some y) ys = append_assoc xs (y ∷ []) ys

-- one more element of a sum
pub sum_by-more : {X : Type 0} (f : X → ℕ) (xs : List X) (i : ℕ) (x : X) → i < length xs → x ≡ get_or xs i x → sum_by f (take (i + 1) xs) ≡ sum_by f (take i xs) + f x
sum_by-more f xs i x within is =
    let more = ap (sum_by f) (take_more xs i x within) in
    let one = sum_by-cons f (get_or xs i x) [] in
    omega (arith, more, one, sum_by-append f (take i xs) (get_or xs i x ∷ []), ap f is)

-- one more element of a list that is read as lists
pub flat_map-more : {X Y : Type 0} (f : X → List Y) (xs : List X) (i : ℕ) (x : X) → i < length xs → x ≡ get_or xs i x → flat_map f (take (i + 1) xs) ≡ flat_map f (take i xs) ++ f x
flat_map-more f xs i x within is =
    ap (flat_map f) (take_more xs i x within) ∙ flat_map-append f (take i xs) (get_or xs i x ∷ [])
    ∙ ap (λ ys. flat_map f (take i xs) ++ ys) (append-nil (f (get_or xs i x)) ∙ ap f (sym is))
