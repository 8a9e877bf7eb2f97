-- Lists of places in order, and walks along two of them.
use Rattle.std.proofs.Common.{◌≡◌, ◌≤◌, ◌<◌, ℕ, zero, suc, ◌+◌, ◌-◌, Bool, true, false, List, [], ◌∷◌, ◌++◌, All, cond, filter, get_or, length, nat_le, nat_lt, take, append-nil, inl, inr, refl, sym, ap, ◌∙◌, subst, arith, if◌then◌else◌, le_refl}
use Rattle.std.specs.List.{list_any}
use Rattle.std.specs.List.Sorted.{IsNonDecreasing, IsNonDecreasingBy}
use Rattle.std.proofs.lemmas.Bool.{cases_Bool, le-leb, leb-false, ltb-false, ltb-true}
use Rattle.std.proofs.lemmas.Bool.Decides.{nat_tests}
use Rattle.std.proofs.lemmas.List.{get_or-map, get_or_default, length-map}
use Rattle.std.proofs.lemmas.List.Elements.{All-filter, filter_more}
use Rattle.std.proofs.lemmas.List.Folds.{list_any_none}
use Rattle.ci_base.specs.declared.numbers.Place.{Place}
use Rattle.ci_restrict.specs.Walk.{BeginsFrom, Rise, from, is_between, numbers}

-- ---- lists that rise

rise-tail : (x : ℕ) (xs : List ℕ) → IsNonDecreasing (x ∷ xs) → IsNonDecreasing xs
rise-tail x xs up i j d le lt = up (suc i) (suc j) d (omega arith) (omega arith)

rise-below : (x : ℕ) (xs : List ℕ) → IsNonDecreasing (x ∷ xs) → All (λ y. x ≤ y) xs
rise-below x xs up k d lt = up zero (suc k) d (omega arith) (omega arith)

rise-cons : (x : ℕ) (xs : List ℕ) → All (λ y. x ≤ y) xs → IsNonDecreasing xs → IsNonDecreasing (x ∷ xs)
rise-cons x xs below up zero zero d le lt = le_refl x
rise-cons x xs below up zero (suc j) d le lt = below j d (omega arith)
rise-cons x xs below up (suc i) zero d le lt = absurd (omega arith)
rise-cons x xs below up (suc i) (suc j) d le lt = up i j d (omega arith) (omega arith)

pub rise-filter : (f : ℕ → Bool) (xs : List ℕ) → IsNonDecreasing xs → IsNonDecreasing (filter f xs)
rise-filter f [] up = up
rise-filter f (x ∷ xs) up =
    let rest = rise-filter f xs (rise-tail x xs up) in
    elim (f x) as (λ b. IsNonDecreasing (cond b (x ∷ filter f xs) (filter f xs))) [
      | true ↦ rise-cons x (filter f xs) (All-filter f (λ y. x ≤ y) xs (rise-below x xs up)) rest
      | false ↦ rest
    ]

-- by the places themselves
pub rise-by : (places : List Place) → IsNonDecreasingBy (λ p. p.0) places → Rise places
rise-by places up i j d le lt =
    let within : j < length places = subst (λ n. j < n) (length-map places (λ (p : Place). p.0)) lt in
    let e : Place = record { 0 = d } in
    rw (get_or-map (λ (p : Place). p.0) places i e d (omega arith), get_or-map (λ (p : Place). p.0) places j e d within) (up i j e le within)

-- ---- the walk along the other list

pub rise-from : (low : ℕ) (xs : List ℕ) → IsNonDecreasing xs → IsNonDecreasing (from low xs)
rise-from low [] up = up
rise-from low (x ∷ xs) up =
    elim (nat_lt x low) as (λ b. IsNonDecreasing (if b then from low xs else x ∷ xs)) [
      | true ↦ rise-from low xs (rise-tail x xs up)
      | false ↦ up
    ]

pub begins-from : (low : ℕ) (xs : List ℕ) → BeginsFrom low (from low xs)
begins-from low [] = tt
begins-from low (x ∷ xs) =
    elim (cases_Bool (nat_lt x low)) [
      | inl below ↦ subst (λ b. BeginsFrom low (if b then from low xs else x ∷ xs)) (sym below) (begins-from low xs)
      | inr above ↦ subst (λ b. BeginsFrom low (if b then from low xs else x ∷ xs)) (sym above) (ltb-false x low above)
    ]

too-low : (low high x : ℕ) → x < low → is_between low high x ≡ false
too-low low high x lt = grind (arith, nat_tests)

too-high : (low high x : ℕ) → high < x → is_between low high x ≡ false
too-high low high x lt = grind (arith, nat_tests)

-- what was passed is too low from then on
any-from : (low least high : ℕ) (xs : List ℕ) → least ≤ low → list_any (is_between low high) (from least xs) ≡ list_any (is_between low high) xs
any-from low least high [] le = refl
any-from low least high (x ∷ xs) le =
    elim (cases_Bool (nat_lt x least)) [
      | inl below ↦
          let under = ltb-true x least below in
          rw (below, too-low low high x (omega arith)) (any-from low least high xs le)
      | inr above ↦ rw above refl
    ]

-- the first that isn't too low decides
pub next-upto : (low high x : ℕ) (xs : List ℕ) → IsNonDecreasing (x ∷ xs) → low ≤ x → nat_le x high ≡ list_any (is_between low high) (x ∷ xs)
next-upto low high x xs up le =
    elim (cases_Bool (nat_le x high)) [
      | inl upto ↦ rw (upto, le-leb low x le) refl
      | inr above ↦
          let over = leb-false x high above in
          let none : All (λ y. is_between low high y ≡ false) xs =
          λ k d lt. let below = rise-below x xs up k d lt in too-high low high (get_or xs k d) (omega arith) in
          rw (above, le-leb low x le, list_any_none (is_between low high) xs none) refl
    ]

pub first-decides : (high low : ℕ) (places : List Place) (first : ℕ) → Rise places → BeginsFrom low (numbers places) → 1 ≤ length places → first ≡ (get_or places 0 (record { 0 = 0 })).0 → nat_le first high ≡ list_any (is_between low high) (numbers places)
first-decides high low [] first up begins some is = absurd (omega arith)
first-decides high low (p ∷ places) first up begins some is = rw is (next-upto low high p.0 (numbers places) up begins)

-- ---- both lists

module _ (further within : ℕ) where
  -- so much further on one of the others is no farther away than this
  abbrev pub stands : List ℕ → ℕ → Bool
  stands others at = list_any (is_between (at + further - within) (at + further + within)) others

  -- behind the first i places: which were kept, and that the others that are left decide for all places that are left
  pub record Walked (places others : List ℕ) (i : ℕ) (kept rest : List ℕ) : Type 0 where
    pub kept_are : kept ≡ filter (stands others) (take i places)
    pub rises : IsNonDecreasing rest
    pub same : (k d : ℕ) → i ≤ k → k < length places → stands rest (get_or places k d) ≡ stands others (get_or places k d)

  module _ (places others : List ℕ) where
    pub walked-none : IsNonDecreasing others → Walked places others 0 [] others
    walked-none up = record { kept_are = refl; rises = up; same = λ k d le lt. refl }

    module _ (i : ℕ) (kept rest : List ℕ) (walked : Walked places others i kept rest) (up : IsNonDecreasing places) (at : ℕ) (lt : i < length places) (is : at ≡ get_or places i at) (rest' : List ℕ) (left : rest' ≡ from (at + further - within) rest) where
      -- the place's own answer, by what is left
      its : stands rest' at ≡ stands others at
      its =
          ap (list_any (is_between (at + further - within) (at + further + within))) left
          ∙ any-from (at + further - within) (at + further - within) (at + further + within) rest (le_refl _)
          ∙ subst (λ n. stands rest n ≡ stands others n) (sym is) (walked.same i at (le_refl i) lt)

      later : (k d : ℕ) → i + 1 ≤ k → k < length places → stands rest' (get_or places k d) ≡ stands others (get_or places k d)
      later k d le below =
          let after = up i k d (omega arith) below in
          let same = get_or_default places i d at lt in
          ap (list_any (is_between (get_or places k d + further - within) (get_or places k d + further + within))) left
          ∙ any-from (get_or places k d + further - within) (at + further - within) (get_or places k d + further + within) rest (omega (arith, is, same, after))
          ∙ walked.same k d (omega arith) below

      rises' : IsNonDecreasing rest'
      rises' = subst IsNonDecreasing (sym left) (rise-from (at + further - within) rest walked.rises)

      one-more : filter (stands others) (take (i + 1) places) ≡ filter (stands others) (take i places) ++ cond (stands rest' at) (at ∷ []) []
      one-more =
          filter_more (stands others) places i at lt
          ∙ ap (λ n. filter (stands others) (take i places) ++ cond (stands others n) (n ∷ []) []) (sym is)
          ∙ ap (λ b. filter (stands others) (take i places) ++ cond b (at ∷ []) []) (sym its)

      pub walked-yes : true ≡ stands rest' at → Walked places others (i + 1) (kept ++ at ∷ []) rest'
      walked-yes stood = record {
        kept_are = ap (λ xs. xs ++ at ∷ []) walked.kept_are ∙ ap (λ b. filter (stands others) (take i places) ++ cond b (at ∷ []) []) stood ∙ sym one-more;
        rises = rises';
        same = later;
      }

      pub walked-no : false ≡ stands rest' at → Walked places others (i + 1) kept rest'
      walked-no stood = record {
        kept_are = walked.kept_are ∙ sym (append-nil (filter (stands others) (take i places))) ∙ ap (λ b. filter (stands others) (take i places) ++ cond b (at ∷ []) []) stood ∙ sym one-more;
        rises = rises';
        same = later;
      }
