-- Words that are above the same word compare as they part from it.
use Rattle.std.proofs.Common.{◌≡◌, ◌≢◌, ℕ, zero, suc, ◌+◌, ◌<◌, ◌≤◌, true, false, eqb, List, [], ◌∷◌, length, take, drop, refl, sym, ap, subst, ◌∙◌, inl, inr, arith}
use Rattle.std.specs.declared.cmp.Ordering.{Ordering}
use Rattle.std.specs.declared.cmp.Ordering.TheVariants.{Less, Equal, Greater}
use Rattle.std.specs.Cmp.Lexicographic.{slice_cmp}
use Rattle.std.specs.Ordering.{nat_cmp, ordering_then}
use Rattle.std.proofs.lemmas.Bool.{eqb-true, eqb-false, eq-eqb, ne_eqb}
use Rattle.ci_segment.specs.Segment.{common}
use Rattle.ci_segment.proofs.CommonLemmas.{bool_cases}

pub same_number : (x : ℕ) → nat_cmp x x ≡ Equal
same_number x = grind arith

pub first_less : (x y : ℕ) (o : Ordering) → ordering_then (nat_cmp x y) o ≡ Less → x ≢ y → nat_cmp x y ≡ Less
first_less x y o e other =
    elim (nat_cmp x y) as (λ r. nat_cmp x y ≡ r → ordering_then r o ≡ Less → nat_cmp x y ≡ Less) [
      | Less ↦ λ is less. is
      | Equal ↦ λ is less. absurd (other (let same : x ≡ y = grind (arith, is) in same))
      | Greater ↦ λ is less. absurd cc
    ] refl e

then_less : (r o : Ordering) → r ≡ Less → ordering_then r o ≡ Less
then_less r o is = rw is refl

then_greater : (r o : Ordering) → r ≡ Greater → ordering_then r o ≡ Greater
then_greater r o is = rw is refl

same_first : (x y : ℕ) (o : Ordering) → x ≡ y → ordering_then (nat_cmp x y) o ≡ o
same_first x y o same = let e : nat_cmp x y ≡ Equal = grind (arith, same) in rw e refl

-- words that begin alike compare by what follows
pub alike : (s : ℕ) (w q : List ℕ) → s ≤ length w → s ≤ length q → take s w ≡ take s q
    → (slice_cmp nat_cmp w q ≡ slice_cmp nat_cmp (drop s w) (drop s q)) × (common w q ≡ s + common (drop s w) (drop s q))
alike zero w q in_w in_q same = (refl, (let e : common w q ≡ 0 + common w q = omega arith in e))
alike (suc s) [] q in_w in_q same = absurd (omega arith)
alike (suc s) (y ∷ ys) [] in_w in_q same = absurd (omega arith)
alike (suc s) (y ∷ ys) (z ∷ zs) in_w in_q same =
    let first : y ≡ z = ap head same in
    let rest = alike s ys zs (omega arith) (omega arith) (ap tail same) in
    let test : eqb y z ≡ true = eq-eqb y z first in
    let deeper : common (y ∷ ys) (z ∷ zs) ≡ suc (common ys zs) = rw test refl in
    (same_first y z (slice_cmp nat_cmp ys zs) first ∙ rest.0, deeper ∙ (let e : suc (common ys zs) ≡ suc s + common (drop s ys) (drop s zs) = omega (arith, rest.1) in e))
  where
    head : List ℕ → ℕ
    head [] = 0
    head (x ∷ xs) = x

    tail : List ℕ → List ℕ
    tail [] = []
    tail (x ∷ xs) = xs

-- w begins with more of p than q does
pub longer : (p w q : List ℕ) → slice_cmp nat_cmp p q ≡ Less → common p q < common p w → (slice_cmp nat_cmp w q ≡ Less) × (common w q ≡ common p q)
longer [] w q less more = absurd (omega arith)
longer (x ∷ xs) [] q less more = absurd (omega arith)
longer (x ∷ xs) (y ∷ ys) [] less more = absurd cc
longer (x ∷ xs) (y ∷ ys) (z ∷ zs) less more =
    elim (bool_cases (eqb x y)) [
      | inr apart ↦ (let none : common (x ∷ xs) (y ∷ ys) ≡ 0 = rw apart refl in absurd (omega (arith, none, more)))
      | inl first ↦ (
          let x_y : x ≡ y = eqb-true x y first in
          let c_w : common (x ∷ xs) (y ∷ ys) ≡ suc (common xs ys) = rw first refl in
          elim (bool_cases (eqb x z)) [
            | inl second ↦ (
                let x_z : x ≡ z = eqb-true x z second in
                let c_q : common (x ∷ xs) (z ∷ zs) ≡ suc (common xs zs) = rw second refl in
                let lower : slice_cmp nat_cmp xs zs ≡ Less = sym (same_first x z (slice_cmp nat_cmp xs zs) x_z) ∙ less in
                let rest = longer xs ys zs lower (omega (arith, more, c_w, c_q)) in
                let y_z : y ≡ z = sym x_y ∙ x_z in
                let c_wq : common (y ∷ ys) (z ∷ zs) ≡ suc (common ys zs) = (let test : eqb y z ≡ true = eq-eqb y z y_z in rw test refl) in
                (same_first y z (slice_cmp nat_cmp ys zs) y_z ∙ rest.0, c_wq ∙ (let e : suc (common ys zs) ≡ suc (common xs zs) = omega (arith, rest.1) in e) ∙ sym c_q))
            | inr second ↦ (
                let other : x ≢ z = eqb-false x z second in
                let lt : nat_cmp y z ≡ Less = subst (λ v. nat_cmp v z ≡ Less) x_y (first_less x z (slice_cmp nat_cmp xs zs) less other) in
                let test : eqb y z ≡ false = ne_eqb y z (λ e. other (x_y ∙ e)) in
                let c_q : common (x ∷ xs) (z ∷ zs) ≡ 0 = rw second refl in
                let c_wq : common (y ∷ ys) (z ∷ zs) ≡ 0 = rw test refl in
                (then_less (nat_cmp y z) (slice_cmp nat_cmp ys zs) lt, c_wq ∙ sym c_q))
          ])
    ]

-- w begins with less of p than q does
pub shorter : (p w q : List ℕ) → slice_cmp nat_cmp p w ≡ Less → common p w < common p q → slice_cmp nat_cmp w q ≡ Greater
shorter [] w q less fewer = absurd (omega arith)
shorter (x ∷ xs) w [] less fewer = absurd (omega arith)
shorter (x ∷ xs) [] (z ∷ zs) less fewer = absurd cc
shorter (x ∷ xs) (y ∷ ys) (z ∷ zs) less fewer =
    elim (bool_cases (eqb x z)) [
      | inr apart ↦ (let none : common (x ∷ xs) (z ∷ zs) ≡ 0 = rw apart refl in absurd (omega (arith, none, fewer)))
      | inl first ↦ (
          let x_z : x ≡ z = eqb-true x z first in
          let c_q : common (x ∷ xs) (z ∷ zs) ≡ suc (common xs zs) = rw first refl in
          elim (bool_cases (eqb x y)) [
            | inl second ↦ (
                let x_y : x ≡ y = eqb-true x y second in
                let c_w : common (x ∷ xs) (y ∷ ys) ≡ suc (common xs ys) = rw second refl in
                let lower : slice_cmp nat_cmp xs ys ≡ Less = sym (same_first x y (slice_cmp nat_cmp xs ys) x_y) ∙ less in
                same_first y z (slice_cmp nat_cmp ys zs) (sym x_y ∙ x_z) ∙ shorter xs ys zs lower (omega (arith, fewer, c_w, c_q)))
            | inr second ↦ (
                let lt : nat_cmp x y ≡ Less = first_less x y (slice_cmp nat_cmp xs ys) less (eqb-false x y second) in
                let low : x < y = grind (arith, lt) in
                let high : nat_cmp y z ≡ Greater = grind (arith, low, x_z) in
                then_greater (nat_cmp y z) (slice_cmp nat_cmp ys zs) high)
          ])
    ]
