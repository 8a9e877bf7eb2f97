-- What a binary search among ascending keys finds.
use Rattle.std.proofs.Common.{◌≡◌, ℕ, ◌<◌, List, map, length, get_or, Contains, inl, inr, refl, sym, ap, subst, ◌∙◌, arith}
use Rattle.std.specs.declared.cmp.Ordering.{Ordering}
use Rattle.std.specs.declared.cmp.Ordering.TheVariants.{Less, Equal, Greater}
use Rattle.std.specs.Cmp.{IsTotalOrder}
use Rattle.std.specs.FinMap.{IsAntisymmetric}
use Rattle.std.specs.List.{HoldsAt}
use Rattle.std.specs.List.Sorted.{IsStrictlySortedBy, IsNonDecreasingBy, IsPartitionPoint}
use Rattle.std.specs.Ordering.{is_lt, ordering_index, ordering_reverse}
use Rattle.std.proofs.Math.ListN.{get_or-map}
use Rattle.std.proofs.lemmas.Bool.{cases_order}
use Rattle.std.proofs.lemmas.List.{length-map}
use Rattle.std.proofs.lemmas.List.Elements.{at_read}
use Rattle.std.proofs.lemmas.Cmp.{tied_itself}
use Rattle.std.proofs.lemmas.List.Sorted.{searchable_from_sorted}
use Rattle.std.proofs.lemmas.Map.Keys.{Less-from_sorted}

module _ {K V : Type 0} {R : K → K → Ordering} (o : IsTotalOrder R) (xs : List (K × V)) (up : IsStrictlySortedBy R (map (λ x. x.0) xs)) (k : K) where
  -- a key is below all later ones
  below : (i j : ℕ) (d : K × V) → i < j → j < length xs → R (get_or xs i d).0 (get_or xs j d).0 ≡ Less
  below i j d lt in_range =
      let e = Less-from_sorted R (map (λ (x : K × V). x.0) xs) i j d.0 up lt (rw length-map in_range) in
      rw (get_or-map (λ (x : K × V). x.0) xs i d, get_or-map (λ (x : K × V). x.0) xs j d) at e

  -- and above all earlier ones
  above : (i j : ℕ) (d : K × V) → i < j → j < length xs → R (get_or xs j d).0 (get_or xs i d).0 ≡ Greater
  above i j d lt in_range = o.antisymm _ _ ∙ ap ordering_reverse (below i j d lt in_range)

  -- the comparisons with k rise along the list, as a binary search asks
  pub comparisons_rise : IsNonDecreasingBy (λ x. ordering_index (R x.0 k)) xs
  comparisons_rise =
      searchable_from_sorted o (λ x. x.0) xs k (λ i d _ in_range. ap is_lt (above i _ d (omega arith) in_range))

  -- at the place that was found stands all that stands beside k
  pub one_place : (at : ℕ) (v : V) → at < length xs → HoldsAt (λ x. R x.0 k ≡ Equal) xs at → Contains xs (k, v) → get_or xs at (k, v) ≡ (k, v)
  one_place at v in_range equal (j, there, is) =
      let tied : R (get_or xs at (k, v)).0 (get_or xs j (k, v)).0 ≡ Equal = rw is (equal (k, v)) in
      elim (cases_order at j) [
        | inl same ↦ subst (λ n. get_or xs n (k, v) ≡ (k, v)) (sym same) is
        | inr (inl lt) ↦ let e = below at j (k, v) lt there in cc
        | inr (inr gt) ↦ let e = above j at (k, v) gt in_range in cc
      ]

  -- where the list parts into keys below and keys above k, nothing stands beside k
  pub none_there : (at : ℕ) (v : V) → IsPartitionPoint (λ x. R x.0 k ≡ Less) (λ x. R x.0 k ≡ Greater) xs at → Contains xs (k, v) → ⊥
  none_there at v parted (j, there, is) =
      let tied : R (get_or xs j (k, v)).0 k ≡ Equal = rw is (tied_itself o k) in
      elim (cases_order j at) [
        | inl same ↦ let e = parted.1 j (k, v) (omega arith) there in cc
        | inr (inl lt) ↦ let e = parted.0 j (k, v) (omega arith) lt in cc
        | inr (inr gt) ↦ let e = parted.1 j (k, v) (omega arith) there in cc
      ]

-- what stands at the place that was found stands beside k
pub found_there : {K V : Type 0} {R : K → K → Ordering} → IsAntisymmetric R → (xs : List (K × V)) (k : K) (at : ℕ) (x : K × V) → at < length xs → R x.0 k ≡ Equal → x ≡ get_or xs at x → Contains xs (k, x.1)
found_there alike xs k at x in_range equal is =
    (at, in_range, at_read xs (λ y. y ≡ x) at x in_range is refl (k, x.1) ∙ (λ i. (alike x.0 k equal i, x.1)))
