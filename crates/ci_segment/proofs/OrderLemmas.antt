-- The order of the keys of a segment.
use Rattle.std.proofs.Common.{◌≡◌, ◌≢◌, ℕ, ◌+◌, List, [], ◌∷◌, map, Some}
use Rattle.std.specs.List.{AllByRecursion}
use Rattle.std.specs.List.Sorted.{IsStrictlySortedBy}
use Rattle.std.specs.declared.cmp.Ordering.TheVariants.{Less}
use Rattle.std.proofs.lemmas.List.Elements.{All-from_recursion}
use Rattle.ci_keys.proofs.Keys.{key_cmp_total}
use Rattle.ci_keys.specs.Key.{IsIndexKey, key_cmp}
use Rattle.ci_keys.specs.Postings.{IsPostings}
use Rattle.ci_keys.specs.declared.key.Key.{Key}
use Rattle.ci_segment.specs.Chain.{Follow}
use Rattle.ci_segment.specs.Segment.{AreSegmentKeys, IsItemAt, IsSegment, Item, Spot, after_item, first_spot}
use Rattle.ci_segment.proofs.PostingsLemmas.{are_postings}

later : (b c : Key) (at : ℕ) (items : List Item) → ((k : Key) → key_cmp c k ≡ Less → key_cmp b k ≡ Less) → Follow IsItemAt after_item (record { at = at; before = Some c }) items
    → AllByRecursion (λ k. key_cmp b k ≡ Less) (map (λ i. i.0) items)
unfolding Follow
later b c at [] reach fits = tt
later b c at (y ∷ ys) reach fits =
    let less : key_cmp b y.0 ≡ Less = reach y.0 fits.0.after in
    (less, later b y.0 (at + 1) ys (λ k e. key_cmp_total.trans b y.0 k less e) fits.1)

ascend_from : (spot : Spot) (items : List Item) → Follow IsItemAt after_item spot items → IsStrictlySortedBy key_cmp (map (λ i. i.0) items)
unfolding Follow IsStrictlySortedBy
ascend_from spot [] fits = tt
ascend_from spot (x ∷ xs) fits = (later x.0 x.0 (spot.at + 1) xs (λ k e. e) fits.1, ascend_from (after_item spot x) xs fits.1)

each_from : (P : Item → Type 0) → ((spot : Spot) (x : Item) → IsItemAt spot x → P x) → (spot : Spot) (items : List Item) → Follow IsItemAt after_item spot items → AllByRecursion P items
unfolding Follow
each_from P one spot [] fits = tt
each_from P one spot (x ∷ xs) fits = (one spot x fits.0, each_from P one (after_item spot x) xs fits.1)

-- what a segment has can be packed again
pub are_keys : (items : List Item) → IsSegment items → AreSegmentKeys items
are_keys items is = record {
  some = is.some;
  ascend = ascend_from first_spot items is.each;
  each = All-from_recursion (λ (i : Item). IsIndexKey i.0) items (each_from (λ i. IsIndexKey i.0) (λ spot x good. good.key) first_spot items is.each);
  listed = All-from_recursion (λ (i : Item). i.1 ≢ []) items (each_from (λ i. i.1 ≢ []) (λ spot x good. good.some) first_spot items is.each);
  postings = All-from_recursion (λ (i : Item). IsPostings i.1) items (each_from (λ i. IsPostings i.1) (λ spot x good. are_postings x.1 good.postings) first_spot items is.each);
}
