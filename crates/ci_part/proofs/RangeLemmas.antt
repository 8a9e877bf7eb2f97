-- A walk over the keys that begin as another one.
use Rattle.std.proofs.Common.{◌≡◌, ◌≢◌, ℕ, suc, ◌+◌, ◌-◌, ◌<◌, ◌≤◌, Bool, true, false, List, [], ◌∷◌, ◌++◌, length, map, take, drop, get_or, All, Contains, Some, inl, inr, refl, sym, ap, subst, ◌∙◌, arith, append-nil, append_assoc}
use Rattle.std.specs.Prelude.{slice_get}
use Rattle.std.specs.declared.cmp.Ordering.{Ordering}
use Rattle.std.specs.declared.cmp.Ordering.TheVariants.{Less, Equal, Greater}
use Rattle.std.specs.List.{dedup, filter, flat_map}
use Rattle.std.specs.List.Sorted.{IsPartitionPoint, IsPartitionedBy, IsPermutation, IsSorted, IsStrictlySortedBy}
use Rattle.std.specs.Ordering.{eq_by_cmp, is_lt}
use Rattle.std.proofs.lemmas.Bool.{cases_order}
use Rattle.std.proofs.lemmas.List.{get_or-drop, get_or-map, get_or-take, get_or_default, length-drop, length-map, length-take, map-append, take-append-drop, take_all, take_more}
use Rattle.std.proofs.lemmas.List.Elements.{All-weaker, filter-append}
use Rattle.std.proofs.lemmas.Cmp.{eq_by_cmp_equiv}
use Rattle.std.proofs.lemmas.List.Kept.{Contains-dedup, Contains-from_dedup, IsStrictlySortedBy-dedup}
use Rattle.std.proofs.lemmas.List.Sorted.{Contains-permutation, IsPermutation-sym}
use Rattle.std.proofs.lemmas.Map.Keys.{Less-from_sorted}
use Rattle.std.proofs.lemmas.Option.{get_or_from_slice_get}
use Rattle.ci_keys.specs.declared.key.Key.{Key}
use Rattle.ci_keys.specs.Key.{key_cmp}
use Rattle.ci_keys.specs.Order.{Ascends}
use Rattle.ci_base.specs.declared.numbers.PropNo.{PropNo}
use Rattle.ci_keys.proofs.OneForm.{Contains-map}
use Rattle.ci_keys.proofs.Keys.{key_cmp_total, key_cmp-IsAntisymmetric}
use Rattle.ci_segment.specs.Finding.{IsPlaceOf}
use Rattle.ci_segment.specs.Segment.{Item}
use Rattle.ci_part.specs.Range.{beginning, begins}
use Rattle.ci_part.specs.View.{AreKeysWithin, IsKeyOf, IsWithin}
use Rattle.ci_part.proofs.BeginLemmas.{begins_within, below_begins, none_begins, within_begins}
use Rattle.ci_part.proofs.ListLemmas.{Contains-filter, Contains-joined, filter-Contains, is_equal, joined-Contains}
use Rattle.ci_wordlist.specs.WordList.{WordLists}
use Rattle.ci_wordlist.proofs.OrderLemmas.{Contains-unmap}

filter_none : {X : Type 0} (p : X → Bool) (xs : List X) → All (λ x. p x ≡ false) xs → filter p xs ≡ []
filter_none p [] none = refl
filter_none p (x ∷ xs) none = rw (none 0 x (omega arith)) (filter_none p xs (λ k d within. none (suc k) d (omega (arith, within))))

pub beginning_append : (first : Key) (xs ys : List Item) → beginning first (xs ++ ys) ≡ beginning first xs ++ beginning first ys
beginning_append first xs ys =
    ap (map (λ (item : Item). item.0)) (filter-append (λ (item : Item). begins first item.0) xs ys)
    ∙ map-append (λ (item : Item). item.0) (filter (λ (item : Item). begins first item.0) xs) (filter (λ (item : Item). begins first item.0) ys)

beginning_none : (first : Key) (items : List Item) → All (λ item. begins first item.0 ≡ false) items → beginning first items ≡ []
beginning_none first items none = ap (map (λ (item : Item). item.0)) (filter_none (λ (item : Item). begins first item.0) items none)

-- the key at a place, however it was read
pub key_read : (items : List Item) (at : ℕ) (key : Key) (d : Item) → at < length items → slice_get (map (λ item. item.0) items) at ≡ Some key → (get_or items at d).0 ≡ key
key_read items at key d within is = sym (get_or-map (λ (item : Item). item.0) items at d d.0 within) ∙ get_or_from_slice_get (map (λ (item : Item). item.0) items) at key d.0 is

-- ---- keys in order

is_less : (o : Ordering) → is_lt o ≡ true → o ≡ Less
is_less Less e = refl
is_less Equal e = let no : false ≡ true = e in cc
is_less Greater e = let no : false ≡ true = e in cc

module _ (items : List Item) (up : Ascends (λ item. item.0) key_cmp items) where
  less_at : (i j : ℕ) (d : Item) → i < j → j < length items → key_cmp (get_or items i d).0 (get_or items j d).0 ≡ Less
  less_at i j d lt within =
      let size : length (map (λ (item : Item). item.0) items) ≡ length items = length-map items (λ (item : Item). item.0) in
      let first = get_or-map (λ (item : Item). item.0) items i d d.0 (omega (arith, lt, within)) in
      let second = get_or-map (λ (item : Item). item.0) items j d d.0 within in
      sym (λ k. key_cmp (first k) (second k)) ∙ Less-from_sorted key_cmp (map (λ (item : Item). item.0) items) i j d.0 up lt (omega (arith, size, within))

  pub parted : (key : Key) → IsPartitionedBy (λ item. is_lt (key_cmp item.0 key)) items
  parted key i j d upto within less =
      elim (cases_order i j) [
        | inl same ↦ subst (λ n. is_lt (key_cmp (get_or items n d).0 key) ≡ true) (sym same) less
        | inr (inl lt) ↦ ap is_lt (key_cmp_total.trans (get_or items i d).0 (get_or items j d).0 key (less_at i j d lt within) (is_less (key_cmp (get_or items j d).0 key) less))
        | inr (inr gt) ↦ absurd (omega (arith, gt, upto))
      ]

-- ---- the walk

module _ (items : List Item) (first : Key) where
  pub beginning_more : (old so_far new : List Key) (at : ℕ) (d : Item) (key : Key) → at < length items → (get_or items at d).0 ≡ key → begins first key ≡ true
      → so_far ≡ old ++ beginning first (take at items) → new ≡ so_far ++ key ∷ [] → new ≡ old ++ beginning first (take (at + 1) items)
  beginning_more old so_far new at d key within is begun so_far_is pushed =
      let one : beginning first (get_or items at d ∷ []) ≡ key ∷ [] = rw (is, begun) (λ i. is i ∷ []) in
      let grown : beginning first (take (at + 1) items) ≡ beginning first (take at items) ++ key ∷ [] =
      ap (beginning first) (take_more items at d within) ∙ beginning_append first (take at items) (get_or items at d ∷ []) ∙ ap (λ ks. beginning first (take at items) ++ ks) one in
      pushed ∙ ap (λ ks. ks ++ key ∷ []) so_far_is ∙ append_assoc old (beginning first (take at items)) (key ∷ []) ∙ ap (λ ks. old ++ ks) (sym grown)

  pub beginning_end : (at : ℕ) → length items ≤ at → beginning first (take at items) ≡ beginning first items
  beginning_end at all = ap (beginning first) (take_all at items all)

  module _ (start : ℕ) (place : IsPlaceOf items first start) where
    pub beginning_start : beginning first (take start items) ≡ []
    beginning_start = beginning_none first (take start items) (All-weaker (λ (item : Item). key_cmp item.0 first ≡ Less) (λ (item : Item). begins first item.0 ≡ false) (λ item less. below_begins first item.0 less) (take start items) place.below)

    not_below : (at : ℕ) (d : Item) → start ≤ at → at < length items → key_cmp (get_or items at d).0 first ≢ Less
    not_below at d from within =
        let there : get_or (drop start items) (at - start) d ≡ get_or items at d = get_or-drop start items (at - start) d ∙ ap (λ n. get_or items n d) (omega (arith, from)) in
        let size : length (drop start items) ≡ length items - start = length-drop start items in
        subst (λ (item : Item). key_cmp item.0 first ≢ Less) there (place.above (at - start) d (omega (arith, size, from, within)))

    module _ (up : Ascends (λ item. item.0) key_cmp items) (at : ℕ) (d : Item) (from : start ≤ at) (within : at < length items) (out : begins first (get_or items at d).0 ≡ false) where
      behind : (k : ℕ) (e : Item) → k < length (drop at items) → begins first (get_or (drop at items) k e).0 ≡ false
      behind k e in_rest =
          let size : length (drop at items) ≡ length items - at = length-drop at items in
          let there : get_or (drop at items) k e ≡ get_or items (at + k) d = get_or-drop at items k e ∙ get_or_default items (at + k) e d (omega (arith, size, in_rest)) in
          subst (λ (item : Item). begins first item.0 ≡ false) (sym there) (elim (cases_order at (at + k)) [
            | inl same ↦ subst (λ n. begins first (get_or items n d).0 ≡ false) same out
            | inr (inl lt) ↦ none_begins first (get_or items at d).0 (get_or items (at + k) d).0 (not_below at d from within) (less_at items up at (at + k) d lt (omega (arith, size, in_rest))) out
            | inr (inr gt) ↦ absurd (omega (arith, gt))
          ])

      pub beginning_stop : beginning first (take at items) ≡ beginning first items
      beginning_stop =
          sym (append-nil (beginning first (take at items))) ∙ ap (λ ks. beginning first (take at items) ++ ks) (sym (beginning_none first (drop at items) behind))
          ∙ sym (beginning_append first (take at items) (drop at items)) ∙ ap (beginning first) (take-append-drop at items)

pub place_is : (items : List Item) (key : Key) (place : ℕ) → place ≤ length items → IsPartitionPoint (λ item. is_lt (key_cmp item.0 key) ≡ true) (λ item. is_lt (key_cmp item.0 key) ≡ false) items place → IsPlaceOf items key place
place_is items key place within (low, high) = record {
  within = within;
  below = λ k d in_front.
      let size : length (take place items) ≤ place = omega (arith, length-take place items) in
      subst (λ (item : Item). key_cmp item.0 key ≡ Less) (sym (get_or-take place items k d (omega (arith, size, in_front)))) (is_less (key_cmp (get_or items k d).0 key) (low k d (omega arith) (omega (arith, size, in_front))));
  above = λ k d in_rest less.
      let size : length (drop place items) ≡ length items - place = length-drop place items in
      let there : key_cmp (get_or items (place + k) d).0 key ≡ Less = subst (λ (item : Item). key_cmp item.0 key ≡ Less) (get_or-drop place items k d) less in
      let no : true ≡ false = sym (ap is_lt there) ∙ high (place + k) d (omega arith) (omega (arith, size, in_rest)) in
      cc;
}

-- ---- the keys of many parts

module _ (parts : List WordLists) (first : Key) where
  abbrev pub all_beginning : List Key
  all_beginning = flat_map (λ part. beginning first part.keys) parts

  sound : (key : Key) → Contains all_beginning key → IsWithin first.property first.word key × IsKeyOf parts key
  sound key has =
      let (part, among, there) = joined-Contains (λ (part : WordLists). beginning first part.keys) parts key has in
      let (item, kept, is) = Contains-unmap (λ (item : Item). item.0) (filter (λ (item : Item). begins first item.0) part.keys) key there in
      let (listed, begun) = Contains-filter (λ (item : Item). begins first item.0) part.keys item kept in
      (subst (IsWithin first.property first.word) is (begins_within first item.0 begun), (part, among, subst (Contains (map (λ (item : Item). item.0) part.keys)) is (Contains-map (λ (item : Item). item.0) part.keys item listed)))

  whole : (key : Key) → IsWithin first.property first.word key → IsKeyOf parts key → Contains all_beginning key
  whole key within (part, among, has) =
      let (item, listed, is) = Contains-unmap (λ (item : Item). item.0) part.keys key has in
      let begun = within_begins first item.0 (subst (IsWithin first.property first.word) (sym is) within) in
      let kept = filter-Contains (λ (item : Item). begins first item.0) part.keys item listed begun in
      Contains-joined (λ (part : WordLists). beginning first part.keys) parts part key among
      (subst (Contains (beginning first part.keys)) is (Contains-map (λ (item : Item). item.0) (filter (λ (item : Item). begins first item.0) part.keys) item kept))

  module _ (sorted final : List Key) (moves : IsPermutation all_beginning sorted) (up : IsSorted key_cmp sorted) (once : final ≡ dedup (eq_by_cmp key_cmp) sorted) where
    stays : (key : Key) → Contains all_beginning key → Contains final key
    stays key has =
        subst (λ keys. Contains keys key) (sym once)
        (Contains-dedup (eq_by_cmp_equiv key_cmp_total) (λ x y tied. key_cmp-IsAntisymmetric x y (is_equal (key_cmp x y) tied)) sorted key (Contains-permutation all_beginning sorted key moves has))

    comes : (key : Key) → Contains final key → Contains all_beginning key
    comes key has =
        Contains-permutation sorted all_beginning key (IsPermutation-sym all_beginning sorted moves) (Contains-from_dedup (eq_by_cmp key_cmp) sorted key (subst (λ keys. Contains keys key) once has))

    pub keys_within : AreKeysWithin parts first.property first.word final
    keys_within = record {
      each = λ key. (λ has. sound key (comes key has), λ is. stays key (whole key is.0 is.1));
      ascend = subst (IsStrictlySortedBy key_cmp) (sym once) (IsStrictlySortedBy-dedup key_cmp_total (λ x y. refl) sorted up);
    }

-- the same, as it was gathered
pub range_is : (parts : List WordLists) (property : PropNo) (prefix : List ℕ) (first : Key) → first.property ≡ property → first.word ≡ prefix → (gathered sorted final : List Key)
    → gathered ≡ all_beginning parts first → IsPermutation gathered sorted → IsSorted key_cmp sorted → final ≡ dedup (eq_by_cmp key_cmp) sorted → AreKeysWithin parts property prefix final
range_is parts property prefix first of word gathered sorted final is moves up once =
    let done = keys_within parts first sorted final (subst (λ keys. IsPermutation keys sorted) is moves) up once in
    subst (λ w. AreKeysWithin parts property w final) word (subst (λ p. AreKeysWithin parts p first.word final) of done)

pub start_is : (old : List Key) (items : List Item) (first : Key) (start : ℕ) → IsPlaceOf items first start → old ≡ old ++ beginning first (take start items)
start_is old items first start place = sym (ap (λ keys. old ++ keys) (beginning_start items first start place) ∙ append-nil old)

pub stop_is : (old so_far : List Key) (items : List Item) (first : Key) (start : ℕ) (place : IsPlaceOf items first start) → Ascends (λ item. item.0) key_cmp items → (at : ℕ) (d : Item) → start ≤ at → at < length items
    → begins first (get_or items at d).0 ≡ false → so_far ≡ old ++ beginning first (take at items) → so_far ≡ old ++ beginning first items
stop_is old so_far items first start place up at d from within out is = is ∙ ap (λ keys. old ++ keys) (beginning_stop items first start place up at d from within out)

-- some item stands there
pub item_there : (items : List Item) (at : ℕ) → at < length items → Item
item_there [] at within = absurd (omega (arith, within))
item_there (item ∷ items) at within = item
