-- The postings beside a key.
use Rattle.std.proofs.Common.{◌≡◌, ℕ, zero, suc, ◌<◌, ◌≤◌, List, [], ◌∷◌, length, map, take, get_or, All, Contains, Ok, Err, Some, None, refl, sym, ap, subst, ◌∙◌}
use Rattle.std.specs.Prelude.{slice_get}
use Rattle.std.specs.declared.cmp.Ordering.TheVariants.{Equal}
use Rattle.std.specs.List.Sorted.{IsBinarySearchResult, IsStrictlySortedBy}
use Rattle.std.proofs.lemmas.Cmp.{tied_itself}
use Rattle.std.proofs.lemmas.List.{get_or_default, take_all}
use Rattle.std.proofs.lemmas.List.Elements.{All-contains, All-nil}
use Rattle.ci_keys.specs.declared.key.Key.{Key}
use Rattle.ci_keys.specs.Key.{key_cmp}
use Rattle.ci_keys.specs.Order.{Ascends}
use Rattle.ci_keys.specs.Places.{IsPlaces}
use Rattle.ci_keys.specs.Postings.{IsPostings}
use Rattle.ci_keys.proofs.Keys.{key_cmp_total, key_cmp-IsAntisymmetric}
use Rattle.ci_keys.proofs.OneForm.{Contains-first, Contains-later, Contains-map}
use Rattle.ci_keys.proofs.Search.{comparisons_rise, one_place, found_there, none_there}
use Rattle.ci_segment.specs.Segment.{Item}
use Rattle.ci_part.specs.Keys.{all_keys}
use Rattle.ci_part.specs.View.{AreBeside}
use Rattle.ci_part.proofs.ListLemmas.{Contains-joined, joined-Contains}
use Rattle.ci_wordlist.specs.Filing.{Posting}
use Rattle.ci_wordlist.specs.WordList.{Keys}

pub none_are_postings : IsPostings []
unfolding IsStrictlySortedBy
none_are_postings = record { places = All-nil (λ (posting : Posting). IsPlaces posting.1); ascend = tt }

module _ (keys : Keys) (key : Key) (up : Ascends (λ item. item.0) key_cmp keys) where
  -- what stands there stands there alone
  pub beside_there : (postings : List Posting) → Contains keys (key, postings) → AreBeside key keys postings
  beside_there postings (at, within, is) = record {
    found = λ beside has.
        let tied = λ (d : Item). subst (λ k. key_cmp k key ≡ Equal) (sym (ap (λ (i : Item). i.0) (get_or_default keys at d (key, postings) within ∙ is))) (tied_itself key_cmp_total key) in
        let one : get_or keys at (key, beside) ≡ (key, beside) = one_place key_cmp_total keys up key at beside within tied has in
        ap (λ (i : Item). i.1) (sym is ∙ get_or_default keys at (key, postings) (key, beside) within ∙ one);
    only = λ _. (at, within, is);
  }

  pub beside_nowhere : ((postings : List Posting) → Contains keys (key, postings) → ⊥) → AreBeside key keys []
  beside_nowhere none = record { found = λ beside has. absurd (none beside has); only = λ some. absurd (some refl) }

  pub beside_at : (at : ℕ) (item : Item) → at < length keys → IsBinarySearchResult (λ k. key_cmp k.0 key) keys (Ok at) → item ≡ get_or keys at item → AreBeside key keys item.1
  beside_at at item within equal is = beside_there item.1 (found_there key_cmp-IsAntisymmetric keys key at item within (rw is (equal item)) is)

  pub beside_none : (at : ℕ) → IsBinarySearchResult (λ k. key_cmp k.0 key) keys (Err at) → AreBeside key keys []
  beside_none at parted = beside_nowhere (λ beside has. none_there key_cmp_total keys up key at beside (parted (comparisons_rise key_cmp_total keys up key)) has)

-- ---- in segments

both_at : (items : List Item) (at : ℕ) (key : Key) (postings : List Posting) → slice_get (map (λ item. item.0) items) at ≡ Some key → slice_get (map (λ item. item.1) items) at ≡ Some postings → Contains items (key, postings)
both_at [] at key postings first second = let no : None ≡ Some key = first in cc
both_at (item ∷ items) zero key postings first second =
    let a : Some item.0 ≡ Some key = first in
    let b : Some item.1 ≡ Some postings = second in
    let e : item.0 ≡ key = cc in
    let f : item.1 ≡ postings = cc in
    subst (Contains (item ∷ items)) (λ i. (e i, f i)) (Contains-first item items)
both_at (item ∷ items) (suc at) key postings first second = Contains-later item items (key, postings) (both_at items at key postings first second)

module _ (segments : List (List Item)) (key : Key) (up : Ascends (λ item. item.0) key_cmp (all_keys segments)) where
  pub beside_packed : (segment : List Item) (at : ℕ) (postings : List Posting) → Contains segments segment → slice_get (map (λ item. item.0) segment) at ≡ Some key → slice_get (map (λ item. item.1) segment) at ≡ Some postings → AreBeside key (all_keys segments) postings
  beside_packed segment at postings among first second = beside_there (all_keys segments) key up postings (Contains-joined (λ keys. keys) segments segment (key, postings) among (both_at segment at key postings first second))

  pub beside_unpacked : (n : ℕ) → length segments ≤ n → All (λ segment. ¬ Contains (map (λ item. item.0) segment) key) (take n segments) → AreBeside key (all_keys segments) []
  beside_unpacked n all none = beside_nowhere (all_keys segments) key up (λ postings has.
      let (segment, among, there) = joined-Contains (λ keys. keys) segments (key, postings) has in
      All-contains (λ (segment : List Item). ¬ Contains (map (λ item. item.0) segment) key) segments segment
      (subst (All (λ (segment : List Item). ¬ Contains (map (λ item. item.0) segment) key)) (take_all n segments all) none) among (Contains-map (λ (item : Item). item.0) segment (key, postings) there))
