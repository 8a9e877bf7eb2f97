-- Words in order, with the places of each together.
use Rattle.std.proofs.Common.{◌≡◌, ◌↔◌, ◌⊎◌, ℕ, false, List, [], ◌∷◌, map, get_or, All, Contains, inl, inr, refl, sym, ap, subst, ◌∙◌}
use Rattle.std.specs.declared.cmp.Ordering.{Ordering}
use Rattle.std.specs.declared.cmp.Ordering.TheVariants.{Less, Equal, Greater}
use Rattle.std.specs.Cmp.{Equal-is}
use Rattle.std.specs.List.Sorted.{IsStrictlySortedBy}
use Rattle.std.specs.Ordering.{nat_cmp, ordering_then}
use Rattle.std.proofs.lemmas.Bool.{cases_Bool}
use Rattle.std.proofs.lemmas.Cmp.{tied_itself}
use Rattle.std.proofs.lemmas.List.Elements.{All-contains, All-cons, All-nil, All-tail, Contains-get_or}
use Rattle.std.proofs.lemmas.Map.Keys.{sorted_tail}
use Rattle.std.proofs.lemmas.Map.Views.{All-after_first}
use Rattle.ci_base.specs.declared.numbers.Place.{Place}
use Rattle.ci_chunk.specs.declared.piece.Piece.{Piece}
use Rattle.ci_keys.specs.declared.key.Key.{Key}
use Rattle.ci_keys.specs.Entry.{IsWords, StandsAt}
use Rattle.ci_keys.specs.Key.{IsIndexKey, key_cmp}
use Rattle.ci_keys.specs.Order.{Ascends}
use Rattle.ci_keys.specs.Places.{IsPlaces}
use Rattle.ci_keys.proofs.Keys.{key_cmp_total, key_cmp-IsAntisymmetric}
use Rattle.ci_keys.proofs.OneForm.{Contains-cons_cases, Contains-first, Contains-later, Less-later, none_in_empty, some_place}
use Rattle.ci_entry.specs.Gather.{gather_onto, in_order}
use Rattle.ci_entry.specs.Words.{Word, at_one_place, both_places, grouped, one_key, stand_cmp, stands, words_of}
use Rattle.ci_entry.proofs.InOrderLemmas.{Contains-from_in_order, Contains-in_order, IsStrictlySortedBy-in_order}
use Rattle.ci_entry.proofs.OrderLemmas.{Ascends-cons, Ascends-nil}
use Rattle.ci_entry.proofs.StandLemmas.{stand_cmp_total, stand_cmp-IsAntisymmetric}

-- the words have just these places, each word once, and all in order
pub record Groups (stands : List (Key × Place)) (words : List Word) : Type 0 where
  pub to : (key : Key) (place : Place) → StandsAt words key place → Contains stands (key, place)
  pub back : (key : Key) (place : Place) → Contains stands (key, place) → StandsAt words key place
  pub places : All (λ word. IsPlaces word.1) words
  pub ascend : Ascends (λ word. word.0) key_cmp words

Groups-nil : Groups [] []
Groups-nil = record {
  to = λ key place (places, has, at). absurd (none_in_empty (key, places) has);
  back = λ key place has. absurd (none_in_empty (key, place) has);
  places = All-nil (λ (word : Word). IsPlaces word.1);
  ascend = Ascends-nil (λ (word : Word). word.0) key_cmp;
}

-- of two stands in order, either the keys are in order, or at one key the places
stands_apart : (r s : Ordering) → ordering_then r s ≡ Less → (r ≡ Less) ⊎ ((r ≡ Equal) × (s ≡ Less))
stands_apart Less s below = inl refl
stands_apart Equal s below = inr (refl, below)
stands_apart Greater s below = cc

-- where a word stands is a place of the first with its key, or of a later one
stands_cases : (word : Word) (words : List Word) (key : Key) (place : Place) → StandsAt (word ∷ words) key place → ((word.0 ≡ key) × Contains word.1 place) ⊎ StandsAt words key place
stands_cases word words key place (places, has, at) =
    elim (Contains-cons_cases word words (key, places) has) [
      | inl first ↦ inl (ap (λ w. w.0) first, subst (λ l. Contains l place) (sym (ap (λ w. w.1) first)) at)
      | inr later ↦ inr (places, later, at)
    ]

stands_first : (word : Word) (words : List Word) (place : Place) → Contains word.1 place → StandsAt (word ∷ words) word.0 place
stands_first word words place at = (word.1, Contains-first word words, at)

stands_later : (word : Word) (words : List Word) (key : Key) (place : Place) → StandsAt words key place → StandsAt (word ∷ words) key place
stands_later word words key place (places, has, at) = (places, Contains-later word words (key, places) has, at)

-- a place in front of places that are all above it
IsPlaces-cons : (place : Place) (places : List Place) → ((p : Place) → Contains places p → nat_cmp place.0 p.0 ≡ Less) → Ascends (λ p. p.0) nat_cmp places → IsPlaces (place ∷ places)
IsPlaces-cons place places below up = record { some = λ none. cc; ascend = Ascends-cons (λ p. p.0) nat_cmp place places below up }

module _ (x : Key × Place) (xs : List (Key × Place)) (below : (z : Key × Place) → Contains xs z → stand_cmp x z ≡ Less) where
  -- a key that is below all keys of the words begins a word
  Groups-begin : (words : List Word) → Groups xs words → ((word : Word) → Contains words word → key_cmp x.0 word.0 ≡ Less) → Groups (x ∷ xs) (at_one_place x ∷ words)
  Groups-begin words groups keys = record {
    to = λ key place stands. elim (stands_cases (at_one_place x) words key place stands) [
      | inl first ↦ let same = only_place x.1 place first.1 in subst (Contains (x ∷ xs)) (λ i. (first.0 i, same i)) (Contains-first x xs)
      | inr later ↦ Contains-later x xs (key, place) (groups.to key place later)
    ];
    back = λ key place has. elim (Contains-cons_cases x xs (key, place) has) [
      | inl first ↦ subst (λ (z : Key × Place). StandsAt (at_one_place x ∷ words) z.0 z.1) first (stands_first (at_one_place x) words x.1 (Contains-first x.1 []))
      | inr later ↦ stands_later (at_one_place x) words key place (groups.back key place later)
    ];
    places = All-cons (λ (word : Word). IsPlaces word.1) (at_one_place x) words (IsPlaces-cons x.1 [] (λ p has. absurd (none_in_empty p has)) (Ascends-nil {X = Place} (λ p. p.0) nat_cmp)) groups.places;
    ascend = Ascends-cons (λ (word : Word). word.0) key_cmp (at_one_place x) words keys groups.ascend;
  } where
    only_place : (p q : Place) → Contains (p ∷ []) q → p ≡ q
    only_place p q has = elim (Contains-cons_cases p [] q has) [ inl first ↦ first | inr later ↦ absurd (none_in_empty q later) ]

  -- a place of the first word is the first of its places
  Groups-join : (word : Word) (words : List Word) → Groups xs (word ∷ words) → x.0 ≡ word.0 → Groups (x ∷ xs) ((x.0, x.1 ∷ word.1) ∷ words)
  Groups-join word words groups same = record {
    to = λ key place stands. elim (stands_cases (x.0, x.1 ∷ word.1) words key place stands) [
      | inl first ↦ elim (Contains-cons_cases x.1 word.1 place first.1) [
        | inl here ↦ subst (Contains (x ∷ xs)) (λ i. (first.0 i, here i)) (Contains-first x xs)
        | inr behind ↦ Contains-later x xs (key, place) (subst (λ k. Contains xs (k, place)) (sym same ∙ first.0) (groups.to word.0 place (stands_first word words place behind)))
      ]
      | inr later ↦ Contains-later x xs (key, place) (groups.to key place (stands_later word words key place later))
    ];
    back = λ key place has. elim (Contains-cons_cases x xs (key, place) has) [
      | inl first ↦ subst (λ (z : Key × Place). StandsAt ((x.0, x.1 ∷ word.1) ∷ words) z.0 z.1) first (stands_first (x.0, x.1 ∷ word.1) words x.1 (Contains-first x.1 word.1))
      | inr later ↦ elim (stands_cases word words key place (groups.back key place later)) [
        | inl here ↦ subst (λ k. StandsAt ((x.0, x.1 ∷ word.1) ∷ words) k place) (same ∙ here.0) (stands_first (x.0, x.1 ∷ word.1) words place (Contains-later x.1 word.1 place here.1))
        | inr behind ↦ stands_later (x.0, x.1 ∷ word.1) words key place behind
      ]
    ];
    places = All-cons (λ (w : Word). IsPlaces w.1) (x.0, x.1 ∷ word.1) words (IsPlaces-cons x.1 word.1 places_behind own.ascend) (All-tail (λ (w : Word). IsPlaces w.1) word words groups.places);
    ascend = subst (λ k. IsStrictlySortedBy key_cmp (k ∷ map (λ (w : Word). w.0) words)) (sym same) groups.ascend;
  } where
    own : IsPlaces word.1
    own = All-contains (λ (w : Word). IsPlaces w.1) (word ∷ words) word groups.places (Contains-first word words)

    places_behind : (p : Place) → Contains word.1 p → nat_cmp x.1.0 p.0 ≡ Less
    places_behind p at =
        let tied : key_cmp x.0 word.0 ≡ Equal = ap (key_cmp x.0) (sym same) ∙ tied_itself key_cmp_total x.0 in
        elim (stands_apart (key_cmp x.0 word.0) (nat_cmp x.1.0 p.0) (below (word.0, p) (groups.to word.0 p (stands_first word words p at)))) [
          | inl less ↦ cc
          | inr equal ↦ equal.1
        ]

  -- where the first word has another key, all keys are above
  keys_behind : (word : Word) (words : List Word) → Groups xs (word ∷ words) → one_key (at_one_place x) word ≡ false → (w : Word) → Contains (word ∷ words) w → key_cmp x.0 w.0 ≡ Less
  keys_behind word words groups other w has =
      elim (Contains-cons_cases word words w has) [
        | inl first ↦ ap (λ (v : Word). key_cmp x.0 v.0) (sym first) ∙ first_behind
        | inr later ↦ key_cmp_total.trans x.0 word.0 w.0 first_behind (Less-later key_cmp_total (λ (v : Word). v.0) word words w groups.ascend later)
      ] where
        own : IsPlaces word.1
        own = All-contains (λ (w : Word). IsPlaces w.1) (word ∷ words) word groups.places (Contains-first word words)

        first_behind : key_cmp x.0 word.0 ≡ Less
        first_behind =
            let (p, at) = some_place word.1 own.some in
            elim (stands_apart (key_cmp x.0 word.0) (nat_cmp x.1.0 p.0) (below (word.0, p) (groups.to word.0 p (stands_first word words p at)))) [
              | inl less ↦ less
              | inr equal ↦ let same = (Equal-is (key_cmp x.0 word.0)).1 equal.0 in cc
            ]

  -- one more place, in front of all
  Groups-onto : (words : List Word) → Groups xs words → Groups (x ∷ xs) (gather_onto one_key both_places (at_one_place x) words)
  Groups-onto [] groups = Groups-begin [] groups (λ w has. absurd (none_in_empty w has))
  Groups-onto (word ∷ words) groups =
      elim (cases_Bool (one_key (at_one_place x) word)) [
        | inl same ↦ rw same (Groups-join word words groups (key_cmp-IsAntisymmetric x.0 word.0 ((Equal-is (key_cmp x.0 word.0)).0 same)))
        | inr other ↦ rw other (Groups-begin (word ∷ words) groups (keys_behind word words groups other))
      ]

-- stands in order are words in order, with all their places
pub Groups-grouped : (stands : List (Key × Place)) → IsStrictlySortedBy stand_cmp stands → Groups stands (grouped stands)
Groups-grouped [] up = Groups-nil
Groups-grouped (x ∷ xs) up =
    Groups-onto x xs (λ z has. All-contains (λ q. stand_cmp x q ≡ Less) xs z (All-after_first stand_cmp x xs up) has) (grouped xs) (Groups-grouped xs (sorted_tail stand_cmp x xs up))

-- keys of the index stay keys of the index
pub IsWords-grouped : (stands : List (Key × Place)) → IsStrictlySortedBy stand_cmp stands → All (λ stand. IsIndexKey stand.0) stands → IsWords (grouped stands)
IsWords-grouped stands up keys = record {
  keys = λ k d within.
      let word = get_or (grouped stands) k d in
      let has = Contains-get_or (grouped stands) k d within in
      let (place, at) = some_place word.1 (groups.places k d within).some in
      All-contains (λ (stand : Key × Place). IsIndexKey stand.0) stands (word.0, place) keys (groups.to word.0 place (word.1, has, at));
  places = groups.places;
  ascend = groups.ascend;
} where
  groups : Groups stands (grouped stands)
  groups = Groups-grouped stands up

-- the words of a document are just those that stand in it, at their places
pub stands-words_of : (noise : List (List ℕ)) (pieces : List Piece) (key : Key) (place : Place) → StandsAt (words_of noise pieces) key place ↔ Contains (stands noise pieces) (key, place)
stands-words_of noise pieces key place =
    let groups = Groups-grouped (in_order stand_cmp (stands noise pieces)) (IsStrictlySortedBy-in_order stand_cmp_total stand_cmp-IsAntisymmetric (stands noise pieces)) in (
      (λ there. Contains-from_in_order stand_cmp_total stand_cmp-IsAntisymmetric (stands noise pieces) (key, place) (groups.to key place there)),
      (λ has. groups.back key place (Contains-in_order stand_cmp_total stand_cmp-IsAntisymmetric (stands noise pieces) (key, place) has)),
    )
