-- An ascending list is known by its elements, and the words of a document by where they stand.
use Rattle.std.proofs.Common.{◌≡◌, ◌≢◌, suc, zero, ◌⊎◌, List, [], ◌∷◌, map, Contains, inl, inr, refl, sym, ap, subst, ◌∙◌, arith}
use Rattle.std.specs.declared.cmp.Ordering.{Ordering}
use Rattle.std.specs.declared.cmp.Ordering.TheVariants.{Less, Equal}
use Rattle.std.specs.Cmp.{IsTotalOrder}
use Rattle.std.proofs.Math.ListN.{get_or-map}
use Rattle.std.proofs.lemmas.Cmp.{tied_itself, nat_cmp_total}
use Rattle.std.proofs.lemmas.List.{length-map}
use Rattle.std.proofs.lemmas.List.Elements.{All-contains, at_read}
use Rattle.std.proofs.lemmas.Map.Keys.{sorted_tail}
use Rattle.std.proofs.lemmas.Map.Views.{All-after_first}
use Rattle.ci_base.specs.declared.numbers.Place.{Place}
use Rattle.ci_keys.specs.declared.key.Key.{Key}
use Rattle.ci_keys.specs.Entry.{EntryLists, IsEntry, IsWords, SaysTheSame, StandsAt}
use Rattle.ci_keys.specs.Key.{key_cmp}
use Rattle.ci_keys.specs.Order.{Ascends}
use Rattle.ci_keys.specs.Places.{IsPlaces}
use Rattle.ci_keys.proofs.Keys.{key_cmp_total}
use Rattle.ci_keys.proofs.Search.{one_place}

-- an element is the first or a later one
pub Contains-cons_cases : {X : Type 0} (y : X) (ys : List X) (x : X) → Contains (y ∷ ys) x → (y ≡ x) ⊎ Contains ys x
Contains-cons_cases y ys x (zero, within, is) = inl is
Contains-cons_cases y ys x (suc k, within, is) = inr (k, omega arith, is)

pub none_in_empty : {X : Type 0} (x : X) → Contains {X = X} [] x → ⊥
none_in_empty x (k, within, is) = omega arith

pub Contains-first : {X : Type 0} (x : X) (xs : List X) → Contains (x ∷ xs) x
Contains-first x xs = (0, omega arith, refl)

pub Contains-later : {X : Type 0} (y : X) (ys : List X) (x : X) → Contains ys x → Contains (y ∷ ys) x
Contains-later y ys x (k, within, is) = (suc k, omega arith, is)

pub Contains-map : {X Y : Type 0} (f : X → Y) (xs : List X) (x : X) → Contains xs x → Contains (map f xs) (f x)
Contains-map f xs x (k, within, is) = (k, rw length-map within, get_or-map f xs k x ∙ ap f is)

module _ {X K : Type 0} {R : K → K → Ordering} (o : IsTotalOrder R) (f : X → K) where
  -- the first element is below all later ones
  pub Less-later : (x : X) (xs : List X) (z : X) → Ascends f R (x ∷ xs) → Contains xs z → R (f x) (f z) ≡ Less
  Less-later x xs z up has = All-contains (λ q. R (f x) q ≡ Less) (map f xs) (f z) (All-after_first R (f x) (map f xs) up) (Contains-map f xs z has)

  -- no element is a later one too
  not_later : (x : X) (xs : List X) → Ascends f R (x ∷ xs) → Contains xs x → ⊥
  not_later x xs up has = let below = Less-later x xs x up has in let tied = tied_itself o (f x) in cc

  -- two ascending lists begin alike where each has the other's first element
  same_first : (x : X) (xs : List X) (y : X) (ys : List X) → Ascends f R (x ∷ xs) → Ascends f R (y ∷ ys) → Contains (y ∷ ys) x → Contains (x ∷ xs) y → x ≡ y
  same_first x xs y ys up also there here =
      elim (Contains-cons_cases y ys x there) [
        | inl same ↦ sym same
        | inr later ↦ elim (Contains-cons_cases x xs y here) [
          | inl same ↦ same
          | inr after ↦
              let below = Less-later y ys x also later in
              let above = o.antisymm (f y) (f x) in
              let back = Less-later x xs y up after in
              cc
        ]
      ]

  -- what both lists have, their later elements have too
  same_later : (x : X) (xs ys : List X) → Ascends f R (x ∷ xs) → ((z : X) → Contains (x ∷ xs) z → Contains (x ∷ ys) z) → (z : X) → Contains xs z → Contains ys z
  same_later x xs ys up also z has =
      elim (Contains-cons_cases x ys z (also z (Contains-later x xs z has))) [
        | inl same ↦ absurd (not_later x xs up (subst (Contains xs) (sym same) has))
        | inr later ↦ later
      ]

  -- two ascending lists with the same elements are the same list
  pub same_list : (xs ys : List X) → Ascends f R xs → Ascends f R ys → ((z : X) → Contains xs z → Contains ys z) → ((z : X) → Contains ys z → Contains xs z) → xs ≡ ys
  same_list [] [] up also to back = refl
  same_list [] (y ∷ ys) up also to back = absurd (none_in_empty y (back y (Contains-first y ys)))
  same_list (x ∷ xs) [] up also to back = absurd (none_in_empty x (to x (Contains-first x xs)))
  same_list (x ∷ xs) (y ∷ ys) up also to back =
      let first = same_first x xs y ys up also (to x (Contains-first x xs)) (back y (Contains-first y ys)) in
      let to' = subst (λ v. (z : X) → Contains (x ∷ xs) z → Contains (v ∷ ys) z) (sym first) to in
      let back' = subst (λ v. (z : X) → Contains (v ∷ ys) z → Contains (x ∷ xs) z) (sym first) back in
      let also' = subst (λ v. Ascends f R (v ∷ ys)) (sym first) also in
      let rest = same_list xs ys (sorted_tail R (f x) (map f xs) up) (sorted_tail R (f y) (map f ys) also) (same_later x xs ys up to') (same_later x ys xs also' back') in
      λ i. first i ∷ rest i

-- beside a key stand no two lists of places
one_list : (words : List (Key × List Place)) (key : Key) (p q : List Place) → Ascends (λ word. word.0) key_cmp words → Contains words (key, p) → Contains words (key, q) → p ≡ q
one_list words key p q up (at, within, is) other =
    let tied = at_read words (λ word. key_cmp word.0 key ≡ Equal) at (key, p) within (sym is) (tied_itself key_cmp_total key) in
    let here = at_read words (λ word. word ≡ (key, p)) at (key, p) within (sym is) refl (key, q) in
    ap (λ word. word.1) (sym here ∙ one_place key_cmp_total words up key at q within tied other)

pub some_place : (places : List Place) → places ≢ [] → (place : Place) × Contains places place
some_place [] some = absurd (some refl)
some_place (x ∷ xs) some = (x, Contains-first x xs)

-- all words of one stand in the other at the same places
abbrev StandToo : List (Key × List Place) → List (Key × List Place) → Type 0
StandToo one other = (key : Key) (place : Place) → StandsAt one key place → StandsAt other key place

-- then all places beside a key in one stand beside it in the other
places_too : (one other : List (Key × List Place)) → IsWords other → StandToo one other → (key : Key) (p q : List Place) → Contains one (key, p) → Contains other (key, q) → (place : Place) → Contains p place → Contains q place
places_too one other is too key p q has has' place at =
    let (places, there, stands) = too key place (p, has, at) in
    subst (λ l. Contains l place) (one_list other key places q is.ascend there has') stands

-- and what one has the other has, where this goes both ways
words_too : (one other : List (Key × List Place)) → IsWords one → IsWords other → StandToo one other → StandToo other one → (word : Key × List Place) → Contains one word → Contains other word
words_too one other is_one is_other to back (key, p) has =
    let is_p = All-contains (λ word. IsPlaces word.1) one (key, p) is_one.places has in
    let (place, at) = some_place p is_p.some in
    let (q, there, _) = to key place (p, has, at) in
    let is_q = All-contains (λ word. IsPlaces word.1) other (key, q) is_other.places there in
    let same = same_list nat_cmp_total (λ x. x.0) p q is_p.ascend is_q.ascend (places_too one other is_other to key p q has there) (places_too other one is_one back key q p there has) in
    subst (λ l. Contains other (key, l)) (sym same) there

-- two entries that say the same are the same
pub same_entry : (one other : EntryLists) → IsEntry one → IsEntry other → SaysTheSame one other → one ≡ other
same_entry one other is_one is_other says =
    let to = λ (key : Key) (place : Place). (says.words key place).0 in
    let back = λ (key : Key) (place : Place). (says.words key place).1 in
    let words = same_list key_cmp_total (λ word. word.0) one.words other.words is_one.words.ascend is_other.words.ascend (words_too one.words other.words is_one.words is_other.words to back) (words_too other.words one.words is_other.words is_one.words back to) in
    let values = same_list nat_cmp_total (λ value. value.0.0) one.values other.values is_one.values is_other.values (λ value. (says.values value).0) (λ value. (says.values value).1) in
    λ i. record { words = words i; values = values i }
