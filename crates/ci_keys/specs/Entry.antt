-- What is known of one document.
use Rattle.std.specs.Prelude.{◌≡◌, ◌≢◌, ◌↔◌, List, [], All, Contains}
use Rattle.std.specs.Ordering.{nat_cmp}
use Rattle.ci_base.specs.declared.numbers.Place.{Place}
use Rattle.ci_base.specs.declared.numbers.PropNo.{PropNo}
use Rattle.ci_base.specs.declared.value.Value.{Value}
use Rattle.ci_keys.specs.declared.key.Key.{Key}
use Rattle.ci_keys.specs.Key.{IsIndexKey, key_cmp}
use Rattle.ci_keys.specs.Order.{Ascends}
use Rattle.ci_keys.specs.Places.{IsPlaces}

-- what an entry shows: the words of a document with their places, and its values
pub record EntryLists : Type 0 where
  pub words : List (Key × List Place)
  pub values : List (PropNo × Value)

-- words in the order of their keys, each with its places
pub record IsWords (words : List (Key × List Place)) : Type 0 where
  pub keys : All (λ word. IsIndexKey word.0) words
  pub places : All (λ word. IsPlaces word.1) words
  pub ascend : Ascends (λ word. word.0) key_cmp words

-- values in the order of their properties, of each at most one
abbrev pub IsValues : List (PropNo × Value) → Type 0
IsValues values = Ascends (λ value. value.0.0) nat_cmp values

-- both lists are in their order
pub record IsEntry (entry : EntryLists) : Type 0 where
  pub words : IsWords entry.words
  pub values : IsValues entry.values

-- the word of the key stands at the place
abbrev pub StandsAt : List (Key × List Place) → Key → Place → Type 0
StandsAt words key place =
    (places : List Place) × Contains words (key, places) × Contains places place

-- two entries have the same words at the same places, and the same values
pub record SaysTheSame (one other : EntryLists) : Type 0 where
  pub words : (key : Key) (place : Place) →
      StandsAt one.words key place ↔ StandsAt other.words key place
  pub values : (value : PropNo × Value) → Contains one.values value ↔ Contains other.values value

-- the places that stand beside the key, and none where the key isn't there
pub record StandBeside (key : Key) (words : List (Key × List Place)) (places : List Place)
    : Type 0 where
  pub found : (beside : List Place) → Contains words (key, beside) → places ≡ beside
  pub only : places ≢ [] → Contains words (key, places)
