-- What a binary search for a key says of the places beside it.
use Rattle.std.proofs.Common.{◌≡◌, ℕ, ◌<◌, List, [], length, get_or, Ok, Err, refl, sym, ap, ◌∙◌}
use Rattle.std.specs.List.Sorted.{IsBinarySearchResult}
use Rattle.std.proofs.lemmas.List.Elements.{at_read}
use Rattle.ci_base.specs.declared.numbers.Place.{Place}
use Rattle.ci_keys.specs.declared.key.Key.{Key}
use Rattle.ci_keys.specs.Entry.{StandBeside}
use Rattle.ci_keys.specs.Key.{key_cmp}
use Rattle.ci_keys.specs.Order.{Ascends}
use Rattle.ci_keys.proofs.Keys.{key_cmp_total, key_cmp-IsAntisymmetric}
use Rattle.ci_keys.proofs.Search.{comparisons_rise, one_place, found_there, none_there}

module _ (words : List (Key × List Place)) (key : Key) (up : Ascends (λ word. word.0) key_cmp words) where
  -- the word that was found has the key, and no other has it
  pub StandBeside-found : (at : ℕ) (word : Key × List Place) → at < length words → IsBinarySearchResult (λ w. key_cmp w.0 key) words (Ok at) → word ≡ get_or words at word → StandBeside key words word.1
  StandBeside-found at word in_range equal is = record {
    found = λ beside has. sym (ap (λ w. w.1) (at_read words (λ w. w ≡ word) at word in_range is refl (key, beside))) ∙ ap (λ w. w.1) (one_place key_cmp_total words up key at beside in_range equal has);
    only = λ _. found_there key_cmp-IsAntisymmetric words key at word in_range (rw is (equal word)) is;
  }

  -- where no word was found, none has the key
  pub StandBeside-none : (at : ℕ) → IsBinarySearchResult (λ w. key_cmp w.0 key) words (Err at) → StandBeside key words []
  StandBeside-none at parted = record {
    found = λ beside has. absurd (none_there key_cmp_total words up key at beside (parted (comparisons_rise key_cmp_total words up key)) has);
    only = λ some. absurd (some refl);
  }
