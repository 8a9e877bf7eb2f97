-- Which words are kept.
use Rattle.std.proofs.Common.{◌≡◌, ◌↔◌, ℕ, Bool, true, false, List, Contains, IsTrue, Some, None, bytes_eq, inl, inr, refl}
use Rattle.std.specs.List.{list_any}
use Rattle.std.proofs.lemmas.Bool.{cases_Bool}
use Rattle.std.proofs.lemmas.Cmp.{nat_list_eq_equiv}
use Rattle.std.proofs.lemmas.Map.Views.{list_any-from_Contains, Contains-from_any}
use Rattle.std.proofs.lemmas.Slice.Eq.{bytes_eq-Decides}
use Rattle.ci_base.specs.declared.numbers.Place.{Place}
use Rattle.ci_keys.specs.declared.key.Key.{Key}
use Rattle.ci_entry.specs.Words.{kept_word}

-- a word is noise where the list has it
pub noise_is : (noise : List (List ℕ)) (word : List ℕ) (b : Bool) → IsTrue b ↔ Contains noise word → list_any (bytes_eq word) noise ≡ b
noise_is noise word true has = list_any-from_Contains nat_list_eq_equiv word noise (has.0 refl)
noise_is noise word false has =
    elim (cases_Bool (list_any (bytes_eq word) noise)) [
      | inl found ↦ let wrong = has.1 (Contains-from_any (λ x y. (bytes_eq-Decides x y).0) word noise found) in cc
      | inr none ↦ none
    ]

-- a word of a property at its place
abbrev pub stand_of : ℕ → ℕ → List ℕ → Key × Place
stand_of property place word = (record { property = record { 0 = property }; word = word }, record { 0 = place })

pub kept_word-kept : (noise : List (List ℕ)) (property place : ℕ) (word : List ℕ) → list_any (bytes_eq word) noise ≡ false → kept_word noise property (place, word) ≡ Some (stand_of property place word)
kept_word-kept noise property place word other = rw other refl

pub kept_word-noise : (noise : List (List ℕ)) (property place : ℕ) (word : List ℕ) → list_any (bytes_eq word) noise ≡ true → kept_word noise property (place, word) ≡ None
kept_word-noise noise property place word noisy = rw noisy refl
