-- Where words and phrases begin in a document.
use Rattle.std.specs.Prelude.{ℕ, ◌+◌, ◌==◌, ◌&&◌, Bool, true, false, List, [], ◌∷◌, bytes_eq, filter, map, nat_eq, if◌then◌else◌}
use Rattle.std.specs.List.{flat_map, list_any, starts_with}
use Rattle.ci_base.specs.declared.numbers.Place.{Place}
use Rattle.ci_base.specs.declared.numbers.PropNo.{PropNo}
use Rattle.ci_keys.specs.declared.key.Key.{Key}
use Rattle.ci_dialect.specs.declared.slots.Slot.{Slot}
use Rattle.ci_dialect.specs.declared.slots.Slot.TheVariants.{Word, Open}

-- the words of a document, each with its places
abbrev pub Words : Type 0
Words = List (Key × List Place)

-- the key is this word of the property, or for a prefix a word that begins with it
abbrev pub is_key : PropNo → List ℕ → Bool → Key → Bool
is_key property word prefix key =
    key.property.0 == property.0 && (if prefix then starts_with nat_eq key.word word else bytes_eq key.word word)

abbrev pub has_word : Words → PropNo → List ℕ → Bool → Bool
has_word words property word prefix = list_any (λ w. is_key property word prefix w.0) words

-- the places of a word, or of all words that begin with it
abbrev pub places_of : Words → PropNo → List ℕ → Bool → List ℕ
places_of words property word prefix =
    flat_map (λ w. map (λ p. p.0) w.1) (filter (λ w. is_key property word prefix w.0) words)

-- the word stands at the place
abbrev pub stands_at : Words → PropNo → List ℕ → ℕ → Bool
stands_at words property word at =
    list_any (λ w. is_key property word false w.0 && list_any (λ p. p.0 == at) w.1) words

-- the slot's word stands at the place; an open slot matches any
abbrev pub has_slot : Words → PropNo → ℕ → Slot → Bool
has_slot words property at Open = true
has_slot words property at (Word word) = stands_at words property word at

-- from the place on the slots stand one behind another
abbrev pub follow : Words → PropNo → ℕ → List Slot → Bool
follow words property at [] = true
follow words property at (slot ∷ more) = has_slot words property at slot && follow words property (at + 1) more

-- the places at which a phrase begins; its first slot is a word
abbrev pub phrase_places : Words → PropNo → List Slot → List ℕ
phrase_places words property [] = []
phrase_places words property (Open ∷ more) = []
phrase_places words property (Word word ∷ more) =
    filter (λ p. follow words property (p + 1) more) (places_of words property word false)
