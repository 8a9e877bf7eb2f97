-- Terms that stand near one another.
use Rattle.std.specs.Prelude.{ℕ, ◌-◌, ◌&&◌, Bool, true, nat_le, List, [], ◌∷◌}
use Rattle.std.specs.List.{list_any}
use Rattle.ci_dialect.specs.declared.restriction.Restriction.{Restriction, Content, Phrase}
use Rattle.ci_dialect.specs.Places.{Words, phrase_places, places_of}

-- two places differ by at most 50
abbrev pub is_near : ℕ → ℕ → Bool
is_near one other = nat_le (one - other) 50 && nat_le (other - one) 50

-- the places at which a term begins: words or a phrase
abbrev pub term_places : Words → Restriction → List ℕ
term_places words (Content property word prefix) = places_of words property word prefix
term_places words (Phrase property slots) = phrase_places words property slots
term_places words _ = []

-- from a place on, each term begins at a place near that of the term before
abbrev pub near_behind : Words → ℕ → List Restriction → Bool
near_behind words at [] = true
near_behind words at (term ∷ more) =
    list_any (λ p. is_near at p && near_behind words p more) (term_places words term)

-- there are places, one for each term in order, of which neighbours are near
abbrev pub are_near : Words → List Restriction → Bool
are_near words [] = true
are_near words (term ∷ more) = list_any (λ p. near_behind words p more) (term_places words term)
