-- The words of a transcript and their places.
use Rattle.std.specs.Prelude.{ℕ, ◌+◌, Bool, List, [], ◌∷◌, ◌++◌, map, length, Option, Some, None, bytes_eq, if◌then◌else◌}
use Rattle.std.specs.declared.cmp.Ordering.{Ordering}
use Rattle.std.specs.List.{enumerate_from, filter_map, flat_map, list_any}
use Rattle.std.specs.Ordering.{is_eq, nat_cmp, ordering_then}
use Rattle.ci_base.specs.declared.numbers.Place.{Place}
use Rattle.ci_chunk.specs.declared.chunk.Break.{Break}
use Rattle.ci_chunk.specs.declared.chunk.Break.TheVariants.{NoBreak, Eow, Eos, Eop, Eoc}
use Rattle.ci_chunk.specs.declared.piece.Piece.{Piece}
use Rattle.ci_keys.specs.declared.key.Key.{Key}
use Rattle.ci_keys.specs.Key.{key_cmp}
use Rattle.ci_words.specs.Words.{words}
use Rattle.ci_entry.specs.Gather.{gathered, in_order}
use Rattle.ci_entry.specs.Runs.{Passage, property_runs}

-- the places that a break leaves free
abbrev pub gap : Break → ℕ
gap NoBreak = 0
gap Eow = 0
gap Eos = 8
gap Eop = 128
gap Eoc = 1024

-- the places that are left free before the first of the runs
abbrev pub gap_before : List Passage → ℕ
gap_before [] = 0
gap_before (run ∷ _) = gap run.before

-- words, each with its place, moved by a number of places
abbrev pub moved : ℕ → List (ℕ × List ℕ) → List (ℕ × List ℕ)
moved by placed = map (λ word. (word.0 + by, word.1)) placed

-- the words of runs with their places: those of the first run from 0 on, those of the later runs
-- behind them and the gap
abbrev pub placed_words : List Passage → List (ℕ × List ℕ)
placed_words [] = []
placed_words (run ∷ later) =
    enumerate_from 0 (words run.text)
    ++ moved (length (words run.text) + gap_before later) (placed_words later)

-- a word of a property at its place, unless it is noise
abbrev pub kept_word : List (List ℕ) → ℕ → ℕ × List ℕ → Option (Key × Place)
kept_word noise property word =
    if list_any (bytes_eq word.1) noise then None
    else Some (record { property = record { 0 = property }; word = word.1 }, record { 0 = word.0 })

-- the properties that may have words
abbrev pub worded : List ℕ
worded = 1 ∷ 2 ∷ 5 ∷ 6 ∷ 7 ∷ 8 ∷ 9 ∷ []

-- where the words of a property stand in a transcript
abbrev pub property_stands : List (List ℕ) → List Piece → ℕ → List (Key × Place)
property_stands noise pieces property =
    filter_map (kept_word noise property) (placed_words (property_runs property pieces))

-- where words stand in a transcript: those of each property in turn
abbrev pub stands : List (List ℕ) → List Piece → List (Key × Place)
stands noise pieces = flat_map (property_stands noise pieces) worded

-- by key, and at one key by place
abbrev pub stand_cmp : Key × Place → Key × Place → Ordering
stand_cmp one other = ordering_then (key_cmp one.0 other.0) (nat_cmp one.1.0 other.1.0)

-- a word with its places
abbrev pub Word : Type 0
Word = Key × List Place

-- whether two words have one key
abbrev pub one_key : Word → Word → Bool
one_key one other = is_eq (key_cmp one.0 other.0)

-- a word at the places of both
abbrev pub both_places : Word → Word → Word
both_places one other = (one.0, one.1 ++ other.1)

-- a word at one place
abbrev pub at_one_place : Key × Place → Word
at_one_place stand = (stand.0, stand.1 ∷ [])

-- neighbours with one key as one word, at the places of all
abbrev pub grouped : List (Key × Place) → List Word
grouped all = gathered one_key both_places (map at_one_place all)

-- the words of a transcript in order, each with its places in order
abbrev pub words_of : List (List ℕ) → List Piece → List Word
words_of noise pieces = grouped (in_order stand_cmp (stands noise pieces))
