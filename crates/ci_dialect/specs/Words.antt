-- The words of a query: what the items of a term say together.
use Rattle.std.specs.Prelude.{ℕ, ◌-◌, ◌==◌, ◌&&◌, Bool, true, false, nat_lt, List, [], ◌∷◌, length, take, slice_index, Option, Some, None, Result, Ok, Err, bytes_eq, find, map, if◌then◌else◌}
use Rattle.std.specs.List.{flat_map, list_any}
use Rattle.ci_base.specs.declared.numbers.PropNo.{PropNo}
use Rattle.ci_words.specs.Words.{words}
use Rattle.ci_pieces.specs.declared.piece.PieceKind.{PieceKind}
use Rattle.ci_pieces.specs.declared.piece.PieceKind.TheVariants as kind
use Rattle.ci_pieces.specs.Cut.{Cut}
use Rattle.ci_dialect.specs.declared.fault.QueryFault.{QueryFault}
use Rattle.ci_dialect.specs.declared.fault.QueryFault.TheVariants.{Bad, OnlyNoise}
use Rattle.ci_dialect.specs.declared.restriction.Restriction.{Restriction}
use Rattle.ci_dialect.specs.declared.restriction.Restriction.TheVariants.{Content, Phrase}
use Rattle.ci_dialect.specs.declared.slots.Slot.{Slot}
use Rattle.ci_dialect.specs.declared.slots.Slot.TheVariants.{Word, Open}
use Rattle.ci_dialect.specs.Left.{place_in}

-- ---- items

-- an item is a run or a quoted piece
abbrev pub is_item : PieceKind → Bool
is_item kind.Run = true
is_item kind.Quoted = true
is_item _ = false

abbrev pub is_run : PieceKind → Bool
is_run kind.Run = true
is_run _ = false

-- a text ends with a star (42)
abbrev pub is_starred : List ℕ → Bool
is_starred text = nat_lt 0 (length text) && slice_index text (length text - 1) == 42

abbrev pub without_star : List ℕ → List ℕ
without_star text = take (length text - 1) text

-- a run that ends with a star stands for the words that begin with its own
abbrev pub is_prefix_run : Cut → Bool
is_prefix_run item = is_run item.kind && is_starred item.text

-- the words of an item; that of a prefix run stands before its star
abbrev pub item_words : Cut → List (List ℕ)
item_words item = if is_prefix_run item then words (without_star item.text) else words item.text

abbrev pub words_of : List Cut → List (List ℕ)
words_of items = flat_map item_words items

-- ---- what the items of a term say

abbrev pub is_noise : List (List ℕ) → List ℕ → Bool
is_noise noise word = list_any (bytes_eq word) noise

-- a noise word leaves an open place
abbrev pub slot_of : List (List ℕ) → List ℕ → Slot
slot_of noise word = if is_noise noise word then Open else Word word

-- the words from the first on that isn't noise
abbrev pub behind_noise : List (List ℕ) → List (List ℕ) → List (List ℕ)
behind_noise noise [] = []
behind_noise noise (word ∷ more) = if is_noise noise word then behind_noise noise more else word ∷ more

-- a place before others; an open place stands before none at the end
abbrev pub slot_before : Slot → List Slot → List Slot
slot_before Open [] = []
slot_before Open (slot ∷ more) = Open ∷ slot ∷ more
slot_before (Word word) more = Word word ∷ more

-- places without the open ones at the end
abbrev pub closed : List Slot → List Slot
closed [] = []
closed (slot ∷ more) = slot_before slot (closed more)

-- the places of words, without the open ones at either end
abbrev pub slots_of : List (List ℕ) → List (List ℕ) → List Slot
slots_of noise words = closed (map (slot_of noise) (behind_noise noise words))

-- one word, or more as a phrase; where no word is left, all were noise
abbrev pub phrase : PropNo → ℕ → List Slot → Result Restriction QueryFault
phrase property at [] = Err (OnlyNoise at)
phrase property at (Open ∷ []) = Err (OnlyNoise at)
phrase property at (Word word ∷ []) = Ok (Content property word false)
phrase property at (slot ∷ second ∷ more) = Ok (Phrase property (slot ∷ second ∷ more))

-- what words say whose first item stands at the place
abbrev pub said : List (List ℕ) → PropNo → ℕ → List (List ℕ) → Result Restriction QueryFault
said noise property at [] = Err (Bad at)
said noise property at (word ∷ more) = phrase property at (slots_of noise (word ∷ more))

-- what a prefix run says: it stands alone, has one word, and ends with one star
abbrev pub prefix_said : PropNo → Cut → List Cut → List (List ℕ) → Result Restriction QueryFault
prefix_said property run (item ∷ []) (word ∷ []) =
    if is_starred (without_star run.text) then Err (Bad run.at) else Ok (Content property word true)
prefix_said property run _ _ = Err (Bad run.at)

abbrev pub said_by : Option Cut → List (List ℕ) → PropNo → List Cut → Result Restriction QueryFault
said_by (Some run) noise property items = prefix_said property run items (words_of items)
said_by None noise property items = said noise property (place_in 0 items) (words_of items)

-- what items say of a property
abbrev pub restriction_of : List (List ℕ) → PropNo → List Cut → Result Restriction QueryFault
restriction_of noise property items = said_by (find is_prefix_run items) noise property items
