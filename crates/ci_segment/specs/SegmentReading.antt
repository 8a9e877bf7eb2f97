-- How segments are read. The functions of this crate cite it; the laws of spellings say what it means.
use Rattle.std.specs.Prelude.{◌≡◌, ℕ, ◌==◌, ◌&&◌, ◌||◌, Bool, true, false, List, [], ◌∷◌, ◌++◌, Option, Some, None, Result, Ok, Err, length, take, codes, bytes_eq, nat_le, if◌then◌else◌, IsSome, ◌≤◌, drop}
use Rattle.std.specs.Ordering.{is_lt}
use Rattle.std.specs.Str.{is_utf8}
use Rattle.ci_front.specs.Front.{Front, ◌>>=◌, both_at, bytes_at, many_at, number_at, seen_at, sized_at, u32_at}
use Rattle.ci_keys.specs.Key.{key_cmp}
use Rattle.ci_keys.specs.declared.key.Key.{Key}
use Rattle.ci_segment.specs.Chain.{chain_at}
use Rattle.ci_segment.specs.Postings.{Posting}
use Rattle.ci_segment.specs.Reading.{Fails, postings_of}
use Rattle.ci_segment.specs.Segment.{IsSegment, Item, Spot, after_item, blocks, first_spot, items_bytes, offsets, segment_bytes, shared}
use Rattle.ci_segment.specs.declared.fault.SegmentFault.{SegmentFault}
use Rattle.ci_segment.specs.declared.fields.Fields.{Fields as Held}

-- the fields of a key as they stand: its property, the shared bytes, the other bytes, and the bytes of its postings
abbrev pub Fields : Type 0
Fields = ℕ × (ℕ × (List ℕ × List ℕ))

-- and as the fields of a struct
abbrev pub fields_in : Held → Fields
fields_in f = (f.property, (f.shared, (f.others.now, f.postings.now)))

unfoldable pub fields_at : Front Fields
fields_at = both_at number_at (both_at number_at (both_at sized_at sized_at))

abbrev pub word_before : Option Key → List ℕ
word_before None = []
word_before (Some key) = key.word

abbrev pub key_of : Spot → Fields → Key
key_of spot f = record { property = record { 0 = f.0 }; word = take f.1.0 (word_before spot.before) ++ f.1.1.0 }

abbrev pub may_have_words : ℕ → Bool
may_have_words property = (property == 1) || ((property == 2) || (nat_le 5 property && nat_le property 9))

abbrev pub has_word : Key → Bool
has_word key = nat_le 1 (length key.word) && nat_le (length key.word) 128

abbrev pub is_index_key : Key → Bool
is_index_key key = may_have_words key.property.0 && has_word key

abbrev pub is_after : Option Key → Key → Bool
is_after None key = true
is_after (Some before) key = is_lt (key_cmp before key)

-- the postings that were read, at least one
abbrev pub are_some : Option (List Posting) → Bool
are_some None = false
are_some (Some []) = false
are_some (Some (p ∷ ps)) = true

abbrev pub listed : Option (List Posting) → List Posting
listed None = []
listed (Some postings) = postings

-- a key that may stand there
abbrev pub is_key_at : Spot → Fields → Bool
is_key_at spot f =
    (shared spot (key_of spot f) == f.1.0)
    && (is_after spot.before (key_of spot f) && (is_index_key (key_of spot f) && is_utf8 (key_of spot f).word))

abbrev pub is_item_at : Spot → Fields → Bool
is_item_at spot f = is_key_at spot f && are_some (postings_of f.1.1.1)

abbrev pub item_of : Spot → Fields → Item
item_of spot f = (key_of spot f, listed (postings_of f.1.1.1))

unfoldable pub item_at : Spot → Front Item
item_at spot = seen_at (is_item_at spot) (item_of spot) fields_at

-- the bytes behind the letters
abbrev pub magic_at : List ℕ → Option (List ℕ)
magic_at bytes = bytes_at 4 bytes >>= λ tag. if bytes_eq tag.0 (codes "CIS1") then Some tag.1 else None

-- so many keys that take all of the bytes, and begin their blocks where the table says
abbrev pub tabled : List ℕ → List Item × List ℕ → Option (List Item)
tabled table read = if (length read.1 == 0) && bytes_eq table (offsets read.0) then Some read.0 else None

unfoldable pub items_of : ℕ → List ℕ → List ℕ → Option (List Item)
items_of count table bytes = chain_at item_at after_item first_spot count bytes >>= tabled table

-- all of the bytes
unfoldable pub segment_of : List ℕ → Option (List Item)
segment_of bytes =
    magic_at bytes >>= λ rest.
    number_at rest >>= λ count.
    if count.0 == 0 then None
    else (many_at u32_at (blocks count.0) count.1 >>= λ table. items_of count.0 table.0 table.1)

-- what a segment is seen as
abbrev pub items_in : Option (List Item) → List Item
items_in None = []
items_in (Some items) = items

-- a test passed where something is read, unless there was no memory
abbrev pub Passes : {X Y : Type 0} → Result X SegmentFault → Option Y → Type 0
Passes (Ok x) read = IsSome read
Passes (Err e) read = Fails e read

-- how a segment lies in its bytes: the keys begin behind so many of them
pub record IsLaidOut (items : List Item) (bytes table : List ℕ) (count body : ℕ) : Type 0 where
  pub is : IsSegment items
  pub spelled : bytes ≡ segment_bytes items
  pub begin : table ≡ offsets items
  pub size : count ≡ length items
  pub within : body ≤ length bytes
  pub behind : drop body bytes ≡ items_bytes items
