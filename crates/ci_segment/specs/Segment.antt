-- How a segment is spelled: the letters CIS1; the number of its keys; for each block of 16 keys how many bytes the keys
-- before the block take, in four bytes; and then the keys. A key leans on the key before it: it is its property, how
-- many bytes its word begins with that the word before begins with too, the other bytes of its word behind their count,
-- and its postings behind the count of their bytes. The first key of a block leans on none, so a reader may begin there.
use Rattle.std.specs.Prelude.{◌≡◌, ◌≢◌, ℕ, suc, ◌+◌, ◌*◌, ◌/◌, ◌%◌, ◌<◌, ◌^◌, ◌==◌, ⊤, List, [], ◌∷◌, ◌++◌, Option, Some, None, All, length, map, take, drop, codes, IsUtf8, if◌then◌else◌}
use Rattle.std.specs.Int.{w32, to_be_bytes}
use Rattle.std.specs.List.{AllByRecursion, flat_map, range_with_len}
use Rattle.std.specs.declared.cmp.Ordering.TheVariants.{Less}
use Rattle.ci_base.specs.Varint.{varint}
use Rattle.ci_front.specs.Front.{sized}
use Rattle.ci_keys.specs.Key.{IsIndexKey, key_cmp}
use Rattle.ci_keys.specs.Order.{Ascends}
use Rattle.ci_keys.specs.Postings.{IsPostings}
use Rattle.ci_keys.specs.declared.key.Key.{Key}
use Rattle.ci_segment.specs.Chain.{Follow, chained, reached}
use Rattle.ci_segment.specs.Postings.{IsSpelledPostings, Posting, postings_bytes}

-- a key with its postings
abbrev pub Item : Type 0
Item = Key × List Posting

-- where a key stands: how many keys are before it, and the last of them
pub record Spot : Type 0 where
  pub at : ℕ
  pub before : Option Key

abbrev pub first_spot : Spot
first_spot = record { at = 0; before = None }

abbrev pub after_item : Spot → Item → Spot
after_item spot item = record { at = spot.at + 1; before = Some item.0 }

-- the spot behind so many keys
abbrev pub spot_at : List Item → ℕ → Spot
spot_at items at = reached after_item first_spot (take at items)

-- how many values both lists begin with
abbrev pub common : List ℕ → List ℕ → ℕ
common [] ys = 0
common (x ∷ xs) [] = 0
common (x ∷ xs) (y ∷ ys) = if x == y then suc (common xs ys) else 0

-- how many bytes a word has of the word before it, where both are in one property
abbrev pub leaning : Option Key → Key → ℕ
leaning None key = 0
leaning (Some before) key = if before.property.0 == key.property.0 then common before.word key.word else 0

abbrev pub shared : Spot → Key → ℕ
shared spot key = if spot.at % 16 == 0 then 0 else leaning spot.before key

abbrev pub item_bytes : Spot → Item → List ℕ
item_bytes spot item =
    varint item.0.property.0
    ++ (varint (shared spot item.0) ++ (sized (drop (shared spot item.0) item.0.word) ++ sized (postings_bytes item.1)))

-- all keys, one behind the other
abbrev pub items_bytes : List Item → List ℕ
items_bytes items = chained item_bytes after_item first_spot items

-- as many blocks as hold so many keys
abbrev pub blocks : ℕ → ℕ
blocks count = (count + 15) / 16

-- how many bytes the keys before a block take
abbrev pub offset : List Item → ℕ → ℕ
offset items block = length (items_bytes (take (16 * block) items))

abbrev pub offsets : List Item → List ℕ
offsets items = map (offset items) (range_with_len 0 (blocks (length items)))

-- the one spelling of a segment
unfoldable pub segment_bytes : List Item → List ℕ
segment_bytes items =
    codes "CIS1" ++ (varint (length items) ++ (flat_map (to_be_bytes w32) (offsets items) ++ items_bytes items))

-- above the key before, where there is one
abbrev pub IsAfter : Option Key → Key → Type 0
IsAfter None key = ⊤
IsAfter (Some before) key = key_cmp before key ≡ Less

-- what may stand in a key: a word of the index, above the key before it, with some postings
pub record IsItemAt (spot : Spot) (item : Item) : Type 0 where
  pub key : IsIndexKey item.0
  pub text : IsUtf8 item.0.word
  pub after : IsAfter spot.before item.0
  pub some : item.1 ≢ []
  pub postings : IsSpelledPostings item.1
  pub few : length (postings_bytes item.1) < 2 ^ 64

-- the grammar: at least one key, and blocks that begin near enough for four bytes
pub record IsSegment (items : List Item) : Type 0 where
  pub some : items ≢ []
  pub few : length items < 2 ^ 64
  pub each : Follow IsItemAt after_item first_spot items
  pub near : AllByRecursion (λ o. o < 2 ^ 32) (offsets items)

-- keys that a segment can be made of: at least one, in their order, each a key of the index with some postings
pub record AreSegmentKeys (items : List Item) : Type 0 where
  pub some : items ≢ []
  pub ascend : Ascends (λ item. item.0) key_cmp items
  pub each : All (λ item. IsIndexKey item.0) items
  pub listed : All (λ item. item.1 ≢ []) items
  pub postings : All (λ item. IsPostings item.1) items
