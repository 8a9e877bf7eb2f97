-- How a key is looked for: the keys of a block are compared one after the other with the key that is looked for, and of
-- each it is kept how many bytes of that key's word it begins with.
use Rattle.std.specs.Prelude.{◌≡◌, ◌≢◌, ℕ, ◌+◌, ◌*◌, ◌<◌, ◌≤◌, ◌==◌, Bool, true, false, Some, All, Contains, List, length, map, take, drop, slice_get, nat_lt, if◌then◌else◌}
use Rattle.std.specs.declared.cmp.Ordering.{Ordering}
use Rattle.std.specs.declared.cmp.Ordering.TheVariants.{Less, Greater}
use Rattle.std.specs.Cmp.Lexicographic.{slice_cmp}
use Rattle.std.specs.Ordering.{nat_cmp}
use Rattle.ci_keys.specs.Key.{key_cmp}
use Rattle.ci_keys.specs.declared.key.Key.{Key}
use Rattle.ci_segment.specs.Segment.{Item, blocks, common}
use Rattle.ci_segment.specs.SegmentReading.{Fields}

-- the place of a key: those before it are below the key, and none from there on is
pub record IsPlaceOf (items : List Item) (key : Key) (place : ℕ) : Type 0 where
  pub within : place ≤ length items
  pub below : All (λ item. key_cmp item.0 key ≡ Less) (take place items)
  pub above : All (λ item. key_cmp item.0 key ≢ Less) (drop place items)

-- a key as it lies, beside a key of which the one before it had so many bytes
abbrev pub compared : Fields → Key → ℕ → Ordering
compared f key same =
    if f.0 == key.property.0
    then (if nat_lt same f.1.0 then Less else if nat_lt f.1.0 same then Greater else slice_cmp nat_cmp f.1.1.0 (drop same key.word))
    else nat_cmp f.0 key.property.0

-- and how many bytes of it the key as it lies has
abbrev pub next_same : Fields → Key → ℕ → ℕ
next_same f key same =
    if f.0 == key.property.0
    then (if nat_lt same f.1.0 then same else if nat_lt f.1.0 same then 0 else same + common f.1.1.0 (drop same key.word))
    else 0

-- so many blocks begin at the key or below it
pub record IsBlockOf (items : List Item) (key : Key) (count : ℕ) : Type 0 where
  pub within : count ≤ blocks (length items)
  pub below : (before : ℕ) → before + 1 ≡ count → (item : Item) → slice_get items (16 * before) ≡ Some item → key_cmp item.0 key ≢ Greater
  pub above : count < blocks (length items) → (item : Item) → slice_get items (16 * count) ≡ Some item → key_cmp item.0 key ≡ Greater

-- the key stands at its place, or nowhere
pub record IsFoundAt (items : List Item) (key : Key) (place : ℕ) (found : Bool) : Type 0 where
  pub stands : IsPlaceOf items key place
  pub there : found ≡ true → slice_get (map (λ item. item.0) items) place ≡ Some key
  pub nowhere : found ≡ false → ¬ Contains (map (λ item. item.0) items) key
