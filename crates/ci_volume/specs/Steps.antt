-- What a stop leaves while a volume goes from one generation to the next.
use Rattle.std.specs.Prelude.{◌≡◌, ◌⊎◌, ℕ, ◌+◌, ◌-◌, ◌*◌, Contains, slice_index, ◌<◌, ◌≤◌, Bool, true, false, List, length}
use Rattle.ci_device.specs.Images.{NoMore, Torn}
use Rattle.ci_device.specs.Time.{LeavesOnly}
use Rattle.ci_volume.specs.declared.slot.Slot.{Slot}
use Rattle.ci_volume.specs.Layout.{HasSlot, IsCurrent, IsMarked, IsShut, page_bytes, slot_at}
use Rattle.ci_volume.specs.Chain.{SamePages}

-- each image that a stop may leave has P
abbrev pub EachLeft : (List ℕ → Type 0) → (List ℕ → Type 0) → Type 0
EachLeft images P = (image : List ℕ) → images image → P image

-- a torn write of n bytes at a place made it of an image that a stop might leave before
abbrev pub IsTornFrom : (List ℕ → Type 0) → ℕ → ℕ → List ℕ → Type 0
IsTornFrom before at n image = (earlier : List ℕ) × before earlier × Torn at n earlier image

-- a place in none of these pages
abbrev pub IsOutside : List ℕ → ℕ → Type 0
IsOutside pages i = (page : ℕ) → Contains pages page → (i < page_bytes * page) ⊎ (page_bytes * page + page_bytes ≤ i)

-- only these pages may differ, and what lies past the old end
pub record SparesOthers (pages old new : List ℕ) : Type 0 where
  pub no_shorter : length old ≤ length new
  pub same : (i : ℕ) → i < length old → IsOutside pages i → slice_index new i ≡ slice_index old i

-- writes to these pages, cut short or not, made it of an image that a stop might leave before
abbrev pub IsSparedFrom : (List ℕ → Type 0) → List ℕ → List ℕ → Type 0
IsSparedFrom before pages image = (earlier : List ℕ) × before earlier × SparesOthers pages earlier image

-- a generation stands in an image: its slot is current, and these pages have what they have in the base
pub record Stands (which : ℕ) (slot : Slot) (pages base image : List ℕ) : Type 0 where
  pub current : IsCurrent image which slot
  pub kept : SamePages pages base image

-- the fields of a slot have a lesser generation, whatever its gate
pub record IsOlder (which generation : ℕ) (image : List ℕ) : Type 0 where
  pub within : HasSlot image which
  pub lesser : (slot_at image which).generation < generation

-- the slot beside the current one: its gate may be open and it is older, or its gate is shut
abbrev pub IsBeside : Bool → ℕ → ℕ → List ℕ → Type 0
IsBeside true which generation image = IsOlder which generation image
IsBeside false which generation image = IsShut image which

-- a generation stands, and the slot beside it is as told
pub record StandsBeside (may_be_open : Bool) (which : ℕ) (slot : Slot) (pages base image : List ℕ) : Type 0 where
  pub stands : Stands (1 - which) slot pages base image
  pub beside : IsBeside may_be_open which slot.generation image

-- a generation stands, and the next one is written into the slot beside it, whose gate is shut
pub record IsWritten (which : ℕ) (slot next : Slot) (pages base image : List ℕ) : Type 0 where
  pub stands : Stands (1 - which) slot pages base image
  pub shut : IsShut image which
  pub within : HasSlot image which
  pub fields : slot_at image which ≡ next
  pub later : slot.generation < next.generation

-- one generation stands, or the other
abbrev pub StandsEither : ℕ → Slot → Slot → List ℕ → List ℕ → List ℕ → Type 0
StandsEither which slot next pages base image =
    Stands (1 - which) slot pages base image ⊎ Stands which next pages base image

-- a marked image in which no gate is open
pub record IsBlank (image : List ℕ) : Type 0 where
  pub long : 8 ≤ length image
  pub marked : IsMarked image
  pub first : IsShut image 0
  pub second : IsShut image 1

-- a call that only reads: the bytes stay, and at no moment a stop leaves an image that it might not leave before
pub record Stays {D : Type 0} (seen : D → List ℕ) (may_leave : D → List ℕ → Type 0) (moment : D → ℕ) (left_since : D → ℕ → List ℕ → Type 0) (honest : D → Bool) (old new : D) : Type 0 where
  pub bytes : seen new ≡ seen old
  pub images : NoMore (may_leave old) (may_leave new)
  pub any_moment : LeavesOnly moment left_since old new (may_leave old)
  pub honesty : honest new ≡ honest old
