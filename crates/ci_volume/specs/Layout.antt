-- The bytes of a volume. Page p begins at byte 4,096 times p. Page 0 has the mark and two gates, pages 1 and 2 the two
-- slots, and the pages from 3 on hold chains.
use Rattle.std.specs.Prelude.{◌≡◌, ◌⊎◌, ◌≢◌, ℕ, ◌+◌, ◌*◌, ◌<◌, ◌≤◌, List, [], ◌∷◌, ◌++◌, length, take, drop, slice_index}
use Rattle.byteorder.specs.Endian.{big_bytes, big_number}
use Rattle.ci_volume.specs.declared.slot.Slot.{Slot}

-- n bytes from a place on
abbrev pub part : List ℕ → ℕ → ℕ → List ℕ
part image at n = take n (drop at image)

-- the number in n bytes from a place on, the highest first
abbrev pub number_at : List ℕ → ℕ → ℕ → ℕ
number_at image at n = big_number n (part image at n)

-- `CICAT1`
abbrev pub mark : List ℕ
mark = 67 ∷ 73 ∷ 67 ∷ 65 ∷ 84 ∷ 49 ∷ []

abbrev pub page_bytes : ℕ
page_bytes = 4096

-- what a gate holds that is open; every other byte is a closed gate
abbrev pub open_gate : ℕ
open_gate = 90

-- where the gate and the fields of a slot stand
abbrev pub gate_place : ℕ → ℕ
gate_place which = 6 + which

abbrev pub slot_place : ℕ → ℕ
slot_place which = page_bytes * (which + 1)

-- the bytes of a slot's fields
abbrev pub slot_size : ℕ
slot_size = 20

abbrev pub slot_bytes : Slot → List ℕ
slot_bytes slot =
    (big_bytes 8 slot.generation ++ big_bytes 4 slot.pages) ++ big_bytes 4 slot.root ++ big_bytes 4 slot.length

abbrev pub slot_of : List ℕ → Slot
slot_of bytes = record {
  generation = number_at bytes 0 8;
  pages = number_at bytes 8 4;
  root = number_at bytes 12 4;
  length = number_at bytes 16 4;
}

-- what a slot has in an image
abbrev pub slot_at : List ℕ → ℕ → Slot
slot_at image which = slot_of (part image (slot_place which) slot_size)

abbrev pub IsMarked : List ℕ → Type 0
IsMarked image = part image 0 6 ≡ mark

abbrev pub IsOpen : List ℕ → ℕ → Type 0
IsOpen image which = slice_index image (gate_place which) ≡ open_gate

abbrev pub IsShut : List ℕ → ℕ → Type 0
IsShut image which = slice_index image (gate_place which) ≢ open_gate

-- the fields of a slot lie within the image
abbrev pub HasSlot : List ℕ → ℕ → Type 0
HasSlot image which = slot_place which + slot_size ≤ length image

-- no volume was ever opened in it: the image ends before the fields that a volume has, or no gate is open
abbrev pub IsFresh : List ℕ → Type 0
IsFresh image = (length image ≤ 8) ⊎ (IsMarked image × IsShut image 0 × IsShut image 1)

-- a slot that doesn't count beside one of this generation
abbrev pub IsLesser : List ℕ → ℕ → ℕ → Type 0
IsLesser image which generation =
    IsShut image which ⊎ (HasSlot image which × ((slot_at image which).generation < generation))

-- the slot that is current in an image: it is open, and the one beside it is shut or has a lesser generation
pub record IsCurrent (image : List ℕ) (which : ℕ) (slot : Slot) : Type 0 where
  pub marked : IsMarked image
  pub long : 8 < length image
  pub open_ : IsOpen image which
  pub within : HasSlot image which
  pub fields : slot_at image which ≡ slot
  pub other : (beside : ℕ) → beside ≤ 1 → beside ≢ which → IsLesser image beside slot.generation
