-- What a reader finds of an image's gates and slots.
use Rattle.std.specs.Prelude.{◌≡◌, ◌↔◌, ℕ, ◌-◌, ◌<◌, ◌≤◌, IsTrue, List, Option, Some, None, length}
use Rattle.ci_volume.specs.declared.found.Found.{Found}
use Rattle.ci_volume.specs.declared.found.Head.{Head}
use Rattle.ci_volume.specs.declared.told.Current.{Current}
use Rattle.ci_volume.specs.declared.slot.Slot.{Slot}
use Rattle.ci_volume.specs.Layout.{HasSlot, IsCurrent, IsMarked, IsOpen, slot_at}

-- the image has the mark and more bytes than that and two gates
abbrev pub HasHead : List ℕ → Type 0
HasHead image = IsMarked image × (8 < length image)

-- whether the gates are open, in an image that has them
pub record IsHead (image : List ℕ) (head : Head) : Type 0 where
  pub has : HasHead image
  pub size : head.length ≡ length image
  pub first : IsTrue head.first_is_open ↔ IsOpen image 0
  pub second : IsTrue head.second_is_open ↔ IsOpen image 1

-- the fields of a slot, where they lie within the image
abbrev pub IsSlotOf : List ℕ → ℕ → Option Slot → Type 0
IsSlotOf image which None = ¬ HasSlot image which
IsSlotOf image which (Some slot) = HasSlot image which × (slot ≡ slot_at image which)

-- the gate and the fields of a slot
pub record IsFound (image : List ℕ) (which : ℕ) (found : Found) : Type 0 where
  pub gate : IsTrue found.is_open ↔ IsOpen image which
  pub fields : IsSlotOf image which found.slot

-- the slot that is current in an image of this length, and whether the gate beside it is open
pub record IsTold (image : List ℕ) (told : Current) : Type 0 where
  pub number : told.which ≤ 1
  pub current : IsCurrent image told.which told.slot
  pub size : told.length ≡ length image
  pub beside : IsTrue told.may_be_open ↔ IsOpen image (1 - told.which)

-- no slot is current
abbrev pub HasNone : List ℕ → Type 0
HasNone image = (which : ℕ) (slot : Slot) → which ≤ 1 → ¬ IsCurrent image which slot
