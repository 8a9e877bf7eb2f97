-- Disks in memory, as their contracts see them.
use Rattle.std.specs.Prelude.{◌≡◌, ◌⊎◌, ℕ, ◌+◌, ◌<◌, ◌≤◌, max, List, [], ◌∷◌, Contains, length, slice_index, drop}
use Rattle.std.proofs.Common.{inl, inr}
use Rattle.ci_io.specs.Causes.{one_more}
use Rattle.ci_device.specs.Images.{Range, Reaches}
use Rattle.ci_device.specs.declared.pick.Pick.{Pick}
use Rattle.ci_device.specs.declared.pick.Pick.TheVariants.{Old, New, Filled}

-- the bytes as they read and as the last sync left them, the ranges of all writes since, the newest first, the most bytes
-- that there may be, and how much of the room the calls so far took
pub record PlatterState : Type 0 where
  pub bytes : List ℕ
  pub synced : List ℕ
  pub writes : List Range
  pub room : ℕ
  pub used : ℕ

-- a disk that fails only for want of room: its platter, the platters of its past, the oldest first, and how many calls failed
pub record SureDiskState : Type 0 where
  pub platter : PlatterState
  pub past : List PlatterState
  pub faults : ℕ

-- a disk with a list of the calls that are to fail, counted from 0, the number of calls before it stops, and how many
-- calls were made
pub record DiskState : Type 0 where
  pub disk : SureDiskState
  pub fails : List ℕ
  pub stop : ℕ
  pub calls : ℕ

-- the next call is to fail: its number is listed, or the disk has stopped before it
abbrev pub IsToFail : DiskState → Type 0
IsToFail disk = Contains disk.fails disk.calls ⊎ (disk.stop ≤ disk.calls)

-- a call was counted, and what is to fail stays
pub record IsCounted (old new : DiskState) : Type 0 where
  pub calls : new.calls ≡ one_more old.calls
  pub fails : new.fails ≡ old.fails
  pub stop : new.stop ≡ old.stop
  pub room : new.disk.platter.room ≡ old.disk.platter.room

-- the room that a call takes beside the bytes that it writes
abbrev pub call_room : ℕ
call_room = 32

-- a call that writes n bytes up to a place has room
pub record HasRoom (platter : PlatterState) (end n : ℕ) : Type 0 where
  pub bytes : max (length platter.bytes) end ≤ platter.room
  pub calls : platter.used + call_room + n ≤ platter.room

-- the platter after a call that wrote n bytes, or none
abbrev pub charged : PlatterState → ℕ → PlatterState
charged platter n = record platter { used = platter.used + call_room + n }

-- what a stop may leave of a platter: all that was written, or what torn writes make of what was synced
abbrev pub IsLeft : PlatterState → List ℕ → Type 0
IsLeft platter image = (image ≡ platter.bytes) ⊎ Reaches platter.synced platter.writes image

-- a range is filled with one byte, and so is what lies between it and the old end
pub record Fills (at n byte : ℕ) (old new : List ℕ) : Type 0 where
  pub size : length new ≡ max (length old) (at + n)
  pub inside : (i : ℕ) → at ≤ i → i < at + n → slice_index new i ≡ byte
  pub behind : (i : ℕ) → length old ≤ i → i < at + n → slice_index new i ≡ byte
  pub below : (i : ℕ) → i < length old → i < at → slice_index new i ≡ slice_index old i
  pub above : (i : ℕ) → i < length old → at + n ≤ i → slice_index new i ≡ slice_index old i

-- each of these ranges was filled with one byte, the newest of them first
abbrev pub FilledFrom : ℕ → List ℕ → List Range → List ℕ → Type 0
FilledFrom byte synced [] image = image ≡ synced
FilledFrom byte synced (write ∷ earlier) image =
    (before : List ℕ) × FilledFrom byte synced earlier before × Fills write.0 write.1 byte before image

-- the image that is picked: as at the last sync, as written, or with each unsynced byte the given one
abbrev pub IsPicked : PlatterState → Pick → List ℕ → Type 0
IsPicked platter Old image = image ≡ platter.synced
IsPicked platter New image = image ≡ platter.bytes
IsPicked platter (Filled byte) image = FilledFrom byte platter.synced platter.writes image

-- a stop might have left it of one of these platters
abbrev pub WasLeft : List PlatterState → List ℕ → Type 0
WasLeft [] image = ⊥
WasLeft (platter ∷ past) image = IsLeft platter image ⊎ WasLeft past image

-- a stop since this moment might have left it; the moments count the platters of the past
abbrev pub IsLeftSince : SureDiskState → ℕ → List ℕ → Type 0
IsLeftSince disk t image = IsLeft disk.platter image ⊎ WasLeft (drop t disk.past) image

none_left : (past : List PlatterState) (image : List ℕ) → WasLeft (drop (length past) past) image → ⊥
none_left [] image left = left
none_left (platter ∷ past) image left = none_left past image left

only_the_last : (disk : SureDiskState) (image : List ℕ) (since : IsLeft disk.platter image ⊎ WasLeft (drop (length disk.past) disk.past) image) → IsLeft disk.platter image
only_the_last disk image (inl now) = now
only_the_last disk image (inr was) = absurd (none_left disk.past image was)

-- since the present moment there is no other
pub only_now : (disk : SureDiskState) (image : List ℕ) → IsLeftSince disk (length disk.past) image → IsLeft disk.platter image
only_now disk image since = only_the_last disk image since
