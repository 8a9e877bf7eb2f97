-- A new volume: its root's chain in the pages from 3 on, behind it sixteen chained pages of zeros for a log, and generation 1.
use Rattle.std.specs.Prelude.{◌≡◌, ◌⊎◌, ℕ, ◌+◌, ◌*◌, ◌≤◌, List, [], length, replicate}
use Rattle.std.specs.List.{range_with_len}
use Rattle.ci_volume.specs.declared.slot.Slot.{Slot}
use Rattle.ci_volume.specs.Chain.{HoldsChain, IsChain, chain_bytes, content_bytes, pages_for}
use Rattle.ci_volume.specs.Layout.{HasSlot, IsCurrent, IsFresh, IsShut, slot_at}
use Rattle.ci_volume.specs.Opening.{Opens}
use Rattle.ci_volume.specs.Runs.{IsRun}
use Rattle.ci_volume.specs.Steps.{IsBlank}

-- how many pages the log of a new volume has
abbrev pub log_pages : ℕ
log_pages = 16

-- the pages of the root's chain, which has so many bytes, and those of the log's
abbrev pub root_chain : ℕ → List ℕ
root_chain size = range_with_len 3 (pages_for size)

abbrev pub log_chain : ℕ → List ℕ
log_chain size = range_with_len (3 + pages_for size) log_pages

-- what the first slot of a volume of so many pages has, whose root has so many bytes
abbrev pub first_slot : ℕ → ℕ → Slot
first_slot pages size = record { generation = 1; pages = pages; root = 3; length = size }

-- all of a new volume is written, its root's bytes into the one chain and zeros into the other, and no gate is open
pub record IsReady (slot : Slot) (pages bytes zeros image : List ℕ) : Type 0 where
  pub blank : IsBlank image
  pub within : HasSlot image 0
  pub fields : slot_at image 0 ≡ slot
  pub root : IsRun image pages bytes
  pub log : IsRun image zeros []

-- the same behind the opening of the first gate
pub record IsFounded (slot : Slot) (pages bytes zeros image : List ℕ) : Type 0 where
  pub current : IsCurrent image 0 slot
  pub beside : IsShut image 1
  pub root : IsRun image pages bytes
  pub log : IsRun image zeros []

-- no gate is open yet, or the volume is founded
abbrev pub BlankOrFounded : Slot → List ℕ → List ℕ → List ℕ → List ℕ → Type 0
BlankOrFounded slot pages bytes zeros image = IsBlank image ⊎ IsFounded slot pages bytes zeros image

-- fresh, or the volume is founded
abbrev pub FreshOrFounded : Slot → List ℕ → List ℕ → List ℕ → List ℕ → Type 0
FreshOrFounded slot pages bytes zeros image = IsFresh image ⊎ IsFounded slot pages bytes zeros image

-- the image is a new volume of so many pages: it opens to generation 1, its root has these bytes, and its log zeros
pub record IsNew (pages : ℕ) (bytes image : List ℕ) : Type 0 where
  pub opens : Opens image 0 (first_slot pages (length bytes)) (root_chain (length bytes))
  pub root : HoldsChain image pages 3 bytes (root_chain (length bytes))
  pub log : IsChain image pages (3 + pages_for (length bytes)) (content_bytes * log_pages) (log_chain (length bytes))
  pub zeros : (n : ℕ) → n ≤ content_bytes * log_pages → chain_bytes image (log_chain (length bytes)) n ≡ replicate n 0

-- fresh, or the new volume
abbrev pub FreshOrNew : ℕ → List ℕ → List ℕ → Type 0
FreshOrNew pages bytes image = IsFresh image ⊎ IsNew pages bytes image
