-- A slot that was spelled is read again.
use Rattle.std.proofs.Common.{◌≡◌, ◌<◌, ◌^◌, []}
use Rattle.byteorder.specs.Numbers.{big_number-reads_back}
use Rattle.ci_volume.specs.declared.slot.Slot.{Slot}
use Rattle.ci_volume.specs.Layout.{number_at, slot_bytes, slot_of}

-- each number fits its bytes
pub record Fits (s : Slot) : Type 0 where
  pub generation : s.generation < 256 ^ 8
  pub pages : s.pages < 256 ^ 4
  pub root : s.root < 256 ^ 4
  pub length : s.length < 256 ^ 4

pub slot_reads : (s : Slot) → Fits s → slot_of (slot_bytes s) ≡ s
slot_reads s fits =
    let generation : number_at (slot_bytes s) 0 8 ≡ s.generation = big_number-reads_back 8 s.generation [] fits.generation in
    let pages : number_at (slot_bytes s) 8 4 ≡ s.pages = big_number-reads_back 4 s.pages [] fits.pages in
    let root : number_at (slot_bytes s) 12 4 ≡ s.root = big_number-reads_back 4 s.root [] fits.root in
    let length : number_at (slot_bytes s) 16 4 ≡ s.length = big_number-reads_back 4 s.length [] fits.length in
    λ i. record { generation = generation i; pages = pages i; root = root i; length = length i }
