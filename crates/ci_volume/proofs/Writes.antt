-- What a generation comes to under a write to a gate or to the slot beside the current one.
use Rattle.std.proofs.Common.{◌≡◌, ◌≢◌, ◌⊎◌, inl, inr, ⊎_elim, ℕ, zero, suc, ◌+◌, ◌-◌, ◌*◌, ◌<◌, ◌≤◌, List, [], ◌∷◌, length, slice_index, true, false, add-zero, sym, ◌∙◌, ap, subst, arith}
use Rattle.std.proofs.lemmas.Bool.{cases_eq, cases_lt}
use Rattle.ci_device.specs.Images.{Holds, Torn}
use Rattle.ci_volume.specs.declared.slot.Slot.{Slot}
use Rattle.ci_volume.specs.Layout.{part, slot_of, slot_at, slot_place, slot_size, gate_place, open_gate, page_bytes, HasSlot, IsCurrent, IsLesser, IsOpen, IsShut}
use Rattle.ci_volume.specs.Chain.{SamePages}
use Rattle.ci_volume.specs.Steps.{EachLeft, IsTornFrom, Stands, StandsBeside, IsOlder, IsWritten, StandsEither}
use Rattle.ci_volume.proofs.Parts.{byte_kept, part_held, part_kept}

-- there are two slots
pub the_other : (k j b : ℕ) → k ≤ 1 → j ≤ 1 → k ≢ j → b ≤ 1 → b ≢ k → j ≡ b
the_other k j b k_le j_le apart b_le other = omega (arith, k_le, j_le, apart, b_le, other)

apart_places : (k j : ℕ) → k ≢ j → (gate_place k < gate_place j) ⊎ (gate_place j + 1 ≤ gate_place k)
apart_places k j apart = ⊎_elim (λ less. inl (omega (arith, less))) (λ more. inr (omega (arith, more, apart))) (cases_lt k j)

-- the pages that hold chains lie behind the slots
pub pages_kept : (at n : ℕ) (pages base old new : List ℕ) → Torn at n old new → at + n ≤ 12288 → SamePages pages base old → SamePages pages base new
pages_kept at n pages base old new torn front same page contained =
    let (data_page, within, bytes) = same page contained in
    let behind : at + n ≤ page_bytes * page = omega (arith, front, data_page) in (
      data_page,
      omega (arith, within, torn.no_shorter),
      part_kept at n old new torn (page_bytes * page) page_bytes (omega (arith, within)) (inr behind) ∙ bytes,
    )

slot_kept : (at n : ℕ) (old new : List ℕ) (which : ℕ) → Torn at n old new → HasSlot old which
    → (slot_place which + slot_size ≤ at) ⊎ (at + n ≤ slot_place which) → slot_at new which ≡ slot_at old which
slot_kept at n old new which torn within apart = ap slot_of (part_kept at n old new torn (slot_place which) slot_size within apart)

longer : (at n : ℕ) (old new : List ℕ) (m : ℕ) → Torn at n old new → m ≤ length old → m ≤ length new
longer at n old new m torn le = omega (arith, le, torn.no_shorter)

older_kept : (at n : ℕ) (old new : List ℕ) (which generation : ℕ) → Torn at n old new
    → (slot_place which + slot_size ≤ at) ⊎ (at + n ≤ slot_place which) → IsOlder which generation old → IsOlder which generation new
older_kept at n old new which generation torn apart older = record {
  within = longer at n old new (slot_place which + slot_size) torn older.within;
  lesser = subst (λ (slot : Slot). slot.generation < generation) (sym (slot_kept at n old new which torn older.within apart)) older.lesser;
}

module _ (k j : ℕ) (k_le : k ≤ 1) (j_le : j ≤ 1) (apart : k ≢ j) where
  gate_before : (which : ℕ) → (slot_place which + slot_size ≤ gate_place j) ⊎ (gate_place j + 1 ≤ slot_place which)
  gate_before which = inr (omega (arith, j_le))

  -- a write to the other gate leaves the current slot what it is, whatever the gate has then
  current_kept : (slot : Slot) (old new : List ℕ) → Torn (gate_place j) 1 old new → IsCurrent old k slot
      → ((b : ℕ) → b ≤ 1 → b ≢ k → IsLesser new b slot.generation) → IsCurrent new k slot
  current_kept slot old new torn current other = record {
    marked = part_kept (gate_place j) 1 old new torn 0 6 (omega (arith, current.long)) (inl (omega arith)) ∙ current.marked;
    long = omega (arith, current.long, torn.no_shorter);
    open_ = byte_kept (gate_place j) 1 old new torn (gate_place k) (omega (arith, current.long, k_le)) (apart_places k j apart) ∙ current.open_;
    within = longer (gate_place j) 1 old new (slot_place k + slot_size) torn current.within;
    fields = slot_kept (gate_place j) 1 old new k torn current.within (gate_before k) ∙ current.fields;
    other = other;
  }

  kept_pages : (pages base old new : List ℕ) → Torn (gate_place j) 1 old new → SamePages pages base old → SamePages pages base new
  kept_pages pages base old new torn same = pages_kept (gate_place j) 1 pages base old new torn (omega (arith, j_le)) same

  -- the gate of an older slot may have any byte
  pub gate_shuts : (slot : Slot) (pages base old new : List ℕ) → Torn (gate_place j) 1 old new → Stands k slot pages base old
      → IsOlder j slot.generation old → Stands k slot pages base new
  gate_shuts slot pages base old new torn stands older = record {
    current = current_kept slot old new torn stands.current other;
    kept = kept_pages pages base old new torn stands.kept;
  }
    where
      still : IsOlder j slot.generation new
      still = older_kept (gate_place j) 1 old new j slot.generation torn (gate_before j) older

      other : (b : ℕ) → b ≤ 1 → b ≢ k → IsLesser new b slot.generation
      other b b_le b_apart = subst (λ (w : ℕ). IsLesser new w slot.generation) (the_other k j b k_le j_le apart b_le b_apart) (inr (still.within, still.lesser))

  -- with any byte in its gate, the written slot is the current one, or it is shut
  pub gate_opens : (slot next : Slot) (pages base old new : List ℕ) → Torn (gate_place j) 1 old new → Stands k slot pages base old
      → HasSlot old j → slot_at old j ≡ next → slot.generation < next.generation
      → Stands k slot pages base new ⊎ Stands j next pages base new
  gate_opens slot next pages base old new torn stands within fields later = elim (cases_eq (slice_index new (gate_place j)) open_gate) [
    | inl is_open ↦ inr (record { current = now_current is_open; kept = kept_pages pages base old new torn stands.kept })
    | inr is_shut ↦ inl (record {
      current = current_kept slot old new torn stands.current (λ b b_le b_apart. shut_other is_shut b b_le b_apart);
      kept = kept_pages pages base old new torn stands.kept;
    })
  ]
    where
      shut_other : IsShut new j → (b : ℕ) → b ≤ 1 → b ≢ k → IsLesser new b slot.generation
      shut_other is_shut b b_le b_apart = subst (λ (w : ℕ). IsLesser new w slot.generation) (the_other k j b k_le j_le apart b_le b_apart) (inl is_shut)

      c : IsCurrent old k slot
      c = stands.current

      same_k : slot_at new k ≡ slot
      same_k = slot_kept (gate_place j) 1 old new k torn c.within (gate_before k) ∙ c.fields

      lesser_k : IsLesser new k next.generation
      lesser_k = inr (
        longer (gate_place j) 1 old new (slot_place k + slot_size) torn c.within,
        subst (λ (s : Slot). s.generation < next.generation) (sym same_k) later,
      )

      not_j : (b : ℕ) → b ≤ 1 → b ≢ j → k ≡ b
      not_j b b_le b_apart = the_other j k b j_le k_le (λ same. apart (sym same)) b_le b_apart

      now_current : IsOpen new j → IsCurrent new j next
      now_current is_open = record {
        marked = part_kept (gate_place j) 1 old new torn 0 6 (omega (arith, c.long)) (inl (omega arith)) ∙ c.marked;
        long = omega (arith, c.long, torn.no_shorter);
        open_ = is_open;
        within = longer (gate_place j) 1 old new (slot_place j + slot_size) torn within;
        fields = slot_kept (gate_place j) 1 old new j torn within (gate_before j) ∙ fields;
        other = λ b b_le b_apart. subst (λ (w : ℕ). IsLesser new w next.generation) (not_j b b_le b_apart) lesser_k;
      }

  -- with the byte of an open gate in it, it is the current one
  pub gate_opened : (slot next : Slot) (pages base old new : List ℕ) → Torn (gate_place j) 1 old new → Stands k slot pages base old
      → HasSlot old j → slot_at old j ≡ next → slot.generation < next.generation → IsOpen new j → Stands j next pages base new
  gate_opened slot next pages base old new torn stands within fields later is_open =
      elim (gate_opens slot next pages base old new torn stands within fields later) [
        | inl before ↦ absurd (not_before before)
        | inr after ↦ after
      ]
    where
      same_j : slot_at new j ≡ next
      same_j = slot_kept (gate_place j) 1 old new j torn within (gate_before j) ∙ fields

      not_before : Stands k slot pages base new → ⊥
      not_before before = ⊎_elim
          (λ shut. shut is_open)
          (λ older. let less : next.generation < slot.generation = subst (λ (s : Slot). s.generation < slot.generation) same_j (older.1) in omega (arith, less, later))
          (before.current.other j j_le (λ same. apart (sym same)))

  -- the slot that was current is older then
  pub older_beside : (slot next : Slot) (pages base old new : List ℕ) → Torn (gate_place j) 1 old new → Stands k slot pages base old
      → slot.generation < next.generation → IsOlder k next.generation new
  older_beside slot next pages base old new torn stands later = record {
    within = longer (gate_place j) 1 old new (slot_place k + slot_size) torn stands.current.within;
    lesser = subst (λ (s : Slot). s.generation < next.generation)
        (sym (slot_kept (gate_place j) 1 old new k torn stands.current.within (gate_before k) ∙ stands.current.fields)) later;
  }

  slots_apart : (slot_place k + slot_size ≤ slot_place j) ⊎ (slot_place j + slot_size ≤ slot_place k)
  slots_apart = ⊎_elim (λ less. inl (omega (arith, less))) (λ more. inr (omega (arith, more, apart))) (cases_lt k j)

  pub still_shut : (old new : List ℕ) → Torn (slot_place j) slot_size old new → 8 < length old → IsShut old j → IsShut new j
  still_shut old new torn long shut is_open =
      shut (sym (byte_kept (slot_place j) slot_size old new torn (gate_place j) (omega (arith, long, j_le)) (inl (omega (arith, j_le)))) ∙ is_open)

  -- a write to the slot whose gate is shut
  pub slot_written : (slot : Slot) (pages base old new : List ℕ) → Torn (slot_place j) slot_size old new → Stands k slot pages base old
      → IsShut old j → Stands k slot pages base new
  slot_written slot pages base old new torn stands shut = record {
    current = record {
      marked = part_kept (slot_place j) slot_size old new torn 0 6 (omega (arith, c.long)) (inl (omega arith)) ∙ c.marked;
      long = omega (arith, c.long, torn.no_shorter);
      open_ = byte_kept (slot_place j) slot_size old new torn (gate_place k) (omega (arith, c.long, k_le)) (inl (omega (arith, k_le))) ∙ c.open_;
      within = longer (slot_place j) slot_size old new (slot_place k + slot_size) torn c.within;
      fields = slot_kept (slot_place j) slot_size old new k torn c.within slots_apart ∙ c.fields;
      other = λ b b_le b_apart. subst (λ (w : ℕ). IsLesser new w slot.generation) (the_other k j b k_le j_le apart b_le b_apart) (inl (still_shut old new torn c.long shut));
    };
    kept = pages_kept (slot_place j) slot_size pages base old new torn (omega (arith, j_le)) stands.kept;
  }
    where
      c : IsCurrent old k slot
      c = stands.current

beside_le : (j : ℕ) → 1 - j ≤ 1
beside_le j = omega arith

beside_apart : (j : ℕ) → j ≤ 1 → 1 - j ≢ j
beside_apart j le same = omega (arith, le, same)

-- one byte that is held
pub held_byte : (image : List ℕ) (at b : ℕ) → Holds image at (b ∷ []) → slice_index image at ≡ b
held_byte image at b holds = subst (λ (i : ℕ). slice_index image i ≡ b) (add-zero at) (holds.each 0 (omega arith))

module _ (before : List ℕ → Type 0) (at j : ℕ) (le : j ≤ 1) (image : List ℕ) where
  -- an image behind a write of a byte to a gate
  gate_torn : (from : IsTornFrom before at 1 image) → at ≡ gate_place j → Torn (gate_place j) 1 from.0 image
  gate_torn from place = subst (λ (i : ℕ). Torn i 1 from.0 image) place from.2

  pub shut_from : at ≡ gate_place j → (slot : Slot) (pages base : List ℕ) → EachLeft before (StandsBeside true j slot pages base)
      → IsTornFrom before at 1 image → Stands (1 - j) slot pages base image
  shut_from place slot pages base each from =
      let was = each from.0 from.1 in
      gate_shuts (1 - j) j (beside_le j) le (beside_apart j le) slot pages base from.0 image (gate_torn from place) was.stands was.beside

  pub opens_from : at ≡ gate_place j → (slot next : Slot) (pages base : List ℕ) → EachLeft before (IsWritten j slot next pages base)
      → IsTornFrom before at 1 image → StandsEither j slot next pages base image
  opens_from place slot next pages base each from =
      let was = each from.0 from.1 in
      gate_opens (1 - j) j (beside_le j) le (beside_apart j le) slot next pages base from.0 image (gate_torn from place) was.stands was.within was.fields was.later

  pub opened_from : at ≡ gate_place j → (slot next : Slot) (pages base : List ℕ) → EachLeft before (IsWritten j slot next pages base)
      → IsTornFrom before at 1 image → IsOpen image j → Stands j next pages base image
  opened_from place slot next pages base each from is_open =
      let was = each from.0 from.1 in
      gate_opened (1 - j) j (beside_le j) le (beside_apart j le) slot next pages base from.0 image (gate_torn from place) was.stands was.within was.fields was.later is_open

  pub older_from : at ≡ gate_place j → (slot next : Slot) (pages base : List ℕ) → EachLeft before (IsWritten j slot next pages base)
      → IsTornFrom before at 1 image → IsOlder (1 - j) next.generation image
  older_from place slot next pages base each from =
      let was = each from.0 from.1 in
      older_beside (1 - j) j (beside_le j) le (beside_apart j le) slot next pages base from.0 image (gate_torn from place) was.stands was.later

module _ (before : List ℕ → Type 0) (at n j : ℕ) (size : n ≡ slot_size) (le : j ≤ 1) (image : List ℕ) where
  -- an image behind a write to a slot
  slot_torn : (from : IsTornFrom before at n image) → at ≡ slot_place j → Torn (slot_place j) slot_size from.0 image
  slot_torn from place = subst (λ (m : ℕ). Torn (slot_place j) m from.0 image) size (subst (λ (i : ℕ). Torn i n from.0 image) place from.2)

  pub filled_from : at ≡ slot_place j → (slot : Slot) (pages base : List ℕ) → EachLeft before (StandsBeside false j slot pages base)
      → IsTornFrom before at n image → StandsBeside false j slot pages base image
  filled_from place slot pages base each from =
      let was = each from.0 from.1 in
      let torn = slot_torn from place in
      record {
        stands = slot_written (1 - j) j (beside_le j) le (beside_apart j le) slot pages base from.0 image torn was.stands was.beside;
        beside = still_shut (1 - j) j (beside_le j) le (beside_apart j le) from.0 image torn was.stands.current.long was.beside;
      }

  -- where the fields of the next generation are held
  pub written_from : at ≡ slot_place j → (slot next : Slot) (pages base bytes : List ℕ) → EachLeft before (StandsBeside false j slot pages base)
      → IsTornFrom before at n image → Holds image at bytes → length bytes ≡ n → slot_of bytes ≡ next
      → slot.generation < next.generation → IsWritten j slot next pages base image
  written_from place slot next pages base bytes each from holds long reads later =
      let now = filled_from place slot pages base each from in
      let held : part image at (length bytes) ≡ bytes = part_held image at bytes holds in
      let there : part image (slot_place j) slot_size ≡ bytes = subst (λ (i : ℕ). part image i slot_size ≡ bytes) place (subst (λ (m : ℕ). part image at m ≡ bytes) (long ∙ size) held) in
      record {
        stands = now.stands;
        shut = now.beside;
        within = omega (arith, holds.within, place, long, size);
        fields = ap slot_of there ∙ reads;
        later = later;
      }

-- where neither slot is current, none is
pub none_of_both : (image : List ℕ) → ((slot : Slot) → ¬ IsCurrent image 0 slot) → ((slot : Slot) → ¬ IsCurrent image 1 slot)
    → (which : ℕ) (slot : Slot) → which ≤ 1 → ¬ IsCurrent image which slot
none_of_both image first second zero slot le = first slot
none_of_both image first second (suc zero) slot le = second slot
none_of_both image first second (suc (suc n)) slot le = absurd (omega (arith, le))
