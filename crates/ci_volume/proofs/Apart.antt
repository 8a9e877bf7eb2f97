-- A generation, and a blank image, stand where pages are written that no chain has.
use Rattle.std.proofs.Common.{◌≡◌, inl, inr, ⊎_elim, ℕ, ◌+◌, ◌-◌, ◌<◌, ◌≤◌, Bool, true, false, List, Contains, length, sym, ◌∙◌, ap, subst, arith}
use Rattle.ci_pages.specs.Tables.{AllData}
use Rattle.ci_volume.specs.declared.slot.Slot.{Slot}
use Rattle.ci_volume.specs.Layout.{slot_of, slot_at, slot_place, slot_size, gate_place, HasSlot, IsCurrent, IsLesser, IsShut}
use Rattle.ci_volume.specs.Steps.{IsBeside, IsBlank, IsOlder, SparesOthers, StandsBeside}
use Rattle.ci_volume.proofs.Spared.{byte_spared, front_spared, pages_spared}

module _ (pages old new : List ℕ) (spared : SparesOthers pages old new) (data_pages : AllData 262144 pages) where
  longer : (m : ℕ) → m ≤ length old → m ≤ length new
  longer m within = omega (arith, within, spared.no_shorter)

  fields_kept : (which : ℕ) → which ≤ 1 → HasSlot old which → slot_at new which ≡ slot_at old which
  fields_kept which which_le within = ap slot_of (front_spared pages old new spared data_pages (slot_place which) slot_size (omega (arith, which_le)) within)

  shut_kept : (which : ℕ) → which ≤ 1 → 8 ≤ length old → IsShut old which → IsShut new which
  shut_kept which which_le long shut is_open = shut (sym (byte_spared pages old new spared data_pages (gate_place which) (omega (arith, which_le)) (omega (arith, which_le, long))) ∙ is_open)

  older_stays : (which generation : ℕ) → which ≤ 1 → IsOlder which generation old → IsOlder which generation new
  older_stays which generation which_le older = record {
    within = longer (slot_place which + slot_size) older.within;
    lesser = subst (λ (s : Slot). s.generation < generation) (sym (fields_kept which which_le older.within)) older.lesser;
  }

  lesser_kept : (which generation : ℕ) → which ≤ 1 → 8 < length old → IsLesser old which generation → IsLesser new which generation
  lesser_kept which generation which_le long = ⊎_elim
      (λ shut. inl (shut_kept which which_le (omega (arith, long)) shut))
      (λ less. inr (longer (slot_place which + slot_size) less.0, subst (λ (s : Slot). s.generation < generation) (sym (fields_kept which which_le less.0)) less.1))

  current_stays : (which : ℕ) (slot : Slot) → which ≤ 1 → IsCurrent old which slot → IsCurrent new which slot
  current_stays which slot which_le c = record {
    marked = front_spared pages old new spared data_pages 0 6 (omega arith) (omega (arith, c.long)) ∙ c.marked;
    long = omega (arith, c.long, spared.no_shorter);
    open_ = byte_spared pages old new spared data_pages (gate_place which) (omega (arith, which_le)) (omega (arith, which_le, c.long)) ∙ c.open_;
    within = longer (slot_place which + slot_size) c.within;
    fields = fields_kept which which_le c.within ∙ c.fields;
    other = λ b b_le b_apart. lesser_kept b slot.generation b_le c.long (c.other b b_le b_apart);
  }

  beside_stays : (b : Bool) (which generation : ℕ) → which ≤ 1 → 8 < length old → IsBeside b which generation old → IsBeside b which generation new
  beside_stays true which generation which_le long older = older_stays which generation which_le older
  beside_stays false which generation which_le long shut = shut_kept which which_le (omega (arith, long)) shut

  pub stands_apart : (b : Bool) (which : ℕ) (slot : Slot) (held base : List ℕ) → which ≤ 1 → ((page : ℕ) → Contains pages page → ¬ Contains held page)
      → StandsBeside b which slot held base old → StandsBeside b which slot held base new
  stands_apart b which slot held base which_le apart was = record {
    stands = record {
      current = current_stays (1 - which) slot (omega arith) was.stands.current;
      kept = pages_spared pages old new spared held base apart was.stands.kept;
    };
    beside = beside_stays b which slot.generation which_le was.stands.current.long was.beside;
  }

  pub blank_stays : IsBlank old → IsBlank new
  blank_stays was = record {
    long = longer 8 was.long;
    marked = front_spared pages old new spared data_pages 0 6 (omega arith) (omega (arith, was.long)) ∙ was.marked;
    first = shut_kept 0 (omega arith) was.long was.first;
    second = shut_kept 1 (omega arith) was.long was.second;
  }
