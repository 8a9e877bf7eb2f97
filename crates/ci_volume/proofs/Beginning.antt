-- What an image comes to while a new volume is written.
use Rattle.std.proofs.Common.{◌≡◌, inl, inr, ℕ, ◌+◌, ◌*◌, ◌<◌, ◌≤◌, List, [], ◌∷◌, length, slice_index, sym, ◌∙◌, ap, subst, arith}
use Rattle.std.proofs.lemmas.Bool.{cases_eq}
use Rattle.std.proofs.lemmas.List.Elements.{Contains-get_or}
use Rattle.ci_device.specs.Images.{Holds, Torn}
use Rattle.ci_pages.specs.Tables.{AllData}
use Rattle.ci_volume.specs.declared.slot.Slot.{Slot}
use Rattle.ci_volume.specs.Creation.{BlankOrFounded, IsFounded, IsReady}
use Rattle.ci_volume.specs.Layout.{part, slot_of, slot_at, slot_place, slot_size, page_bytes, HasSlot, IsFresh, IsLesser, IsOpen, IsShut}
use Rattle.ci_volume.specs.Runs.{IsRun, page_of}
use Rattle.ci_volume.specs.Steps.{IsBlank}
use Rattle.ci_volume.proofs.Parts.{byte_kept, holds_behind, part_held, part_kept, part_within}

-- the mark and two bytes 0
pub head_blank : (image : List ℕ) → Holds image 0 (67 ∷ 73 ∷ 67 ∷ 65 ∷ 84 ∷ 49 ∷ 0 ∷ 0 ∷ []) → IsBlank image
head_blank image holds = record {
  long = omega (arith, holds.within);
  marked = part_within image 0 (67 ∷ 73 ∷ 67 ∷ 65 ∷ 84 ∷ 49 ∷ 0 ∷ 0 ∷ []) holds 0 6 (omega arith);
  first = λ is_open. absurd (omega (arith, sym (holds.each 6 (omega arith)) ∙ is_open));
  second = λ is_open. absurd (omega (arith, sym (holds.each 7 (omega arith)) ∙ is_open));
}

pub blank_fresh : (image : List ℕ) → IsBlank image → IsFresh image
blank_fresh image blank = inr (blank.marked, blank.first, blank.second)

-- a write behind the gates
pub blank_behind : (at n : ℕ) (old new : List ℕ) → Torn at n old new → 8 ≤ at → IsBlank old → IsBlank new
blank_behind at n old new torn behind was = record {
  long = omega (arith, was.long, torn.no_shorter);
  marked = part_kept at n old new torn 0 6 (omega (arith, was.long)) (inl (omega (arith, behind))) ∙ was.marked;
  first = λ is_open. was.first (sym (byte_kept at n old new torn 6 (omega (arith, was.long)) (inl (omega (arith, behind)))) ∙ is_open);
  second = λ is_open. was.second (sym (byte_kept at n old new torn 7 (omega (arith, was.long)) (inl (omega (arith, behind)))) ∙ is_open);
}

-- a write in front of the pages that hold chains
pub run_behind : (at n : ℕ) (old new : List ℕ) → Torn at n old new → at + n ≤ 12288 → (pages bytes : List ℕ) → AllData 262144 pages → IsRun old pages bytes → IsRun new pages bytes
run_behind at n old new torn front pages bytes data_pages run i within =
    let page = slice_index pages i in
    let le = (data_pages page (Contains-get_or pages i 0 within)).0 in
    holds_behind at n old new (page_bytes * page) (page_of (slice_index pages (i + 1)) (part bytes (4092 * i) 4092)) torn (omega (arith, front, le)) (run i within)

-- the first slot is written where it is held
pub slot_filled : (image : List ℕ) (at : ℕ) (slot : Slot) (bytes : List ℕ) → at ≡ slot_place 0 → Holds image at bytes → length bytes ≡ slot_size → slot_of bytes ≡ slot
    → HasSlot image 0 × (slot_at image 0 ≡ slot)
slot_filled image at slot bytes place holds size reads =
    let held : part image at (length bytes) ≡ bytes = part_held image at bytes holds in
    let there : part image (slot_place 0) slot_size ≡ bytes = subst (λ (i : ℕ). part image i slot_size ≡ bytes) place (subst (λ (m : ℕ). part image at m ≡ bytes) size held) in
    (omega (arith, holds.within, place, size), ap slot_of there ∙ reads)

-- a write to the first gate of an image in which all else stands
module _ (slot : Slot) (root_pages root log : List ℕ) (root_data : AllData 262144 root_pages) (log_data : AllData 262144 log) (old new : List ℕ) (torn : Torn 6 1 old new)
    (was : IsReady slot root_pages root log old) where
  long : 8 < length old
  long = omega (arith, was.within)

  marked : part new 0 6 ≡ part old 0 6
  marked = part_kept 6 1 old new torn 0 6 (omega (arith, was.within)) (inl (omega arith))

  beside : IsShut new 1
  beside is_open = was.blank.second (sym (byte_kept 6 1 old new torn 7 (omega (arith, was.within)) (inr (omega arith))) ∙ is_open)

  pub founded : IsOpen new 0 → IsFounded slot root_pages root log new
  founded is_open = record {
    current = record {
      marked = marked ∙ was.blank.marked;
      long = omega (arith, long, torn.no_shorter);
      open_ = is_open;
      within = omega (arith, was.within, torn.no_shorter);
      fields = ap slot_of (part_kept 6 1 old new torn (slot_place 0) slot_size was.within (inr (omega arith))) ∙ was.fields;
      other = λ b b_le apart. let second : 1 ≡ b = omega (arith, b_le, apart) in subst (λ (w : ℕ). IsLesser new w slot.generation) second (inl beside);
    };
    beside = beside;
    root = run_behind 6 1 old new torn (omega arith) root_pages root root_data was.root;
    log = run_behind 6 1 old new torn (omega arith) log [] log_data was.log;
  }

  pub blank_or_founded : BlankOrFounded slot root_pages root log new
  blank_or_founded = elim (cases_eq (slice_index new 6) 90) [
    | inl is_open ↦ inr (founded is_open)
    | inr is_shut ↦ inl (record {
      long = omega (arith, was.blank.long, torn.no_shorter);
      marked = marked ∙ was.blank.marked;
      first = is_shut;
      second = beside;
    })
  ]
