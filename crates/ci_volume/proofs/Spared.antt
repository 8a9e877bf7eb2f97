-- What writes to some pages leave of an image.
use Rattle.std.proofs.Common.{◌≡◌, ◌≢◌, ◌⊎◌, inl, inr, ⊎_elim, ℕ, ◌+◌, ◌*◌, ◌<◌, ◌≤◌, List, Contains, length, slice_index, get_or, refl, sym, ◌∙◌, subst, arith}
use Rattle.std.proofs.lemmas.Bool.{cases_lt}
use Rattle.std.proofs.lemmas.List.{ext_get_or}
use Rattle.std.proofs.lemmas.List.Elements.{Contains-get_or}
use Rattle.ci_device.specs.Images.{Holds, Torn}
use Rattle.ci_pages.specs.Tables.{AllData}
use Rattle.ci_volume.specs.Layout.{part, page_bytes}
use Rattle.ci_volume.specs.Chain.{SamePages}
use Rattle.ci_volume.specs.Runs.{IsRun}
use Rattle.ci_volume.specs.Steps.{IsOutside, SparesOthers}
use Rattle.ci_volume.proofs.Parts.{byte_kept, length-part, part-at}
use Rattle.ci_volume.proofs.Spelled.{length-page_of}

pub spared_none : (pages image : List ℕ) → SparesOthers pages image image
spared_none pages image = record { no_shorter = omega arith; same = λ i within outside. refl }

pub spared_page : (pages : List ℕ) (page : ℕ) (old new : List ℕ) → Contains pages page → Torn (page_bytes * page) page_bytes old new → SparesOthers pages old new
spared_page pages page old new contained torn = record {
  no_shorter = torn.no_shorter;
  same = λ i within outside. byte_kept (page_bytes * page) page_bytes old new torn i within (outside page contained);
}

pub spared_then : (pages old mid new : List ℕ) → SparesOthers pages old mid → SparesOthers pages mid new → SparesOthers pages old new
spared_then pages old mid new first second = record {
  no_shorter = omega (arith, first.no_shorter, second.no_shorter);
  same = λ i within outside. second.same i (omega (arith, within, first.no_shorter)) outside ∙ first.same i within outside;
}

apart_pages : (page q : ℕ) → q ≢ page → (page_bytes * q + page_bytes ≤ page_bytes * page) ⊎ (page_bytes * page + page_bytes ≤ page_bytes * q)
apart_pages page q apart = ⊎_elim (λ less. inl (omega (arith, less))) (λ more. inr (omega (arith, more, apart))) (cases_lt q page)

-- what is held in another page stays
pub holds_apart : (page : ℕ) (old new : List ℕ) → Torn (page_bytes * page) page_bytes old new → (q : ℕ) (bytes : List ℕ) → q ≢ page → length bytes ≤ page_bytes
    → Holds old (page_bytes * q) bytes → Holds new (page_bytes * q) bytes
holds_apart page old new torn q bytes apart size holds = record {
  within = omega (arith, holds.within, torn.no_shorter);
  each = λ i below.
      byte_kept (page_bytes * page) page_bytes old new torn (page_bytes * q + i) (omega (arith, below, holds.within))
      (⊎_elim (λ before. inl (omega (arith, before, below, size))) (λ behind. inr (omega (arith, behind))) (apart_pages page q apart))
      ∙ holds.each i below;
}

module _ (pages old new : List ℕ) (spared : SparesOthers pages old new) where
  -- a part that lies in none of the pages
  pub part_spared : (place size : ℕ) → place + size ≤ length old → ((i : ℕ) → i < size → IsOutside pages (place + i)) → part new place size ≡ part old place size
  part_spared place size within outside =
      let longer : length (part new place size) ≡ size = length-part new place size (omega (arith, within, spared.no_shorter)) in
      ext_get_or 0 (part new place size) (part old place size) (longer ∙ sym (length-part old place size within)) (λ i below. same i (omega (arith, below, longer)))
    where
      same : (i : ℕ) → i < size → get_or (part new place size) i 0 ≡ get_or (part old place size) i 0
      same i below = part-at new place size i below ∙ spared.same (place + i) (omega (arith, below, within)) (outside i below) ∙ sym (part-at old place size i below)

  -- a place of a page that isn't one of them
  in_other : (q i : ℕ) → ¬ Contains pages q → i < page_bytes → IsOutside pages (page_bytes * q + i)
  in_other q i not below page contained =
      let apart : q ≢ page = λ same. not (subst (Contains pages) (sym same) contained) in
      ⊎_elim (λ before. inl (omega (arith, before, below))) (λ behind. inr (omega (arith, behind))) (apart_pages page q apart)

  -- chains that have none of them keep their pages
  pub pages_spared : (held base : List ℕ) → ((page : ℕ) → Contains pages page → ¬ Contains held page) → SamePages held base old → SamePages held base new
  pages_spared held base apart same q contained =
      let (data_page, within, bytes) = same q contained in (
        data_page,
        omega (arith, within, spared.no_shorter),
        part_spared (page_bytes * q) page_bytes (omega (arith, within)) (λ i below. in_other q i (λ here. apart q here contained) below) ∙ bytes,
      )

  -- a run that has none of them stays
  pub run_spared : (run bytes : List ℕ) → ((page : ℕ) → Contains pages page → ¬ Contains run page) → IsRun old run bytes → IsRun new run bytes
  run_spared run bytes apart was i within =
      let q = slice_index run i in
      let holds = was i within in
      let size = length-page_of (slice_index run (i + 1)) bytes i in
      let other : ¬ Contains pages q = λ here. apart q here (Contains-get_or run i 0 within) in
      record {
        within = omega (arith, holds.within, spared.no_shorter);
        each = λ j below. spared.same (page_bytes * q + j) (omega (arith, below, holds.within)) (in_other q j other (omega (arith, below, size))) ∙ holds.each j below;
      }

  module _ (data_pages : AllData 262144 pages) where
    -- all pages that hold chains lie behind the slots
    pub in_front : (i : ℕ) → i < 12288 → IsOutside pages i
    in_front i front page contained = inl (omega (arith, front, (data_pages page contained).0))

    pub front_spared : (place size : ℕ) → place + size ≤ 12288 → place + size ≤ length old → part new place size ≡ part old place size
    front_spared place size front within = part_spared place size within (λ i below. in_front (place + i) (omega (arith, front, below)))

    pub byte_spared : (i : ℕ) → i < 12288 → i < length old → slice_index new i ≡ slice_index old i
    byte_spared i front within = spared.same i within (in_front i front)
