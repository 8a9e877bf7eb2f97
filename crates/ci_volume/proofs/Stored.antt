-- A run that was written is a chain, and has its bytes.
use Rattle.std.proofs.Common.{◌≡◌, add-zero, inl, inr, ℕ, suc, ◌+◌, ◌-◌, ◌*◌, ◌^◌, ◌<◌, ◌≤◌, ◌++◌, List, [], ◌∷◌, length, take, drop, get_or, replicate, refl, sym, ap, ap₂, ◌∙◌, arith, length-take, length-drop, length-append}
use Rattle.std.proofs.Math.Seq.{take-append-add, take-length}
use Rattle.std.proofs.lemmas.Bool.{cases_lt}
use Rattle.std.proofs.lemmas.List.Concat.{flat_map-cons}
use Rattle.std.proofs.lemmas.List.{append-nil, drop-drop, get_or_past, length-replicate, take-append-drop, take-append-le, take_all}
use Rattle.std.proofs.lemmas.List.Elements.{Contains-get_or}
use Rattle.std.specs.List.{flat_map}
use Rattle.byteorder.specs.Endian.{big_number}
use Rattle.byteorder.specs.Numbers.{big_number-reads_back}
use Rattle.ci_device.specs.Images.{Holds}
use Rattle.ci_pages.specs.Tables.{AllData}
use Rattle.ci_volume.specs.Chain.{HoldsChain, IsChain, IsDataPage, Links, content_of, next_of, pages_for}
use Rattle.ci_volume.specs.Layout.{part}
use Rattle.ci_volume.specs.Runs.{IsRun, page_of}
use Rattle.ci_volume.proofs.Parts.{part_within}
use Rattle.ci_volume.proofs.Spelled.{short_part, whole_page}

-- a page's content as it is written: some bytes, and zeros behind them
abbrev pub filled : List ℕ → List ℕ
filled content = content ++ replicate (4092 - length content) 0

pub filled_size : (content : List ℕ) → length content ≤ 4092 → length (filled content) ≡ 4092
filled_size content short =
    let zeros : List ℕ = replicate (4092 - length content) 0 in
    let size : length zeros ≡ 4092 - length content = length-replicate (4092 - length content) 0 in
    omega (arith, short, size, length-append content zeros)

module _ (image : List ℕ) (page next : ℕ) (content : List ℕ) (short : length content ≤ 4092) (holds : Holds image (4096 * page) (page_of next content)) where
  whole : length (page_of next content) ≡ 4096
  whole = whole_page next content short

  next_held : next < 256 ^ 4 → next_of image page ≡ next
  next_held small =
      let number : part image (4096 * page + 0) 4 ≡ part (page_of next content) 0 4 = part_within image (4096 * page) (page_of next content) holds 0 4 (omega (arith, whole)) in
      ap (λ at. big_number 4 (part image at 4)) (sym (add-zero (4096 * page))) ∙ ap (big_number 4) number ∙ big_number-reads_back 4 next [] small

  content_held : content_of image page ≡ filled content
  content_held =
      let size = filled_size content short in
      part_within image (4096 * page) (page_of next content) holds 4 4092 (omega (arith, whole)) ∙ take_all 4092 (filled content) (omega (arith, size))

-- pages of which each has its part of some bytes have these bytes
joined : (content : ℕ → List ℕ) (pages bytes : List ℕ) → ((i : ℕ) → i < length pages → content (get_or pages i 0) ≡ filled (part bytes (4092 * i) 4092))
    → length bytes ≤ 4092 * length pages → take (length bytes) (flat_map content pages) ≡ bytes
joined content [] bytes each fits = take_all (length bytes) [] (omega arith) ∙ sym (none bytes (omega (arith, fits)))
  where
    none : (xs : List ℕ) → length xs ≤ 0 → xs ≡ []
    none [] empty = refl
    none (x ∷ xs) empty = absurd (omega (arith, empty))
joined content (p ∷ pages) bytes each fits = elim (cases_lt 4092 (length bytes)) [
  | inl more ↦
      let size : length front ≡ 4092 = omega (arith, length-take 4092 bytes, more) in
      let none : 4092 - length front ≡ 0 = omega (arith, size) in
      let spelled : content p ≡ front = first ∙ ap (λ n. front ++ replicate n 0) none ∙ append-nil front in
      let all : flat_map content (p ∷ pages) ≡ front ++ tail = flat_map-cons content p pages ∙ ap (λ xs. xs ++ tail) spelled in
      let sizes : length bytes ≡ length front + length rest = omega (arith, size, length-drop 4092 bytes, more) in
      ap₂ (λ (n : ℕ) (xs : List ℕ). take n xs) sizes all ∙ take-append-add front tail (length rest)
      ∙ ap (λ xs. front ++ xs) (joined content pages rest behind (omega (arith, length-drop 4092 bytes, fits))) ∙ take-append-drop 4092 bytes
  | inr fewer ↦
      let here : front ≡ bytes = take_all 4092 bytes fewer in
      let zeros : List ℕ = replicate (4092 - length front) 0 in
      let all : flat_map content (p ∷ pages) ≡ (bytes ++ zeros) ++ tail = flat_map-cons content p pages ∙ ap (λ xs. xs ++ tail) (first ∙ ap (λ xs. xs ++ zeros) here) in
      ap (take (length bytes)) all
      ∙ take-append-le (length bytes) (bytes ++ zeros) tail (omega (arith, length-append bytes zeros))
      ∙ take-append-le (length bytes) bytes zeros (omega arith) ∙ take-length bytes
]
  where
    front : List ℕ
    front = part bytes 0 4092

    rest : List ℕ
    rest = drop 4092 bytes

    tail : List ℕ
    tail = flat_map content pages

    first : content p ≡ filled front
    first = each 0 (omega arith)

    behind : (i : ℕ) → i < length pages → content (get_or pages i 0) ≡ filled (part rest (4092 * i) 4092)
    behind i below =
        let place : 4092 + 4092 * i ≡ 4092 * suc i = omega arith in
        each (suc i) (omega (arith, below)) ∙ ap (λ n. filled (take 4092 (drop n bytes))) (sym place) ∙ ap (λ xs. filled (take 4092 xs)) (sym (drop-drop (4092 * i) 4092 bytes))

module _ (image : List ℕ) (pages : ℕ) where
  links_of : (chain : List ℕ) → 0 < length chain → ((i : ℕ) → i < length chain → IsDataPage image pages (get_or chain i 0) × (next_of image (get_or chain i 0) ≡ get_or chain (i + 1) 0))
      → Links image pages chain
  links_of [] some each = absurd (omega (arith, some))
  links_of (p ∷ []) some each = let last = each 0 (omega arith) in (last.0, last.1)
  links_of (p ∷ q ∷ rest) some each =
      let first = each 0 (omega arith) in
      (first.0, first.1, links_of (q ∷ rest) (omega arith) (λ i below. let on = each (suc i) (omega (arith, below)) in (on.0, on.1 ∙ ap (λ n. get_or (p ∷ q ∷ rest) n 0) (next i))))
    where
      next : (i : ℕ) → suc i + 1 ≡ suc (i + 1)
      next i = omega arith

  begins_at : (chain : List ℕ) → 0 < length chain → (rest : List ℕ) × (chain ≡ get_or chain 0 0 ∷ rest)
  begins_at [] some = absurd (omega (arith, some))
  begins_at (p ∷ rest) some = (rest, refl)

  module _ (few : pages ≤ 262144) (chain bytes : List ℕ) (data_pages : AllData pages chain) (run : IsRun image chain bytes) where
    leads_on : (i : ℕ) → i < length chain → next_of image (get_or chain i 0) ≡ get_or chain (i + 1) 0
    leads_on i below =
        let short = short_part bytes (4092 * i) in
        next_held image (get_or chain i 0) (get_or chain (i + 1) 0) (part bytes (4092 * i) 4092) short (run i below) (small (i + 1))
      where
        small : (j : ℕ) → get_or chain j 0 < 256 ^ 4
        small j = elim (cases_lt j (length chain)) [
          | inl within ↦ omega (arith, few, (data_pages (get_or chain j 0) (Contains-get_or chain j 0 within)).1)
          | inr past ↦ omega (arith, get_or_past chain j 0 past)
        ]

    data_page : (i : ℕ) → i < length chain → IsDataPage image pages (get_or chain i 0)
    data_page i below =
        let place = data_pages (get_or chain i 0) (Contains-get_or chain i 0 below) in
        record {
          data_page = place.0;
          volume = place.1;
          within = omega (arith, (run i below).within, whole_page (get_or chain (i + 1) 0) (part bytes (4092 * i) 4092) (short_part bytes (4092 * i)));
        }

    -- it is a chain of as many bytes as its pages take
    pub chain_of_run : (n : ℕ) → 0 < length chain → length chain ≡ pages_for n → IsChain image pages (get_or chain 0 0) n chain
    chain_of_run n some count = record {
      links = links_of chain some (λ i below. (data_page i below, leads_on i below));
      begins = begins_at chain some;
      count = count;
    }

    pub content_at : (i : ℕ) → i < length chain → content_of image (get_or chain i 0) ≡ filled (part bytes (4092 * i) 4092)
    content_at i below = content_held image (get_or chain i 0) (get_or chain (i + 1) 0) (part bytes (4092 * i) 4092) (short_part bytes (4092 * i)) (run i below)

    -- and has its bytes
    pub stored : 0 < length bytes → length chain ≡ pages_for (length bytes) → HoldsChain image pages (get_or chain 0 0) bytes chain
    stored some count = record {
      is_chain = chain_of_run (length bytes) (omega (arith, some, count)) count;
      holds = joined (content_of image) chain bytes content_at (omega (arith, count));
    }
