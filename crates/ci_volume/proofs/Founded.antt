-- A volume that was founded is a new volume.
use Rattle.std.proofs.Common.{◌≡◌, inl, inr, ℕ, ◌+◌, ◌-◌, ◌*◌, ◌<◌, ◌≤◌, false, List, [], Contains, length, drop, get_or, refl, sym, ◌∙◌, ap, subst, arith, length-take, length-drop, ◌⊎◌}
use Rattle.std.proofs.lemmas.Bool.{cases_lt}
use Rattle.std.proofs.lemmas.List.{get_or_default}
use Rattle.std.proofs.lemmas.List.FromFn.{get_or-range_with_len, length-range_with_len}
use Rattle.std.specs.List.{range_with_len}
use Rattle.ci_device.specs.Images.{Only}
use Rattle.ci_pages.specs.Tables.{AllData}
use Rattle.ci_volume.specs.Chain.{HoldsChain, IsChain, SamePages, content_of, pages_for}
use Rattle.ci_volume.specs.Creation.{IsFounded, IsNew, first_slot, log_chain, root_chain}
use Rattle.ci_volume.specs.Layout.{page_bytes, part}
use Rattle.ci_volume.specs.Runs.{IsRun}
use Rattle.ci_volume.specs.Steps.{EachLeft, StandsBeside}
use Rattle.ci_volume.proofs.Ranges.{in_range, range_has}
use Rattle.ci_volume.proofs.Spelled.{short_part, whole_page}
use Rattle.ci_volume.proofs.Stored.{chain_of_run, content_at, filled_size, stored}
use Rattle.ci_volume.proofs.Zeros.{zeros_behind, zeros_of}

pub range_data : (pages a n : ℕ) → 3 ≤ a → a + n ≤ pages → AllData pages (range_with_len a n)
range_data pages a n least most page contained = let at = in_range a n page contained in (omega (arith, at.0, least), omega (arith, at.1, most))

-- a run's pages lie within the image
run_within : (image run bytes : List ℕ) → IsRun image run bytes → (page : ℕ) → Contains run page → page_bytes * (page + 1) ≤ length image
run_within image run bytes is_run page contained =
    let i = contained.0 in
    let place : get_or run i 0 ≡ page = get_or_default run i 0 page contained.1 ∙ contained.2 in
    omega (arith, place, (is_run i contained.1).within, whole_page (get_or run (i + 1) 0) (part bytes (4092 * i) 4092) (short_part bytes (4092 * i)))

part_empty : (at : ℕ) → length (part [] at 4092) ≡ 0
part_empty at = let none : List ℕ = [] in omega (arith, length-take 4092 (drop at none), length-drop at none)

module _ (pages : ℕ) (bytes : List ℕ) (few : pages ≤ 262144) (some : 0 < length bytes) (fits : 19 + pages_for (length bytes) ≤ pages) where
  abbrev pub size : ℕ
  size = length bytes

  root_data : AllData pages (root_chain size)
  root_data = range_data pages 3 (pages_for size) (omega arith) (omega (arith, fits))

  log_data : AllData pages (log_chain size)
  log_data = range_data pages (3 + pages_for size) 16 (omega arith) (omega (arith, fits))

  module _ (image : List ℕ) (founded : IsFounded (first_slot pages size) (root_chain size) bytes (log_chain size) image) where
    root_held : HoldsChain image pages 3 bytes (root_chain size)
    root_held =
        let count = length-range_with_len 3 (pages_for size) in
        let begins : get_or (root_chain size) 0 0 ≡ 3 = get_or-range_with_len 3 (pages_for size) 0 0 (omega (arith, some)) in
        subst (λ (first : ℕ). HoldsChain image pages first bytes (root_chain size)) begins (stored image pages few (root_chain size) bytes root_data founded.root some count)

    log_held : IsChain image pages (3 + pages_for size) (4092 * 16) (log_chain size)
    log_held =
        let count : length (log_chain size) ≡ 16 = length-range_with_len (3 + pages_for size) 16 in
        let here : get_or (log_chain size) 0 0 ≡ 3 + pages_for size + 0 = get_or-range_with_len (3 + pages_for size) 16 0 0 (omega arith) in
        let begins : get_or (log_chain size) 0 0 ≡ 3 + pages_for size = omega (arith, here) in
        subst (λ (first : ℕ). IsChain image pages first (4092 * 16) (log_chain size)) begins
        (chain_of_run image pages few (log_chain size) [] log_data founded.log (4092 * 16) (omega (arith, count)) count)

    is_new : 64 ≤ pages → IsNew pages bytes image
    is_new least = record {
      opens = record {
        number = omega arith;
        current = founded.current;
        bounded = record { generation = omega arith; enough = least; most = few; root = some };
        chain = root_held.is_chain;
      };
      root = root_held;
      log = log_held;
      zeros = λ n within.
          zeros_of (content_of image) (log_chain size)
          (λ i below j.
          ap (λ xs. get_or xs j 0) (content_at image pages few (log_chain size) [] log_data founded.log i below)
          ∙ zeros_behind (part [] (4092 * i) 4092) (4092 - length (part [] (4092 * i) 4092)) (part_empty (4092 * i)) j)
          (λ i below.
          ap length (content_at image pages few (log_chain size) [] log_data founded.log i below)
          ∙ filled_size (part [] (4092 * i) 4092) (short_part [] (4092 * i)))
          n (omega (arith, within, length-range_with_len (3 + pages_for size) 16));
    }

    -- both chains are whole
    pages_whole : SamePages (range_with_len 3 (pages_for size + 16)) image image
    pages_whole page contained =
        let at = in_range 3 (pages_for size + 16) page contained in
        (at.0, within at.0 at.1 (cases_lt page (3 + pages_for size)), refl)
      where
        within : 3 ≤ page → page < 3 + (pages_for size + 16) → (page < 3 + pages_for size) ⊎ (3 + pages_for size ≤ page) → page_bytes * (page + 1) ≤ length image
        within least below (inl before) = run_within image (root_chain size) bytes founded.root page (range_has 3 (pages_for size) page least before)
        within least below (inr behind) = run_within image (log_chain size) [] founded.log page (range_has (3 + pages_for size) 16 page behind (omega (arith, below)))

    founded_ready : (images : List ℕ → Type 0) → Only image images → EachLeft images (StandsBeside false 1 (first_slot pages size) (range_with_len 3 (pages_for size + 16)) image)
    founded_ready images only left is_left = subst (λ (i : List ℕ). StandsBeside false 1 (first_slot pages size) (range_with_len 3 (pages_for size + 16)) image i) (sym (only left is_left)) (record {
      stands = record { current = founded.current; kept = pages_whole };
      beside = founded.beside;
    })

  module _ (root log image : List ℕ) (same_root : root ≡ root_chain size) (same_log : log ≡ log_chain size) (founded : IsFounded (first_slot pages size) root bytes log image) where
    told : IsFounded (first_slot pages size) (root_chain size) bytes (log_chain size) image
    told =
        subst (λ (xs : List ℕ). IsFounded (first_slot pages size) xs bytes (log_chain size) image) same_root
        (subst (λ (ys : List ℕ). IsFounded (first_slot pages size) root bytes ys image) same_log founded)

    pub to_new : 64 ≤ pages → IsNew pages bytes image
    to_new least = is_new image told least

    pub to_ready : (images : List ℕ → Type 0) → Only image images → EachLeft images (StandsBeside false 1 (first_slot pages size) (range_with_len 3 (pages_for size + 16)) image)
    to_ready = founded_ready image told
