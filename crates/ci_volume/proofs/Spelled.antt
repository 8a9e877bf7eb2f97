-- The bytes of a page of a run, and the pages of a run.
use Rattle.std.proofs.Common.{inl, inr, sym, ◌≡◌, ◌≢◌, ℕ, ◌+◌, ◌-◌, ◌*◌, ◌<◌, ◌≤◌, ◌++◌, List, Contains, ap, ◌∙◌, min, length-drop, arith, get_or, length, length-append, length-take, drop, refl, length-take-le, get_or-take, replicate, subst, take}
use Rattle.std.proofs.lemmas.Bool.{cases_lt}
use Rattle.std.proofs.lemmas.List.{drop_all, length-replicate, take_min}
use Rattle.std.proofs.lemmas.List.Elements.{Contains-get_or}
use Rattle.byteorder.specs.Endian.{big_bytes}
use Rattle.ci_pages.specs.Tables.{IsOnce}
use Rattle.ci_pages.proofs.Lists.{not_before}
use Rattle.ci_volume.specs.Layout.{part}
use Rattle.ci_volume.specs.Runs.{page_of}

pub apart_before : (pages : List ℕ) (i n : ℕ) → IsOnce pages → n < length pages → i < n → get_or pages i 0 ≢ get_or pages n 0
apart_before pages i n once within before same =
    let front : i < length (take n pages) = omega (arith, before, length-take-le n pages (omega (arith, within))) in
    let contained : Contains (take n pages) (get_or pages i 0) = subst (Contains (take n pages)) (get_or-take n pages i 0 before) (Contains-get_or (take n pages) i 0 front) in
    not_before pages n once within (subst (Contains (take n pages)) same contained)

-- content that fits makes a whole page
pub whole_page : (next : ℕ) (content : List ℕ) → length content ≤ 4092 → length (page_of next content) ≡ 4096
whole_page next content short =
    let rest : List ℕ = replicate (4092 - length content) 0 in
    let front = length-append (big_bytes 4 next) content in
    let whole = length-append (big_bytes 4 next ++ content) rest in
    let spelled : length (big_bytes 4 next) ≡ 4 = refl in
    let zeros : length rest ≡ 4092 - length content = length-replicate (4092 - length content) 0 in
    omega (arith, short, front, whole, spelled, zeros)

pub short_part : (bytes : List ℕ) (at : ℕ) → length (part bytes at 4092) ≤ 4092
short_part bytes at = omega (arith, length-take 4092 (drop at bytes))

pub length-page_of : (next : ℕ) (bytes : List ℕ) (i : ℕ) → length (page_of next (part bytes (4092 * i) 4092)) ≤ 4096
length-page_of next bytes i = omega (arith, whole_page next (part bytes (4092 * i) 4092) (short_part bytes (4092 * i)))

-- a part that may end with the bytes, or begin behind them
pub part_cut : (bytes : List ℕ) (place from end : ℕ) → from ≡ min place (length bytes) → end ≡ min (from + 4092) (length bytes)
    → take (end - from) (drop from bytes) ≡ take 4092 (drop place bytes)
part_cut bytes place from end begins ends = elim (cases_lt place (length bytes)) [
  | inl within ↦
      let here : from ≡ place = omega (arith, begins, within) in
      let size : end - from ≡ min 4092 (length (drop from bytes)) = omega (arith, begins, ends, within, length-drop from bytes) in
      ap (λ n. take n (drop from bytes)) size ∙ take_min 4092 (drop from bytes) ∙ ap (λ n. take 4092 (drop n bytes)) here
  | inr behind ↦
      let none : end - from ≡ 0 = omega (arith, begins, ends, behind) in
      ap (λ n. take n (drop from bytes)) none ∙ sym (ap (λ xs. take 4092 xs) (drop_all place bytes behind))
]
