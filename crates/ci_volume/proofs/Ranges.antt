-- Numbers one after another, and pages that are these.
use Rattle.std.proofs.Common.{◌≡◌, inl, inr, ℕ, zero, suc, ◌+◌, ◌-◌, ◌<◌, ◌≤◌, ◌++◌, List, [], ◌∷◌, Contains, ap, ◌∙◌, arith}
use Rattle.std.proofs.lemmas.Bool.{cases_lt}
use Rattle.std.proofs.lemmas.List.FromFn.{get_or-range_with_len, length-range_with_len}
use Rattle.std.specs.List.{range_with_len}
use Rattle.ci_pages.specs.declared.page_use.PageUse.{PageUse}
use Rattle.ci_pages.specs.Tables.{IsOnce}
use Rattle.ci_pages.specs.Uses.{Marks}

pub in_range : (a n p : ℕ) → Contains (range_with_len a n) p → (a ≤ p) × (p < a + n)
in_range a n p (k, below, same) =
    let inside : k < n = omega (arith, below, length-range_with_len a n) in
    let here = get_or-range_with_len a n k p inside in
    (omega (arith, here, same), omega (arith, here, same, inside))

pub range_has : (a n p : ℕ) → a ≤ p → p < a + n → Contains (range_with_len a n) p
range_has a n p least most =
    let back : a + (p - a) ≡ p = omega (arith, least) in
    (p - a, omega (arith, length-range_with_len a n, least, most), get_or-range_with_len a n (p - a) p (omega (arith, least, most)) ∙ back)

pub range_once : (a n : ℕ) → IsOnce (range_with_len a n)
range_once a zero = tt
range_once a (suc n) = (λ contained. let at = in_range (a + 1) n a contained in absurd (omega (arith, at.0)), range_once (a + 1) n)

pub range_more : (a n : ℕ) → range_with_len a (n + 1) ≡ range_with_len a n ++ (a + n) ∷ []
range_more a zero = let same : a ≡ a + 0 = omega arith in ap (λ x. x ∷ []) same
range_more a (suc n) =
    let same : (a + 1) + n ≡ a + suc n = omega arith in
    let longer : suc n + 1 ≡ suc (n + 1) = omega arith in
    ap (range_with_len a) longer ∙ ap (λ xs. a ∷ xs) (range_more (a + 1) n) ∙ ap (λ x. a ∷ range_with_len (a + 1) n ++ x ∷ []) same

-- one range gets a use, and then the one behind it
pub marks_both : (old mid new : List PageUse) (a m n : ℕ) (to : PageUse) → Marks old mid (range_with_len a m) to → Marks mid new (range_with_len (a + m) n) to
    → Marks old new (range_with_len a (m + n)) to
marks_both old mid new a m n to first second = record {
  size = second.size ∙ first.size;
  each = λ page contained.
      let at = in_range a (m + n) page contained in
      elim (cases_lt page (a + m)) [
        | inl before ↦
            second.others page (λ behind. let there = in_range (a + m) n page behind in absurd (omega (arith, there.0, before)))
            ∙ first.each page (range_has a m page at.0 before)
        | inr behind ↦ second.each page (range_has (a + m) n page behind (omega (arith, at.1)))
      ];
  others = λ page not.
      second.others page (λ behind. let there = in_range (a + m) n page behind in not (range_has a (m + n) page (omega (arith, there.0)) (omega (arith, there.1))))
      ∙ first.others page (λ before. let there = in_range a m page before in not (range_has a (m + n) page there.0 (omega (arith, there.1))));
}
