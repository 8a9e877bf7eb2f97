-- Pages that a run takes of those that were given out.
use Rattle.std.proofs.Common.{◌≡◌, inl, inr, ◌⊎◌, ℕ, zero, suc, Bool, true, false, cond, ◌++◌, List, [], ◌∷◌, Contains, ap, ap₂, sym, ◌∙◌, refl, subst, arith}
use Rattle.std.specs.List.{filter}
use Rattle.std.proofs.lemmas.Bool.{false≢true}
use Rattle.std.proofs.lemmas.List.Elements.{Contains-append_right, filter-append}
use Rattle.ci_pages.specs.declared.page_use.PageUse.{PageUse}
use Rattle.ci_pages.specs.declared.page_use.PageUse.TheVariants.{Used}
use Rattle.ci_pages.specs.Tables.{IsOnce, is_unused}
use Rattle.ci_pages.specs.Uses.{Marks, use_of}
use Rattle.ci_pages.proofs.Marking.{contains_or}
use Rattle.ci_pages.proofs.Once.{of_filter, once_filter}
use Rattle.ci_volume.proofs.Giving.{filter_all}

either : (b : Bool) → (b ≡ true) ⊎ (b ≡ false)
either true = inl refl
either false = inr refl

-- a test that only passes what another passes
filter_within : (p q : ℕ → Bool) (xs : List ℕ) → ((x : ℕ) → q x ≡ true → p x ≡ true) → filter q xs ≡ filter q (filter p xs)
filter_within p q [] implies = refl
filter_within p q (x ∷ xs) implies = elim (either (p x)) [
  | inl passes ↦
      ap (λ ys. cond (q x) (x ∷ ys) ys) (filter_within p q xs implies)
      ∙ ap (λ b. filter q (cond b (x ∷ filter p xs) (filter p xs))) (sym passes)
  | inr fails ↦
      ap (λ b. cond b (x ∷ filter q xs) (filter q xs)) (not_then (either (q x)) fails)
      ∙ filter_within p q xs implies
      ∙ ap (λ b. filter q (cond b (x ∷ filter p xs) (filter p xs))) (sym fails)
]
  where
    not_then : (q x ≡ true) ⊎ (q x ≡ false) → p x ≡ false → q x ≡ false
    not_then (inl passes) fails = absurd (false≢true (sym fails ∙ implies x passes))
    not_then (inr fails) p_fails = fails

filter_none : (q : ℕ → Bool) (xs : List ℕ) → ((x : ℕ) → Contains xs x → q x ≡ false) → filter q xs ≡ []
filter_none q [] none = refl
filter_none q (x ∷ xs) none =
    ap (λ b. cond b (x ∷ filter q xs) (filter q xs)) (none x (0, omega arith, refl))
    ∙ filter_none q xs (λ y there. none y (suc there.0, omega (arith, there.1), there.2))

once_apart : (xs ys : List ℕ) → IsOnce (xs ++ ys) → (x : ℕ) → Contains ys x → ¬ Contains xs x
once_apart [] ys once x there here = absurd (omega (arith, here.1))
once_apart (y ∷ xs) ys once x there (zero, below, same) = once.0 (subst (λ z. Contains (xs ++ ys) z) (sym same) (Contains-append_right xs ys x there))
once_apart (y ∷ xs) ys once x there (suc k, below, same) = once_apart xs ys once.1 x there (k, omega (arith, below), same)

-- given out and in no run
abbrev unused_in : List PageUse → ℕ → Bool
unused_in uses page = is_unused (use_of uses page)

-- where a run takes the first of the pages in no run, the others are left
pub unused_rest : (old new : List PageUse) (pending pages rest : List ℕ) → IsOnce pending → Marks old new pages Used
    → filter (λ page. is_unused (use_of old page)) pending ≡ pages ++ rest → filter (λ page. is_unused (use_of new page)) pending ≡ rest
unused_rest old new pending pages rest once marks split =
    filter_within (unused_in old) (unused_in new) pending kept
    ∙ ap (filter (unused_in new)) split
    ∙ filter-append (unused_in new) pages rest
    ∙ ap₂ (λ (xs ys : List ℕ). xs ++ ys) (filter_none (unused_in new) pages (λ page here. ap is_unused (marks.each page here))) (filter_all (unused_in new) rest left)
  where
    kept : (page : ℕ) → unused_in new page ≡ true → unused_in old page ≡ true
    kept page passes = elim (contains_or pages page) [
      | inl here ↦ absurd (false≢true (sym (ap is_unused (marks.each page here)) ∙ passes))
      | inr not ↦ sym (ap is_unused (marks.others page not)) ∙ passes
    ]

    both_once : IsOnce (pages ++ rest)
    both_once = subst IsOnce split (once_filter (unused_in old) pending once)

    left : (page : ℕ) → Contains rest page → unused_in new page ≡ true
    left page there =
        let inside : Contains (filter (unused_in old) pending) page = subst (λ xs. Contains xs page) (sym split) (Contains-append_right pages rest page there) in
        ap is_unused (marks.others page (once_apart pages rest both_once page there)) ∙ (of_filter (unused_in old) pending page inside).1
