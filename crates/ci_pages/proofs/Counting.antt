-- How many pages have a use, and the flags of blocks.
use Rattle.std.proofs.Common.{◌≡◌, ⊎_elim, ℕ, zero, suc, ◌+◌, ◌*◌, ◌/◌, ◌<◌, ◌≤◌, Bool, true, false, cond, List, [], ◌∷◌, count_by, length, get_or, set, refl, sym, ap, subst, ◌∙◌, arith, true≢false, length-set, get_or-set_same, get_or-set_other}
use Rattle.std.proofs.lemmas.Bool.{cases_Bool, cases_eq}
use Rattle.std.proofs.lemmas.List.Recursion.{is_count_by}
use Rattle.std.proofs.lemmas.List.Sums.{sum_by-set}
use Rattle.ci_pages.specs.declared.page_use.PageUse.{PageUse}
use Rattle.ci_pages.specs.declared.page_use.PageUse.TheVariants.{Head}
use Rattle.ci_pages.specs.Uses.{IsFlagged, NoneFree, is_free, use_of}

pub count_set : (test : PageUse → Bool) (uses : List PageUse) (page : ℕ) (to : PageUse) → page < length uses
    → count_by test (set uses page to) + cond (test (use_of uses page)) 1 0 ≡ count_by test uses + cond (test to) 1 0
count_set test uses page to within = sum_by-set (λ use'. cond (test use') 1 0) uses page to Head within

pub recounted : (uses : List PageUse) (page : ℕ) (was to : PageUse) (free result : ℕ) → page < length uses → was ≡ use_of uses page
    → free ≡ count_by is_free uses → result + cond (is_free was) 1 0 ≡ free + cond (is_free to) 1 0 → result ≡ count_by is_free (set uses page to)
recounted uses page was to free result within same so_far change =
    omega (arith, count_set is_free uses page to within, so_far, change, ap {B = ℕ} (λ (u : PageUse). cond (is_free u) 1 0) same)

pub length-raised : (b : Bool) (flags : List Bool) (i : ℕ) → length (cond b (set flags i true) flags) ≡ length flags
length-raised true flags i = length-set flags i true
length-raised false flags i = refl

module _ (uses : List PageUse) (flags : List Bool) (page : ℕ) (to : PageUse) (within : page < length uses) (told : IsFlagged uses flags) where
  here : is_free to ≡ true → get_or (cond (is_free to) (set flags (page / 512) true) flags) (page / 512) false ≡ true
  here yes' = subst (λ b. get_or (cond b (set flags (page / 512) true) flags) (page / 512) false ≡ true) (sym yes')
      (get_or-set_same flags (page / 512) true false (omega (arith, told.covers, within)))

  still : (b : Bool) (i : ℕ) → get_or flags i false ≡ true → get_or (cond b (set flags (page / 512) true) flags) i false ≡ true
  still false i was = was
  still true i was = ⊎_elim
      (λ same. subst (λ j. get_or (set flags (page / 512) true) j false ≡ true) (sym same) (get_or-set_same flags (page / 512) true false (omega (arith, told.covers, within))))
      (λ apart. get_or-set_other flags (page / 512) i true false apart ∙ was)
      (cases_eq i (page / 512))

  -- a page gets a use, and its block's flag is set where that is to be free
  pub flagged_set : IsFlagged (set uses page to) (cond (is_free to) (set flags (page / 512) true) flags)
  flagged_set = record {
    covers = omega (arith, told.covers, length-set uses page to, length-raised (is_free to) flags (page / 512));
    flag = λ q free'. ⊎_elim
        (λ same.
        let now : is_free to ≡ true = subst (λ (x : PageUse). is_free x ≡ true) (get_or-set_same uses page to Head within) (subst (λ j. is_free (use_of (set uses page to) j) ≡ true) same free') in
        subst (λ j. get_or (cond (is_free to) (set flags (page / 512) true) flags) (j / 512) false ≡ true) (sym same) (here now))
        (λ apart. still (is_free to) (q / 512) (told.flag q (subst (λ (x : PageUse). is_free x ≡ true) (get_or-set_other uses page q to Head apart) free')))
        (cases_eq q page);
  }

-- where the flag of a block isn't set, none of its pages is free
pub none_in_block : (uses : List PageUse) (flags : List Bool) (block from to : ℕ) → IsFlagged uses flags → get_or flags block false ≡ false
    → 512 * block ≤ from → to ≤ 512 * block + 512 → NoneFree uses from to
none_in_block uses flags block from to told unset front back page le below = ⊎_elim
    (λ free'.
    let place : page / 512 ≡ block = omega (arith, front, back, le, below) in
    absurd (true≢false (sym (subst (λ b. get_or flags b false ≡ true) place (told.flag page free')) ∙ unset)))
    (λ no. no)
    (cases_Bool (is_free (use_of uses page)))

abbrev tally : (PageUse → Bool) → List PageUse → ℕ
tally test [] = 0
tally test (u ∷ us) = cond (test u) (1 + tally test us) (tally test us)

is_tally : (test : PageUse → Bool) (uses : List PageUse) → tally test uses ≡ count_by test uses
is_tally test uses = is_count_by (tally test) test refl (λ _ _. refl) uses

same_tally : (test : PageUse → Bool) (xs ys : List PageUse) → length xs ≡ length ys → ((i : ℕ) → test (use_of xs i) ≡ test (use_of ys i)) → tally test xs ≡ tally test ys
same_tally test [] [] size same = refl
same_tally test [] (y ∷ ys) size same = absurd (omega (arith, size))
same_tally test (x ∷ xs) [] size same = absurd (omega (arith, size))
same_tally test (x ∷ xs) (y ∷ ys) size same =
    let rest = same_tally test xs ys (omega (arith, size)) (λ i. same (suc i)) in
    ap (λ b. cond b (1 + tally test xs) (tally test xs)) (same 0) ∙ ap (λ n. cond (test y) (1 + n) n) rest

-- as many pass where each passes or not as it did
pub count_same : (test : PageUse → Bool) (xs ys : List PageUse) → length xs ≡ length ys → ((i : ℕ) → test (use_of xs i) ≡ test (use_of ys i)) → count_by test xs ≡ count_by test ys
count_same test xs ys size same = sym (is_tally test xs) ∙ same_tally test xs ys size same ∙ is_tally test ys

no_more : (b : Bool) (n m : ℕ) → n ≤ m → cond b (1 + n) n ≤ suc m
no_more true n m le = omega (arith, le)
no_more false n m le = omega (arith, le)

tally_most : (test : PageUse → Bool) (xs : List PageUse) → tally test xs ≤ length xs
tally_most test [] = omega arith
tally_most test (x ∷ xs) = no_more (test x) (tally test xs) (length xs) (tally_most test xs)

fewer : (b : Bool) (n m : ℕ) → n < m → cond b (1 + n) n < suc m
fewer true n m lt = omega (arith, lt)
fewer false n m lt = omega (arith, lt)

tally_less : (test : PageUse → Bool) (xs : List PageUse) (i : ℕ) → i < length xs → test (use_of xs i) ≡ false → tally test xs < length xs
tally_less test [] i within isnt = absurd (omega (arith, within))
tally_less test (x ∷ xs) zero within isnt = subst (λ b. cond b (1 + tally test xs) (tally test xs) < suc (length xs)) (sym isnt) (omega (arith, tally_most test xs))
tally_less test (x ∷ xs) (suc i) within isnt = fewer (test x) (tally test xs) (length xs) (tally_less test xs i (omega (arith, within)) isnt)

-- where one doesn't pass, not all do
pub count_less : (test : PageUse → Bool) (xs : List PageUse) (i : ℕ) → i < length xs → test (use_of xs i) ≡ false → count_by test xs < length xs
count_less test xs i within isnt = omega (arith, tally_less test xs i within isnt, is_tally test xs)

tally_none : (test : PageUse → Bool) (xs : List PageUse) → ((i : ℕ) → test (use_of xs i) ≡ false) → tally test xs ≡ 0
tally_none test [] none = refl
tally_none test (x ∷ xs) none = ap (λ b. cond b (1 + tally test xs) (tally test xs)) (none 0) ∙ tally_none test xs (λ i. none (suc i))

pub count_none : (test : PageUse → Bool) (xs : List PageUse) → ((i : ℕ) → test (use_of xs i) ≡ false) → count_by test xs ≡ 0
count_none test xs none = sym (is_tally test xs) ∙ tally_none test xs none
