-- Pages that are given out, and what is held beside them.
use Rattle.std.proofs.Common.{◌≡◌, inl, inr, ℕ, suc, ◌≤◌, Bool, true, cond, ◌++◌, List, [], ◌∷◌, Contains, take, length, get_or, ap, ap₂, sym, ◌∙◌, refl, subst, ◌<◌, arith, get_or-take, length-take-le}
use Rattle.std.proofs.lemmas.Bool.{false≢true}
use Rattle.std.specs.List.{filter, count_by}
use Rattle.std.proofs.lemmas.List.Elements.{filter-append}
use Rattle.ci_pages.specs.declared.page_use.PageUse.{PageUse}
use Rattle.ci_pages.specs.declared.page_use.PageUse.TheVariants.{Free, Head, Held, Leaving, Reserved, Used}
use Rattle.ci_pages.specs.Tables.{AllData, IsListOf, is_pending, is_unused}
use Rattle.ci_pages.specs.Uses.{AllFree, AllHave, Marks, free_pages, is_free, use_of}
use Rattle.ci_pages.proofs.Frees.{found_free, length-free_pages}
use Rattle.ci_pages.proofs.Lists.{opens, passes_within}
use Rattle.ci_pages.proofs.Marking.{contains_or}

-- what is held stays, where other pages get a use
pub held_stays : (old new : List PageUse) (pages : List ℕ) (to : PageUse) → Marks old new pages to → ((page : ℕ) → Contains pages page → ¬ (use_of old page ≡ Held))
    → (page : ℕ) → use_of old page ≡ Held → use_of new page ≡ Held
held_stays old new pages to marks apart page held = elim (contains_or pages page) [
  | inl here ↦ absurd (apart page here held)
  | inr not ↦ marks.others page not ∙ held
]

module _ (uses : List PageUse) (pages : List ℕ) (n : ℕ) (least : pages ≡ take n (free_pages uses)) (fits : n ≤ count_by is_free uses) where
  pub given_count : length pages ≡ n
  given_count = ap length least ∙ length-take-le n (free_pages uses) (omega (arith, fits, length-free_pages uses))

  pub given_free : AllFree uses pages
  given_free page (k, below, same) =
      let inside : k < n = omega (arith, below, given_count) in
      let there : get_or (free_pages uses) k page ≡ page = sym (get_or-take n (free_pages uses) k page inside) ∙ ap (λ xs. get_or xs k page) (sym least) ∙ same in
      let found = found_free uses 0 page (k, omega (arith, inside, fits, length-free_pages uses), there) in
      let at : page ≡ found.0 = omega (arith, found.1) in
      subst (λ p. is_free (use_of uses p) ≡ true) (sym at) found.3

-- a test that some numbers pass in the same way
filter_same : (p q : ℕ → Bool) (xs : List ℕ) → ((x : ℕ) → Contains xs x → p x ≡ q x) → filter p xs ≡ filter q xs
filter_same p q [] same = refl
filter_same p q (x ∷ xs) same =
    ap (λ b. cond b (x ∷ filter p xs) (filter p xs)) (same x (0, omega arith, refl))
    ∙ ap (λ ys. cond (q x) (x ∷ ys) ys) (filter_same p q xs (λ y there. same y (suc there.0, omega (arith, there.1), there.2)))

pub filter_all : (p : ℕ → Bool) (xs : List ℕ) → ((x : ℕ) → Contains xs x → p x ≡ true) → filter p xs ≡ xs
filter_all p [] all = refl
filter_all p (x ∷ xs) all =
    ap (λ b. cond b (x ∷ filter p xs) (filter p xs)) (all x (0, omega arith, refl))
    ∙ ap (λ ys. x ∷ ys) (filter_all p xs (λ y there. all y (suc there.0, omega (arith, there.1), there.2)))

pending_not_free : (kind : PageUse) → is_pending kind ≡ true → ¬ (is_free kind ≡ true)
pending_not_free Head pending free' = false≢true pending
pending_not_free Free pending free' = false≢true pending
pending_not_free Reserved pending free' = false≢true free'
pending_not_free Used pending free' = false≢true free'
pending_not_free Held pending free' = false≢true pending
pending_not_free Leaving pending free' = false≢true pending

pub held_not_free : (kind : PageUse) → is_free kind ≡ true → ¬ (kind ≡ Held)
held_not_free kind free' held = false≢true (sym (ap is_free held) ∙ free')

-- the pages in no run, behind the giving out of free ones
pub unused_more : (old new : List PageUse) (pending pages : List ℕ) → IsListOf is_pending old pending → AllFree old pages → Marks old new pages Reserved
    → filter (λ page. is_unused (use_of new page)) (pending ++ pages) ≡ filter (λ page. is_unused (use_of old page)) pending ++ pages
unused_more old new pending pages listed all marks =
    filter-append (λ page. is_unused (use_of new page)) pending pages
    ∙ ap₂ (λ (xs ys : List ℕ). xs ++ ys)
    (filter_same (λ page. is_unused (use_of new page)) (λ page. is_unused (use_of old page)) pending (λ page contained. ap is_unused (marks.others page (apart page contained))))
    (filter_all (λ page. is_unused (use_of new page)) pages (λ page contained. ap is_unused (marks.each page contained)))
  where
    apart : (page : ℕ) → Contains pending page → ¬ Contains pages page
    apart page contained given = pending_not_free (use_of old page) ((opens is_pending old pending listed).only page contained) (all page given)

-- pages that were given out lie within the volume
pub data_of_given : (uses : List PageUse) (pages : List ℕ) (count : ℕ) → length uses ≡ count → AllData 262144 pages → AllHave uses pages Reserved → AllData count pages
data_of_given uses pages count size data_pages reserved page contained =
    ((data_pages page contained).0, omega (arith, size, passes_within is_unused uses page refl (ap is_unused (reserved page contained))))
