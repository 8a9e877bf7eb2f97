-- What is left where the least free pages were given out.
use Rattle.std.proofs.Common.{◌≡◌, inl, inr, ℕ, ◌<◌, true, List, Contains, length, take, sym, ap, subst, ◌∙◌, zero-add, arith, length-take, get_or-take, true≢false}
use Rattle.std.proofs.lemmas.Bool.{cases_Bool, cases_lt}
use Rattle.std.proofs.lemmas.List.{get_or_past}
use Rattle.ci_pages.specs.declared.page_use.PageUse.{PageUse}
use Rattle.ci_pages.specs.declared.page_use.PageUse.TheVariants.{Head, Reserved}
use Rattle.ci_pages.specs.Uses.{Marks, NoneFree, free_from, free_pages, is_free, use_of}
use Rattle.ci_pages.proofs.Frees.{first_free, found_free, free_is_in}
use Rattle.ci_pages.proofs.Marking.{contains_or}

-- a page that is free is one
pub free_within : (uses : List PageUse) (page : ℕ) → is_free (use_of uses page) ≡ true → page < length uses
free_within uses page is_so = elim (cases_lt page (length uses)) [
  | inl within ↦ within
  | inr past ↦ absurd (true≢false (sym is_so ∙ ap is_free (get_or_past uses page Head past)))
]

module _ (uses : List PageUse) (stop : ℕ) (out : List ℕ) (same : out ≡ free_from (take stop uses) 0) where
  pub taken_free : (page : ℕ) → Contains out page → is_free (use_of uses page) ≡ true
  taken_free page contained =
      let (k, place, within, is_so) = found_free (take stop uses) 0 page (subst (λ xs. Contains xs page) same contained) in
      let below : k < stop = omega (arith, within, length-take stop uses) in
      subst (λ p. is_free (use_of uses p) ≡ true) (sym (place ∙ zero-add k)) (ap is_free (sym (get_or-take stop uses k Head below)) ∙ is_so)

  pub taken_within : (page : ℕ) → Contains out page → page < length uses
  taken_within page contained = free_within uses page (taken_free page contained)

  all_taken : (page : ℕ) → page < stop → is_free (use_of uses page) ≡ true → Contains out page
  all_taken page below is_so =
      let within : page < length (take stop uses) = omega (arith, below, free_within uses page is_so, length-take stop uses) in
      subst (λ xs. Contains xs page) (sym same)
      (subst (Contains (free_from (take stop uses) 0)) (zero-add page) (free_is_in (take stop uses) 0 page within (ap is_free (get_or-take stop uses page Head below) ∙ is_so)))

  pub none_left : (new : List PageUse) → Marks uses new out Reserved → NoneFree new 0 stop
  none_left new marks page le below = elim (contains_or out page) [
    | inl contained ↦ ap is_free (marks.each page contained)
    | inr not ↦ elim (cases_Bool (is_free (use_of uses page))) [
      | inl is_so ↦ absurd (not (all_taken page below is_so))
      | inr isnt ↦ ap is_free (marks.others page not) ∙ isnt
    ]
  ]

  pub least : (count : ℕ) → length out ≡ count → out ≡ take count (free_pages uses)
  least count size = subst (λ n. out ≡ take n (free_pages uses)) size (first_free uses stop out same)
