-- One use for some pages.
use Rattle.std.proofs.Common.{◌≡◌, ◌⊎◌, inl, inr, ⊎_elim, ℕ, ◌+◌, ◌<◌, List, [], ◌∷◌, ◌++◌, Contains, length, get_or, set, take, suc, refl, sym, subst, ◌∙◌, arith, length-set, get_or-set_same, get_or-set_other}
use Rattle.std.proofs.lemmas.Bool.{cases_eq}
use Rattle.std.proofs.lemmas.List.{take_more}
use Rattle.std.proofs.lemmas.List.Elements.{Contains-append_left, Contains-push, Contains-push_cases}
use Rattle.std.proofs.lemmas.Map.Made.{Contains-tail}
use Rattle.ci_pages.specs.declared.page_use.PageUse.{PageUse}
use Rattle.ci_pages.specs.declared.page_use.PageUse.TheVariants.{Head}
use Rattle.ci_pages.specs.Uses.{Marks, use_of}

pub marks_none : (old : List PageUse) (use' : PageUse) → Marks old old [] use'
marks_none old use' = record {
  size = refl;
  each = λ page contained. absurd (omega (arith, contained.1));
  others = λ page not. refl;
}

pub marks_more : (old mid : List PageUse) (pages : List ℕ) (page : ℕ) (use' : PageUse) → Marks old mid pages use' → page < length old
    → Marks old (set mid page use') (pages ++ page ∷ []) use'
marks_more old mid pages page use' marks within = record {
  size = length-set mid page use' ∙ marks.size;
  each = λ q contained. at q (Contains-push_cases pages page q contained);
  others = λ q not.
      let apart : (q ≡ page → ⊥) = λ same. not (subst (Contains (pages ++ page ∷ [])) (sym same) (Contains-push pages page)) in
      get_or-set_other mid page q use' Head apart ∙ marks.others q (λ contained. not (Contains-append_left pages (page ∷ []) q contained));
}
  where
    here : use_of (set mid page use') page ≡ use'
    here = get_or-set_same mid page use' Head (omega (arith, within, marks.size))

    at : (q : ℕ) → Contains pages q ⊎ (page ≡ q) → use_of (set mid page use') q ≡ use'
    at q (inr same) = subst (λ (p : ℕ). use_of (set mid page use') p ≡ use') same here
    at q (inl contained) = ⊎_elim
        (λ same. subst (λ (p : ℕ). use_of (set mid page use') p ≡ use') (sym same) here)
        (λ apart. get_or-set_other mid page q use' Head apart ∙ marks.each q contained)
        (cases_eq q page)

pub contains_or : (xs : List ℕ) (x : ℕ) → Contains xs x ⊎ ¬ Contains xs x
contains_or [] x = inr (λ contained. absurd (omega (arith, contained.1)))
contains_or (y ∷ ys) x = ⊎_elim
    (λ same. inl (0, omega arith, same))
    (λ apart. ⊎_elim
    (λ rest. inl (suc rest.0, omega (arith, rest.1), rest.2))
    (λ no. inr (λ contained. no (Contains-tail y ys x apart contained)))
    (contains_or ys x))
    (cases_eq y x)

-- what holds of the first i, and of the next, holds of one more
pub more_hold : (P : ℕ → Type 0) (xs : List ℕ) (i : ℕ) → i < length xs → ((x : ℕ) → Contains (take i xs) x → P x) → P (get_or xs i 0)
    → (x : ℕ) → Contains (take (i + 1) xs) x → P x
more_hold P xs i within before here x contained = ⊎_elim
    (λ was. before x was)
    (λ same. subst P same here)
    (Contains-push_cases (take i xs) (get_or xs i 0) x (subst (λ ys. Contains ys x) (take_more xs i 0 within) contained))

pub marks_next : (old mid new : List PageUse) (pages : List ℕ) (i : ℕ) (use' : PageUse) → i < length pages → Marks old mid (take i pages) use'
    → get_or pages i 0 < length old → new ≡ set mid (get_or pages i 0) use' → Marks old new (take (i + 1) pages) use'
marks_next old mid new pages i use' within marks page same =
    subst (λ ys. Marks old new ys use') (sym (take_more pages i 0 within))
    (subst (λ us. Marks old us (take i pages ++ get_or pages i 0 ∷ []) use') (sym same) (marks_more old mid (take i pages) (get_or pages i 0) use' marks page))
