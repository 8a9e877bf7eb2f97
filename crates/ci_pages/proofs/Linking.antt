-- The links of a chain.
use Rattle.std.proofs.Common.{◌≡◌, inl, inr, ℕ, ◌+◌, ◌<◌, ◌≤◌, List, Contains, length, get_or, set, take, refl, sym, subst, ◌∙◌, arith, length-set, length-take-le, get_or-set_same, get_or-set_other, get_or-take}
use Rattle.std.proofs.lemmas.Bool.{cases_lt}
use Rattle.std.proofs.lemmas.List.Elements.{Contains-get_or}
use Rattle.ci_pages.specs.Tables.{IsOnce, Relinks}
use Rattle.ci_pages.proofs.Lists.{not_before}

-- the first n pages of a chain are linked
pub record LinkedTo (old now : List ℕ) (chain : List ℕ) (n : ℕ) : Type 0 where
  pub size : length now ≡ length old
  pub linked : (i : ℕ) → i < n → get_or now (get_or chain i 0) 0 ≡ get_or chain (i + 1) 0
  pub others : (page : ℕ) → ¬ Contains chain page → get_or now page 0 ≡ get_or old page 0

pub none_linked : (old chain : List ℕ) → LinkedTo old old chain 0
none_linked old chain = record { size = refl; linked = λ i below. absurd (omega (arith, below)); others = λ page not. refl }

pub one_linked : (old now chain : List ℕ) (n next : ℕ) → IsOnce chain → n < length chain → get_or chain n 0 < length old
    → LinkedTo old now chain n → next ≡ get_or chain (n + 1) 0 → LinkedTo old (set now (get_or chain n 0) next) chain (n + 1)
one_linked old now chain n next once within page so_far same = record {
  size = length-set now (get_or chain n 0) next ∙ so_far.size;
  linked = λ i below. elim (cases_lt i n) [
    | inl before ↦ get_or-set_other now (get_or chain n 0) (get_or chain i 0) next 0 (apart i before) ∙ so_far.linked i before
    | inr here ↦ subst (λ j. get_or (set now (get_or chain n 0) next) (get_or chain j 0) 0 ≡ get_or chain (j + 1) 0) (omega (arith, below, here)) (get_or-set_same now (get_or chain n 0) next 0 (omega (arith, page, so_far.size)) ∙ same)
  ];
  others = λ other not. get_or-set_other now (get_or chain n 0) other next 0 (λ is_so. not (subst (Contains chain) (sym is_so) (Contains-get_or chain n 0 within))) ∙ so_far.others other not;
}
  where
    apart : (i : ℕ) → i < n → get_or chain i 0 ≡ get_or chain n 0 → ⊥
    apart i before is_so =
        let front : i < length (take n chain) = omega (arith, before, length-take-le n chain (omega (arith, within))) in
        let contained : Contains (take n chain) (get_or chain i 0) = subst (Contains (take n chain)) (get_or-take n chain i 0 before) (Contains-get_or (take n chain) i 0 front) in
        not_before chain n once within (subst (Contains (take n chain)) is_so contained)

pub all_linked : (old now chain : List ℕ) (n : ℕ) → length chain ≤ n → LinkedTo old now chain n → Relinks old now chain
all_linked old now chain n all so_far = record {
  size = so_far.size;
  linked = λ i within. so_far.linked i (omega (arith, all, within));
  others = so_far.others;
}
