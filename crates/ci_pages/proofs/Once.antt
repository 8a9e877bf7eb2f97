-- Lists in which no number stands twice.
use Rattle.std.proofs.Common.{◌≡◌, ◌⊎◌, inl, inr, ⊎_elim, ℕ, zero, suc, ◌+◌, ◌<◌, ◌≤◌, Bool, true, false, cond, List, [], ◌∷◌, ◌++◌, Contains, filter, length, get_or, take, refl, sym, subst, ◌∙◌, arith, length-take, get_or-take}
use Rattle.std.proofs.lemmas.List.Elements.{Contains-append_cases}
use Rattle.ci_pages.specs.declared.page_use.PageUse.{PageUse}
use Rattle.ci_pages.specs.Tables.{IsOnce}
use Rattle.ci_pages.specs.Uses.{free_from, is_free}
use Rattle.ci_pages.proofs.Frees.{found_free}

behind : (x : ℕ) (xs : List ℕ) (y : ℕ) → Contains xs y → Contains (x ∷ xs) y
behind x xs y (k, below, same) = (suc k, omega (arith, below), same)

pub once_append : (xs ys : List ℕ) → IsOnce xs → IsOnce ys → ((x : ℕ) → Contains xs x → ¬ Contains ys x) → IsOnce (xs ++ ys)
once_append [] ys a b apart = b
once_append (x ∷ xs) ys a b apart = (
  λ contained. ⊎_elim (λ left. a.0 left) (λ right. apart x (0, omega arith, refl) right) (Contains-append_cases xs ys x contained),
  once_append xs ys a.1 b (λ y inside. apart y (behind x xs y inside)),
)

of_take : (n : ℕ) (xs : List ℕ) (x : ℕ) → Contains (take n xs) x → Contains xs x
of_take n xs x (k, below, same) =
    let within : k < n = omega (arith, below, length-take n xs) in
    (k, omega (arith, below, length-take n xs), sym (get_or-take n xs k x within) ∙ same)

pub once_take : (n : ℕ) (xs : List ℕ) → IsOnce xs → IsOnce (take n xs)
once_take zero [] once = tt
once_take zero (x ∷ xs) once = tt
once_take (suc n) [] once = tt
once_take (suc n) (x ∷ xs) once = (λ contained. once.0 (of_take n xs x contained), once_take n xs once.1)

once_cond : (b : Bool) (n : ℕ) (rest : List ℕ) → IsOnce rest → ¬ Contains rest n → IsOnce (cond b (n ∷ rest) rest)
once_cond true n rest once not = (not, once)
once_cond false n rest once not = once

pub once_free : (uses : List PageUse) (n : ℕ) → IsOnce (free_from uses n)
once_free [] n = tt
once_free (u ∷ us) n = once_cond (is_free u) n (free_from us (n + 1)) (once_free us (n + 1))
    (λ contained. let found = found_free us (n + 1) n contained in absurd (omega (arith, found.1)))

in_cond : (b : Bool) (x y : ℕ) (rest : List ℕ) → Contains (cond b (x ∷ rest) rest) y → ((b ≡ true) × (x ≡ y)) ⊎ Contains rest y
in_cond true x y rest (zero, below, same) = inl (refl, same)
in_cond true x y rest (suc k, below, same) = inr (k, omega (arith, below), same)
in_cond false x y rest contained = inr contained

-- what a filter keeps was there, and passes
pub of_filter : (test : ℕ → Bool) (xs : List ℕ) (y : ℕ) → Contains (filter test xs) y → Contains xs y × (test y ≡ true)
of_filter test [] y contained = absurd (omega (arith, contained.1))
of_filter test (x ∷ xs) y contained = elim (in_cond (test x) x y (filter test xs) contained) [
  | inl here ↦ ((0, omega arith, here.1), subst (λ z. test z ≡ true) here.1 here.0)
  | inr there ↦ let rest = of_filter test xs y there in (behind x xs y rest.0, rest.1)
]

pub once_filter : (test : ℕ → Bool) (xs : List ℕ) → IsOnce xs → IsOnce (filter test xs)
once_filter test [] once = tt
once_filter test (x ∷ xs) once = once_cond (test x) x (filter test xs) (once_filter test xs once.1) (λ contained. once.0 ((of_filter test xs x contained).0))
