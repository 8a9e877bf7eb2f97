-- Places near one another, term by term.
use Rattle.std.proofs.Common.{◌≡◌, ◌+◌, ◌-◌, ◌&&◌, ◌||◌, ◌==◌, Bool, true, false, not, cond, List, [], ◌∷◌, ℕ, filter, length, refl, sym, ap, ◌∙◌, arith}
use Rattle.std.specs.List.{list_any}
use Rattle.std.proofs.lemmas.Bool.{ne_eqb}
use Rattle.std.proofs.lemmas.Bool.Decides.{nat_tests}
use Rattle.std.proofs.lemmas.List.Elements.{filter_agree}
use Rattle.ci_base.specs.declared.numbers.Place.{Place}
use Rattle.ci_dialect.specs.declared.restriction.Restriction.{Restriction}
use Rattle.ci_dialect.specs.Near.{are_near, is_near, near_behind, term_places}
use Rattle.ci_dialect.specs.Places.{Words}
use Rattle.ci_restrict.specs.Walk.{HaveTheSame, is_between, numbers}
use Rattle.ci_restrict.proofs.WalkLemmas.{stands}
use Rattle.ci_restrict.proofs.WordLemmas.{any-same}

-- there is a place
pub any-place : (places : List Place) → not (length places == 0) ≡ list_any (λ p. true) (numbers places)
any-place [] = refl
any-place (p ∷ places) = ap not (ne_eqb (length (p ∷ places)) 0 (λ e. omega arith))

or-and : (a b c : Bool) → ((a || b) && c) ≡ ((a && c) || (b && c))
or-and true true true = refl
or-and true true false = refl
or-and true false true = refl
or-and true false false = refl
or-and false true true = refl
or-and false true false = refl
or-and false false true = refl
or-and false false false = refl

or-swap : (a b c d : Bool) → ((a || b) || (c || d)) ≡ ((a || c) || (b || d))
or-swap true b c d = refl
or-swap false true true d = refl
or-swap false true false d = refl
or-swap false false c d = refl

any-none : {A : Type 0} (xs : List A) → list_any (λ x. false) xs ≡ false
any-none [] = refl
any-none (x ∷ xs) = any-none xs

any-or : {A : Type 0} (f g : A → Bool) (xs : List A) → list_any (λ x. f x || g x) xs ≡ (list_any f xs || list_any g xs)
any-or f g [] = refl
any-or f g (x ∷ xs) = ap (λ b. (f x || g x) || b) (any-or f g xs) ∙ or-swap (f x) (g x) (list_any f xs) (list_any g xs)

-- what passes among those that were kept
any-filter : {A : Type 0} (f g : A → Bool) (xs : List A) → list_any g (filter f xs) ≡ list_any (λ x. f x && g x) xs
any-filter f g [] = refl
any-filter f g (x ∷ xs) =
    elim (f x) as (λ b. list_any g (cond b (x ∷ filter f xs) (filter f xs)) ≡ ((b && g x) || list_any (λ y. f y && g y) xs)) [
      | true ↦ ap (λ b. g x || b) (any-filter f g xs)
      | false ↦ any-filter f g xs
    ]

-- some pair: by the first or by the second
any-pairs : (r : ℕ → ℕ → Bool) (g : ℕ → Bool) (xs ys : List ℕ) → list_any (λ q. list_any (λ p. r p q) xs && g q) ys ≡ list_any (λ p. list_any (λ q. r p q && g q) ys) xs
any-pairs r g [] ys = any-none ys
any-pairs r g (x ∷ xs) ys =
    any-same (λ q. (r x q || list_any (λ p. r p q) xs) && g q) (λ q. (r x q && g q) || (list_any (λ p. r p q) xs && g q)) ys (λ q. or-and (r x q) (list_any (λ p. r p q) xs) (g q))
    ∙ any-or (λ q. r x q && g q) (λ q. list_any (λ p. r p q) xs && g q) ys
    ∙ ap (λ b. list_any (λ q. r x q && g q) ys || b) (any-pairs r g xs ys)

-- a place that is near one before, and from which the rest goes on
any-near : (r : ℕ → ℕ → Bool) (g : ℕ → Bool) (before all : List ℕ) → list_any g (filter (λ q. list_any (λ p. r p q) before) all) ≡ list_any (λ p. list_any (λ q. r p q && g q) all) before
any-near r g before all = any-filter (λ q. list_any (λ p. r p q) before) g all ∙ any-pairs r g before all

within-fifty : (p q : ℕ) → is_between (q + 0 - 50) (q + 0 + 50) p ≡ is_near p q
within-fifty p q = grind (arith, nat_tests)

near-those : (before all : List ℕ) → filter (stands 0 50 before) all ≡ filter (λ q. list_any (λ p. is_near p q) before) all
near-those before all =
    filter_agree (stands 0 50 before) (λ q. list_any (λ p. is_near p q) before)
    (λ q. any-same (is_between (q + 0 - 50) (q + 0 + 50)) (λ p. is_near p q) before (λ p. within-fifty p q)) all

module _ (words : Words) (term : Restriction) (all : List ℕ) (same : HaveTheSame all (term_places words term)) where
  -- the first term stands at all its places
  pub near-first : (more : List Restriction) → list_any (λ p. near_behind words p more) all ≡ are_near words (term ∷ more)
  near-first more = same (λ p. near_behind words p more)

  -- of a later term those places go on that are near one before
  pub near-more : (more : List Restriction) (before kept : List ℕ) → kept ≡ filter (stands 0 50 before) all →
      list_any (λ p. near_behind words p (term ∷ more)) before ≡ list_any (λ p. near_behind words p more) kept
  near-more more before kept are =
      any-same (λ p. near_behind words p (term ∷ more)) (λ p. list_any (λ q. is_near p q && near_behind words q more) all) before
      (λ p. sym (same (λ q. is_near p q && near_behind words q more)))
      ∙ sym (any-near is_near (λ q. near_behind words q more) before all)
      ∙ ap (list_any (λ q. near_behind words q more)) (sym (are ∙ near-those before all))
