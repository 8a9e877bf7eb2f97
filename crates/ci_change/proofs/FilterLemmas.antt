-- Two filters, one after the other.
use Rattle.std.proofs.Common.{◌≡◌, ◌==◌, ◌&&◌, ◌||◌, ◌<◌, ◌+◌, ℕ, suc, suc-le-suc, take, Bool, true, false, cond, List, [], ◌∷◌, All, not, filter, length, get_or, refl, sym, ap, ◌∙◌, arith}
use Rattle.std.proofs.lemmas.Bool.Decides.{nat_tests}
use Rattle.std.proofs.Math.Seq.{take-suc}
use Rattle.std.proofs.lemmas.List.Folds.{list_any-append}
use Rattle.std.specs.List.{list_any}

and-swap : (a b : Bool) → (a && b) ≡ (b && a)
and-swap true true = refl
and-swap true false = refl
and-swap false true = refl
and-swap false false = refl

module _ {X : Type 0} where
  fused-cons : (more : X → Bool) (x : X) (xs ys : List X) (strong weak : Bool) → strong ≡ (weak && more x) → xs ≡ filter more ys → cond strong (x ∷ xs) xs ≡ filter more (cond weak (x ∷ ys) ys)
  fused-cons more x xs ys strong true same rest = ap (λ b. cond b (x ∷ xs) xs) same ∙ ap (λ zs. cond (more x) (x ∷ zs) zs) rest
  fused-cons more x xs ys strong false same rest = ap (λ b. cond b (x ∷ xs) xs) same ∙ rest

  -- a stronger test passes what a further one leaves
  pub filter-fused : (strong weak more : X → Bool) (xs : List X) → All (λ x. strong x ≡ (weak x && more x)) xs → filter strong xs ≡ filter more (filter weak xs)
  filter-fused strong weak more [] all = refl
  filter-fused strong weak more (x ∷ xs) all =
      fused-cons more x (filter strong xs) (filter weak xs) (strong x) (weak x) (all 0 x (omega arith)) (filter-fused strong weak more xs (λ k d within. all (suc k) d (suc-le-suc within)))

  agreed-cons : (one other : X → Bool) (x : X) (xs : List X) (first : Bool) → (first ≡ true → one x ≡ other x) → filter one xs ≡ filter other xs
      → filter one (cond first (x ∷ xs) xs) ≡ filter other (cond first (x ∷ xs) xs)
  agreed-cons one other x xs true same rest = ap (λ b. cond b (x ∷ filter one xs) (filter one xs)) (same refl) ∙ ap (λ ys. cond (other x) (x ∷ ys) ys) rest
  agreed-cons one other x xs false same rest = rest

  -- two tests that agree on what a first one passes leave the same
  pub filter-agreed : (first one other : X → Bool) (xs : List X) → All (λ x. first x ≡ true → one x ≡ other x) xs → filter one (filter first xs) ≡ filter other (filter first xs)
  filter-agreed first one other [] all = refl
  filter-agreed first one other (x ∷ xs) all =
      agreed-cons one other x (filter first xs) (first x) (all 0 x (omega arith)) (filter-agreed first one other xs (λ k d within. all (suc k) d (suc-le-suc within)))

  -- the order of two filters doesn't matter
  pub filter-swapped : (one other : X → Bool) (xs : List X) → filter one (filter other xs) ≡ filter other (filter one xs)
  filter-swapped one other xs =
      sym (filter-fused (λ x. other x && one x) other one xs (λ k d within. refl))
      ∙ filter-fused (λ x. other x && one x) one other xs (λ k d within. and-swap (other (get_or xs k d)) (one (get_or xs k d)))

  -- a test that all pass leaves all
  pub filter-all : (test : X → Bool) (xs : List X) → All (λ x. test x ≡ true) xs → filter test xs ≡ xs
  filter-all test [] all = refl
  filter-all test (x ∷ xs) all = ap (λ b. cond b (x ∷ filter test xs) (filter test xs)) (all 0 x (omega arith)) ∙ ap (λ ys. x ∷ ys) (filter-all test xs (λ k d within. all (suc k) d (suc-le-suc within)))

  -- one of the next and of those before passes where one of those up to it does
  pub any-next : (test : X → Bool) (xs : List X) (i : ℕ) (x d : X) → x ≡ get_or xs i d → i < length xs → list_any test (take (i + 1) xs) ≡ (list_any test (take i xs) || test x)
  any-next test xs i x d is within =
      let next : i + 1 ≡ suc i = omega arith in
      ap (λ n. list_any test (take n xs)) next ∙ ap (list_any test) (take-suc xs i d within) ∙ list_any-append test (take i xs) (get_or xs i d ∷ [])
      ∙ ap (λ b. list_any test (take i xs) || b) (or-none (test (get_or xs i d))) ∙ ap (λ y. list_any test (take i xs) || test y) (sym is)
    where
      or-none : (b : Bool) → (b || false) ≡ b
      or-none true = refl
      or-none false = refl

  -- one of those that pass a first test passes where one passes both
  pub any-both : (first test : X → Bool) (xs : List X) → list_any test (filter first xs) ≡ list_any (λ x. first x && test x) xs
  any-both first test [] = refl
  any-both first test (x ∷ xs) = by (first x) ∙ ap (λ b. (first x && test x) || b) (any-both first test xs)
    where
      by : (b : Bool) → list_any test (cond b (x ∷ filter first xs) (filter first xs)) ≡ ((b && test x) || list_any test (filter first xs))
      by true = refl
      by false = refl

  any-cond : (b any : Bool) (x : X) (passed : List X) → any ≡ not (length passed == 0) → (b || any) ≡ not (length (cond b (x ∷ passed) passed) == 0)
  any-cond true any x passed same = grind (arith, nat_tests)
  any-cond false any x passed same = same

  -- one passes where those that pass aren't none
  pub any-filter : (test : X → Bool) (xs : List X) → list_any test xs ≡ not (length (filter test xs) == 0)
  any-filter test [] = refl
  any-filter test (x ∷ xs) = any-cond (test x) (list_any test xs) x (filter test xs) (any-filter test xs)

  -- a first test that is the same on all that pass a second one
  pub any-constant : (first test : X → Bool) (b : Bool) (xs : List X) → All (λ x. test x ≡ true → first x ≡ b) xs → list_any (λ x. first x && test x) xs ≡ (b && list_any test xs)
  any-constant first test true [] all = refl
  any-constant first test false [] all = refl
  any-constant first test b (x ∷ xs) all =
      ap (λ c. (first x && test x) || c) (any-constant first test b xs (λ k d within. all (suc k) d (suc-le-suc within))) ∙ by (test x) refl
    where
      both : (f t rest : Bool) → ((f && t) || (f && rest)) ≡ (f && (t || rest))
      both true t rest = refl
      both false t rest = refl

      none : (f c rest : Bool) → ((f && false) || (c && rest)) ≡ (c && (false || rest))
      none true c rest = refl
      none false c rest = refl

      by : (t : Bool) → test x ≡ t → ((first x && test x) || (b && list_any test xs)) ≡ (b && (test x || list_any test xs))
      by true is = ap (λ f. (f && test x) || (b && list_any test xs)) (all 0 x (omega arith) is) ∙ both b (test x) (list_any test xs)
      by false is = ap (λ t. (first x && t) || (b && list_any test xs)) is ∙ none (first x) b (list_any test xs) ∙ ap (λ t. b && (t || list_any test xs)) (sym is)
