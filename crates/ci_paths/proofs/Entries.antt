-- What searches of a list of numbered paths find.
use Rattle.std.proofs.Common.{◌≡◌, ◌<◌, ℕ, suc, zero, Bool, true, false, cond, List, [], ◌∷◌, ◌++◌, Option, Some, None, ◌⊎◌, inl, inr, find, get_or, slice_get, length, take, arith, refl, sym, ap, ◌∙◌}
use Rattle.std.specs.Map.{lookup}
use Rattle.std.proofs.lemmas.Option.{slice_get_read}

module _ {X : Type 0} (test : X → Bool) where
  place-step : (y x : X) (ys : List X) (b : Bool) → test y ≡ b → cond b (Some y) (find test ys) ≡ Some x
      → (find test ys ≡ Some x → (at : ℕ) × (slice_get ys at ≡ Some x) × (test x ≡ true)) → (at : ℕ) × (slice_get (y ∷ ys) at ≡ Some x) × (test x ≡ true)
  place-step y x ys true passes found later = let is : y ≡ x = cc in (0, found, sym (ap test is) ∙ passes)
  place-step y x ys false fails found later = let (at, there, passes) = later found in (suc at, there, passes)

  -- what is found stands in the list and passes
  pub find-place : (xs : List X) (x : X) → find test xs ≡ Some x → (at : ℕ) × (slice_get xs at ≡ Some x) × (test x ≡ true)
  find-place [] x found = cc
  find-place (y ∷ ys) x found = place-step y x ys (test y) refl found (find-place ys x)

  some-step : (y : X) (ys : List X) (b : Bool) → (z : X) × (find test ys ≡ Some z) → (z : X) × (cond b (Some y) (find test ys) ≡ Some z)
  some-step y ys true later = (y, refl)
  some-step y ys false later = later

  -- where one passes, one is found
  pub find-some : (xs : List X) (at : ℕ) (x : X) → slice_get xs at ≡ Some x → test x ≡ true → (y : X) × (find test xs ≡ Some y)
  find-some [] at x there passes = cc
  find-some (y ∷ ys) zero x there passes = let is : y ≡ x = cc in (y, ap (λ b. cond b (Some y) (find test ys)) (ap test is ∙ passes))
  find-some (y ∷ ys) (suc at) x there passes = some-step y ys (test y) (find-some ys at x there passes)

module _ {X : Type 0} where
  pub slice_get-front : (xs : List X) (y x : X) (at : ℕ) → slice_get xs at ≡ Some x → slice_get (xs ++ y ∷ []) at ≡ Some x
  slice_get-front [] y x at there = cc
  slice_get-front (z ∷ zs) y x zero there = there
  slice_get-front (z ∷ zs) y x (suc at) there = slice_get-front zs y x at there

  pub slice_get-last : (xs : List X) (y : X) → slice_get (xs ++ y ∷ []) (length xs) ≡ Some y
  slice_get-last [] y = refl
  slice_get-last (x ∷ xs) y = slice_get-last xs y

  -- what stands in a front of a list stands there in the list
  pub slice_get-take : (xs : List X) (n at : ℕ) (x : X) → slice_get (take n xs) at ≡ Some x → (at < n) × (slice_get xs at ≡ Some x)
  slice_get-take [] zero at x there = cc
  slice_get-take [] (suc n) at x there = cc
  slice_get-take (y ∷ ys) zero at x there = cc
  slice_get-take (y ∷ ys) (suc n) zero x there = (omega arith, there)
  slice_get-take (y ∷ ys) (suc n) (suc at) x there = let (below, here) = slice_get-take ys n at x there in (omega (arith, below), here)

  -- what a loop over a list reads stands there
  pub slice_get-shown : (xs shown : List X) (at : ℕ) (x : X) → shown ≡ xs → at < length shown → x ≡ get_or shown at x → slice_get xs at ≡ Some x
  slice_get-shown xs shown at x same within is = ap (λ l. slice_get l at) (sym same) ∙ slice_get_read shown (length shown) at x refl within is

  -- what stands in a longer list was there, or came last
  pub slice_get-push : (xs : List X) (y x : X) (at : ℕ) → slice_get (xs ++ y ∷ []) at ≡ Some x → (slice_get xs at ≡ Some x) ⊎ ((at ≡ length xs) × (y ≡ x))
  slice_get-push [] y x zero there = inr (refl, cc)
  slice_get-push [] y x (suc at) there = cc
  slice_get-push (z ∷ zs) y x zero there = inl there
  slice_get-push (z ∷ zs) y x (suc at) there = elim (slice_get-push zs y x at there) [
    | inl old ↦ inl old
    | inr last ↦ inr (ap suc last.0, last.1)
  ]

module _ {K X : Type 0} (test : K → Bool) where
  lookup-step : (e : K × X) (es : List (K × X)) (value : X) (b : Bool) → test e.0 ≡ b → cond b (Some e.1) (lookup test es) ≡ Some value
      → (lookup test es ≡ Some value → (at : ℕ) × (key : K) × (slice_get es at ≡ Some (key, value)) × (test key ≡ true))
      → (at : ℕ) × (key : K) × (slice_get (e ∷ es) at ≡ Some (key, value)) × (test key ≡ true)
  lookup-step e es value true passes found later = let is : e.1 ≡ value = cc in (0, e.0, ap (λ v. Some (e.0, v)) is, passes)
  lookup-step e es value false fails found later = let (at, key, there, passes) = later found in (suc at, key, there, passes)

  -- what is looked up stands in the list, at a key that passes
  pub lookup-place : (es : List (K × X)) (value : X) → lookup test es ≡ Some value → (at : ℕ) × (key : K) × (slice_get es at ≡ Some (key, value)) × (test key ≡ true)
  lookup-place [] value found = cc
  lookup-place (e ∷ es) value found = lookup-step e es value (test e.0) refl found (lookup-place es value)

  front-step : (value : X) (w : X) (old new : Option X) (b : Bool) → (old ≡ Some value → new ≡ Some value) → cond b (Some w) old ≡ Some value → cond b (Some w) new ≡ Some value
  front-step value w old new true later found = found
  front-step value w old new false later found = later found

  -- what was found is still found
  pub lookup-front : (es : List (K × X)) (e : K × X) (value : X) → lookup test es ≡ Some value → lookup test (es ++ e ∷ []) ≡ Some value
  lookup-front [] e value found = cc
  lookup-front (f ∷ es) e value found = front-step value f.1 (lookup test es) (lookup test (es ++ e ∷ [])) (test f.0) (lookup-front es e value) found

  last-step : (value : X) (w : X) (old new : Option X) (b : Bool) → (old ≡ None → new ≡ Some value) → cond b (Some w) old ≡ None → cond b (Some w) new ≡ Some value
  last-step value w old new true later none = cc
  last-step value w old new false later none = later none

  -- and what wasn't is found at the end
  pub lookup-last : (es : List (K × X)) (e : K × X) → test e.0 ≡ true → lookup test es ≡ None → lookup test (es ++ e ∷ []) ≡ Some e.1
  lookup-last [] e passes none = ap (λ b. cond b (Some e.1) None) passes
  lookup-last (f ∷ es) e passes none = last-step e.1 f.1 (lookup test es) (lookup test (es ++ e ∷ [])) (test f.0) (lookup-last es e passes) none

  -- an entry whose key doesn't pass changes nothing
  pub lookup-other : (es : List (K × X)) (e : K × X) → test e.0 ≡ false → lookup test (es ++ e ∷ []) ≡ lookup test es
  lookup-other [] e fails = ap (λ b. cond b (Some e.1) None) fails
  lookup-other (f ∷ es) e fails = ap (λ o. cond (test f.0) (Some f.1) o) (lookup-other es e fails)
