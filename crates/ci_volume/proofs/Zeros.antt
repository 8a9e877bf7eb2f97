-- A chain that was written without bytes has zeros.
use Rattle.std.proofs.Common.{◌≡◌, inl, inr, ℕ, suc, ◌-◌, ◌*◌, ◌<◌, ◌≤◌, ◌++◌, List, [], ◌∷◌, length, take, get_or, replicate, refl, sym, ap, ◌∙◌, arith, length-append, length-take, get_or-take}
use Rattle.std.proofs.Math.ListN.{get_or-append}
use Rattle.std.proofs.lemmas.Bool.{cases_lt}
use Rattle.std.proofs.lemmas.List.{ext_get_or, get_or-append_right, get_or-replicate, get_or_past, length-replicate}
use Rattle.std.proofs.lemmas.List.Concat.{flat_map-cons}
use Rattle.std.specs.List.{flat_map}

-- no other number stands in the list
abbrev pub AllZero : List ℕ → Type 0
AllZero xs = (i : ℕ) → get_or xs i 0 ≡ 0

zeros_append : (xs ys : List ℕ) → AllZero xs → AllZero ys → AllZero (xs ++ ys)
zeros_append xs ys front back i = elim (cases_lt i (length xs)) [
  | inl before ↦ get_or-append xs ys 0 i before ∙ front i
  | inr behind ↦ get_or-append_right xs ys (length xs) i 0 refl behind ∙ back (i - length xs)
]

zeros_repeat : (n : ℕ) → AllZero (replicate n 0)
zeros_repeat n i = elim (cases_lt i n) [
  | inl within ↦ get_or-replicate n i 0 0 within
  | inr past ↦ let zeros : List ℕ = replicate n 0 in let size : length zeros ≡ n = length-replicate n 0 in get_or_past zeros i 0 (omega (arith, past, size))
]

-- zeros behind a content without bytes
pub zeros_behind : (content : List ℕ) (n : ℕ) → length content ≡ 0 → AllZero (content ++ replicate n 0)
zeros_behind content n none = zeros_append content (replicate n 0) (λ i. get_or_past content i 0 (omega (arith, none))) (zeros_repeat n)

module _ (content : ℕ → List ℕ) where
  pub each_zero : (pages : List ℕ) → ((i : ℕ) → i < length pages → AllZero (content (get_or pages i 0))) → AllZero (flat_map content pages)
  each_zero [] each i = refl
  each_zero (p ∷ pages) each i =
      ap (λ xs. get_or xs i 0) (flat_map-cons content p pages)
      ∙ zeros_append (content p) (flat_map content pages) (each 0 (omega arith)) (each_zero pages (λ j below. each (suc j) (omega (arith, below)))) i

  pub each_size : (pages : List ℕ) → ((i : ℕ) → i < length pages → length (content (get_or pages i 0)) ≡ 4092) → length (flat_map content pages) ≡ 4092 * length pages
  each_size [] each = refl
  each_size (p ∷ pages) each =
      let first : length (content p) ≡ 4092 = each 0 (omega arith) in
      let more = each_size pages (λ j below. each (suc j) (omega (arith, below))) in
      ap length (flat_map-cons content p pages) ∙ omega (arith, length-append (content p) (flat_map content pages), first, more)

  pub zeros_of : (pages : List ℕ) → ((i : ℕ) → i < length pages → AllZero (content (get_or pages i 0)))
      → ((i : ℕ) → i < length pages → length (content (get_or pages i 0)) ≡ 4092) → (n : ℕ) → n ≤ 4092 * length pages → take n (flat_map content pages) ≡ replicate n 0
  zeros_of pages each sizes n fits =
      let all : List ℕ = flat_map content pages in
      let wanted : List ℕ = replicate n 0 in
      let zeros : length wanted ≡ n = length-replicate n 0 in
      let size : length (take n all) ≡ n = omega (arith, length-take n all, each_size pages sizes, fits) in
      ext_get_or 0 (take n all) (replicate n 0) (size ∙ sym zeros)
      (λ i below. let inside : i < n = omega (arith, below, size) in get_or-take n all i 0 inside ∙ each_zero pages each i ∙ sym (get_or-replicate n i 0 0 inside))
