-- Which numbers have places, when places are added.
use Rattle.std.proofs.Common.{◌≡◌, true, false, inl, inr, ℕ, suc, zero, ◌+◌, ◌<◌, ◌≤◌, List, [], ◌∷◌, ◌++◌, Option, Some, None, filter, is_some, length, get_or, set, replicate, refl, sym, ap, ◌∙◌, arith}
use Rattle.std.proofs.lemmas.Bool.{cases_lt}
use Rattle.ci_paths.specs.Places.{place_of, least_empty}

one-add : (n : ℕ) → 1 + n ≡ suc n
one-add n = omega arith

-- each number below the least without a place has one
pub least_empty-below : (places : List (Option ℕ)) (n : ℕ) → n < least_empty places → (at : ℕ) × (place_of places n ≡ Some at)
least_empty-below [] n below = absurd (omega arith)
least_empty-below (None ∷ places) n below = absurd (omega arith)
least_empty-below (Some at ∷ places) zero below = (at, refl)
least_empty-below (Some at ∷ places) (suc n) below = least_empty-below places n (omega arith)

-- and it has none
pub least_empty-none : (places : List (Option ℕ)) → place_of places (least_empty places) ≡ None
least_empty-none [] = refl
least_empty-none (None ∷ places) = refl
least_empty-none (Some at ∷ places) = ap (λ n. get_or (Some at ∷ places) n None) (one-add (least_empty places)) ∙ least_empty-none places

pub least_empty-le : (places : List (Option ℕ)) → least_empty places ≤ length places
least_empty-le [] = omega arith
least_empty-le (None ∷ places) = omega arith
least_empty-le (Some at ∷ places) = let more = least_empty-le places in omega arith

-- as many numbers have places as are below it, at least
pub least_empty-count : (places : List (Option ℕ)) → least_empty places ≤ length (filter is_some places)
least_empty-count [] = omega arith
least_empty-count (None ∷ places) = omega arith
least_empty-count (Some at ∷ places) = let more = least_empty-count places in omega arith

-- more places never lower it
pub least_empty-append : (places more : List (Option ℕ)) → least_empty places ≤ least_empty (places ++ more)
least_empty-append [] more = omega arith
least_empty-append (None ∷ places) more = omega arith
least_empty-append (Some at ∷ places) more = let rest = least_empty-append places more in omega arith

pub least_empty-set : (places : List (Option ℕ)) (n at : ℕ) → least_empty places ≤ least_empty (set places n (Some at))
least_empty-set [] n at = omega arith
least_empty-set (None ∷ places) n at = omega arith
least_empty-set (Some old ∷ places) zero at = omega arith
least_empty-set (Some old ∷ places) (suc n) at = let rest = least_empty-set places n at in omega arith

place_of-replicate : (more n : ℕ) → place_of (replicate more None) n ≡ None
place_of-replicate zero n = refl
place_of-replicate (suc more) zero = refl
place_of-replicate (suc more) (suc n) = place_of-replicate more n

-- room for places is no place
pub place_of-room : (places : List (Option ℕ)) (more n : ℕ) → place_of (places ++ replicate more None) n ≡ place_of places n
place_of-room [] more n = place_of-replicate more n
place_of-room (place ∷ places) more zero = refl
place_of-room (place ∷ places) more (suc n) = place_of-room places more n

count-replicate : (more : ℕ) → filter (λ (o : Option ℕ). is_some o) (replicate more None) ≡ []
count-replicate zero = refl
count-replicate (suc more) = count-replicate more

pub count-room : (places : List (Option ℕ)) (more : ℕ) → length (filter is_some (places ++ replicate more None)) ≡ length (filter is_some places)
count-room [] more = ap length (count-replicate more)
count-room (None ∷ places) more = count-room places more
count-room (Some at ∷ places) more = ap suc (count-room places more)

-- a number that gets a place is one number more
pub count-put : (places : List (Option ℕ)) (n at : ℕ) → n < length places → place_of places n ≡ None → length (filter is_some (set places n (Some at))) ≡ length (filter is_some places) + 1
count-put [] n at within free = absurd (omega arith)
count-put (None ∷ places) zero at within free = omega arith
count-put (Some old ∷ places) zero at within free = cc
count-put (None ∷ places) (suc n) at within free = count-put places n at (omega arith) free
count-put (Some old ∷ places) (suc n) at within free = let rest = count-put places n at (omega arith) free in omega arith

-- where no lesser number is empty, and this one is, it is the least
pub least_empty-here : (places : List (Option ℕ)) (n : ℕ) → n ≤ least_empty places → is_some (place_of places n) ≡ false → n ≡ least_empty places
least_empty-here places n low empty = elim (cases_lt n (least_empty places)) [
  | inl below ↦ let (at, kept) = least_empty-below places n below in let no : true ≡ false = sym (ap is_some kept) ∙ empty in cc
  | inr above ↦ omega arith
]

-- and where this one isn't either, the least is above it
pub least_empty-past : (places : List (Option ℕ)) (n : ℕ) → n ≤ least_empty places → is_some (place_of places n) ≡ true → n + 1 ≤ least_empty places
least_empty-past places n low taken = elim (cases_lt n (least_empty places)) [
  | inl below ↦ omega arith
  | inr above ↦
      let here : n ≡ least_empty places = omega arith in
      let no : false ≡ true = sym (ap is_some (ap (place_of places) here ∙ least_empty-none places)) ∙ taken in cc
]

-- there are no more places than numbers that may have one
pub count-le : (places : List (Option ℕ)) → length (filter is_some places) ≤ length places
count-le [] = omega arith
count-le (None ∷ places) = let rest = count-le places in omega arith
count-le (Some at ∷ places) = let rest = count-le places in omega arith

-- a number that has a place is one of those that the list has
pub place_of-within : (places : List (Option ℕ)) (n at : ℕ) → place_of places n ≡ Some at → n < length places
place_of-within [] zero at kept = cc
place_of-within [] (suc n) at kept = cc
place_of-within (place ∷ places) zero at kept = omega arith
place_of-within (place ∷ places) (suc n) at kept = omega (arith, place_of-within places n at kept)
