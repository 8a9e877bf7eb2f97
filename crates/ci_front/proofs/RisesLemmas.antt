-- Numbers that rise.
use Rattle.std.proofs.Common.{◌≡◌, ℕ, zero, suc, ◌+◌, ◌-◌, ◌<◌, ◌≤◌, ◌&&◌, true, false, ltb, List, [], ◌∷◌, length, map, get_or, drop, refl, sym, ap, ◌∙◌, arith}
use Rattle.std.specs.List.{AllByRecursion}
use Rattle.std.specs.List.Sorted.{IsStrictlySortedBy}
use Rattle.std.specs.declared.cmp.Ordering.TheVariants.{Less}
use Rattle.std.specs.Ordering.{nat_cmp}
use Rattle.std.proofs.lemmas.Bool.{and_parts, and_from, ltb-true, lt-ltb, le-ltb}
use Rattle.std.proofs.Math.Seq.{drop-nil}
use Rattle.std.proofs.lemmas.List.{length-map, get_or-map}
use Rattle.ci_front.specs.Front.{rises}

-- what is above the first of rising numbers is above what is below it
all_above : (x y : ℕ) (ys : List ℕ) → x < y → AllByRecursion (λ z. nat_cmp y z ≡ Less) ys → AllByRecursion (λ z. nat_cmp x z ≡ Less) ys
all_above x y [] lt above = tt
all_above x y (z ∷ zs) lt above = (grind arith, all_above x y zs lt above.1)

pub sorted_from_rises : (xs : List ℕ) → rises xs ≡ true → IsStrictlySortedBy nat_cmp xs
unfolding rises IsStrictlySortedBy
sorted_from_rises [] e = tt
sorted_from_rises (x ∷ []) e = (tt, tt)
sorted_from_rises (x ∷ y ∷ ys) e =
    let both = and_parts (ltb x y) (rises (y ∷ ys)) e in
    let lt : x < y = ltb-true x y both.0 in
    let later = sorted_from_rises (y ∷ ys) both.1 in
    ((grind arith, all_above x y ys lt later.0), later)

pub rises_from_sorted : (xs : List ℕ) → IsStrictlySortedBy nat_cmp xs → rises xs ≡ true
unfolding rises IsStrictlySortedBy
rises_from_sorted [] up = refl
rises_from_sorted (x ∷ []) up = refl
rises_from_sorted (x ∷ y ∷ ys) up =
    let lt : x < y = grind (arith, up.0.0) in
    and_from (ltb x y) (rises (y ∷ ys)) (lt-ltb x y lt) (rises_from_sorted (y ∷ ys) up.1)

-- one number more
step : (xs : List ℕ) (k : ℕ) → suc k < length xs → get_or xs k 0 < get_or xs (suc k) 0 → rises (drop k xs) ≡ rises (drop (suc k) xs)
unfolding rises
step [] k within lt = absurd (omega arith)
step (x ∷ []) k within lt = absurd (omega arith)
step (x ∷ y ∷ ys) zero within lt = ap (λ b. b && rises (y ∷ ys)) (lt-ltb x y lt)
step (x ∷ y ∷ ys) (suc k) within lt = step (y ∷ ys) k (omega arith) lt

stop : (xs : List ℕ) (k : ℕ) → suc k < length xs → get_or xs (suc k) 0 ≤ get_or xs k 0 → rises (drop k xs) ≡ false
unfolding rises
stop [] k within le = absurd (omega arith)
stop (x ∷ []) k within le = absurd (omega arith)
stop (x ∷ y ∷ ys) zero within le = ap (λ b. b && rises (y ∷ ys)) (le-ltb x y le)
stop (x ∷ y ∷ ys) (suc k) within le = stop (y ∷ ys) k (omega arith) le

ends : (xs : List ℕ) (k : ℕ) → length xs ≤ suc k → rises (drop k xs) ≡ true
unfolding rises
ends [] zero short = refl
ends [] (suc k) short = refl
ends (x ∷ []) zero short = refl
ends (x ∷ []) (suc k) short = ap rises (drop-nil k)
ends (x ∷ y ∷ ys) zero short = absurd (omega arith)
ends (x ∷ y ∷ ys) (suc k) short = ends (y ∷ ys) k (omega arith)

-- a loop that compares each number with the one before it: x stands before y
module _ {X : Type 0} (of : X → ℕ) (xs : List X) where
  pub rises_on : (place : ℕ) (x y : X) → 1 ≤ place → place < length xs → of (get_or xs (place - 1) x) < of (get_or xs place y)
      → rises (drop (place - 1) (map of xs)) ≡ rises (map of xs) → rises (drop (place + 1 - 1) (map of xs)) ≡ rises (map of xs)
  rises_on zero x y some within lt so_far = absurd (omega arith)
  rises_on (suc k) x y some within lt so_far =
      let e : suc k - 1 ≡ k = omega arith in
      let f : suc k + 1 - 1 ≡ suc k = omega arith in
      let size : length (map of xs) ≡ length xs = length-map xs of in
      let low : get_or (map of xs) k 0 ≡ of (get_or xs k x) = get_or-map of xs k x 0 (omega arith) in
      let high : get_or (map of xs) (suc k) 0 ≡ of (get_or xs (suc k) y) = get_or-map of xs (suc k) y 0 (omega arith) in
      let less : of (get_or xs k x) < of (get_or xs (suc k) y) = rw e at lt in
      rw f (sym (step (map of xs) k (omega arith) (omega (arith, low, high, less))) ∙ (rw e at so_far))

  pub rises_not : (place : ℕ) (x y : X) → 1 ≤ place → place < length xs → of (get_or xs place y) ≤ of (get_or xs (place - 1) x)
      → rises (drop (place - 1) (map of xs)) ≡ rises (map of xs) → rises (map of xs) ≡ false
  rises_not zero x y some within le so_far = absurd (omega arith)
  rises_not (suc k) x y some within le so_far =
      let e : suc k - 1 ≡ k = omega arith in
      let size : length (map of xs) ≡ length xs = length-map xs of in
      let low : get_or (map of xs) k 0 ≡ of (get_or xs k x) = get_or-map of xs k x 0 (omega arith) in
      let high : get_or (map of xs) (suc k) 0 ≡ of (get_or xs (suc k) y) = get_or-map of xs (suc k) y 0 (omega arith) in
      let more : of (get_or xs (suc k) y) ≤ of (get_or xs k x) = rw e at le in
      sym (rw e at so_far) ∙ stop (map of xs) k (omega arith) (omega (arith, low, high, more))

  pub rises_done : (place : ℕ) → length xs ≤ place → rises (drop (place - 1) (map of xs)) ≡ rises (map of xs) → rises (map of xs) ≡ true
  rises_done place short so_far =
      sym so_far ∙ ends (map of xs) (place - 1) (omega (arith, length-map xs of))
