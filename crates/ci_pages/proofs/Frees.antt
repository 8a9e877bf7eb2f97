-- The free pages of a list of uses.
use Rattle.std.proofs.Common.{◌≡◌, ◌⊎◌, inl, inr, ℕ, zero, suc, ◌+◌, ◌-◌, ◌<◌, ◌≤◌, Bool, true, false, cond, List, [], ◌∷◌, ◌++◌, Contains, count_by, length, take, drop, refl, sym, ap, subst, ◌∙◌, add-one, add-zero, zero-add, append-nil, true≢false, arith, take-append-drop, take_at, length-append, take_all}
use Rattle.std.proofs.lemmas.Bool.{cases_lt}
use Rattle.std.proofs.lemmas.List.Recursion.{is_count_by}
use Rattle.ci_pages.specs.declared.page_use.PageUse.{PageUse}
use Rattle.ci_pages.specs.Uses.{NoneFree, free_from, free_pages, is_free, use_of}

-- a list with an item in front where a test holds, and more behind
front_and_more : (b : Bool) (n : ℕ) (whole front more : List ℕ) → whole ≡ front ++ more → cond b (n ∷ whole) whole ≡ cond b (n ∷ front) front ++ more
front_and_more true n whole front more same = ap (λ xs. n ∷ xs) same
front_and_more false n whole front more same = same

-- one page more
pub free_from-more : (uses : List PageUse) (i n : ℕ) → i < length uses
    → free_from (take (suc i) uses) n ≡ free_from (take i uses) n ++ cond (is_free (use_of uses i)) ((n + i) ∷ []) []
free_from-more [] i n within = absurd (omega (arith, within))
free_from-more (u ∷ us) zero n within = ap (λ m. cond (is_free u) (m ∷ []) []) (sym (add-zero n))
free_from-more (u ∷ us) (suc i) n within =
    let place : n + 1 + i ≡ n + suc i = omega arith in
    let rest = free_from-more us i (n + 1) (omega (arith, within)) in
    front_and_more (is_free u) n _ _ _ (subst (λ m. free_from (take (suc i) us) (n + 1) ≡ free_from (take i us) (n + 1) ++ cond (is_free (use_of us i)) (m ∷ []) []) place rest)

pub free_from-append : (xs ys : List PageUse) (n : ℕ) → free_from (xs ++ ys) n ≡ free_from xs n ++ free_from ys (n + length xs)
free_from-append [] ys n = ap (free_from ys) (sym (add-zero n))
free_from-append (x ∷ xs) ys n =
    let place : n + 1 + length xs ≡ n + length (x ∷ xs) = omega arith in
    front_and_more (is_free x) n _ _ _ (subst (λ m. free_from (xs ++ ys) (n + 1) ≡ free_from xs (n + 1) ++ free_from ys m) place (free_from-append xs ys (n + 1)))

same_count : (b : Bool) (n m : ℕ) (xs ys : List ℕ) → length xs ≡ length ys → length (cond b (n ∷ xs) xs) ≡ length (cond b (m ∷ ys) ys)
same_count true n m xs ys same = omega (arith, same)
same_count false n m xs ys same = same

-- the number of the first doesn't matter
any_first : (uses : List PageUse) (n m : ℕ) → length (free_from uses n) ≡ length (free_from uses m)
any_first [] n m = refl
any_first (u ∷ us) n m = same_count (is_free u) n m (free_from us (n + 1)) (free_from us (m + 1)) (any_first us (n + 1) (m + 1))

one_more : (b : Bool) (n : ℕ) (xs : List ℕ) (k : ℕ) → length xs ≡ k → length (cond b (n ∷ xs) xs) ≡ cond b (1 + k) k
one_more true n xs k same = omega (arith, same)
one_more false n xs k same = same

pub length-free_pages : (uses : List PageUse) → length (free_pages uses) ≡ count_by is_free uses
length-free_pages uses = is_count_by (λ (xs : List PageUse). length (free_pages xs)) is_free refl
    (λ x xs. one_more (is_free x) 0 (free_from xs 1) (length (free_pages xs)) (any_first xs 1 0)) uses

-- where none is free, there is no more
pub none_more : (uses : List PageUse) (from d : ℕ) → from + d ≤ length uses → NoneFree uses from (from + d)
    → free_from (take (from + d) uses) 0 ≡ free_from (take from uses) 0
none_more uses from zero within none = ap (λ n. free_from (take n uses) 0) (add-zero from)
none_more uses from (suc d) within none =
    let here : is_free (use_of uses (from + d)) ≡ false = none (from + d) (omega arith) (omega arith) in
    let next : from + suc d ≡ suc (from + d) = omega arith in
    let so_far = none_more uses from d (omega (arith, within)) (λ page le below. none page le (omega (arith, below))) in
    ap (λ n. free_from (take n uses) 0) next
    ∙ free_from-more uses (from + d) 0 (omega (arith, within))
    ∙ ap (λ b. free_from (take (from + d) uses) 0 ++ cond b ((0 + (from + d)) ∷ []) []) here
    ∙ append-nil (free_from (take (from + d) uses) 0)
    ∙ so_far

-- the free pages below a place are the first of them all
pub first_free : (uses : List PageUse) (stop : ℕ) (out : List ℕ) → out ≡ free_from (take stop uses) 0 → out ≡ take (length out) (free_pages uses)
first_free uses stop out same =
    let whole : free_pages uses ≡ out ++ free_from (drop stop uses) (0 + length (take stop uses)) =
    ap free_pages (sym (take-append-drop stop uses)) ∙ free_from-append (take stop uses) (drop stop uses) 0 ∙ ap (λ xs. xs ++ free_from (drop stop uses) (0 + length (take stop uses))) (sym same) in
    sym (ap (take (length out)) whole ∙ take_at out (free_from (drop stop uses) (0 + length (take stop uses))) (length out) refl)

-- a page that is in the list is free
free_in : (b : Bool) (n q : ℕ) (rest : List ℕ) → Contains (cond b (n ∷ rest) rest) q → ((b ≡ true) × (q ≡ n)) ⊎ Contains rest q
free_in true n q rest (zero, below, same) = inl (refl, sym same)
free_in true n q rest (suc k, below, same) = inr (k, omega (arith, below), same)
free_in false n q rest contained = inr contained

pub found_free : (uses : List PageUse) (n q : ℕ) → Contains (free_from uses n) q → (k : ℕ) × (q ≡ n + k) × (k < length uses) × (is_free (use_of uses k) ≡ true)
found_free [] n q (k, below, same) = absurd (omega (arith, below))
found_free (u ∷ us) n q contained = elim (free_in (is_free u) n q (free_from us (n + 1)) contained) [
  | inl here ↦ (0, omega (arith, here.1), omega arith, here.0)
  | inr there ↦
      let (k, place, within, free') = found_free us (n + 1) q there in
      (suc k, omega (arith, place), omega (arith, within), free')
]

in_front : (b : Bool) (n : ℕ) (rest : List ℕ) → b ≡ true → Contains (cond b (n ∷ rest) rest) n
in_front true n rest is_in = (0, omega arith, refl)
in_front false n rest is_in = absurd (true≢false (sym is_in))

behind_front : (b : Bool) (n q : ℕ) (rest : List ℕ) → Contains rest q → Contains (cond b (n ∷ rest) rest) q
behind_front true n q rest (k, below, same) = (suc k, omega (arith, below), same)
behind_front false n q rest contained = contained

-- a free page is in the list
pub free_is_in : (uses : List PageUse) (n k : ℕ) → k < length uses → is_free (use_of uses k) ≡ true → Contains (free_from uses n) (n + k)
free_is_in [] n k within free' = absurd (omega (arith, within))
free_is_in (u ∷ us) n zero within free' = subst (Contains (free_from (u ∷ us) n)) (sym (add-zero n)) (in_front (is_free u) n (free_from us (n + 1)) free')
free_is_in (u ∷ us) n (suc k) within free' =
    let place : n + 1 + k ≡ n + suc k = omega arith in
    behind_front (is_free u) n (n + suc k) (free_from us (n + 1)) (subst (Contains (free_from us (n + 1))) place (free_is_in us (n + 1) k (omega (arith, within)) free'))

-- the step of a scan
pub scanned : (uses : List PageUse) (i : ℕ) (out more : List ℕ) → i < length uses → out ≡ free_from (take i uses) 0
    → more ≡ out ++ cond (is_free (use_of uses i)) (i ∷ []) [] → more ≡ free_from (take (i + 1) uses) 0
scanned uses i out more within so_far same =
    let next : free_from (take (suc i) uses) 0 ≡ free_from (take i uses) 0 ++ cond (is_free (use_of uses i)) (i ∷ []) [] =
    subst (λ n. free_from (take (suc i) uses) 0 ≡ free_from (take i uses) 0 ++ cond (is_free (use_of uses i)) (n ∷ []) []) (zero-add i) (free_from-more uses i 0 within) in
    same ∙ ap (λ xs. xs ++ cond (is_free (use_of uses i)) (i ∷ []) []) so_far ∙ sym next ∙ ap (λ n. free_from (take n uses) 0) (sym (add-one i))

at_most_one : (b : Bool) (n : ℕ) → length (cond b (n ∷ []) []) ≤ 1
at_most_one true n = omega arith
at_most_one false n = omega arith

pub put_size : (b : Bool) (n : ℕ) (out more : List ℕ) → more ≡ out ++ cond b (n ∷ []) [] → length more ≤ length out + 1
put_size b n out more same = omega (arith, ap length same, length-append out (cond b (n ∷ []) []), at_most_one b n)

-- a block without a free page is passed over
pub passed_over : (uses : List PageUse) (from to : ℕ) (out : List ℕ) → from ≤ to → to ≤ length uses → NoneFree uses from to
    → out ≡ free_from (take from uses) 0 → out ≡ free_from (take to uses) 0
passed_over uses from to out le within none so_far =
    let d = to - from in
    let place : from + d ≡ to = omega (arith, le) in
    so_far ∙ sym (subst (λ n. free_from (take n uses) 0 ≡ free_from (take from uses) 0) place
    (none_more uses from d (omega (arith, place, within)) (λ page after below. none page after (omega (arith, below, place)))))

-- as many as are wanted were found, or all pages were passed
pub found_all : (uses : List PageUse) (stop : ℕ) (out : List ℕ) (wanted : ℕ) → out ≡ free_from (take stop uses) 0 → length out ≤ wanted
    → (length out < wanted → length uses ≤ stop) → wanted ≤ count_by is_free uses → length out ≡ wanted
found_all uses stop out wanted same most ended enough = elim (cases_lt (length out) wanted) [
  | inl fewer ↦
      let all : out ≡ free_pages uses = same ∙ ap free_pages (take_all stop uses (ended fewer)) in
      absurd (omega (arith, fewer, ap length all, length-free_pages uses, enough))
  | inr more ↦ omega (arith, most, more)
]
