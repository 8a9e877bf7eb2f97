-- How often notices were charged, and which were refused, as one thing more is handed in.
use Rattle.std.proofs.Common.{◌≡◌, ◌==◌, ◌&&◌, ◌||◌, ◌<◌, ◌≤◌, ◌+◌, ◌-◌, ◌^◌, ℕ, suc, suc-le-suc, max, nat_le, nat_lt, Bool, true, false, cond, IsTrue, List, [], ◌∷◌, ◌++◌, All, count_by, get_or, bytes_eq, refl, sym, ap, ◌∙◌, arith, if◌then◌else◌}
use Rattle.std.proofs.lemmas.Bool.{and_parts}
use Rattle.std.proofs.lemmas.Bool.Decides.{nat_tests}
use Rattle.std.proofs.lemmas.List.Elements.{All-append, All-cons, All-nil}
use Rattle.std.proofs.lemmas.List.Folds.{list_any-append}
use Rattle.std.proofs.lemmas.List.Sums.{sum_by-append, sum_by-cons}
use Rattle.std.specs.List.{list_any}
use Rattle.ci_base.specs.declared.numbers.Seq.{Seq}
use Rattle.ci_change.specs.declared.notice.Notice.{Notice}
use Rattle.ci_change.specs.Charges.{was_reached, charges_with, refusals_with}
use Rattle.ci_change.specs.Pending.{charges_of, is_refused, latest_number}
use Rattle.ci_change.specs.Register.{counted}
use Rattle.ci_change.proofs.UnservedLemmas.{latest_number-le, latest_number-lt, latest_number-push}

-- a number of the type of a count is reached by the count where it is by what is counted
pub le-counted : (number count : ℕ) → number ≤ 2 ^ 32 - 1 → nat_le number (counted count) ≡ nat_le number count
le-counted number count small = grind (arith, nat_tests, small)

-- where none passes, there are none
count-none : {X : Type 0} (test : X → Bool) (xs : List X) → All (λ x. test x ≡ false) xs → count_by test xs ≡ 0
count-none test [] all = refl
count-none test (x ∷ xs) all =
    let rest = count-none test xs (λ k d within. all (suc k) d (suc-le-suc within)) in
    sum_by-cons (λ y. cond (test y) 1 0) x xs ∙ ap (λ b. cond b 1 0 + count_by test xs) (all 0 x (omega arith)) ∙ omega (arith, rest)

any-none : {X : Type 0} (test : X → Bool) (xs : List X) → All (λ x. test x ≡ false) xs → list_any test xs ≡ false
any-none test [] all = refl
any-none test (x ∷ xs) all = ap (λ b. b || list_any test xs) (all 0 x (omega arith)) ∙ any-none test xs (λ k d within. all (suc k) d (suc-le-suc within))

pub or-none : (b : Bool) → (b || false) ≡ b
or-none true = refl
or-none false = refl

reached-parts : (notices : List Notice) (path : List ℕ) (number : ℕ) → IsTrue (was_reached notices path number) → (0 < number) × (number ≤ latest_number notices path)
reached-parts notices path number reached =
    let parts = and_parts (nat_lt 0 number) (nat_le number (latest_number notices path)) reached in
    (grind (arith, nat_tests, parts.0), grind (arith, nat_tests, parts.1))

-- ---- one notice more

module _ (notices : List Notice) (charges : List (List ℕ × Seq)) (notice : Notice) (newest : All (λ n. n.seq.0 < notice.seq.0) notices)
    (reached : All (λ c. IsTrue (was_reached notices c.0 c.1.0)) charges) where
  below-newest : (path : List ℕ) (number : ℕ) → IsTrue (was_reached notices path number) → number < notice.seq.0
  below-newest path number is =
      let parts = reached-parts notices path number is in
      let low = latest_number-le notices path notice.seq.0 newest in
      let below = latest_number-lt notices path notice.seq.0 newest (omega (arith, parts.0, parts.1)) in omega (arith, parts.1)

  apart : (same equal : Bool) → equal ≡ false → (same && equal) ≡ false
  apart true equal is = is
  apart false equal is = refl

  none-newest : (path : List ℕ) → All (λ c. (bytes_eq c.0 path && c.1.0 == notice.seq.0) ≡ false) charges
  none-newest path k d within =
      let c = get_or charges k d in
      let below = below-newest c.0 c.1.0 (reached k d within) in
      let other : (c.1.0 == notice.seq.0) ≡ false = grind (arith, nat_tests, below) in
      apart (bytes_eq c.0 path) (c.1.0 == notice.seq.0) other

  -- a notice begins anew
  pub charges_of-newest : (path : List ℕ) → charges_of charges path notice.seq.0 ≡ 0
  charges_of-newest path = count-none (λ c. bytes_eq c.0 path && c.1.0 == notice.seq.0) charges (none-newest path)

  pub is_refused-newest : (path : List ℕ) → is_refused charges path notice.seq.0 ≡ false
  is_refused-newest path = any-none (λ c. bytes_eq c.0 path && c.1.0 == notice.seq.0) charges (none-newest path)

  still-if : (b : Bool) (number latest seq : ℕ) → number ≤ latest → number ≤ (if b then max latest seq else latest)
  still-if true number latest seq le = omega arith
  still-if false number latest seq le = le

  -- what the notices reached, they reach
  pub reached-push : All (λ c. IsTrue (was_reached (notices ++ notice ∷ []) c.0 c.1.0)) charges
  reached-push k d within =
      let c = get_or charges k d in
      let parts = reached-parts notices c.0 c.1.0 (reached k d within) in
      let still = still-if (bytes_eq notice.path c.0) c.1.0 (latest_number notices c.0) notice.seq.0 parts.1 in
      let le : c.1.0 ≤ latest_number (notices ++ notice ∷ []) c.0 = rw (latest_number-push notices notice c.0) still in
      let some = parts.0 in grind (arith, nat_tests, le, some)

-- ---- one charge more

if-count : (b here : Bool) (test : List ℕ × Seq → Bool) (charges : List (List ℕ × Seq)) (c : List ℕ × Seq) → test c ≡ here
    → count_by test (if b then charges ++ c ∷ [] else charges) ≡ (if b && here then count_by test charges + 1 else count_by test charges)
if-count true here test charges c is =
    sum_by-append (λ y. cond (test y) 1 0) charges (c ∷ []) ∙ ap (λ b. count_by test charges + (0 + cond b 1 0)) is ∙ by here
  where
    by : (b : Bool) → count_by test charges + (0 + cond b 1 0) ≡ (if b then count_by test charges + 1 else count_by test charges)
    by true = refl
    by false = omega arith
if-count false here test charges c is = refl

pub charges_of-with : (notices : List Notice) (charges : List (List ℕ × Seq)) (path : List ℕ) (seq : Seq) (other : List ℕ) (number : ℕ)
    → charges_of (charges_with notices charges path seq) other number
    ≡ (if was_reached notices path seq.0 && (bytes_eq path other && seq.0 == number) then charges_of charges other number + 1 else charges_of charges other number)
charges_of-with notices charges path seq other number =
    if-count (was_reached notices path seq.0) _ (λ c. bytes_eq c.0 other && c.1.0 == number) charges (path, seq) refl

any-if : (b : Bool) (test : List ℕ × Seq → Bool) (refusals : List (List ℕ × Seq)) (r : List ℕ × Seq) → list_any test (if b then refusals ++ r ∷ [] else refusals) ≡ (list_any test refusals || (b && test r))
any-if true test refusals r = list_any-append test refusals (r ∷ []) ∙ ap (λ b. list_any test refusals || b) (or-none (test r))
any-if false test refusals r = sym (or-none (list_any test refusals))

-- one refusal more
pub is_refused-with : (notices : List Notice) (refusals : List (List ℕ × Seq)) (path : List ℕ) (seq : Seq) (other : List ℕ) (number : ℕ)
    → is_refused (refusals_with notices refusals path seq) other number ≡ (is_refused refusals other number || (was_reached notices path seq.0 && (bytes_eq path other && seq.0 == number)))
is_refused-with notices refusals path seq other number = any-if (was_reached notices path seq.0) (λ r. bytes_eq r.0 other && r.1.0 == number) refusals (path, seq)

-- each charge stays one of a number that was reached
pub reached-with : (notices : List Notice) (charges : List (List ℕ × Seq)) (path : List ℕ) (seq : Seq) → All (λ c. IsTrue (was_reached notices c.0 c.1.0)) charges
    → All (λ c. IsTrue (was_reached notices c.0 c.1.0)) (charges_with notices charges path seq)
reached-with notices charges path seq all = by (was_reached notices path seq.0) refl
  where
    by : (b : Bool) → was_reached notices path seq.0 ≡ b → All (λ (c : List ℕ × Seq). IsTrue (was_reached notices c.0 c.1.0)) (if b then charges ++ (path, seq) ∷ [] else charges)
    by true is =
        let P : List ℕ × Seq → Type 0 = λ c. IsTrue (was_reached notices c.0 c.1.0) in
        All-append P charges _ all (All-cons P (path, seq) [] is (All-nil P))
    by false is = all
