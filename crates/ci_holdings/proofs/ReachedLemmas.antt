-- What notices reached they reach as more come, and a path that was reached was noted.
use Rattle.std.proofs.Common.{arith, ◌≡◌, ℕ, ◌<◌, ◌≤◌, Bool, true, false, IsTrue, List, [], ◌∷◌, ◌++◌, All, bytes_eq, filter, max, nat_le, nat_lt, refl, subst, append-nil, append_assoc, if◌then◌else◌}
use Rattle.std.proofs.lemmas.Bool.{and_parts}
use Rattle.std.proofs.lemmas.Bool.Decides.{nat_tests}
use Rattle.std.proofs.lemmas.List.Elements.{All-cons, All-nil}
use Rattle.std.proofs.lemmas.List.Folds.{list_any_at}
use Rattle.ci_change.specs.declared.notice.Notice.{Notice}
use Rattle.ci_change.specs.declared.notice.What.TheVariants.{Changed}
use Rattle.ci_change.specs.Charges.{was_reached}
use Rattle.ci_change.specs.HandedIn.{was_noted}
use Rattle.ci_change.specs.Pending.{latest_number}
use Rattle.ci_change.proofs.GreatestLemmas.{greatest_of-found}
use Rattle.ci_change.proofs.UnservedLemmas.{latest_number-push}

-- those that pass a test pass it
pub All-passes : {X : Type 0} (test : X → Bool) (xs : List X) → All (λ x. test x ≡ true) (filter test xs)
All-passes test [] = All-nil (λ x. test x ≡ true)
All-passes test (x ∷ xs) = by (test x) refl (All-passes test xs)
  where
    by : (b : Bool) → test x ≡ b → All (λ y. test y ≡ true) (filter test xs) → All (λ y. test y ≡ true) (filter test (x ∷ xs))
    by true is rest = rw is (All-cons (λ y. test y ≡ true) x (filter test xs) is rest)
    by false is rest = rw is rest

-- the number of a path's latest notice doesn't fall
latest-grows : (notices more : List Notice) (path : List ℕ) → latest_number notices path ≤ latest_number (notices ++ more) path
latest-grows notices [] path = rw (append-nil notices) (omega arith)
latest-grows notices (m ∷ more) path =
    let one : latest_number notices path ≤ latest_number (notices ++ m ∷ []) path = rw (latest_number-push notices m path) (by (bytes_eq m.path path)) in
    let rest = latest-grows (notices ++ m ∷ []) more path in
    subst (λ ns. latest_number notices path ≤ latest_number ns path) (append_assoc notices (m ∷ []) more) (omega (arith, one, rest))
  where
    by : (b : Bool) → latest_number notices path ≤ (if b then max (latest_number notices path) m.seq.0 else latest_number notices path)
    by true = omega arith
    by false = omega arith

pub reached_later : (notices more : List Notice) (path : List ℕ) (number : ℕ) → IsTrue (was_reached notices path number) → IsTrue (was_reached (notices ++ more) path number)
reached_later notices more path number reached =
    let parts = and_parts (nat_lt 0 number) (nat_le number (latest_number notices path)) reached in
    let grows = latest-grows notices more path in
    let some : 0 < number = grind (arith, nat_tests, parts.0) in
    let within : number ≤ latest_number notices path = grind (arith, nat_tests, parts.1) in
    let still : number ≤ latest_number (notices ++ more) path = omega (arith, grows, within) in
    grind (arith, nat_tests, some, still)

pub noted-reached : (notices : List Notice) (path : List ℕ) (number : ℕ) → IsTrue (was_reached notices path number) → was_noted notices path ≡ true
noted-reached notices path number reached =
    let parts = and_parts (nat_lt 0 number) (nat_le number (latest_number notices path)) reached in
    let some : 0 < number = grind (arith, nat_tests, parts.0) in
    let within : number ≤ latest_number notices path = grind (arith, nat_tests, parts.1) in
    let found = greatest_of-found (λ (n : Notice). n.seq.0) (λ (n : Notice). bytes_eq n.path path) notices (record { path = path; seq = record { 0 = number }; what = Changed }) (omega (arith, some, within)) in
    list_any_at (λ (n : Notice). bytes_eq n.path path) notices found.place _ found.within found.passes
