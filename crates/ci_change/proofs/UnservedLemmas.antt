-- The unserved notices, as one notice more or one served number more is handed in.
use Rattle.std.proofs.Common.{◌≡◌, ◌==◌, ◌&&◌, ◌<◌, ◌≤◌, ◌-◌, ℕ, max, nat_le, nat_lt, Bool, true, false, not, cond, List, [], ◌∷◌, ◌++◌, All, AllPairs, filter, length, get_or, bytes_eq, inl, inr, refl, sym, ap, subst, ◌∙◌, arith, true≢false, if◌then◌else◌}
use Rattle.std.proofs.lemmas.Bool.{cases_lt, cases_eq, and_parts}
use Rattle.std.proofs.lemmas.Bool.Decides.{nat_tests}
use Rattle.std.proofs.lemmas.Cmp.{nat_list_eq_equiv}
use Rattle.std.proofs.lemmas.List.Elements.{filter-append}
use Rattle.std.proofs.lemmas.Slice.Eq.{bytes_eq-Decides}
use Rattle.ci_base.specs.declared.numbers.Seq.{Seq}
use Rattle.ci_change.specs.declared.notice.Notice.{Notice}
use Rattle.ci_change.specs.Pending.{latest_number, served_number, is_unserved, unserved_of, with_number, with_path}
use Rattle.ci_change.specs.Register.{without_number, without_served}
use Rattle.ci_change.proofs.FilterLemmas.{filter-fused, filter-agreed, filter-all}
use Rattle.ci_change.proofs.GreatestLemmas.{greatest_of-push, greatest_of-le, greatest_of-found}

pub bytes_eq-flip : (xs ys : List ℕ) → bytes_eq xs ys ≡ bytes_eq ys xs
bytes_eq-flip = nat_list_eq_equiv.symm

pub bytes_eq-same : (xs : List ℕ) → bytes_eq xs xs ≡ true
bytes_eq-same = nat_list_eq_equiv.refl

-- ---- the numbers of a path

pub latest_number-push : (notices : List Notice) (notice : Notice) (path : List ℕ)
    → latest_number (notices ++ notice ∷ []) path ≡ (if bytes_eq notice.path path then max (latest_number notices path) notice.seq.0 else latest_number notices path)
latest_number-push notices notice path = greatest_of-push (λ n. n.seq.0) (λ n. bytes_eq n.path path) notices notice

pub served_number-push : (served : List (List ℕ × Seq)) (path : List ℕ) (seq : Seq) (other : List ℕ)
    → served_number (served ++ (path, seq) ∷ []) other ≡ (if bytes_eq path other then max (served_number served other) seq.0 else served_number served other)
served_number-push served path seq other = greatest_of-push (λ s. s.1.0) (λ s. bytes_eq s.0 other) served (path, seq)

-- a number above all notices is above the latest of each path
pub latest_number-le : (notices : List Notice) (path : List ℕ) (number : ℕ) → All (λ n. n.seq.0 < number) notices → latest_number notices path ≤ number
latest_number-le notices path number all = greatest_of-le (λ n. n.seq.0) (λ n. bytes_eq n.path path) notices number (λ k d within. omega (arith, all k d within))

pub latest_number-lt : (notices : List Notice) (path : List ℕ) (number : ℕ) → All (λ n. n.seq.0 < number) notices → 0 < number → latest_number notices path < number
latest_number-lt notices path number all some =
    let le = greatest_of-le (λ n. n.seq.0) (λ n. bytes_eq n.path path) notices (number - 1) (λ k d within. omega (arith, all k d within)) in omega arith

-- ---- one notice more

and-false : (b : Bool) → (b && false) ≡ false
and-false true = refl
and-false false = refl

and-true : (b : Bool) → (b && true) ≡ b
and-true true = refl
and-true false = refl

latest-later : (same above : Bool) (number latest newest : ℕ) → number < newest
    → ((number == (if same then max latest newest else latest)) && above) ≡ (((number == latest) && above) && not same)
latest-later true above number latest newest below =
    let apart : (number == max latest newest) ≡ false = grind (arith, nat_tests) in
    ap (λ b. b && above) apart ∙ sym (and-false ((number == latest) && above))
latest-later false above number latest newest below = sym (and-true ((number == latest) && above))

if-notice : (b : Bool) (notice : Notice) → cond b (notice ∷ []) [] ≡ (if b then notice ∷ [] else [])
if-notice true notice = refl
if-notice false notice = refl

unserved-later : (notices : List Notice) (served : List (List ℕ × Seq)) (notice n : Notice) → n.seq.0 < notice.seq.0
    → is_unserved (notices ++ notice ∷ []) served n ≡ (is_unserved notices served n && not (bytes_eq n.path notice.path))
unserved-later notices served notice n below =
    let above = nat_lt (served_number served n.path) n.seq.0 in
    ap (λ l. (n.seq.0 == l) && above) (latest_number-push notices notice n.path)
    ∙ latest-later (bytes_eq notice.path n.path) above n.seq.0 (latest_number notices n.path) notice.seq.0 below
    ∙ ap (λ b. is_unserved notices served n && not b) (bytes_eq-flip notice.path n.path)

eqb-same : (n : ℕ) → (n == n) ≡ true
eqb-same n = grind (arith, nat_tests)

unserved-newest : (notices : List Notice) (served : List (List ℕ × Seq)) (notice : Notice) → All (λ n. n.seq.0 < notice.seq.0) notices
    → is_unserved (notices ++ notice ∷ []) served notice ≡ nat_lt (served_number served notice.path) notice.seq.0
unserved-newest notices served notice below =
    let above = nat_lt (served_number served notice.path) notice.seq.0 in
    let latest = latest_number notices notice.path in
    let low = latest_number-le notices notice.path notice.seq.0 below in
    let newest : max latest notice.seq.0 ≡ notice.seq.0 = omega arith in
    let is = latest_number-push notices notice notice.path ∙ ap (λ b. if b then max latest notice.seq.0 else latest) (bytes_eq-same notice.path) ∙ newest in
    ap (λ l. (notice.seq.0 == l) && above) is ∙ ap (λ b. b && above) (eqb-same notice.seq.0)

-- the notices of other paths stay pending, and the new one is if it isn't served
pub unserved-push : (notices : List Notice) (served : List (List ℕ × Seq)) (notice : Notice) → All (λ n. n.seq.0 < notice.seq.0) notices
    → unserved_of (notices ++ notice ∷ []) served
    ≡ filter (λ n. not (bytes_eq n.path notice.path)) (unserved_of notices served) ++ (if nat_lt (served_number served notice.path) notice.seq.0 then notice ∷ [] else [])
unserved-push notices served notice below =
    let after = is_unserved (notices ++ notice ∷ []) served in
    let others = filter-fused after (is_unserved notices served) (λ n. not (bytes_eq n.path notice.path)) notices (λ k d within. unserved-later notices served notice (get_or notices k d) (below k d within)) in
    filter-append after notices (notice ∷ []) ∙ ap (λ ns. ns ++ filter after (notice ∷ [])) others
    ∙ ap (λ b. filter (λ n. not (bytes_eq n.path notice.path)) (filter (is_unserved notices served) notices) ++ cond b (notice ∷ []) []) (unserved-newest notices served notice below)
    ∙ ap (λ ns. filter (λ n. not (bytes_eq n.path notice.path)) (filter (is_unserved notices served) notices) ++ ns) (if-notice _ notice)

-- ---- an unserved notice and the latest of a path

pub unserved-is_latest : (notices : List Notice) (served : List (List ℕ × Seq)) (n : Notice) → is_unserved notices served n ≡ true → n.seq.0 ≡ latest_number notices n.path
unserved-is_latest notices served n unserved =
    let parts = and_parts (n.seq.0 == latest_number notices n.path) (nat_lt (served_number served n.path) n.seq.0) unserved in grind (arith, nat_tests, parts.0)

pub unserved-above : (notices : List Notice) (served : List (List ℕ × Seq)) (n : Notice) → is_unserved notices served n ≡ true → 0 < n.seq.0
unserved-above notices served n unserved =
    let parts = and_parts (n.seq.0 == latest_number notices n.path) (nat_lt (served_number served n.path) n.seq.0) unserved in grind (arith, nat_tests, parts.1)

-- no two notices have one number
place_of_number : (notices : List Notice) (i j : ℕ) (d : Notice) → AllPairs (λ a b. a.seq.0 < b.seq.0) notices → i < length notices → j < length notices
    → (get_or notices i d).seq.0 ≡ (get_or notices j d).seq.0 → i ≡ j
place_of_number notices i j d ascending i_within j_within same = elim (cases_lt i j) [
  | inl before ↦ absurd (omega (arith, ascending i j d before j_within))
  | inr above ↦ elim (cases_lt j i) [ inl after ↦ absurd (omega (arith, ascending j i d after i_within)) | inr below ↦ omega arith ]
]

-- so the notice with the number of a path's latest one has the path
has_path-of_latest : (notices : List Notice) (path : List ℕ) → AllPairs (λ a b. a.seq.0 < b.seq.0) notices → (k : ℕ) (d : Notice) → k < length notices
    → 0 < (get_or notices k d).seq.0 → (get_or notices k d).seq.0 ≡ latest_number notices path → bytes_eq (get_or notices k d).path path ≡ true
has_path-of_latest notices path ascending k d within some same =
    let found = greatest_of-found (λ n. n.seq.0) (λ n. bytes_eq n.path path) notices d (omega arith) in
    let place = place_of_number notices found.place k d ascending found.within within (found.has ∙ sym same) in
    subst (λ i. bytes_eq (get_or notices i d).path path ≡ true) place found.passes

-- an unserved notice has the number of a path's latest notice where it has the path
pub unserved-has_latest : (notices : List Notice) (served : List (List ℕ × Seq)) (path : List ℕ) → AllPairs (λ a b. a.seq.0 < b.seq.0) notices
    → All (λ n. is_unserved notices served n ≡ true → (n.seq.0 == latest_number notices path) ≡ bytes_eq n.path path) notices
unserved-has_latest notices served path ascending k d within pending =
    let n = get_or notices k d in
    let parts = and_parts (n.seq.0 == latest_number notices n.path) (nat_lt (served_number served n.path) n.seq.0) pending in
    let some : 0 < n.seq.0 = grind (arith, nat_tests, parts.1) in
    by (bytes_eq n.path path) refl some parts.0
  where
    by : (b : Bool) → bytes_eq (get_or notices k d).path path ≡ b → 0 < (get_or notices k d).seq.0 → ((get_or notices k d).seq.0 == latest_number notices (get_or notices k d).path) ≡ true
        → ((get_or notices k d).seq.0 == latest_number notices path) ≡ b
    by true same some own = subst (λ p. ((get_or notices k d).seq.0 == latest_number notices p) ≡ true) ((bytes_eq-Decides _ _).0 same) own
    by false other some own = elim (cases_eq (get_or notices k d).seq.0 (latest_number notices path)) [
      | inl same ↦ absurd (true≢false (sym (has_path-of_latest notices path ascending k d within some same) ∙ other))
      | inr apart ↦ grind (arith, nat_tests, apart)
    ]

-- without the number of a path's latest notice there is none of the path
pub unserved-others : (notices : List Notice) (served : List (List ℕ × Seq)) (path : List ℕ) → AllPairs (λ a b. a.seq.0 < b.seq.0) notices
    → without_number (latest_number notices path) (unserved_of notices served) ≡ filter (λ n. not (bytes_eq n.path path)) (unserved_of notices served)
unserved-others notices served path ascending =
    filter-agreed (is_unserved notices served) (λ n. not (n.seq.0 == latest_number notices path)) (λ n. not (bytes_eq n.path path)) notices
    (λ k d within pending. ap not (unserved-has_latest notices served path ascending k d within pending))

-- the unserved notices with that number are those of the path
pub unserved-of_path : (notices : List Notice) (served : List (List ℕ × Seq)) (path : List ℕ) → AllPairs (λ a b. a.seq.0 < b.seq.0) notices
    → with_path path (unserved_of notices served) ≡ with_number (latest_number notices path) (unserved_of notices served)
unserved-of_path notices served path ascending =
    filter-agreed (is_unserved notices served) (λ n. bytes_eq n.path path) (λ n. n.seq.0 == latest_number notices path) notices
    (λ k d within pending. sym (unserved-has_latest notices served path ascending k d within pending))

-- ---- one served number more

served-above : (latest same : Bool) (served more number : ℕ) → (latest && nat_lt (if same then max served more else served) number) ≡ ((latest && nat_lt served number) && not (same && nat_le number more))
served-above true true served more number = grind (arith, nat_tests)
served-above true false served more number = sym (and-true (nat_lt served number))
served-above false same served more number = refl

unserved-still : (notices : List Notice) (served : List (List ℕ × Seq)) (path : List ℕ) (seq : Seq) (n : Notice)
    → is_unserved notices (served ++ (path, seq) ∷ []) n ≡ (is_unserved notices served n && not (bytes_eq n.path path && nat_le n.seq.0 seq.0))
unserved-still notices served path seq n =
    let latest = n.seq.0 == latest_number notices n.path in
    ap (λ s. latest && nat_lt s n.seq.0) (served_number-push served path seq n.path)
    ∙ served-above latest (bytes_eq path n.path) (served_number served n.path) seq.0 n.seq.0
    ∙ ap (λ b. is_unserved notices served n && not (b && nat_le n.seq.0 seq.0)) (bytes_eq-flip path n.path)

still-cases : (b same : Bool) (latest more number : ℕ) → nat_le latest more ≡ b → (number == latest) ≡ same → not (same && nat_le number more) ≡ (if b then not (number == latest) else true)
still-cases true true latest more number le is = grind (arith, nat_tests)
still-cases true false latest more number le is = ap not (sym is)
still-cases false true latest more number le is = grind (arith, nat_tests)
still-cases false false latest more number le is = refl

-- the notices that a served number leaves pending
pub unserved-served : (notices : List Notice) (served : List (List ℕ × Seq)) (path : List ℕ) (seq : Seq) → AllPairs (λ a b. a.seq.0 < b.seq.0) notices
    → unserved_of notices (served ++ (path, seq) ∷ []) ≡ without_served (unserved_of notices served) (latest_number notices path) seq.0
unserved-served notices served path seq ascending =
    let weak = is_unserved notices served in
    let more : Notice → Bool = λ n. not (bytes_eq n.path path && nat_le n.seq.0 seq.0) in
    filter-fused (is_unserved notices (served ++ (path, seq) ∷ [])) weak more notices (λ k d within. unserved-still notices served path seq (get_or notices k d))
    ∙ by (nat_le (latest_number notices path) seq.0) refl
  where
    by : (b : Bool) → nat_le (latest_number notices path) seq.0 ≡ b → filter (λ n. not (bytes_eq n.path path && nat_le n.seq.0 seq.0)) (filter (is_unserved notices served) notices)
        ≡ (if b then without_number (latest_number notices path) (filter (is_unserved notices served) notices) else filter (is_unserved notices served) notices)
    by true le = filter-agreed (is_unserved notices served) _ (λ n. not (n.seq.0 == latest_number notices path)) notices
        (λ k d within pending. still-cases true _ _ _ (get_or notices k d).seq.0 le (unserved-has_latest notices served path ascending k d within pending))
    by false le = filter-agreed (is_unserved notices served) _ (λ _. true) notices
        (λ k d within pending. still-cases false _ _ _ (get_or notices k d).seq.0 le (unserved-has_latest notices served path ascending k d within pending)) ∙ filter-all (λ _. true) _ (λ k d within. refl)
