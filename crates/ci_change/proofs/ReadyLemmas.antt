-- The ready notices, as one thing more is handed in.
use Rattle.std.proofs.Common.{◌≡◌, ◌==◌, ◌&&◌, ◌||◌, ◌≤◌, ◌-◌, ◌^◌, ℕ, nat_le, nat_lt, Bool, true, false, not, cond, List, [], ◌∷◌, ◌++◌, filter, get_or, bytes_eq, refl, sym, ap, ◌∙◌, arith, if◌then◌else◌}
use Rattle.std.proofs.lemmas.Bool.{and_parts}
use Rattle.std.proofs.lemmas.Bool.Decides.{nat_tests}
use Rattle.std.proofs.lemmas.List.Elements.{filter-append}
use Rattle.std.proofs.lemmas.Slice.Eq.{bytes_eq-Decides}
use Rattle.ci_base.specs.declared.numbers.Seq.{Seq}
use Rattle.ci_change.specs.declared.notice.Notice.{Notice}
use Rattle.ci_change.specs.declared.rows.Numbers.{Numbers}
use Rattle.ci_change.specs.ChangeList.{IsUpToDate}
use Rattle.ci_change.specs.HandedIn.{History}
use Rattle.ci_change.specs.Pending.{charges_of, is_change, is_refused, is_set_aside, is_unserved, latest_number, unserved_of}
use Rattle.ci_change.specs.Register.{Kept, with_newest, without_given_up, without_number, without_served}
use Rattle.ci_change.specs.Rows.{numbers_at, sets_aside}
use Rattle.ci_change.proofs.ChargeLemmas.{le-counted}
use Rattle.ci_change.proofs.FilterLemmas.{filter-agreed, filter-fused, filter-swapped}
use Rattle.ci_change.proofs.TrialLemmas.{IsTrial}
use Rattle.ci_change.proofs.UnservedLemmas.{bytes_eq-flip, unserved-above, unserved-has_latest, unserved-is_latest}

-- ---- two filters of what a call leaves unserved

module _ (free waits : Notice → Bool) where
  without-inside : (number : ℕ) (notices : List Notice) → filter free (filter waits (without_number number notices)) ≡ without_number number (filter free (filter waits notices))
  without-inside number notices =
      ap (filter free) (filter-swapped waits (λ n. not (n.seq.0 == number)) notices) ∙ filter-swapped free (λ n. not (n.seq.0 == number)) (filter waits notices)

  picked : (n : Notice) (f w b : Bool) → free n ≡ f → waits n ≡ w → filter free (filter waits (if b then n ∷ [] else [])) ≡ (if (f && w) && b then n ∷ [] else [])
  picked n true true true is_free waiting = ap (λ c. filter free (cond c (n ∷ []) [])) waiting ∙ ap (λ c. cond c (n ∷ []) []) is_free
  picked n true false true is_free waiting = ap (λ c. filter free (cond c (n ∷ []) [])) waiting
  picked n false true true is_free waiting = ap (λ c. filter free (cond c (n ∷ []) [])) waiting ∙ ap (λ c. cond c (n ∷ []) []) is_free
  picked n false false true is_free waiting = ap (λ c. filter free (cond c (n ∷ []) [])) waiting
  picked n true true false is_free waiting = refl
  picked n true false false is_free waiting = refl
  picked n false w false is_free waiting = refl

  pub ready-newest : (notices : List Notice) (numbers : Numbers) (notice : Notice) (f w : Bool) → free notice ≡ f → waits notice ≡ w
      → filter free (filter waits (with_newest notices numbers notice true)) ≡ with_newest (filter free (filter waits notices)) numbers notice (f && w)
  ready-newest notices numbers notice f w is_free waiting =
      let added : List Notice = if nat_lt numbers.served notice.seq.0 then notice ∷ [] else [] in
      let others = without_number numbers.latest notices in
      ap (filter free) (filter-append waits others added) ∙ filter-append free (filter waits others) (filter waits added)
      ∙ ap (λ ns. ns ++ filter free (filter waits added)) (without-inside numbers.latest notices)
      ∙ ap (λ ns. without_number numbers.latest (filter free (filter waits notices)) ++ ns) (picked notice f w (nat_lt numbers.served notice.seq.0) is_free waiting)

  pub ready-served : (notices : List Notice) (latest served : ℕ) → filter free (filter waits (without_served notices latest served)) ≡ without_served (filter free (filter waits notices)) latest served
  ready-served notices latest served = by (nat_le latest served)
    where
      by : (b : Bool) → filter free (filter waits (if b then without_number latest notices else notices)) ≡ (if b then without_number latest (filter free (filter waits notices)) else filter free (filter waits notices))
      by true = without-inside latest notices
      by false = refl

-- ---- a notice was tried in vain

module _ (past : History) (kept : Kept) (retries : ℕ) (up : IsUpToDate past kept retries) (small : retries ≤ 2 ^ 32 - 1) (charges refusals : List (List ℕ × Seq)) (path : List ℕ) (put : Numbers)
    (trial : IsTrial past charges refusals path put) (same_latest : put.latest ≡ (numbers_at kept.rows path).latest) where
  abbrev latest : ℕ
  latest = latest_number past.notices path

  abbrev left : List Notice
  left = unserved_of past.notices past.served

  abbrev was_aside : Notice → Bool
  was_aside = is_set_aside retries past.charges past.refusals

  abbrev is_aside : Notice → Bool
  is_aside = is_set_aside retries charges refusals

  abbrev gives_up : Bool
  gives_up = nat_lt 0 put.latest && sets_aside put retries

  aside-here : (n : Notice) → is_unserved past.notices past.served n ≡ true → n.path ≡ path → is_aside n ≡ sets_aside put retries
  aside-here n unserved same =
      let number : n.seq.0 ≡ latest = unserved-is_latest past.notices past.served n unserved ∙ ap (latest_number past.notices) same in
      ap (λ k. is_refused refusals n.path k || nat_le retries (charges_of charges n.path k)) number
      ∙ ap (λ p. is_refused refusals p latest || nat_le retries (charges_of charges p latest)) same
      ∙ ap (λ b. is_refused refusals path latest || b) (sym (le-counted retries (charges_of charges path latest) small) ∙ ap (nat_le retries) (sym trial.attempts))
      ∙ ap (λ b. b || nat_le retries put.attempts) (sym trial.refused)

  aside-elsewhere : (n : Notice) → bytes_eq path n.path ≡ false → is_aside n ≡ was_aside n
  aside-elsewhere n other =
      ap (λ b. b || nat_le retries (charges_of charges n.path n.seq.0)) (trial.refusals_elsewhere n.path n.seq.0 other)
      ∙ ap (λ count. is_refused past.refusals n.path n.seq.0 || nat_le retries count) (trial.charges_elsewhere n.path n.seq.0 other)

  cases : (n : Notice) (b : Bool) → bytes_eq path n.path ≡ b → is_unserved past.notices past.served n ≡ true → (c : Bool) → gives_up ≡ c
      → (not (is_aside n) && is_change n) ≡ (if c then (not (was_aside n) && is_change n) && not b else not (was_aside n) && is_change n)
  cases n true same unserved true is =
      let parts = and_parts (nat_lt 0 put.latest) (sets_aside put retries) is in
      let aside = aside-here n unserved (sym ((bytes_eq-Decides path n.path).0 same)) ∙ parts.1 in
      ap (λ s. not s && is_change n) aside ∙ no-more (not (was_aside n) && is_change n)
    where
      no-more : (b : Bool) → false ≡ (b && false)
      no-more true = refl
      no-more false = refl
  cases n true same unserved false is =
      let at = sym ((bytes_eq-Decides path n.path).0 same) in
      let some = unserved-above past.notices past.served n unserved in
      let number : n.seq.0 ≡ put.latest = unserved-is_latest past.notices past.served n unserved ∙ ap (latest_number past.notices) at ∙ sym (up.latest path) ∙ sym same_latest in
      let positive : nat_lt 0 put.latest ≡ true = grind (arith, nat_tests, some, number) in
      let untried : sets_aside put retries ≡ false = ap (λ b. b && sets_aside put retries) (sym positive) ∙ is in
      let still = aside-here n unserved at ∙ untried in
      ap (λ s. not s && is_change n) (still ∙ sym (trial.grows retries n still))
  cases n false other unserved true is = ap (λ s. not s && is_change n) (aside-elsewhere n other) ∙ as-is (not (was_aside n) && is_change n)
    where
      as-is : (b : Bool) → b ≡ (b && true)
      as-is true = refl
      as-is false = refl
  cases n false other unserved false is = ap (λ s. not s && is_change n) (aside-elsewhere n other)

  abbrev before : Notice → Bool
  before n = not (was_aside n) && is_change n

  abbrev after : Notice → Bool
  after n = not (is_aside n) && is_change n

  apart-number : (n : Notice) (b : Bool) → (n.seq.0 == latest) ≡ bytes_eq n.path path → bytes_eq path n.path ≡ b → not b ≡ not (n.seq.0 == put.latest)
  apart-number n b has same =
      let is_latest : put.latest ≡ latest = same_latest ∙ up.latest path in
      ap not (sym same ∙ bytes_eq-flip path n.path ∙ sym has) ∙ ap (λ l. not (n.seq.0 == l)) (sym is_latest)

  -- the notice isn't ready any more when it is set aside
  pub ready-tried : filter is_change (filter (λ n. not (is_aside n)) left) ≡ without_given_up kept.ready put retries
  ready-tried =
      sym (filter-fused after (λ n. not (is_aside n)) is_change left (λ k d within. refl)) ∙ by gives_up refl
    where
      was : kept.ready ≡ filter before left
      was = up.ready ∙ sym (filter-fused before (λ n. not (was_aside n)) is_change left (λ k d within. refl))

      by : (c : Bool) → gives_up ≡ c → filter after left ≡ (if c then without_number put.latest kept.ready else kept.ready)
      by true is =
          filter-agreed (is_unserved past.notices past.served) after (λ n. before n && not (n.seq.0 == put.latest)) past.notices
          (λ k d within unserved. let n = get_or past.notices k d in cases n (bytes_eq path n.path) refl unserved true is
          ∙ ap (λ b. before n && b) (apart-number n (bytes_eq path n.path) (unserved-has_latest past.notices past.served path up.ascending k d within unserved) refl))
          ∙ filter-fused (λ n. before n && not (n.seq.0 == put.latest)) before (λ n. not (n.seq.0 == put.latest)) left (λ k d within. refl)
          ∙ ap (without_number put.latest) (sym was)
      by false is =
          filter-agreed (is_unserved past.notices past.served) after before past.notices
          (λ k d within unserved. cases (get_or past.notices k d) _ refl unserved false is) ∙ sym was
