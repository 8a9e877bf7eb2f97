-- Which deletions are pending, which of them comes first, and what is left of them behind an erasure.
use Rattle.std.proofs.Common.{arith, ◌≡◌, ◌<◌, ◌≤◌, ◌+◌, ◌∙◌, ◌==◌, not, ℕ, Bool, true, false, suc, List, [], ◌∷◌, ◌++◌, Contains, IsSortedByKey, option_to_list, bytes_eq, get_or, max, nat_lt, refl, ap, sym, subst, append-nil, append_assoc, ⊎_elim, if◌then◌else◌}
use Rattle.std.specs.Cmp.Lexicographic.{slice_cmp}
use Rattle.std.specs.Ordering.{is_lt, nat_cmp}
use Rattle.std.specs.Cmp.{IsStrictWeakOrder}
use Rattle.std.proofs.lemmas.Cmp.{nat_list_cmp_total}
use Rattle.std.proofs.lemmas.Bool.{and_parts}
use Rattle.std.proofs.lemmas.Bool.Decides.{nat_tests}
use Rattle.std.proofs.lemmas.List.Sorted.{ranks_by}
use Rattle.std.proofs.lemmas.Slice.Eq.{bytes_eq-Decides}
use Rattle.ci_base.specs.declared.numbers.Seq.{Seq}
use Rattle.ci_change.specs.declared.notice.Notice.{Notice}
use Rattle.ci_change.specs.declared.notice.What.{What}
use Rattle.ci_change.specs.declared.notice.What.TheVariants.{Changed, Deleted}
use Rattle.ci_change.specs.Pending as change
use Rattle.ci_change.specs.Pending.{is_changed, is_unserved, latest_number, served_number}
use Rattle.ci_change.proofs.UnservedLemmas.{served_number-push}
use Rattle.ci_keys.proofs.OneForm.{Contains-cons_cases, none_in_empty}
use Rattle.ci_journal.specs.declared.event.Event.{Event}
use Rattle.ci_journal.specs.declared.event.Happened.TheVariants.{Erased}
use Rattle.ci_journal.specs.Filings.{Filings, fates}
use Rattle.ci_journal.specs.Folds.{notices}
use Rattle.ci_journal.specs.Pending.{charge_of, charge_under, charges_in, deletions, is_set_aside, pending, refusal_of, refusal_under, refusals_in, unserved_notices}
use Rattle.ci_journal.specs.Served.{numbers_of, served_numbers}
use Rattle.ci_journal.specs.Step.{MayErase}
use Rattle.ci_journal.specs.Tells.{Filing, event}
use Rattle.ci_journal.specs.Tells.Fate.{Gone}
use Rattle.ci_journal.specs.Terms.{Terms}
use Rattle.ci_journal.proofs.FoldsLemmas.{filings-push, numbers_of-push}
use Rattle.ci_journal.proofs.TellsLemmas.{filter_map-push}
use Rattle.ci_worker.specs.Filtering.{IsBeside}
use Rattle.ci_worker.proofs.WayLemmas.{notices-same, sifted, sifts}

-- a notice that was pending when the erasing began is its path's latest, and isn't set aside
pub record IsDue (terms : Terms) (journal : List Event) (n : Notice) : Type 0 where
  pub unaside : is_set_aside terms.retries (fates journal) n ≡ false
  pub latest : n.seq.0 ≡ latest_number (notices terms journal) n.path

-- ---- what is known of a notice that is pending

module _ (terms : Terms) (journal : List Event) (n : Notice) where
  pub unserved_of_pending : Contains (pending terms journal) n → (is_set_aside terms.retries (fates journal) n ≡ false) × Contains (unserved_notices terms journal) n
  unserved_of_pending here =
      let kept = sifted (λ (m : Notice). not (is_set_aside terms.retries (fates journal) m)) (unserved_notices terms journal) n here in
      (unnot (is_set_aside terms.retries (fates journal) n) kept.1, kept.0)
    where
      unnot : (b : Bool) → not b ≡ true → b ≡ false
      unnot true is = absurd (cc)
      unnot false is = refl

  is_live : Contains (unserved_notices terms journal) n → Contains (notices terms journal) n × (is_unserved (notices terms journal) (served_numbers terms journal) n ≡ true)
  is_live here = sifted (is_unserved (notices terms journal) (served_numbers terms journal)) (notices terms journal) n here

  pub latest_of_live : Contains (unserved_notices terms journal) n → n.seq.0 ≡ latest_number (notices terms journal) n.path
  latest_of_live here =
      let parts = and_parts (n.seq.0 == latest_number (notices terms journal) n.path) (nat_lt (served_number (served_numbers terms journal) n.path) n.seq.0) (is_live here).1 in
      grind (arith, nat_tests, parts.0)

  pub unserved_of_live : Contains (unserved_notices terms journal) n → served_number (served_numbers terms journal) n.path < n.seq.0
  unserved_of_live here =
      let parts = and_parts (n.seq.0 == latest_number (notices terms journal) n.path) (nat_lt (served_number (served_numbers terms journal) n.path) n.seq.0) (is_live here).1 in
      grind (arith, nat_tests, parts.1)

  pub due-pending : Contains (pending terms journal) n → IsDue terms journal n
  due-pending here = let parts = unserved_of_pending here in record { unaside = parts.0; latest = latest_of_live parts.1 }

  -- a deletion that is pending
  pub pending_of_deletion : Contains (deletions terms journal) n → Contains (pending terms journal) n × (n.what ≡ Deleted)
  pending_of_deletion here =
      let kind = sifted (λ (m : Notice). not (is_changed m.what)) (pending terms journal) n here in
      (kind.0, by n.what kind.1)
    where
      by : (w : What) → not (is_changed w) ≡ true → w ≡ Deleted
      by Changed is = absurd (cc)
      by Deleted is = refl

  pub may_of_deletion : Contains (deletions terms journal) n → MayErase terms journal n.path n.seq
  may_of_deletion here =
      let parts = pending_of_deletion here in
      let live = (unserved_of_pending parts.0).1 in
      let same : n ≡ record { path = n.path; seq = n.seq; what = Deleted } = ap (λ (w : What). record { path = n.path; seq = n.seq; what = w }) parts.1 in
      subst (Contains (unserved_notices terms journal)) same live

  -- one that may be erased, and isn't set aside, is pending
  pub deletion_of_live : n.what ≡ Deleted → is_set_aside terms.retries (fates journal) n ≡ false → Contains (unserved_notices terms journal) n → Contains (deletions terms journal) n
  deletion_of_live kind unaside live =
      sifts (λ (m : Notice). not (is_changed m.what)) (pending terms journal) n
      (sifts (λ (m : Notice). not (is_set_aside terms.retries (fates journal) m)) (unserved_notices terms journal) n live (ap not unaside)) (ap (λ w. not (is_changed w)) kind)

-- ---- the first of the notices in order

abbrev lower : Notice → Notice → Bool
lower a b = is_lt (slice_cmp nat_cmp a.path b.path)

weak : IsStrictWeakOrder lower
weak = ranks_by nat_list_cmp_total (λ (x : Notice). x.path)

not_below_itself : (n : Notice) → lower n n ≡ false
not_below_itself n = of (lower n n) refl
  where
    of : (b : Bool) → lower n n ≡ b → b ≡ false
    of true is = sym is ∙ weak.one_way n n is
    of false is = refl

pub sorted-rest : (n : Notice) (rest : List Notice) → IsSortedByKey (λ (n : Notice). n.path) (slice_cmp nat_cmp) (n ∷ rest) → IsSortedByKey (λ (n : Notice). n.path) (slice_cmp nat_cmp) rest
sorted-rest n rest order = λ k d low within.
    let next : suc k + 1 ≡ suc (k + 1) = omega arith in
    subst (λ i. is_lt (slice_cmp nat_cmp (get_or (n ∷ rest) i d).path (get_or rest k d).path) ≡ false) next (order (suc k) d (omega arith) (omega (arith, within)))

later-least : (n : Notice) (rest : List Notice) (m : Notice) → IsSortedByKey (λ (n : Notice). n.path) (slice_cmp nat_cmp) (n ∷ rest) → Contains rest m → lower m n ≡ false
later-least n [] m order here = absurd (none_in_empty m here)
later-least n (k ∷ rest) m order here =
    let next : lower k n ≡ false = order 0 n (omega arith) (omega arith) in
    ⊎_elim (λ (first : k ≡ m). subst (λ (x : Notice). lower x n ≡ false) first next)
    (λ later. weak.chain m k n (later-least k rest m (sorted-rest n (k ∷ rest) order) later) next) (Contains-cons_cases k rest m here)

pub head-least : (n : Notice) (rest : List Notice) (m : Notice) → IsSortedByKey (λ (n : Notice). n.path) (slice_cmp nat_cmp) (n ∷ rest) → Contains (n ∷ rest) m → is_lt (slice_cmp nat_cmp m.path n.path) ≡ false
head-least n rest m order here =
    ⊎_elim (λ (first : n ≡ m). subst (λ (x : Notice). lower x n ≡ false) first (not_below_itself n)) (λ later. later-least n rest m order later) (Contains-cons_cases n rest m here)

-- ---- behind an erasure

-- a document that is gone sets nothing aside
aside-gone : (retries : ℕ) (filed : List Filing) (f : Filing) (n : Notice) → f.fate ≡ Gone → is_set_aside retries (filed ++ f ∷ []) n ≡ is_set_aside retries filed n
aside-gone retries filed f n is =
    let charges : charges_in (filed ++ f ∷ []) ≡ charges_in filed = filter_map-push charge_of filed f ∙ ap (λ w. charges_in filed ++ option_to_list (charge_under (f.path, f.seq) w)) is ∙ append-nil (charges_in filed) in
    let refusals : refusals_in (filed ++ f ∷ []) ≡ refusals_in filed = filter_map-push refusal_of filed f ∙ ap (λ w. refusals_in filed ++ option_to_list (refusal_under (f.path, f.seq) w)) is ∙ append-nil (refusals_in filed) in
    ap (λ rs. change.is_set_aside retries (charges_in (filed ++ f ∷ [])) rs n) refusals ∙ ap (λ cs. change.is_set_aside retries cs (refusals_in filed) n) charges

module _ (terms : Terms) (journal : List Event) (by : ℕ) (path : List ℕ) (seq : Seq) where
  abbrev erasure : Event
  erasure = event by (Erased path seq)

  abbrev gone : Filing
  gone = record { path = path; seq = seq; fate = Gone }

  fates_behind : fates (journal ++ erasure ∷ []) ≡ fates journal ++ gone ∷ []
  fates_behind = ap (λ (f : Filings). f.filed) (filings-push journal erasure)

  -- nothing is set aside by it
  aside_behind : (n : Notice) → is_set_aside terms.retries (fates (journal ++ erasure ∷ [])) n ≡ is_set_aside terms.retries (fates journal) n
  aside_behind n = ap (λ fs. is_set_aside terms.retries fs n) fates_behind ∙ aside-gone terms.retries (fates journal) gone n refl

  -- and its path is served up to its number
  pub served_behind : (n : Notice) → n.path ≡ path → seq.0 ≤ served_number (served_numbers terms (journal ++ erasure ∷ [])) n.path
  served_behind n own =
      let numbers : served_numbers terms (journal ++ erasure ∷ []) ≡ served_numbers terms journal ++ (path, seq) ∷ [] =
      ap (λ fs. terms.beginning.numbers ++ numbers_of fs) fates_behind ∙ ap (λ ns. terms.beginning.numbers ++ ns) (numbers_of-push (fates journal) gone)
      ∙ sym (append_assoc terms.beginning.numbers (numbers_of (fates journal)) ((path, seq) ∷ [])) in
      let same : bytes_eq path n.path ≡ true = (bytes_eq-Decides path n.path).1 (sym own) in
      let is : served_number (served_numbers terms (journal ++ erasure ∷ [])) n.path ≡ max (served_number (served_numbers terms journal) n.path) seq.0 =
      ap (λ ds. served_number ds n.path) numbers ∙ served_number-push (served_numbers terms journal) path seq n.path
      ∙ ap (λ b. if b then max (served_number (served_numbers terms journal) n.path) seq.0 else served_number (served_numbers terms journal) n.path) same in
      omega (arith, is)

  pub due_behind : (n : Notice) → IsDue terms journal n → IsDue terms (journal ++ erasure ∷ []) n
  due_behind n due = record {
    unaside = aside_behind n ∙ due.unaside;
    latest = due.latest ∙ ap (λ ns. latest_number ns n.path) (sym (notices-same terms journal erasure refl));
  }

  pub beside_erasure : IsBeside erasure
  beside_erasure = record { unbatched = refl; unstarted = refl; unlinked = refl }
