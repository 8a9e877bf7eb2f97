-- What the steps of a filtering leave to be done.
use Rattle.std.proofs.Common.{arith, ◌≡◌, ◌≤◌, ◌<◌, ◌+◌, ◌∙◌, ◌==◌, ◌&&◌, ◌||◌, not, ℕ, Bool, true, false, List, [], ◌∷◌, ◌++◌, Contains, Option, Some, None, filter, nat_lt, count_by, bytes_eq, max, if◌then◌else◌, length, refl, ap, sym, subst, append-nil, append_assoc, ⊎_elim}
use Rattle.std.specs.List.{list_any}
use Rattle.std.proofs.lemmas.Bool.{and_parts}
use Rattle.std.proofs.lemmas.Bool.Decides.{nat_tests}
use Rattle.std.proofs.lemmas.List.{length-append}
use Rattle.std.proofs.lemmas.List.Elements.{filter_map-append, filter-append}
use Rattle.std.proofs.lemmas.List.Sums.{length-filter}
use Rattle.std.proofs.lemmas.List.Folds.{list_any-append}
use Rattle.ci_base.specs.declared.numbers.Seq.{Seq}
use Rattle.ci_change.specs.declared.notice.Notice.{Notice}
use Rattle.ci_change.specs.Pending.{attempts, is_changed, is_free, is_spent, is_unserved, served_number, unserved_of}
use Rattle.ci_change.proofs.UnservedLemmas.{served_number-push}
use Rattle.ci_keys.proofs.OneForm.{Contains-cons_cases, Contains-first, Contains-later, none_in_empty}
use Rattle.ci_journal.specs.declared.event.Event.{Event}
use Rattle.ci_journal.specs.Filings.{Filings, docs_out, fates, fates_at_end, filings, out}
use Rattle.ci_journal.specs.Folds.{notices}
use Rattle.ci_journal.specs.Pending.{charge_of, charges_in, deletions, free, is_set_aside, pending, refusal_of, refusals_in}
use Rattle.ci_journal.specs.Served.{number_of, numbers_of, served_numbers}
use Rattle.ci_journal.specs.Tells.{Filed, Filing, tells}
use Rattle.ci_journal.specs.Tells.Filed.{One, Begins, Ends}
use Rattle.ci_journal.specs.Terms.{Terms}
use Rattle.ci_journal.proofs.FoldsLemmas.{file_where, filings-push, last_of-push, notices-push}
use Rattle.ci_worker.specs.Way.{ends_trying, ends_with, is_over}

-- ---- the last event

pub is_over-push : (journal : List Event) (e : Event) → is_over (journal ++ e ∷ []) ≡ ends_trying e.what
is_over-push journal e = ap ends_with (last_of-push journal e)

-- ---- lists that a test sifts

module _ {X : Type 0} (test : X → Bool) where
  pub sifted : (xs : List X) (x : X) → Contains (filter test xs) x → Contains xs x × (test x ≡ true)
  sifted [] x here = absurd (none_in_empty x here)
  sifted (y ∷ xs) x here = by (test y) refl (sifted xs x)
    where
      by : (b : Bool) → test y ≡ b → (Contains (filter test xs) x → Contains xs x × (test x ≡ true)) → Contains (y ∷ xs) x × (test x ≡ true)
      by true kept rest =
          let there = rw kept at here in
          ⊎_elim (λ (first : y ≡ x). (subst (Contains (y ∷ xs)) first (Contains-first y xs), ap test (sym first) ∙ kept))
          (λ later. let more = rest later in (Contains-later y xs x more.0, more.1)) (Contains-cons_cases y (filter test xs) x there)
      by false lost rest = let there = rw lost at here in let more = rest there in (Contains-later y xs x more.0, more.1)

  pub sifts : (xs : List X) (x : X) → Contains xs x → test x ≡ true → Contains (filter test xs) x
  sifts [] x here is = absurd (none_in_empty x here)
  sifts (y ∷ xs) x here is = by (test y) refl (λ later. sifts xs x later is)
    where
      by : (b : Bool) → test y ≡ b → (Contains xs x → Contains (filter test xs) x) → Contains (filter test (y ∷ xs)) x
      by true kept rest =
          rw kept (⊎_elim (λ (first : y ≡ x). subst (Contains (y ∷ filter test xs)) first (Contains-first y (filter test xs)))
          (λ later. Contains-later y (filter test xs) x (rest later)) (Contains-cons_cases y xs x here))
      by false lost rest =
          rw lost (⊎_elim (λ (first : y ≡ x). absurd (let same : test x ≡ false = ap test (sym first) ∙ lost in let both : true ≡ false = sym is ∙ same in cc)) rest (Contains-cons_cases y xs x here))

pub no_member : {X : Type 0} (xs : List X) → ((x : X) → Contains xs x → ⊥) → xs ≡ []
no_member [] none = refl
no_member (x ∷ xs) none = absurd (none x (Contains-first x xs))

-- ---- what one more event files

module _ (journal : List Event) (e : Event) where
  pub fates-more : (more : List Filing) × (fates (journal ++ e ∷ []) ≡ fates journal ++ more)
  fates-more = by (tells e.what).filed (filings-push journal e)
    where
      by : (o : Option Filed) → filings (journal ++ e ∷ []) ≡ file_where (filings journal) o → (more : List Filing) × (fates (journal ++ e ∷ []) ≡ fates journal ++ more)
      by None is = ([], ap (λ (f : Filings). f.filed) is ∙ sym (append-nil (fates journal)))
      by (Some (One filing)) is = (filing ∷ [], ap (λ (f : Filings). f.filed) is)
      by (Some (Begins batch)) is = ([], ap (λ (f : Filings). f.filed) is ∙ sym (append-nil (fates journal)))
      by (Some (Ends number ending)) is = (fates_at_end (docs_out (out journal) number) ending, ap (λ (f : Filings). f.filed) is)

-- the number that a path is served under doesn't fall
served-rises : (served more : List (List ℕ × Seq)) (path : List ℕ) → served_number served path ≤ served_number (served ++ more) path
served-rises served [] path = rw (append-nil served) (omega arith)
served-rises served (d ∷ more) path =
    let one : served_number served path ≤ served_number (served ++ d ∷ []) path = rw (served_number-push served d.0 d.1 path) (by (bytes_eq d.0 path)) in
    let rest = served-rises (served ++ d ∷ []) more path in
    subst (λ ds. served_number served path ≤ served_number ds path) (append_assoc served (d ∷ []) more) (omega (arith, one, rest))
  where
    by : (b : Bool) → served_number served path ≤ (if b then max (served_number served path) d.1.0 else served_number served path)
    by true = omega arith
    by false = omega arith

count-more : {X : Type 0} (test : X → Bool) (xs ys : List X) → count_by test xs ≤ count_by test (xs ++ ys)
count-more test xs ys =
    let one : length (filter test xs) ≡ count_by test xs = length-filter test xs in
    let all : length (filter test (xs ++ ys)) ≡ count_by test (xs ++ ys) = length-filter test (xs ++ ys) in
    let both : length (filter test (xs ++ ys)) ≡ length (filter test xs) + length (filter test ys) = ap length (filter-append test xs ys) ∙ length-append (filter test xs) (filter test ys) in
    omega (arith, one, all, both)

-- a notice is set aside for ever
aside-still : (retries : ℕ) (filed more : List Filing) (n : Notice) → is_set_aside retries filed n ≡ true → is_set_aside retries (filed ++ more) n ≡ true
aside-still retries filed more n is =
    let named : List ℕ × Seq → Bool = λ r. bytes_eq r.0 n.path && r.1.0 == n.seq.0 in
    let refused = list_any named (refusals_in filed) in
    let spent = is_spent retries (charges_in filed) n in
    ap (λ rs. list_any named rs || is_spent retries (charges_in (filed ++ more)) n) (filter_map-append refusal_of filed more)
    ∙ ap (λ b. b || is_spent retries (charges_in (filed ++ more)) n) (list_any-append named (refusals_in filed) (refusals_in more))
    ∙ ap (λ cs. (refused || list_any named (refusals_in more)) || is_spent retries cs n) (filter_map-append charge_of filed more)
    ∙ by refused (list_any named (refusals_in more)) spent (is_spent retries (charges_in filed ++ charges_in more) n) is still
  where
    still : is_spent retries (charges_in filed) n ≡ true → is_spent retries (charges_in filed ++ charges_in more) n ≡ true
    still spent =
        let grows = count-more (λ (c : List ℕ × Seq). bytes_eq c.0 n.path && c.1.0 == n.seq.0) (charges_in filed) (charges_in more) in
        let enough : retries ≤ attempts (charges_in filed) n = grind (arith, nat_tests, spent) in
        let now : retries ≤ attempts (charges_in filed ++ charges_in more) n = omega (arith, grows, enough) in
        grind (arith, nat_tests, now)

    by : (a b c d : Bool) → (a || c) ≡ true → (c ≡ true → d ≡ true) → ((a || b) || d) ≡ true
    by true b c d is step = refl
    by false true c d is step = refl
    by false false c d is step = step is

-- ---- the deletions

module _ (terms : Terms) (journal : List Event) (e : Event) (no_notice : (tells e.what).notice ≡ None) where
  pub notices-same : notices terms (journal ++ e ∷ []) ≡ notices terms journal
  notices-same = notices-push terms journal e ∙ rw no_notice (append-nil (notices terms journal))

  -- an unserved notice was unserved before
  pub unserved-before : (n : Notice) → is_unserved (notices terms (journal ++ e ∷ [])) (served_numbers terms (journal ++ e ∷ [])) n ≡ true → is_unserved (notices terms journal) (served_numbers terms journal) n ≡ true
  unserved-before n is =
      let more = fates-more journal e in
      let grown : served_numbers terms (journal ++ e ∷ []) ≡ served_numbers terms journal ++ numbers_of more.0 =
      ap (λ fs. terms.beginning.numbers ++ numbers_of fs) more.1 ∙ ap (λ ns. terms.beginning.numbers ++ ns) (filter_map-append number_of (fates journal) more.0)
      ∙ sym (append_assoc terms.beginning.numbers (numbers_of (fates journal)) (numbers_of more.0)) in
      let earlier : is_unserved (notices terms journal) (served_numbers terms journal ++ numbers_of more.0) n ≡ true =
      ap (λ ds. is_unserved (notices terms journal) ds n) (sym grown) ∙ ap (λ ns. is_unserved ns (served_numbers terms (journal ++ e ∷ [])) n) (sym notices-same) ∙ is in
      let rises = served-rises (served_numbers terms journal) (numbers_of more.0) n.path in
      let parts = and_parts _ (nat_lt (served_number (served_numbers terms journal ++ numbers_of more.0) n.path) n.seq.0) earlier in
      let above : served_number (served_numbers terms journal ++ numbers_of more.0) n.path < n.seq.0 = grind (arith, nat_tests, parts.1) in
      let still : nat_lt (served_number (served_numbers terms journal) n.path) n.seq.0 ≡ true = grind (arith, nat_tests, rises, above) in
      rw (parts.0, still) refl

  -- a pending deletion was pending before
  pub deletion-before : (n : Notice) → Contains (deletions terms (journal ++ e ∷ [])) n → Contains (deletions terms journal) n
  deletion-before n here =
      let more = fates-more journal e in
      let kind = sifted (λ (m : Notice). not (is_changed m.what)) (pending terms (journal ++ e ∷ [])) n here in
      let kept = sifted (λ (m : Notice). not (is_set_aside terms.retries (fates (journal ++ e ∷ [])) m)) _ n kind.0 in
      let live = sifted (is_unserved (notices terms (journal ++ e ∷ [])) (served_numbers terms (journal ++ e ∷ []))) (notices terms (journal ++ e ∷ [])) n kept.0 in
      let unaside : not (is_set_aside terms.retries (fates journal) n) ≡ true =
      by (is_set_aside terms.retries (fates journal) n) (is_set_aside terms.retries (fates (journal ++ e ∷ [])) n)
      (λ is. ap (λ fs. is_set_aside terms.retries fs n) more.1 ∙ aside-still terms.retries (fates journal) more.0 n is) kept.1 in
      sifts (λ (m : Notice). not (is_changed m.what)) (pending terms journal) n
      (sifts (λ (m : Notice). not (is_set_aside terms.retries (fates journal) m)) (unserved_of (notices terms journal) (served_numbers terms journal)) n
      (sifts (is_unserved (notices terms journal) (served_numbers terms journal)) (notices terms journal) n (subst (λ ns. Contains ns n) notices-same live.0) (unserved-before n live.1)) unaside) kind.1
    where
      by : (a b : Bool) → (a ≡ true → b ≡ true) → not b ≡ true → not a ≡ true
      by true b step is = absurd (let yes = step refl in cc)
      by false b step is = refl

  -- where none was, none is
  pub deletions-none : deletions terms journal ≡ [] → deletions terms (journal ++ e ∷ []) ≡ []
  deletions-none none = no_member (deletions terms (journal ++ e ∷ [])) (λ n here. none_in_empty n (subst (λ ns. Contains ns n) none (deletion-before n here)))

  -- ---- an event that files nothing

  module _ (no_filing : (tells e.what).filed ≡ None) where
    filed-same : filings (journal ++ e ∷ []) ≡ filings journal
    filed-same = filings-push journal e ∙ ap (file_where (filings journal)) no_filing

    pub out-same : out (journal ++ e ∷ []) ≡ out journal
    out-same = ap (λ (f : Filings). f.out) filed-same

    pub pending-same : pending terms (journal ++ e ∷ []) ≡ pending terms journal
    pending-same =
        let of : List Notice → Filings → List Notice = λ ns f. filter (λ n. not (is_set_aside terms.retries f.filed n)) (unserved_of ns (terms.beginning.numbers ++ numbers_of f.filed)) in
        ap (λ ns. of ns (filings (journal ++ e ∷ []))) notices-same ∙ ap (of (notices terms journal)) filed-same

    pub free-same : free terms (journal ++ e ∷ []) ≡ free terms journal
    free-same = ap (λ bs. filter (is_free bs) (pending terms (journal ++ e ∷ []))) out-same ∙ ap (filter (is_free (out journal))) pending-same

    pub deletions-same : deletions terms (journal ++ e ∷ []) ≡ deletions terms journal
    deletions-same = ap (filter (λ (n : Notice). not (is_changed n.what))) pending-same
