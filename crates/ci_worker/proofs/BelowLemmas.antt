-- The numbers of documents that are out, and of those that a batch serves, stay below the next notice's.
use Rattle.std.proofs.Common.{arith, ◌≡◌, ◌<◌, ◌∙◌, ◌==◌, not, ℕ, Bool, true, false, List, [], ◌∷◌, ◌++◌, All, bytes_eq, filter, flat_map, map, drop, take, nat_lt, Some, None, refl, ap, sym, subst, append-nil, append_assoc}
use Rattle.std.proofs.lemmas.Bool.{and_parts}
use Rattle.std.proofs.lemmas.Bool.Decides.{nat_tests}
use Rattle.std.proofs.lemmas.List.Elements.{All-append, All-cons, All-head, All-map, All-nil, All-push, All-tail, All-take, filter_map-append}
use Rattle.ci_base.specs.declared.numbers.Seq.{Seq}
use Rattle.ci_change.specs.declared.batch.Batch.{Batch}
use Rattle.ci_change.specs.declared.notice.Notice.{Notice}
use Rattle.ci_change.specs.Pending.{docs_of, is_free, is_unserved, latest_number, served_number}
use Rattle.ci_change.proofs.UnservedLemmas.{served_number-push}
use Rattle.ci_chunk.specs.declared.outcome.Outcome.{Outcome}
use Rattle.ci_chunk.specs.declared.outcome.Outcome.TheVariants.{Done, Failed, Refused}
use Rattle.ci_journal.specs.declared.event.Event.{Event}
use Rattle.ci_journal.specs.Filings.{Filings, docs_out, fates, fates_at_end, file, filing, filings, out}
use Rattle.ci_journal.specs.Folds.{next_notice, notices}
use Rattle.ci_journal.specs.Pending.{free, is_unfiltered, unserved_notices}
use Rattle.ci_journal.specs.Served.{number_of, numbers_of, served_numbers}
use Rattle.ci_journal.specs.Tells.{Ending, tells}
use Rattle.ci_journal.specs.Tells.Ending.{Through, Within, Back}
use Rattle.ci_journal.specs.Tells.Fate.{Charged}
use Rattle.ci_journal.specs.Tells.Filed.{Begins, Ends}
use Rattle.ci_journal.specs.Terms.{Terms}
use Rattle.ci_journal.proofs.FoldsLemmas.{file_where, filings-push}
use Rattle.ci_worker.specs.Stops.{AreBelow, AreBelowNext}
use Rattle.ci_worker.proofs.StepLemmas.{greater-below, latest-same, same_next}

-- ---- lists that a test sifts

module _ {X : Type 0} (P : X → Type 0) (test : X → Bool) where
  pub All-filter : (xs : List X) → All P xs → All P (filter test xs)
  All-filter [] all = All-nil P
  All-filter (x ∷ xs) all = by (test x) refl (All-filter xs (All-tail P x xs all))
    where
      by : (b : Bool) → test x ≡ b → All P (filter test xs) → All P (filter test (x ∷ xs))
      by true is rest = rw is (All-cons P x (filter test xs) (All-head P x xs all) rest)
      by false is rest = rw is rest

  -- what passes is so
  pub All-sifted : ((x : X) → test x ≡ true → P x) → (xs : List X) → All P (filter test xs)
  All-sifted each [] = All-nil P
  All-sifted each (x ∷ xs) = by (test x) refl (All-sifted each xs)
    where
      by : (b : Bool) → test x ≡ b → All P (filter test xs) → All P (filter test (x ∷ xs))
      by true is rest = rw is (All-cons P x (filter test xs) (each x is) rest)
      by false is rest = rw is rest

-- ---- numbers below another

abbrev IsLow : ℕ → List ℕ × Seq → Type 0
IsLow next d = d.1.0 < next

-- the served numbers, with some more that are low
served-low : (next : ℕ) (served more : List (List ℕ × Seq)) (path : List ℕ) → served_number served path < next → All (IsLow next) more → served_number (served ++ more) path < next
served-low next served [] path low all = subst (λ ds. served_number ds path < next) (sym (append-nil served)) low
served-low next served (d ∷ more) path low all =
    subst (λ ds. served_number ds path < next) (append_assoc served (d ∷ []) more)
    (served-low next (served ++ d ∷ []) more path
    (subst (λ n. n < next) (sym (served_number-push served d.0 d.1 path)) (greater-below (bytes_eq d.0 path) (served_number served path) d.1.0 next low (All-head (IsLow next) d more all)))
    (All-tail (IsLow next) d more all))

-- the numbers that the end of a batch serves are those of its documents
ended-low : (next : ℕ) (docs : List (List ℕ × Seq)) (ending : Ending) → All (IsLow next) docs → All (IsLow next) (numbers_of (fates_at_end docs ending))
ended-low next docs (Through outcomes) all = by docs outcomes all
  where
    by : (docs : List (List ℕ × Seq)) (outcomes : List Outcome) → All (IsLow next) docs → All (IsLow next) (numbers_of (fates_at_end docs (Through outcomes)))
    by [] [] all = All-nil (IsLow next)
    by [] (o ∷ outcomes) all = All-nil (IsLow next)
    by (d ∷ docs) [] all = All-nil (IsLow next)
    by (d ∷ docs) (Done pieces ∷ outcomes) all = All-cons (IsLow next) d (numbers_of (fates_at_end docs (Through outcomes))) (All-head (IsLow next) d docs all) (by docs outcomes (All-tail (IsLow next) d docs all))
    by (d ∷ docs) (Failed status ∷ outcomes) all = by docs outcomes (All-tail (IsLow next) d docs all)
    by (d ∷ docs) (Refused status ∷ outcomes) all = by docs outcomes (All-tail (IsLow next) d docs all)
ended-low next docs (Within charged) all = by (take 1 (drop charged docs))
  where
    by : (ds : List (List ℕ × Seq)) → All (IsLow next) (numbers_of (map (λ doc. filing doc Charged) ds))
    by [] = All-nil (IsLow next)
    by (d ∷ ds) = by ds
ended-low next docs Back all = All-nil (IsLow next)

-- the documents of the batches that are out
docs_out-low : (next : ℕ) (batches : List Batch) (number : ℕ) → AreBelow next batches → All (IsLow next) (docs_out batches number)
docs_out-low next batches number all = by (filter (λ (b : Batch). b.number == number) batches) (All-filter (λ (b : Batch). All (IsLow next) b.docs) (λ (b : Batch). b.number == number) batches all)
  where
    by : (bs : List Batch) → All (λ (b : Batch). All (IsLow next) b.docs) bs → All (IsLow next) (flat_map (λ (b : Batch). b.docs) bs)
    by [] all = All-nil (IsLow next)
    by (b ∷ bs) all =
        All-append (IsLow next) b.docs (flat_map (λ (c : Batch). c.docs) bs) (All-head (λ (c : Batch). All (IsLow next) c.docs) b bs all)
        (by bs (All-tail (λ (c : Batch). All (IsLow next) c.docs) b bs all))

module _ (terms : Terms) (journal : List Event) (below : AreBelowNext terms journal) where
  -- what is not served yet has the number of its path's latest notice
  unserved-low : All (λ (n : Notice). n.seq.0 < next_notice terms journal) (unserved_notices terms journal)
  unserved-low =
      All-sifted (λ (n : Notice). n.seq.0 < next_notice terms journal) (is_unserved (notices terms journal) (served_numbers terms journal))
      (λ n is. let parts = and_parts (n.seq.0 == latest_number (notices terms journal) n.path) (nat_lt (served_number (served_numbers terms journal) n.path) n.seq.0) is in
      let same : n.seq.0 ≡ latest_number (notices terms journal) n.path = grind (arith, nat_tests, parts.0) in
      subst (λ k. k < next_notice terms journal) (sym same) (below.latest n.path)) (notices terms journal)

  free-low : (most : ℕ) → All (IsLow (next_notice terms journal)) (docs_of (take most (free terms journal)))
  free-low most =
      let P : Notice → Type 0 = λ n. n.seq.0 < next_notice terms journal in
      All-map (IsLow (next_notice terms journal)) (λ (n : Notice). (n.path, n.seq)) (take most (free terms journal))
      (All-take P most (free terms journal)
      (All-filter P (is_free (out journal)) _ (All-filter P (λ (n : Notice). not (is_unfiltered terms journal n)) (unserved_notices terms journal) unserved-low)))

  module _ (e : Event) (no_notice : (tells e.what).notice ≡ None) where
    below-of : ((path : List ℕ) → served_number (served_numbers terms (journal ++ e ∷ [])) path < next_notice terms journal) → AreBelow (next_notice terms journal) (out (journal ++ e ∷ []))
        → AreBelowNext terms (journal ++ e ∷ [])
    below-of served behind = record {
      latest = latest-same terms journal e no_notice below;
      served = λ path. subst (λ n. served_number (served_numbers terms (journal ++ e ∷ [])) path < n) (sym (same_next terms journal e no_notice)) (served path);
      out = subst (λ n. AreBelow n (out (journal ++ e ∷ []))) (sym (same_next terms journal e no_notice)) behind;
    }

    -- a batch of the first free documents begins
    pub below-begun : (batch : Batch) (most : ℕ) → (tells e.what).filed ≡ Some (Begins batch) → batch.docs ≡ docs_of (take most (free terms journal)) → AreBelowNext terms (journal ++ e ∷ [])
    below-begun batch most begins docs =
        let now : filings (journal ++ e ∷ []) ≡ file (filings journal) (Begins batch) = filings-push journal e ∙ ap (file_where (filings journal)) begins in
        below-of (subst (λ (f : Filings). (path : List ℕ) → served_number (terms.beginning.numbers ++ numbers_of f.filed) path < next_notice terms journal) (sym now) below.served)
        (subst (λ (f : Filings). AreBelow (next_notice terms journal) f.out) (sym now)
        (All-push (λ (b : Batch). All (IsLow (next_notice terms journal)) b.docs) (out journal) batch below.out (subst (All (IsLow (next_notice terms journal))) (sym docs) (free-low most))))

    -- a batch ends
    pub below-ended : (number : ℕ) (ending : Ending) → (tells e.what).filed ≡ Some (Ends number ending) → AreBelowNext terms (journal ++ e ∷ [])
    below-ended number ending ends =
        let now : filings (journal ++ e ∷ []) ≡ file (filings journal) (Ends number ending) = filings-push journal e ∙ ap (file_where (filings journal)) ends in
        let docs = docs_out (out journal) number in
        let more : served_numbers terms (journal ++ e ∷ []) ≡ served_numbers terms journal ++ numbers_of (fates_at_end docs ending) =
        ap (λ (f : Filings). terms.beginning.numbers ++ numbers_of f.filed) now
        ∙ ap (λ ns. terms.beginning.numbers ++ ns) (filter_map-append number_of (fates journal) (fates_at_end docs ending))
        ∙ sym (append_assoc terms.beginning.numbers (numbers_of (fates journal)) (numbers_of (fates_at_end docs ending))) in
        below-of
        (λ path. subst (λ ns. served_number ns path < next_notice terms journal) (sym more)
        (served-low (next_notice terms journal) (served_numbers terms journal) (numbers_of (fates_at_end docs ending)) path (below.served path)
        (ended-low (next_notice terms journal) docs ending (docs_out-low (next_notice terms journal) (out journal) number below.out))))
        (subst (λ (f : Filings). AreBelow (next_notice terms journal) f.out) (sym now)
        (All-filter (λ (b : Batch). All (IsLow (next_notice terms journal)) b.docs) (λ (b : Batch). not (b.number == number)) (out journal) below.out))
