-- A deletion that was just noted is pending, under its own number alone.
use Rattle.std.proofs.Common.{arith, ◌≡◌, ◌==◌, ◌∙◌, ℕ, nat_lt, Bool, true, false, List, [], ◌∷◌, ◌++◌, filter, Contains, bytes_eq, inl, inr, ⊎_elim, refl, ap, sym, subst}
use Rattle.std.proofs.lemmas.Bool.{and_parts}
use Rattle.std.proofs.lemmas.Bool.Decides.{nat_tests}
use Rattle.std.proofs.lemmas.List.Elements.{filter-append}
use Rattle.std.proofs.lemmas.Slice.Eq.{bytes_eq-Decides}
use Rattle.ci_base.specs.declared.numbers.Seq.{Seq}
use Rattle.ci_change.specs.declared.notice.Notice.{Notice}
use Rattle.ci_change.specs.declared.notice.What.TheVariants.{Deleted}
use Rattle.ci_change.specs.Pending.{latest_number, served_number, is_unserved}
use Rattle.ci_change.proofs.UnservedLemmas.{latest_number-push}
use Rattle.ci_keys.proofs.OneForm.{Contains-cons_cases, Contains-first, Contains-later, none_in_empty}
use Rattle.ci_journal.specs.declared.event.Event.{Event}
use Rattle.ci_journal.specs.declared.event.Happened.TheVariants.{Erased}
use Rattle.ci_journal.specs.Filings.{Filings}
use Rattle.ci_journal.specs.Folds.{next_notice, notices}
use Rattle.ci_journal.specs.Served.{numbers_of, served_numbers}
use Rattle.ci_journal.specs.Step.{MayErase}
use Rattle.ci_journal.specs.Tells.{event}
use Rattle.ci_journal.specs.Tells.Fate.{Gone}
use Rattle.ci_journal.specs.Terms.{Terms}
use Rattle.ci_journal.proofs.FoldsLemmas.{filings-push, notices-push}
use Rattle.ci_book.specs.declared.core_fault.CoreFault.{CoreFault}
use Rattle.ci_book.specs.Changes.{noted}
use Rattle.ci_holdings.specs.Core.{Core}
use Rattle.ci_core.specs.Erasing.{Erases, RefusesErasing}
use Rattle.ci_core.specs.Fixed.{KeepsFixed}
use Rattle.ci_holdings.specs.Refusals.{IsRefused, Refuses}
use Rattle.ci_holdings.specs.Steps.{IsUnrefused, Makes}
use Rattle.ci_worker.specs.Stops.{AreBelowNext, IsAt, IsSound}
use Rattle.ci_server.proofs.DocumentLemmas.{low-noted}
use Rattle.ci_worker.proofs.StepLemmas.{step-filed}
use Rattle.ci_server.proofs.StepsLemmas.{IsAt-step}

passes : {X : Type 0} (p : X → Bool) (xs : List X) (x : X) → Contains (filter p xs) x → p x ≡ true
passes p [] x here = absurd (none_in_empty x here)
passes {X} p (y ∷ xs) x here = by (p y) refl (passes p xs x)
  where
    by : (b : Bool) → p y ≡ b → (Contains (filter p xs) x → p x ≡ true) → p x ≡ true
    by true kept rest =
        let there = rw kept at here in
        ⊎_elim (λ (first : y ≡ x). subst (λ z. p z ≡ true) first kept) rest (Contains-cons_cases y (filter p xs) x there)
    by false lost rest = let there = rw lost at here in rest there

Contains-last : {X : Type 0} (xs : List X) (x : X) → Contains (xs ++ x ∷ []) x
Contains-last [] x = Contains-first x []
Contains-last (y ∷ xs) x = Contains-later y (xs ++ x ∷ []) x (Contains-last xs x)

-- the notice of a path that was just noted
module _ (terms : Terms) (journal : List Event) (path : List ℕ) (seq : Seq) (next : seq.0 ≡ next_notice terms journal) (below : AreBelowNext terms journal) where
  latest-now : latest_number (notices terms (journal ++ noted 0 path seq.0 Deleted ∷ [])) path ≡ seq.0
  latest-now =
      let same : bytes_eq path path ≡ true = (bytes_eq-Decides path path).1 refl in
      ap (λ ns. latest_number ns path) (notices-push terms journal (noted 0 path seq.0 Deleted))
      ∙ latest_number-push (notices terms journal) (record { path = path; seq = seq; what = Deleted }) path
      ∙ rw same (omega (arith, next, below.latest path))

  served-now : served_numbers terms (journal ++ noted 0 path seq.0 Deleted ∷ []) ≡ served_numbers terms journal
  served-now = ap (λ (filed : Filings). terms.beginning.numbers ++ numbers_of filed.filed) (filings-push journal (noted 0 path seq.0 Deleted))

  pending-now : is_unserved (notices terms (journal ++ noted 0 path seq.0 Deleted ∷ [])) (served_numbers terms (journal ++ noted 0 path seq.0 Deleted ∷ [])) (record { path = path; seq = seq; what = Deleted }) ≡ true
  pending-now =
      let own : (seq.0 == latest_number (notices terms (journal ++ noted 0 path seq.0 Deleted ∷ [])) path) ≡ true = rw latest-now (grind (arith, nat_tests)) in
      let above : nat_lt (served_number (served_numbers terms (journal ++ noted 0 path seq.0 Deleted ∷ [])) path) seq.0 ≡ true = rw served-now (grind (arith, nat_tests, next, below.served path)) in
      rw (own, above) refl

  -- it may be erased
  pub MayErase-noted : MayErase terms (journal ++ noted 0 path seq.0 Deleted ∷ []) path seq
  MayErase-noted =
      let all = notices terms (journal ++ noted 0 path seq.0 Deleted ∷ []) in
      let p = is_unserved all (served_numbers terms (journal ++ noted 0 path seq.0 Deleted ∷ [])) in
      let n : Notice = record { path = path; seq = seq; what = Deleted } in
      let is : filter p all ≡ filter p (notices terms journal) ++ n ∷ [] =
      ap (filter p) (notices-push terms journal (noted 0 path seq.0 Deleted)) ∙ filter-append p (notices terms journal) (n ∷ []) ∙ rw pending-now refl in
      subst (λ ns. Contains ns n) (sym is) (Contains-last (filter p (notices terms journal)) n)

  -- under no other number
  pub MayErase-only : (other : Seq) → MayErase terms (journal ++ noted 0 path seq.0 Deleted ∷ []) path other → other ≡ seq
  MayErase-only other may =
      let all = notices terms (journal ++ noted 0 path seq.0 Deleted ∷ []) in
      let served = served_numbers terms (journal ++ noted 0 path seq.0 Deleted ∷ []) in
      let p = is_unserved all served in
      let test : p (record { path = path; seq = other; what = Deleted }) ≡ true = passes p all (record { path = path; seq = other; what = Deleted }) may in
      let parts = and_parts (other.0 == latest_number all path) (nat_lt (served_number served path) other.0) test in
      let own : (other.0 == seq.0) ≡ true = subst (λ n. (other.0 == n) ≡ true) latest-now parts.0 in
      let same : other.0 ≡ seq.0 = grind (arith, nat_tests, own) in
      ap (λ (n : ℕ). record { 0 = n }) same

-- behind the noting of a deletion
module _ (old a : Core) (path : List ℕ) (seq : Seq) (sound : IsSound old) (next : seq.0 ≡ next_notice old.terms old.sheet.events) (at : IsAt old a (noted 0 path seq.0 Deleted ∷ [])) where
  MayErase-at : MayErase a.terms a.sheet.events path seq
  MayErase-at =
      subst (λ (t : Terms). MayErase t a.sheet.events path seq) (sym at.remains.told.terms)
      (subst (λ es. MayErase old.terms es path seq) (sym at.events) (MayErase-noted old.terms old.sheet.events path seq next sound.below))

  only-at : (other : Seq) → MayErase a.terms a.sheet.events path other → other ≡ seq
  only-at other may =
      MayErase-only old.terms old.sheet.events path seq next sound.below other
      (subst (λ es. MayErase old.terms es path other) at.events (subst (λ (t : Terms). MayErase t a.sheet.events path other) at.remains.told.terms may))

  pub Refuses-erasing : (new : Core) (fault : CoreFault) → RefusesErasing a new 0 path fault → Refuses a new (event 0 (Erased path seq)) fault
  Refuses-erasing new fault refuses =
      ⊎_elim inl (λ refused. inr (subst (λ (s : Seq). IsRefused a new (event 0 (Erased path s)) fault) (only-at refused.0 refused.1.may) refused.1)) refuses

  pub always_erases : (b : Core) (erased : Bool) → Erases a b 0 path erased → erased ≡ true
  always_erases b true erases = refl
  always_erases b false erases = absurd (erases.0 seq MayErase-at)

  pub erased-at : (b : Core) (erased : Bool) → Erases a b 0 path erased → IsUnrefused a b → KeepsFixed a b → IsAt old b (noted 0 path seq.0 Deleted ∷ event 0 (Erased path seq) ∷ [])
  erased-at b false erases unrefused keeps = absurd (erases.0 seq MayErase-at)
  erased-at b true erases unrefused keeps =
      let e = event 0 (Erased path seq) in
      let makes = subst (λ (s : Seq). Makes a b (event 0 (Erased path s))) (only-at erases.0 erases.1) erases.2 in
      IsAt-step old a b (noted 0 path seq.0 Deleted ∷ []) e at
      (step-filed a b e at.sound refl makes unrefused keeps refl (record { path = path; seq = seq; fate = Gone }) path seq refl refl (omega (arith, low-noted old a path seq Deleted next at)))
