-- The queries that are open, as one more event comes.
use Rattle.std.proofs.Common.{arith, ◌≡◌, ◌⊎◌, ◌∙◌, ◌==◌, not, ⊎_elim, inl, inr, ℕ, ◌+◌, ◌-◌, ◌<◌, ◌≤◌, Bool, true, false, List, [], ◌∷◌, ◌++◌, Contains, filter, length, take, Some, None, slice_get, zero, suc, refl, ap, sym, subst, length-append}
use Rattle.std.proofs.lemmas.Bool.Decides.{nat_tests}
use Rattle.std.proofs.lemmas.List.{take_all}
use Rattle.std.proofs.lemmas.List.Elements.{All-filter, All-push, All-weaker, Contains-append_left, Contains-push}
use Rattle.std.specs.FinMap.{entries}
use Rattle.ci_dialect.specs.declared.restriction.Restriction.{Restriction}
use Rattle.ci_keys.proofs.OneForm.{Contains-cons_cases, Contains-first, Contains-later, none_in_empty}
use Rattle.ci_journal.specs.declared.event.Event.{Event}
use Rattle.ci_journal.specs.declared.event.Happened.TheVariants.{Opened}
use Rattle.ci_journal.specs.Filings.{Filings}
use Rattle.ci_journal.specs.Folds.{is_replied}
use Rattle.ci_journal.specs.Queries.{AsksAt, OpensBefore}
use Rattle.ci_journal.specs.Served.{live_map, served_by}
use Rattle.ci_journal.specs.Tells.{event, tells}
use Rattle.ci_journal.specs.Terms.{Terms}
use Rattle.ci_journal.proofs.FoldsLemmas.{filings-push, is_number, is_replied-push, slice_get-append, slice_get-push}
use Rattle.ci_journal.proofs.LawLemmas.{get-front, get-last, take-front, within_or_above}
use Rattle.ci_holdings.specs.declared.question.Question.{Question}
use Rattle.ci_holdings.specs.Open.{AreOpen, IsOpen}
use Rattle.ci_holdings.proofs.QueueLemmas.{neither, request_at-push}

-- what is before the end of a list
within-get : {X : Type 0} (xs : List X) (k : ℕ) (x : X) → slice_get xs k ≡ Some x → k < length xs
within-get [] k x found = absurd (cc)
within-get (y ∷ xs) zero x found = omega arith
within-get (y ∷ xs) (suc k) x found = let rest = within-get xs k x found in omega (arith, rest)

-- what passes the test stays
Contains-filter : (test : Question → Bool) (qs : List Question) (q : Question) → Contains qs q → test q ≡ true → Contains (filter test qs) q
Contains-filter test [] q here passes = absurd (none_in_empty q here)
Contains-filter test (p ∷ qs) q here passes =
    ⊎_elim
    (λ (first : p ≡ q). let own : test p ≡ true = ap test first ∙ passes in rw own (subst (λ (r : Question). Contains (p ∷ filter test qs) r) first (Contains-first p (filter test qs))))
    (λ later. by (test p) refl (Contains-filter test qs q later passes))
    (Contains-cons_cases p qs q here)
  where
    by : (b : Bool) → test p ≡ b → Contains (filter test qs) q → Contains (filter test (p ∷ qs)) q
    by true kept rest = rw kept (Contains-later p (filter test qs) q rest)
    by false lost rest = rw lost rest

module _ (terms : Terms) (journal : List Event) where
  -- a query that was opened before stays so
  OpensBefore-later : (e : Event) (id at : ℕ) → OpensBefore journal id at → OpensBefore (journal ++ e ∷ []) id at
  OpensBefore-later e id at opens = record {
    behind = opens.behind;
    opening = opens.opening;
    opened_at = slice_get-append journal (e ∷ []) (at - 1) opens.opening opens.opened_at;
    opens = opens.opens;
  }

  -- it was opened before, or the last event opens it
  OpensBefore-cases : (e : Event) (id at : ℕ) → OpensBefore (journal ++ e ∷ []) id at → OpensBefore journal id at ⊎ ((at ≡ length journal + 1) × (e.what ≡ Opened id))
  OpensBefore-cases e id at opens =
      ⊎_elim
      (λ above.
      let last = get-last journal e opens.opening (at - 1) above opens.opened_at in
      inr (omega (arith, last.0, opens.behind), ap (λ (x : Event). x.what) last.1 ∙ opens.opens))
      (λ below. inl (record {
        behind = opens.behind;
        opening = opens.opening;
        opened_at = sym (get-front journal (e ∷ []) (at - 1) below) ∙ opens.opened_at;
        opens = opens.opens;
      }))
      (within_or_above (length journal) (at - 1))

  AsksAt-later : (e : Event) (id : ℕ) (tree : Restriction) → AsksAt terms journal id tree → AsksAt terms (journal ++ e ∷ []) id tree
  AsksAt-later e id tree asks = record { request = asks.request; found = request_at-push journal e id asks.request asks.found; asks = asks.asks }

  IsOpen-later : (e : Event) (q : Question) → IsOpen terms journal q → IsOpen terms (journal ++ e ∷ []) q
  IsOpen-later e q is =
      let within : q.at ≤ length journal = omega (arith, is.opens.behind, within-get journal (q.at - 1) is.opens.opening is.opens.opened_at) in
      record {
        asks = AsksAt-later e q.id q.tree is.asks;
        opens = OpensBefore-later e q.id q.at is.opens;
        plain = is.plain ∙ ap (λ es. entries (live_map terms es)) (sym (take-front journal (e ∷ []) q.at within));
      }

  -- behind one event more the query has no reply yet, so it had none
  unreplied-before : (e : Event) (id : ℕ) → is_replied (journal ++ e ∷ []) id ≡ false → (is_replied journal id ≡ false) × (is_number id (tells e.what).reply ≡ false)
  unreplied-before e id none = neither (is_replied journal id) (is_number id (tells e.what).reply) (sym (is_replied-push journal e id) ∙ none)

  -- an event that opens nothing
  pub AreOpen-later : (e : Event) (questions : List Question) → (tells e.what).opening ≡ None → AreOpen terms journal questions → AreOpen terms (journal ++ e ∷ []) questions
  AreOpen-later e questions quiet are = record {
    each = All-weaker (IsOpen terms journal) (IsOpen terms (journal ++ e ∷ [])) (IsOpen-later e) questions are.each;
    every = λ id at opens unreplied.
        ⊎_elim
        (λ before. are.every id at before (unreplied-before e id unreplied).0)
        (λ last. absurd (let wrong : None ≡ Some id = sym quiet ∙ ap (λ w. (tells w).opening) last.1 in cc))
        (OpensBefore-cases e id at opens);
  }

  -- a query more is open
  pub AreOpen-opened : (by : ℕ) (q : Question) (questions : List Question) → AsksAt terms journal q.id q.tree → q.at ≡ length journal + 1 → q.plain ≡ entries (live_map terms journal)
      → AreOpen terms journal questions → AreOpen terms (journal ++ event by (Opened q.id) ∷ []) (questions ++ q ∷ [])
  AreOpen-opened by q questions asks place plain are =
      let e : Event = event by (Opened q.id) in
      let whole : take q.at (journal ++ e ∷ []) ≡ journal ++ e ∷ [] = take_all q.at (journal ++ e ∷ []) (omega (arith, place, length-append journal (e ∷ []))) in
      let same : live_map terms (journal ++ e ∷ []) ≡ live_map terms journal = ap (λ (f : Filings). (served_by terms f.filed).documents) (filings-push journal e) in
      let new : IsOpen terms (journal ++ e ∷ []) q = record {
        asks = AsksAt-later e q.id q.tree asks;
        opens = record {
          behind = omega (arith, place);
          opening = e;
          opened_at = ap (slice_get (journal ++ e ∷ [])) (let last : q.at - 1 ≡ length journal = omega (arith, place) in last) ∙ slice_get-push journal e;
          opens = refl;
        };
        plain = plain ∙ ap entries (sym same) ∙ ap (λ es. entries (live_map terms es)) (sym whole);
      } in
      record {
        each = All-push (IsOpen terms (journal ++ e ∷ [])) questions q (All-weaker (IsOpen terms journal) (IsOpen terms (journal ++ e ∷ [])) (IsOpen-later e) questions are.each) new;
        every = λ id at opens unreplied.
            ⊎_elim
            (λ before.
            let kept = are.every id at before (unreplied-before e id unreplied).0 in
            record { question = kept.question; here = Contains-append_left questions (q ∷ []) kept.question kept.here; own = kept.own; place = kept.place })
            (λ last.
            let own : q.id ≡ id = let same_one : Opened q.id ≡ Opened id = last.1 in cc in
            record { question = q; here = Contains-push questions q; own = own; place = omega (arith, place, last.0) })
            (OpensBefore-cases e id at opens);
      }

  -- a query that is replied to is open no more
  pub AreOpen-replied : (e : Event) (id : ℕ) (questions : List Question) → (tells e.what).opening ≡ None → (tells e.what).reply ≡ Some id → AreOpen terms journal questions
      → AreOpen terms (journal ++ e ∷ []) (filter (λ (q : Question). not (q.id == id)) questions)
  AreOpen-replied e id questions quiet replies are =
      let later = AreOpen-later e questions quiet are in
      record {
        each = All-filter (λ (q : Question). not (q.id == id)) (IsOpen terms (journal ++ e ∷ [])) questions later.each;
        every = λ other at opens unreplied.
            let kept = later.every other at opens unreplied in
            let apart : (id == other) ≡ false = ap (is_number other) (sym replies) ∙ (unreplied-before e other unreplied).1 in
            let passes : not (kept.question.id == id) ≡ true = (let no : (kept.question.id == id) ≡ false = grind (arith, nat_tests, apart, kept.own) in ap not no) in
            record {
              question = kept.question;
              here = Contains-filter (λ (q : Question). not (q.id == id)) questions kept.question kept.here passes;
              own = kept.own;
              place = kept.place;
            };
      }

-- nothing is open in an empty journal
pub AreOpen-empty : (terms : Terms) → AreOpen terms [] []
AreOpen-empty terms = record {
  each = λ k d within. absurd (omega (arith, within));
  every = λ id at opens unreplied. absurd (let wrong = opens.opened_at in cc);
}
