-- The marks of replies, as one more event comes.
use Rattle.std.proofs.Common.{arith, ◌≡◌, ◌∙◌, ◌==◌, ◌||◌, ◌⊎◌, inl, inr, ⊎_elim, ℕ, ◌+◌, ◌-◌, ◌<◌, ◌≤◌, Bool, true, false, List, [], ◌∷◌, ◌++◌, length, Some, None, Option, slice_get, slice_set, zero, suc, unwrap_or, add-one, refl, ap, sym}
use Rattle.std.proofs.lemmas.Bool.{cases_eq}
use Rattle.std.proofs.lemmas.Bool.Decides.{nat_tests}
use Rattle.std.proofs.lemmas.List.{length-append, length_push}
use Rattle.std.proofs.lemmas.Option.{slice_get_within}
use Rattle.ci_journal.specs.declared.event.Event.{Event}
use Rattle.ci_journal.specs.declared.event.Happened.{Happened}
use Rattle.ci_journal.specs.declared.event.Happened.TheVariants.{Asked, Noted, Put, Erased, Started, StartFailed, DaemonLost, Begun, BatchDone, BatchDied, Returned, Shadowed, MasterBegun, MasterStep, MasterEnded, Opened, Answered, Said}
use Rattle.ci_journal.specs.Folds.{requests_in, is_replied}
use Rattle.ci_journal.specs.Step.{May, Run, Chain}
use Rattle.ci_journal.specs.Step.Chain.{NoEvent, Next}
use Rattle.ci_journal.specs.Tells.{tells}
use Rattle.ci_journal.specs.Terms.{Terms}
use Rattle.ci_journal.proofs.ChainLemmas.{Chain-run}
use Rattle.ci_journal.proofs.FoldsLemmas.{requests_in-push, is_number, is_replied-push, slice_get-push}
use Rattle.ci_journal.proofs.RunLemmas.{request_within, unreplied_above}
use Rattle.ci_holdings.specs.Waiting.{MarksReplies, is_marked, marked_at}

-- the marks behind an event: one more for a request, and that of a reply set
abbrev pub marks_behind : List Bool → Happened → List Bool
marks_behind marks (Asked id request) = marks ++ false ∷ []
marks_behind marks (Answered id at paths) = marked_at marks id
marks_behind marks (Said id reply) = marked_at marks id
marks_behind marks _ = marks

or_false : (b : Bool) → (b || false) ≡ b
or_false true = refl
or_false false = refl

or_true : (b : Bool) → (b || true) ≡ true
or_true true = refl
or_true false = refl

get-before : (marks : List Bool) (m : Bool) (k : ℕ) → k < length marks → slice_get (marks ++ m ∷ []) k ≡ slice_get marks k
get-before [] m k within = absurd (omega (arith, within))
get-before (x ∷ marks) m zero within = refl
get-before (x ∷ marks) m (suc k) within = get-before marks m k (omega (arith, within))

length-set : (marks : List Bool) (k : ℕ) (m : Bool) → length (slice_set marks k m) ≡ length marks
length-set [] k m = refl
length-set (x ∷ marks) zero m = refl
length-set (x ∷ marks) (suc k) m = ap suc (length-set marks k m)

get-set_same : (marks : List Bool) (k : ℕ) (m : Bool) → k < length marks → slice_get (slice_set marks k m) k ≡ Some m
get-set_same [] k m within = absurd (omega (arith, within))
get-set_same (x ∷ marks) zero m within = refl
get-set_same (x ∷ marks) (suc k) m within = get-set_same marks k m (omega (arith, within))

get-set_other : (marks : List Bool) (k j : ℕ) (m : Bool) → ¬ (j ≡ k) → slice_get (slice_set marks k m) j ≡ slice_get marks j
get-set_other [] k j m apart = refl
get-set_other (x ∷ marks) zero zero m apart = absurd (apart refl)
get-set_other (x ∷ marks) zero (suc j) m apart = refl
get-set_other (x ∷ marks) (suc k) zero m apart = refl
get-set_other (x ∷ marks) (suc k) (suc j) m apart = get-set_other marks k j m (λ e. apart (ap suc e))

within_or_last : (k n : ℕ) → k < n + 1 → (k < n) ⊎ (k ≡ n)
within_or_last k zero below = inr (omega (arith, below))
within_or_last zero (suc n) below = inl (omega arith)
within_or_last (suc k) (suc n) below = ⊎_elim (λ w. inl (omega (arith, w))) (λ e. inr (ap suc e)) (within_or_last k n (omega (arith, below)))

module _ (terms : Terms) (journal : List Event) (run : Run terms journal) (marks : List Bool) (kept : MarksReplies journal marks) where
  -- an event that is no request and no reply
  marks-silent : (by : ℕ) (what : Happened) → (tells what).request ≡ None → ((id : ℕ) → is_number id (tells what).reply ≡ false) → MarksReplies (journal ++ record { by = by; what = what } ∷ []) marks
  marks-silent by what no_request no_reply =
      let e : Event = record { by = by; what = what } in
      let same : length (requests_in (journal ++ e ∷ [])) ≡ length (requests_in journal) = ap length (requests_in-push journal e) ∙ length-append (requests_in journal) _ ∙ rw no_request (omega arith) in
      record {
        counted = kept.counted ∙ sym same;
        each = λ k within. kept.each k within ∙ ap Some (sym (is_replied-push journal e (k + 1) ∙ ap (λ b. is_replied journal (k + 1) || b) (no_reply (k + 1)) ∙ or_false _));
      }

  marks-asked : (e : Event) (id : ℕ) (request : _) → e.what ≡ Asked id request → MarksReplies (journal ++ e ∷ []) (marks ++ false ∷ [])
  marks-asked e id request is =
      let grown : length (requests_in (journal ++ e ∷ [])) ≡ length (requests_in journal) + 1 = ap length (requests_in-push journal e) ∙ length-append (requests_in journal) _ ∙ rw is (omega arith) in
      let same = λ (n : ℕ). is_replied-push journal e n ∙ ap (λ w. is_replied journal n || is_number n (tells w).reply) is ∙ or_false (is_replied journal n) in
      record {
        counted = length_push marks false ∙ omega (arith, kept.counted, grown);
        each = λ k within. ⊎_elim
            (λ below. get-before marks false k below ∙ kept.each k below ∙ ap Some (sym (same (k + 1))))
            (λ last. ap (slice_get (marks ++ false ∷ [])) last ∙ slice_get-push marks false
            ∙ ap Some (sym (same (k + 1) ∙ unreplied_above terms journal run (k + 1) (omega (arith, last, kept.counted)))))
            (within_or_last k (length marks) (omega (arith, within, length_push marks false)));
      }

  marks-replied : (e : Event) (id : ℕ) → (tells e.what).request ≡ None → ((n : ℕ) → is_number n (tells e.what).reply ≡ (id == n)) → 0 < id → id ≤ length (requests_in journal) → MarksReplies (journal ++ e ∷ []) (marked_at marks id)
  marks-replied e id no_request replies some within_asked =
      let same : length (requests_in (journal ++ e ∷ [])) ≡ length (requests_in journal) = ap length (requests_in-push journal e) ∙ length-append (requests_in journal) _ ∙ rw no_request (omega arith) in
      let now = λ (n : ℕ). is_replied-push journal e n ∙ ap (λ b. is_replied journal n || b) (replies n) in
      record {
        counted = length-set marks (id - 1) true ∙ kept.counted ∙ sym same;
        each = λ k within. elim (cases_eq k (id - 1)) [
          | inl here ↦ let hit : (id == k + 1) ≡ true = grind (arith, nat_tests, here, some) in
              ap (slice_get (marked_at marks id)) here ∙ get-set_same marks (id - 1) true (omega (arith, kept.counted, within_asked, some))
              ∙ ap Some (sym (now (k + 1) ∙ ap (λ b. is_replied journal (k + 1) || b) hit ∙ or_true (is_replied journal (k + 1))))
          | inr other ↦ let miss : (id == k + 1) ≡ false = grind (arith, nat_tests, other, some) in
              get-set_other marks (id - 1) k true other ∙ kept.each k (omega (arith, within, length-set marks (id - 1) true))
              ∙ ap Some (sym (now (k + 1) ∙ ap (λ b. is_replied journal (k + 1) || b) miss ∙ or_false (is_replied journal (k + 1))))
        ];
      }

  -- the marks behind an event that may come are those of the longer journal
  pub marks-follow : (by : ℕ) (what : Happened) → May terms journal by what → MarksReplies (journal ++ record { by = by; what = what } ∷ []) (marks_behind marks what)
  marks-follow by (Asked id request) may = marks-asked (record { by = by; what = Asked id request }) id request refl
  marks-follow by (Noted notice) may = marks-silent by (Noted notice) refl (λ id. refl)
  marks-follow by (Put path seq transcript) may = marks-silent by (Put path seq transcript) refl (λ id. refl)
  marks-follow by (Erased path seq) may = marks-silent by (Erased path seq) refl (λ id. refl)
  marks-follow by Started may = marks-silent by Started refl (λ id. refl)
  marks-follow by StartFailed may = marks-silent by StartFailed refl (λ id. refl)
  marks-follow by DaemonLost may = marks-silent by DaemonLost refl (λ id. refl)
  marks-follow by (Begun batch) may = marks-silent by (Begun batch) refl (λ id. refl)
  marks-follow by (BatchDone number outcomes) may = marks-silent by (BatchDone number outcomes) refl (λ id. refl)
  marks-follow by (BatchDied number charged) may = marks-silent by (BatchDied number charged) refl (λ id. refl)
  marks-follow by (Returned number) may = marks-silent by (Returned number) refl (λ id. refl)
  marks-follow by Shadowed may = marks-silent by Shadowed refl (λ id. refl)
  marks-follow by MasterBegun may = marks-silent by MasterBegun refl (λ id. refl)
  marks-follow by (MasterStep split) may = marks-silent by (MasterStep split) refl (λ id. refl)
  marks-follow by MasterEnded may = marks-silent by MasterEnded refl (λ id. refl)
  marks-follow by (Opened id) may = marks-silent by (Opened id) refl (λ id. refl)
  marks-follow by (Answered id at paths) may =
      let asked_at = request_within journal id may.right.asks.request may.right.asks.found in
      marks-replied (record { by = by; what = Answered id at paths }) id refl (λ n. refl) asked_at.0 asked_at.1
  marks-follow by (Said id reply) may =
      marks-replied (record { by = by; what = Said id reply }) id refl (λ n. refl) may.numbered may.asked_before

-- nothing stands beyond a list's end
slice_get_beyond : {X : Type 0} (xs : List X) (k : ℕ) → slice_get xs k ≡ None → length xs ≤ k
slice_get_beyond [] k none = omega arith
slice_get_beyond (x ∷ xs) zero none = absurd (cc)
slice_get_beyond (x ∷ xs) (suc k) none = omega (arith, slice_get_beyond xs k none)

-- no reply is to a request of number 0
answers_some : (terms : Terms) (journal : List Event) (by : ℕ) (what : Happened) → May terms journal by what → is_number 0 (tells what).reply ≡ false
answers_some terms journal by (Asked id request) may = refl
answers_some terms journal by (Noted notice) may = refl
answers_some terms journal by (Put path seq transcript) may = refl
answers_some terms journal by (Erased path seq) may = refl
answers_some terms journal by Started may = refl
answers_some terms journal by StartFailed may = refl
answers_some terms journal by DaemonLost may = refl
answers_some terms journal by (Begun batch) may = refl
answers_some terms journal by (BatchDone number outcomes) may = refl
answers_some terms journal by (BatchDied number charged) may = refl
answers_some terms journal by (Returned number) may = refl
answers_some terms journal by Shadowed may = refl
answers_some terms journal by MasterBegun may = refl
answers_some terms journal by (MasterStep split) may = refl
answers_some terms journal by MasterEnded may = refl
answers_some terms journal by (Opened id) may = refl
answers_some terms journal by (Answered id at paths) may = let some = (request_within journal id may.right.asks.request may.right.asks.found).0 in grind (arith, nat_tests, some)
answers_some terms journal by (Said id reply) may = let some : 0 < id = may.numbered in grind (arith, nat_tests, some)

unreplied_zero : (terms : Terms) (journal : List Event) → Chain terms journal → is_replied journal 0 ≡ false
unreplied_zero terms _ NoEvent = refl
unreplied_zero terms _ (Next journal event chain may) =
    is_replied-push journal event 0 ∙ ap (λ b. b || is_number 0 (tells event.what).reply) (unreplied_zero terms journal chain) ∙ answers_some terms journal event.by event.what may

-- a request's mark says whether it has its reply
pub is_marked-is_replied : (terms : Terms) (journal : List Event) → Run terms journal → (marks : List Bool) → MarksReplies journal marks → (id : ℕ) → is_marked marks id ≡ is_replied journal id
is_marked-is_replied terms journal run marks kept zero = sym (unreplied_zero terms journal (Chain-run terms journal run))
is_marked-is_replied terms journal run marks kept (suc before) = by (slice_get marks before) refl
  where
    by : (at : Option Bool) → slice_get marks before ≡ at → unwrap_or at false ≡ is_replied journal (suc before)
    by (Some mark) here =
        let told = kept.each before (slice_get_within marks before mark here) in
        let same : mark ≡ is_replied journal (before + 1) = let both : Some mark ≡ Some (is_replied journal (before + 1)) = sym here ∙ told in cc in
        same ∙ ap (is_replied journal) (add-one before)
    by None here =
        let beyond : length marks ≤ before = slice_get_beyond marks before here in
        sym (unreplied_above terms journal run (suc before) (omega (arith, beyond, kept.counted)))
