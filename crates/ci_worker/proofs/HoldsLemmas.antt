-- Who holds a link, how many starts failed, and when batches begin, behind one more event.
use Rattle.std.proofs.Common.{arith, ◌≡◌, ◌<◌, ◌+◌, ◌∙◌, ◌==◌, ◌||◌, ℕ, Bool, true, false, List, [], ◌∷◌, ◌++◌, Some, None, filter, length, take, option_to_list, refl, ap, sym, subst, append-nil, inl, inr, if◌then◌else◌}
use Rattle.std.specs.Prelude.{unwrap_or}
use Rattle.std.specs.List.{list_any}
use Rattle.std.proofs.lemmas.Bool.{cases_lt}
use Rattle.std.proofs.lemmas.Bool.Decides.{nat_tests}
use Rattle.std.proofs.lemmas.List.{length-append, take_all}
use Rattle.std.proofs.lemmas.List.Elements.{filter-append}
use Rattle.std.proofs.lemmas.List.Folds.{list_any-append}
use Rattle.ci_change.specs.declared.batch.Batch.{Batch}
use Rattle.ci_journal.specs.declared.event.Event.{Event}
use Rattle.ci_journal.specs.declared.event.Happened.TheVariants.{Begun, Started}
use Rattle.ci_journal.specs.Daemon.{KeepsLinks, holds_link, is_loss, is_lost}
use Rattle.ci_journal.specs.Tells.{Start, Tells, event, last_of, tellings, tells}
use Rattle.ci_journal.specs.Tells.Start.{Came, Failed, Lost}
use Rattle.ci_journal.proofs.FoldsLemmas.{last_of-push}
use Rattle.ci_journal.proofs.LawLemmas.{get-front, get-last, take-front}
use Rattle.ci_journal.proofs.TellsLemmas.{tellings-push}
use Rattle.ci_worker.specs.Working.{failed_starts, is_failure}

-- ---- links

abbrev links_of : List Event → ℕ → List Bool
links_of journal by = tellings (λ t. t.link) (filter (λ e. e.by == by) journal)

links-push : (journal : List Event) (e : Event) (by : ℕ) (own : Bool) → (e.by == by) ≡ own → links_of (journal ++ e ∷ []) by ≡ (if own then links_of journal by ++ option_to_list (tells e.what).link else links_of journal by)
links-push journal e by true own =
    let one : filter (λ (x : Event). x.by == by) (e ∷ []) ≡ e ∷ [] = rw own refl in
    ap (tellings (λ (t : Tells). t.link)) (filter-append (λ (x : Event). x.by == by) journal (e ∷ []) ∙ ap (λ es. filter (λ (x : Event). x.by == by) journal ++ es) one)
    ∙ tellings-push (λ (t : Tells). t.link) (filter (λ (x : Event). x.by == by) journal) e
links-push journal e by false own =
    let none : filter (λ (x : Event). x.by == by) (e ∷ []) ≡ [] = rw own refl in
    ap (tellings (λ (t : Tells). t.link)) (filter-append (λ (x : Event). x.by == by) journal (e ∷ []) ∙ ap (λ es. filter (λ (x : Event). x.by == by) journal ++ es) none ∙ append-nil (filter (λ (x : Event). x.by == by) journal))

-- an event that says nothing of links
pub holds-unlinked : (journal : List Event) (e : Event) (by : ℕ) → (tells e.what).link ≡ None → holds_link (journal ++ e ∷ []) by ≡ holds_link journal by
holds-unlinked journal e by none = of (e.by == by) refl
  where
    of : (own : Bool) → (e.by == by) ≡ own → holds_link (journal ++ e ∷ []) by ≡ holds_link journal by
    of true own = ap (λ ls. unwrap_or (last_of ls) false) (links-push journal e by true own ∙ ap (λ o. links_of journal by ++ option_to_list o) none ∙ append-nil (links_of journal by))
    of false own = ap (λ ls. unwrap_or (last_of ls) false) (links-push journal e by false own)

-- or says it of its author
pub holds-linked : (journal : List Event) (e : Event) (b : Bool) → (tells e.what).link ≡ Some b → holds_link (journal ++ e ∷ []) e.by ≡ b
holds-linked journal e b some =
    let own : (e.by == e.by) ≡ true = grind (arith, nat_tests) in
    ap (λ ls. unwrap_or (last_of ls) false) (links-push journal e e.by true own ∙ ap (λ o. links_of journal e.by ++ option_to_list o) some)
    ∙ ap (λ o. unwrap_or o false) (last_of-push (links_of journal e.by) b)

-- ---- starts

starts-push : (journal : List Event) (e : Event) → tellings (λ t. t.start) (journal ++ e ∷ []) ≡ tellings (λ t. t.start) journal ++ option_to_list (tells e.what).start
starts-push journal e = tellings-push (λ (t : Tells). t.start) journal e

or_false : (b : Bool) → (b || false) ≡ b
or_false true = refl
or_false false = refl

or_true : (b : Bool) → (b || true) ≡ true
or_true true = refl
or_true false = refl

pub lost-unstarted : (journal : List Event) (e : Event) → (tells e.what).start ≡ None → is_lost (journal ++ e ∷ []) ≡ is_lost journal
lost-unstarted journal e none = ap (list_any is_loss) (starts-push journal e ∙ ap (λ o. tellings (λ t. t.start) journal ++ option_to_list o) none ∙ append-nil (tellings (λ t. t.start) journal))

pub lost-started : (journal : List Event) (e : Event) (start : Start) → (tells e.what).start ≡ Some start → is_lost (journal ++ e ∷ []) ≡ (is_lost journal || is_loss start)
lost-started journal e start some =
    ap (list_any is_loss) (starts-push journal e ∙ ap (λ o. tellings (λ t. t.start) journal ++ option_to_list o) some)
    ∙ list_any-append is_loss (tellings (λ t. t.start) journal) (start ∷ []) ∙ ap (λ b. is_lost journal || b) (or_false (is_loss start))

pub lost-kept : (journal : List Event) (e : Event) (start : Start) → (tells e.what).start ≡ Some start → is_loss start ≡ false → is_lost (journal ++ e ∷ []) ≡ is_lost journal
lost-kept journal e start some other = lost-started journal e start some ∙ ap (λ b. is_lost journal || b) other ∙ or_false (is_lost journal)

pub lost-told : (journal : List Event) (e : Event) → (tells e.what).start ≡ Some Lost → is_lost (journal ++ e ∷ []) ≡ true
lost-told journal e some = lost-started journal e Lost some ∙ or_true (is_lost journal)

pub failed-unstarted : (journal : List Event) (e : Event) → (tells e.what).start ≡ None → failed_starts (journal ++ e ∷ []) ≡ failed_starts journal
failed-unstarted journal e none =
    ap (λ ss. length (filter is_failure ss)) (starts-push journal e ∙ ap (λ o. tellings (λ t. t.start) journal ++ option_to_list o) none ∙ append-nil (tellings (λ t. t.start) journal))

failures-push : (journal : List Event) (e : Event) (start : Start) → (tells e.what).start ≡ Some start → failed_starts (journal ++ e ∷ []) ≡ failed_starts journal + length (filter is_failure (start ∷ []))
failures-push journal e start some =
    ap (λ ss. length (filter is_failure ss)) (starts-push journal e ∙ ap (λ o. tellings (λ t. t.start) journal ++ option_to_list o) some)
    ∙ ap length (filter-append is_failure (tellings (λ t. t.start) journal) (start ∷ []))
    ∙ length-append (filter is_failure (tellings (λ t. t.start) journal)) (filter is_failure (start ∷ []))

pub failed-came : (journal : List Event) (e : Event) → (tells e.what).start ≡ Some Came → failed_starts (journal ++ e ∷ []) ≡ failed_starts journal
failed-came journal e some = let count = failures-push journal e Came some in omega (arith, count)

pub failed-lost : (journal : List Event) (e : Event) → (tells e.what).start ≡ Some Lost → failed_starts (journal ++ e ∷ []) ≡ failed_starts journal
failed-lost journal e some = let count = failures-push journal e Lost some in omega (arith, count)

pub failed-failed : (journal : List Event) (e : Event) → (tells e.what).start ≡ Some Failed → failed_starts (journal ++ e ∷ []) ≡ failed_starts journal + 1
failed-failed journal e some = failures-push journal e Failed some

-- ---- when batches begin

pub KeepsLinks-push : (journal : List Event) (e : Event) → ((batch : Batch) → e.what ≡ Begun batch → holds_link journal e.by ≡ true) → (e.what ≡ Started → holds_link journal e.by ≡ false) → KeepsLinks journal → KeepsLinks (journal ++ e ∷ [])
KeepsLinks-push journal e begins starts keeps = record {
  begins = λ place by batch found. elim (cases_lt place (length journal)) [
    | inl below ↦ earlier place by true below (keeps.begins place by batch (sym (get-front journal (e ∷ []) place below) ∙ found))
    | inr above ↦
        let is = get-last journal e (event by (Begun batch)) place above found in
        last place by true is.0 (subst (λ (x : Event). holds_link journal x.by ≡ true) is.1 (begins batch (ap (λ (x : Event). x.what) is.1)))
  ];
  starts = λ place by found. elim (cases_lt place (length journal)) [
    | inl below ↦ earlier place by false below (keeps.starts place by (sym (get-front journal (e ∷ []) place below) ∙ found))
    | inr above ↦
        let is = get-last journal e (event by Started) place above found in
        last place by false is.0 (subst (λ (x : Event). holds_link journal x.by ≡ false) is.1 (starts (ap (λ (x : Event). x.what) is.1)))
  ];
}
  where
    earlier : (place by : ℕ) (b : Bool) → place < length journal → holds_link (take place journal) by ≡ b → holds_link (take place (journal ++ e ∷ [])) by ≡ b
    earlier place by b below holds = ap (λ es. holds_link es by) (take-front journal (e ∷ []) place (omega (arith, below))) ∙ holds

    last : (place by : ℕ) (b : Bool) → place ≡ length journal → holds_link journal by ≡ b → holds_link (take place (journal ++ e ∷ [])) by ≡ b
    last place by b at holds =
        ap (λ n. holds_link (take n (journal ++ e ∷ [])) by) at
        ∙ ap (λ es. holds_link es by) (take-front journal (e ∷ []) (length journal) (omega arith) ∙ take_all (length journal) journal (omega arith)) ∙ holds
