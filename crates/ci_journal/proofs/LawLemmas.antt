-- What holds at each place of a run.
use Rattle.std.proofs.Common.{arith, ◌≡◌, ◌⊎◌, ⊎_elim, inl, inr, ◌∙◌, ℕ, ◌-◌, ◌<◌, ◌≤◌, List, [], ◌∷◌, ◌++◌, length, take, drop, Some, slice_get, zero, suc, refl, ap, sym, subst}
use Rattle.std.proofs.lemmas.List.{take-append-drop, take_all, length-append}
use Rattle.ci_dialect.specs.declared.restriction.Restriction.{Restriction}
use Rattle.ci_journal.specs.declared.event.Event.{Event}
use Rattle.ci_journal.specs.declared.event.Happened.TheVariants.{Answered}
use Rattle.ci_journal.specs.declared.request.Request.{Request}
use Rattle.ci_journal.specs.Folds.{requests_in, request_at}
use Rattle.ci_journal.specs.Law.{AnswersAt, AllAnswer}
use Rattle.ci_journal.specs.Queries.{IsFirstWaiting}
use Rattle.ci_journal.specs.Served.{live_map, hits}
use Rattle.ci_journal.specs.Step.{May, MayAnswer, Run, Chain}
use Rattle.ci_journal.specs.Step.Chain.{NoEvent, Next}
use Rattle.ci_journal.specs.Tells.{Tells}
use Rattle.ci_journal.specs.Terms.{Terms}
use Rattle.ci_journal.proofs.ChainLemmas.{Chain-run}
use Rattle.ci_journal.proofs.FoldsLemmas.{slice_get-append}
use Rattle.ci_journal.proofs.TellsLemmas.{tellings-append}

pub within_or_above : (a b : ℕ) → (a ≤ b) ⊎ (b < a)
within_or_above zero b = inl (omega arith)
within_or_above (suc a) zero = inr (omega arith)
within_or_above (suc a) (suc b) = ⊎_elim (λ w. inl (omega (arith, w))) (λ v. inr (omega (arith, v))) (within_or_above a b)

pub take-front : {X : Type 0} (xs ys : List X) (n : ℕ) → n ≤ length xs → take n (xs ++ ys) ≡ take n xs
take-front [] ys zero within = refl
take-front [] ys (suc n) within = absurd (omega (arith, within))
take-front (x ∷ xs) ys zero within = refl
take-front (x ∷ xs) ys (suc n) within = ap (λ l. x ∷ l) (take-front xs ys n (omega (arith, within)))

pub get-front : {X : Type 0} (xs ys : List X) (n : ℕ) → n < length xs → slice_get (xs ++ ys) n ≡ slice_get xs n
get-front [] ys n within = absurd (omega (arith, within))
get-front (x ∷ xs) ys zero within = refl
get-front (x ∷ xs) ys (suc n) within = get-front xs ys n (omega (arith, within))

-- what stands behind a list and one more is the one more, or nothing
pub get-last : {X : Type 0} (xs : List X) (x y : X) (n : ℕ) → length xs ≤ n → slice_get (xs ++ x ∷ []) n ≡ Some y → (n ≡ length xs) × (x ≡ y)
get-last [] x y zero within found = (refl, cc)
get-last [] x y (suc n) within found = absurd (cc)
get-last (z ∷ xs) x y zero within found = absurd (omega (arith, within))
get-last (z ∷ xs) x y (suc n) within found = let last = get-last xs x y n (omega (arith, within)) found in (ap suc last.0, last.1)

-- the events before a place may come one behind the other
pub Chain-take : (terms : Terms) (journal : List Event) → Chain terms journal → (place : ℕ) → Chain terms (take place journal)
Chain-take terms _ NoEvent zero = NoEvent
Chain-take terms _ NoEvent (suc place) = NoEvent
Chain-take terms _ (Next journal e chain may) place =
    ⊎_elim (λ within. subst (Chain terms) (sym (take-front journal (e ∷ []) place within)) (Chain-take terms journal chain place))
    (λ above. subst (Chain terms) (sym (take_all place (journal ++ e ∷ []) (omega (arith, above, length-append journal (e ∷ []))))) (Next journal e chain may))
    (within_or_above place (length journal))

-- each event might come behind the events before it
pub May-at : (terms : Terms) (journal : List Event) → Chain terms journal → (place : ℕ) (event : Event) → slice_get journal place ≡ Some event → May terms (take place journal) event.by event.what
May-at terms _ NoEvent place event found = absurd (cc)
May-at terms _ (Next journal last chain may) place event found =
    ⊎_elim (λ above. let same = get-last journal last event place above found in
    subst (λ n. May terms (take n (journal ++ last ∷ [])) event.by event.what) (sym same.0)
    (subst (λ (e : Event). May terms (take (length journal) (journal ++ last ∷ [])) e.by e.what) same.1
    (subst (λ js. May terms js last.by last.what) (sym (take-front journal (last ∷ []) (length journal) (omega arith) ∙ take_all (length journal) journal (omega arith))) may)))
    (λ below. subst (λ js. May terms js event.by event.what) (sym (take-front journal (last ∷ []) place (omega (arith, below))))
    (May-at terms journal chain place event (sym (get-front journal (last ∷ []) place below) ∙ found)))
    (within_or_above (length journal) place)

get-take : {X : Type 0} (xs : List X) (n k : ℕ) (x : X) → slice_get (take n xs) k ≡ Some x → (k < n) × (slice_get xs k ≡ Some x)
get-take [] zero k x found = absurd (cc)
get-take [] (suc n) k x found = absurd (cc)
get-take (y ∷ xs) zero k x found = absurd (cc)
get-take (y ∷ xs) (suc n) zero x found = (omega arith, found)
get-take (y ∷ xs) (suc n) (suc k) x found = let more = get-take xs n k x found in (omega (arith, more.0), more.1)

pub take-shorter : {X : Type 0} (xs : List X) (m n : ℕ) → m ≤ n → take m (take n xs) ≡ take m xs
take-shorter [] zero zero w = refl
take-shorter [] zero (suc n) w = refl
take-shorter [] (suc m) zero w = refl
take-shorter [] (suc m) (suc n) w = refl
take-shorter (x ∷ xs) zero n w = refl
take-shorter (x ∷ xs) (suc m) zero w = absurd (omega (arith, w))
take-shorter (x ∷ xs) (suc m) (suc n) w = ap (λ l. x ∷ l) (take-shorter xs m n (omega (arith, w)))

-- a request that was asked before an earlier place was asked before a later one
request-earlier : (journal : List Event) (early late : ℕ) → early ≤ late → (id : ℕ) (r : Request) → request_at (take early journal) id ≡ Some r → request_at (take late journal) id ≡ Some r
request-earlier journal early late below zero r found = absurd (cc)
request-earlier journal early late below (suc k) r found =
    let parts : take early journal ++ drop early (take late journal) ≡ take late journal =
    ap (λ js. js ++ drop early (take late journal)) (sym (take-shorter journal early late below)) ∙ take-append-drop early (take late journal) in
    subst (λ js. slice_get (requests_in js) k ≡ Some r) parts
    (subst (λ rs. slice_get rs k ≡ Some r) (sym (tellings-append (λ (t : Tells). t.request) (take early journal) (drop early (take late journal))))
    (slice_get-append (requests_in (take early journal)) _ k r found))

-- two requests of one number are one
pub same_request : (journal : List Event) (id : ℕ) (one other : Request) → request_at journal id ≡ Some one → request_at journal id ≡ Some other → one ≡ other
same_request journal id one other first second = let both : Some one ≡ Some other = sym first ∙ second in cc

answers-at : (terms : Terms) (journal : List Event) → Chain terms journal → (place : ℕ) (event : Event) (id at : ℕ) (paths : List (List ℕ)) → slice_get journal place ≡ Some event → event.what ≡ Answered id at paths → AnswersAt terms journal place id at paths
answers-at terms journal chain place event id at paths found is =
    let may : MayAnswer terms (take place journal) id at paths = subst (May terms (take place journal) event.by) is (May-at terms journal chain place event found) in
    let right = may.right in
    let opened_at = get-take journal place (at - 1) right.opens.opening right.opens.opened_at in
    let before : at ≤ place = omega (arith, opened_at.0, right.opens.behind) in
    let first : (tree : Restriction) × IsFirstWaiting terms (take (at - 1) journal) id tree =
    subst (May terms (take (at - 1) journal) right.opens.opening.by) right.opens.opens (May-at terms journal chain (at - 1) right.opens.opening opened_at.1) in
    let earlier = first.1.waits.asks in
    let later = request-earlier journal (at - 1) place (omega (arith, before)) id earlier.request earlier.found in
    let same : earlier.request ≡ right.asks.request = same_request (take place journal) id earlier.request right.asks.request later right.asks.found in
    record {
      tree = right.tree;
      asks = record { request = right.asks.request; found = subst (λ r. request_at (take (at - 1) journal) id ≡ Some r) same earlier.found; asks = right.asks.asks };
      opens = record { behind = right.opens.behind; opening = right.opens.opening; opened_at = opened_at.1; opens = right.opens.opens };
      before = before;
      hits = right.hits ∙ ap (λ js. hits right.tree (live_map terms js)) (take-shorter journal at place before);
      only = may.unreplied;
    }

-- so each answer of a run lists the hits at its own point
pub AllAnswer-run : (terms : Terms) (journal : List Event) → Run terms journal → AllAnswer terms journal
AllAnswer-run terms journal run place event id at paths found is = answers-at terms journal (Chain-run terms journal run) place event id at paths found is
