-- The steps of a query, as far as they come.
use Rattle.std.proofs.Common.{arith, ◌≡◌, ◌≢◌, ◌∙◌, ℕ, ◌+◌, ◌-◌, List, [], ◌∷◌, ◌++◌, length, take, Some, None, slice_get, inl, inr, ⊎_elim, refl, ap, sym, subst}
use Rattle.std.proofs.lemmas.List.{length_push}
use Rattle.std.proofs.Math.Seq.{take-length}
use Rattle.ci_dialect.specs.declared.fault.QueryFault.{QueryFault}
use Rattle.ci_dialect.specs.declared.fault.QueryFault.TheVariants.{OutOfMemory}
use Rattle.ci_dialect.specs.declared.fault.QueryKind.{QueryKind}
use Rattle.ci_dialect.specs.declared.restriction.Restriction.{Restriction}
use Rattle.ci_dialect.specs.Fault.{met_in}
use Rattle.ci_dialect.specs.Tree.{IsTree}
use Rattle.ci_journal.specs.declared.event.Event.{Event}
use Rattle.ci_journal.specs.declared.event.Happened.TheVariants.{Opened, Answered}
use Rattle.ci_journal.specs.declared.request.Request.TheVariants as request
use Rattle.ci_journal.specs.Queries.{AsksAt, IsAnswer}
use Rattle.ci_journal.specs.Served.{hits, hits_in, live_map}
use Rattle.ci_journal.specs.Step.{MayAnswer}
use Rattle.ci_journal.specs.Tells.{event}
use Rattle.ci_journal.specs.Terms.{Terms}
use Rattle.ci_journal.proofs.FoldsLemmas.{slice_get-push}
use Rattle.ci_book.specs.declared.core_fault.CoreFault.{CoreFault}
use Rattle.ci_holdings.specs.declared.question.Question.{Question}
use Rattle.ci_holdings.specs.Core.{Core}
use Rattle.ci_core.specs.Fixed.{KeepsFixed}
use Rattle.ci_holdings.specs.Opening.{NoneWaits, Opens, RefusesOpening}
use Rattle.ci_holdings.specs.Refusals.{IsRefused, Refuses}
use Rattle.ci_holdings.specs.Steps.{IsUnrefused, Makes, Rests}
use Rattle.ci_holdings.proofs.QueueLemmas.{request_at-push}
use Rattle.ci_server.specs.Served.{IsJustAsked}
use Rattle.ci_worker.specs.Stops.{IsAt}
use Rattle.ci_server.specs.Turns.{AreSteps}
use Rattle.ci_server.proofs.NotingLemmas.{whole-answered}
use Rattle.ci_worker.proofs.StepLemmas.{IsAt-none, IsAt-rests, step-quiet}
use Rattle.ci_server.proofs.StepsLemmas.{IsAt-step, MaySay-at}

-- only the want of memory isn't met in the text
pub is_met : (fault : QueryFault) (met : QueryKind × ℕ) → met_in fault ≡ Some met → fault ≢ OutOfMemory
is_met fault met is = λ starves. let none : met_in fault ≡ None = ap met_in starves in cc

module _ (old : Core) (id : ℕ) (text : List ℕ) (just : IsJustAsked old id (request.Query text)) where
  -- no query waits: the text has no tree
  pub no_tree : NoneWaits old.terms old.sheet.events → (tree : Restriction) → IsTree old.terms.noise text tree → ⊥
  no_tree none tree is =
      none id tree (record { asks = record { request = request.Query text; found = just.found; asks = is }; unopened = just.unopened })

  -- and nothing was added
  pub rested-at : (a : Core) → Rests old a → IsUnrefused old a → KeepsFixed old a → IsAt old a []
  rested-at a rests unrefused keeps = IsAt-rests old a just.sound rests unrefused keeps

  -- only this query can be opened
  pub Refuses-opening : (new : Core) (fault : CoreFault) → RefusesOpening old new 0 fault → Refuses old new (event 0 (Opened id)) fault
  Refuses-opening new fault refuses =
      ⊎_elim inl (λ refused. inr (subst (λ (n : ℕ). IsRefused old new (event 0 (Opened n)) fault)
      (just.waits refused.0 refused.1.may.0 refused.1.may.1.waits) refused.1)) refuses

  module _ (a : Core) (question : Question) (opens : Opens old a 0 question) where
    pub question-id : question.id ≡ id
    question-id = just.waits question.id question.tree opens.first.waits

    pub opened-at : IsUnrefused old a → KeepsFixed old a → IsAt old a (event 0 (Opened id) ∷ [])
    opened-at unrefused keeps =
        let e = event 0 (Opened id) in
        let makes = subst (λ (n : ℕ). Makes old a (event 0 (Opened n))) question-id opens.makes in
        IsAt-step old old a [] e (IsAt-none old just.sound) (step-quiet old a e just.sound refl makes unrefused keeps refl refl)

    -- the hits of the question may be its answer
    pub may-answer : (paths : List (List ℕ)) → IsAt old a (event 0 (Opened id) ∷ []) → paths ≡ hits_in question.tree question.plain
        → MayAnswer a.terms a.sheet.events question.id question.at paths
    may-answer paths at found =
        let opening : Event = event 0 (Opened question.id) in
        let events : a.sheet.events ≡ old.sheet.events ++ opening ∷ [] = opens.makes.adds.events in
        let may_say = MaySay-at old a (event 0 (Opened id) ∷ []) id at refl refl just.may_reply in
        let asks = opens.first.waits.asks in
        let count : question.at ≡ length old.sheet.events + 1 = opens.at ∙ ap length events ∙ length_push old.sheet.events opening in
        let place : question.at - 1 ≡ length old.sheet.events = omega (arith, count) in
        let stands : slice_get a.sheet.events (question.at - 1) ≡ Some opening = rw (place, events) (slice_get-push old.sheet.events opening) in
        let all : take question.at a.sheet.events ≡ a.sheet.events = ap (λ n. take n a.sheet.events) opens.at ∙ take-length a.sheet.events in
        record {
          unreplied = rw question-id may_say.unreplied;
          right = record {
            tree = question.tree;
            asks = subst (λ (t : Terms). AsksAt t a.sheet.events question.id question.tree) (sym opens.makes.told.terms) (record {
              request = asks.request;
              found = rw events (request_at-push old.sheet.events opening question.id asks.request asks.found);
              asks = asks.asks;
            });
            opens = record { behind = omega (arith, count); opening = opening; opened_at = stands; opens = refl };
            hits = found ∙ ap (hits_in question.tree) opens.plain ∙ ap (λ (t : Terms). hits question.tree (live_map t a.sheet.events)) (sym opens.makes.told.terms)
                ∙ ap (λ es. hits question.tree (live_map a.terms es)) (sym all);
          };
        }

    -- and they end its turn
    pub whole-answer : (paths : List (List ℕ)) → IsAt old a (event 0 (Opened id) ∷ []) → paths ≡ hits_in question.tree question.plain
        → AreSteps old.terms old.sheet.events id (request.Query text) (event 0 (Opened id) ∷ event 0 (Answered id question.at paths) ∷ [])
    whole-answer paths at found =
        whole-answered old.terms old.sheet.events id text question.at paths
        (subst (λ (n : ℕ). IsAnswer old.terms (old.sheet.events ++ event 0 (Opened id) ∷ []) n question.at paths) question-id
        (subst (λ es. IsAnswer old.terms es question.id question.at paths) at.events
        (subst (λ (t : Terms). IsAnswer t a.sheet.events question.id question.at paths) at.remains.told.terms (may-answer paths at found).right)))

    -- the answer goes to the request
    pub Refuses-answer : (new : Core) (paths : List (List ℕ)) (fault : CoreFault) → Refuses a new (event 0 (Answered question.id question.at paths)) fault → Refuses a new (event 0 (Answered id question.at paths)) fault
    Refuses-answer new paths fault refuses = subst (λ (n : ℕ). Refuses a new (event 0 (Answered n question.at paths)) fault) question-id refuses

    pub Makes-answer : (new : Core) (paths : List (List ℕ)) → Makes a new (event 0 (Answered question.id question.at paths)) → Makes a new (event 0 (Answered id question.at paths))
    Makes-answer new paths makes = subst (λ (n : ℕ). Makes a new (event 0 (Answered n question.at paths))) question-id makes
