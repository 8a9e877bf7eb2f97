-- A request's turn, as far as it comes.
use Rattle.std.proofs.Common.{arith, ◌≡◌, ◌∙◌, ◌==◌, ◌||◌, ℕ, ◌+◌, ◌<◌, ◌≤◌, Bool, true, false, List, [], ◌∷◌, ◌++◌, length, Some, ⊎_elim, inl, inr, refl, ap, sym, subst, append-nil, append_assoc}
use Rattle.std.specs.List.{list_any}
use Rattle.std.proofs.lemmas.Bool.{cases_lt}
use Rattle.std.proofs.lemmas.Bool.Decides.{nat_tests}
use Rattle.std.proofs.lemmas.List.{length_push}
use Rattle.ci_dialect.specs.declared.restriction.Restriction.{Restriction}
use Rattle.ci_dialect.specs.Tree.{IsTree}
use Rattle.ci_journal.specs.declared.event.Event.{Event}
use Rattle.ci_journal.specs.declared.event.Happened.{Happened}
use Rattle.ci_journal.specs.declared.event.Happened.TheVariants.{Asked, Opened}
use Rattle.ci_journal.specs.declared.request.Request.{Request}
use Rattle.ci_journal.specs.declared.request.Request.TheVariants.{Changed, Deleted, Put, Query, Filter, Shadow, Master, Step, Scan, Pending, Unfiltered, Status, Load, Wait, Quit, Bad, Long}
use Rattle.ci_journal.specs.Bytes.{event_bytes, journal_bytes}
use Rattle.ci_journal.specs.Filings.{Filings, out}
use Rattle.ci_journal.specs.Folds.{requests_in, request_at, is_opened, is_replied}
use Rattle.ci_journal.specs.Queries.{Asks, Waits}
use Rattle.ci_journal.specs.Tells.{event}
use Rattle.ci_journal.specs.Terms.{Terms}
use Rattle.ci_journal.proofs.FoldsLemmas.{filings-push, is_replied-push, journal_bytes-push, requests_in-push}
use Rattle.ci_book.specs.declared.core_fault.CoreFault.{CoreFault}
use Rattle.ci_book.specs.declared.core_fault.CoreFault.TheVariants.{OutOfMemory}
use Rattle.ci_holdings.specs.Core.{Core}
use Rattle.ci_core.specs.Fixed.{KeepsFixed}
use Rattle.ci_holdings.specs.Opening.{NoneWaits}
use Rattle.ci_holdings.specs.Refusals.{Refuses}
use Rattle.ci_holdings.specs.Steps.{IsUnrefused, Makes}
use Rattle.ci_holdings.proofs.QueueLemmas.{Waits-before, request_at-new}
use Rattle.ci_server.specs.Served.{FitsSteps, FitsTurn, IsBetween, IsJustAsked, ServesSteps, ServesTurn, StopsSteps, StopsTurn, WaitsAlone}
use Rattle.ci_worker.specs.Filtering.{room_left}
use Rattle.ci_worker.specs.Stops.{IsSound}
use Rattle.ci_worker.specs.Way.{is_over}
use Rattle.ci_worker.proofs.WayLemmas.{is_over-push}
use Rattle.ci_server.specs.Turns.{AreFirst, AreSteps, Front}
use Rattle.ci_server.specs.Turns.Front.{Begins}
use Rattle.ci_server.proofs.FrontLemmas.{front-adds, openings_of}
use Rattle.ci_worker.proofs.StepLemmas.{IsStep, Remains-trans, less-behind, one_event, step-quiet}
use Rattle.ci_server.proofs.StepsLemmas.{is_opened-append, is_replied-append, request_at-append, requests_in-append}
use Rattle.ci_worker.proofs.StopLemmas.{StopsIn-map, StopsIn-refused, StopsIn-starved}

replied_last : (id : ℕ) → ((id == id) || false) ≡ true
replied_last id = let same : (id == id) ≡ true = grind (arith, nat_tests) in rw same refl

or_true : (b : Bool) → (b || true) ≡ true
or_true true = refl
or_true false = refl

module _ (terms : Terms) (journal : List Event) (id : ℕ) (request : Request) where
  -- the steps of a request ask nothing
  pub asked-steps : (steps : List Event) → AreSteps terms journal id request steps → requests_in steps ≡ []
  asked-steps steps made =
      let none : requests_in (event 0 made.last ∷ []) ≡ [] =
      ⊎_elim (λ replied. ap (λ w. requests_in (event 0 w ∷ [])) replied.1) (λ answered. ap (λ w. requests_in (event 0 w ∷ [])) answered.3) made.ends in
      ap requests_in made.events_are ∙ requests_in-append made.events (event 0 made.last ∷ [])
      ∙ ap (λ rs. rs ++ requests_in (event 0 made.last ∷ [])) (front-adds terms journal id request made.steps made.events made.front).requests ∙ none

  pub asked-first : (events : List Event) → AreFirst terms journal id request events → requests_in events ≡ []
  asked-first events first = ⊎_elim (λ front. (front-adds terms journal id request front.0 events front.1).requests) (λ made. asked-steps events made) first

  -- and reply to it
  pub replied-steps : (steps : List Event) → AreSteps terms journal id request steps → is_replied steps id ≡ true
  replied-steps steps made =
      let own : is_replied (event 0 made.last ∷ []) id ≡ true =
      ⊎_elim (λ replied. ap (λ w. is_replied (event 0 w ∷ []) id) replied.1 ∙ replied_last id) (λ answered. ap (λ w. is_replied (event 0 w ∷ []) id) answered.3 ∙ replied_last id) made.ends in
      ap (λ es. is_replied es id) made.events_are ∙ is_replied-append made.events (event 0 made.last ∷ []) id ∙ ap (λ b. is_replied made.events id || b) own ∙ or_true (is_replied made.events id)

  -- a query that was opened
  opened-answered : (made : List Event) (steps : List Happened) → Front terms journal id request steps made → steps ≡ Opened id ∷ [] → is_opened made id ≡ true
  opened-answered made steps front opens =
      ap (λ os. list_any (λ o. o == id) os) ((front-adds terms journal id request steps made front).opening ∙ ap openings_of opens) ∙ replied_last id

-- what has a tree is opened by its steps
opened-query : (terms : Terms) (journal : List Event) (id : ℕ) (text : List ℕ) (steps : List Event) → AreSteps terms journal id (Query text) steps → (tree : Restriction) → IsTree terms.noise text tree → is_opened steps id ≡ true
opened-query terms journal id text steps made tree is =
    let opened : is_opened made.events id ≡ true =
    ⊎_elim (λ replied. absurd (replied.2.3.none tree is)) (λ answered. opened-answered terms journal id (Query text) made.events made.steps made.front answered.0) made.ends in
    ap (λ es. is_opened es id) made.events_are ∙ is_opened-append made.events (event 0 made.last ∷ []) id ∙ ap (λ b. b || is_opened (event 0 made.last ∷ []) id) opened

both_false : (a b : Bool) → (a || b) ≡ false → (a ≡ false) × (b ≡ false)
both_false true b e = absurd (cc)
both_false false b e = (refl, e)

-- a query that waits behind steps that ask nothing waited before them, and they don't open it
waited-before : (terms : Terms) (journal steps : List Event) → requests_in steps ≡ [] → (id : ℕ) (tree : Restriction) → Waits terms (journal ++ steps) id tree → Waits terms journal id tree × (is_opened steps id ≡ false)
waited-before terms journal steps none id tree waits =
    let opened = both_false (is_opened journal id) (is_opened steps id) (sym (is_opened-append journal steps id) ∙ waits.unopened) in
    let asks = waits.asks in
    (record { asks = record { request = asks.request; found = sym (request_at-append journal steps none id) ∙ asks.found; asks = asks.asks }; unopened = opened.0 }, opened.1)

-- the request that was just asked has its tree, where it waits
asked-tree : (terms : Terms) (journal : List Event) (id : ℕ) (request : Request) (tree : Restriction) → request_at journal id ≡ Some request → Waits terms journal id tree → Asks terms.noise request tree
asked-tree terms journal id request tree found waits =
    let both : Some request ≡ Some waits.asks.request = sym found ∙ waits.asks.found in
    let same : request ≡ waits.asks.request = cc in
    subst (λ r. Asks terms.noise r tree) (sym same) waits.asks.asks

-- what has a tree is opened by its steps
opened-by_steps : (terms : Terms) (journal : List Event) (id : ℕ) (request : Request) (steps : List Event) → AreSteps terms journal id request steps → (tree : Restriction) → Asks terms.noise request tree → is_opened steps id ≡ true
opened-by_steps terms journal id (Query text) steps made tree asks = opened-query terms journal id text steps made tree asks
opened-by_steps terms journal id (Changed path) steps made tree asks = absurd asks
opened-by_steps terms journal id (Deleted path) steps made tree asks = absurd asks
opened-by_steps terms journal id (Put path text) steps made tree asks = absurd asks
opened-by_steps terms journal id Filter steps made tree asks = absurd asks
opened-by_steps terms journal id Shadow steps made tree asks = absurd asks
opened-by_steps terms journal id Master steps made tree asks = absurd asks
opened-by_steps terms journal id Step steps made tree asks = absurd asks
opened-by_steps terms journal id Scan steps made tree asks = absurd asks
opened-by_steps terms journal id Pending steps made tree asks = absurd asks
opened-by_steps terms journal id Unfiltered steps made tree asks = absurd asks
opened-by_steps terms journal id Status steps made tree asks = absurd asks
opened-by_steps terms journal id (Load seed count) steps made tree asks = absurd asks
opened-by_steps terms journal id Wait steps made tree asks = absurd asks
opened-by_steps terms journal id Quit steps made tree asks = absurd asks
opened-by_steps terms journal id Bad steps made tree asks = absurd asks
opened-by_steps terms journal id Long steps made tree asks = absurd asks

-- behind a request's steps no query waits
none-behind : (terms : Terms) (journal : List Event) (id : ℕ) (request : Request) (steps : List Event) → AreSteps terms journal id request steps → request_at journal id ≡ Some request → WaitsAlone terms journal id → NoneWaits terms (journal ++ steps)
none-behind terms journal id request steps made found alone other tree waits =
    let before = waited-before terms journal steps (asked-steps terms journal id request steps made) other tree waits in
    let same : other ≡ id = alone other tree before.0 in
    let opened = opened-by_steps terms journal id request steps made tree (asked-tree terms journal id request tree found (subst (λ n. Waits terms journal n tree) same before.0)) in
    let unopened = subst (λ n. is_opened steps n ≡ false) same before.1 in
    let wrong : true ≡ false = sym opened ∙ unopened in
    cc

-- when its steps were made each request has its reply
between-steps : (a new : Core) (id : ℕ) (request : Request) → IsJustAsked a id request → ServesSteps a new id request → out new.sheet.events ≡ [] → IsBetween new
between-steps a new id request just serves back =
    let count : length (requests_in new.sheet.events) ≡ id =
    ap (λ es. length (requests_in es)) serves.events ∙ ap length (requests_in-append a.sheet.events serves.steps ∙ rw (asked-steps a.terms a.sheet.events id request serves.steps serves.made) (append-nil _)) ∙ sym just.last in
    record {
      sound = serves.sound;
      replied = λ earlier some below. ap (λ es. is_replied es earlier) serves.events ∙ is_replied-append a.sheet.events serves.steps earlier ∙ by earlier some (omega (arith, below, count));
      all_opened = λ other tree waits.
          none-behind a.terms a.sheet.events id request serves.steps serves.made just.found just.waits other tree
          (subst (λ es. Waits a.terms es other tree) serves.events (subst (λ (t : Terms). Waits t new.sheet.events other tree) serves.remains.told.terms waits));
      back = back;
    }
  where
    by : (earlier : ℕ) → 0 < earlier → earlier ≤ id → (is_replied a.sheet.events earlier || is_replied serves.steps earlier) ≡ true
    by earlier some upto = elim (cases_lt earlier id) [
      | inl below ↦ rw (just.replied earlier some below) refl
      | inr above ↦
          let same : id ≡ earlier = omega arith in
          let own = subst (λ n. is_replied serves.steps n ≡ true) same (replied-steps a.terms a.sheet.events id request serves.steps serves.made) in
          rw own (or_true (is_replied a.sheet.events earlier))
    ]

-- the asking, under the number that was handed out
pub asked-step : (old a : Core) (id : ℕ) (request : Request) → IsSound old → id ≡ length (requests_in old.sheet.events) + 1 → Makes old a (event 0 (Asked (length (requests_in old.sheet.events) + 1) request))
    → IsUnrefused old a → KeepsFixed old a → IsStep old a (event 0 (Asked id request))
asked-step old a id request sound next makes unrefused keeps =
    let e = event 0 (Asked (length (requests_in old.sheet.events) + 1) request) in
    subst (λ n. IsStep old a (event 0 (Asked n request))) (sym next) (step-quiet old a e sound refl makes unrefused keeps refl refl)

-- which takes room
pub asked-less : (old a : Core) (number : ℕ) (request : Request) → IsSound old → Makes old a (event 0 (Asked number request)) → room_left a < room_left old
asked-less old a number request sound makes =
    let e = event 0 (Asked number request) in
    let added : a.sheet.events ≡ old.sheet.events ++ e ∷ [] = makes.adds.events ∙ ap (λ es. old.sheet.events ++ es) (one_event old e sound refl) in
    let bytes : journal_bytes a.sheet.events ≡ journal_bytes old.sheet.events + event_bytes (Asked number request) = ap journal_bytes added ∙ journal_bytes-push old.sheet.events e in
    omega (arith, bytes, makes.within, makes.adds.limit)

module _ (old : Core) (asks : Request) (between : IsBetween old) where
  asking-fits : FitsTurn old.terms old.sheet.events (length (requests_in old.sheet.events) + 1) asks (old.sheet.events ++ event 0 (Asked (length (requests_in old.sheet.events) + 1) asks) ∷ [])
  asking-fits = (event 0 (Asked (length (requests_in old.sheet.events) + 1) asks) ∷ [], inr ([], inl ([], Begins), refl), refl)

  nothing-fits : FitsTurn old.terms old.sheet.events (length (requests_in old.sheet.events) + 1) asks old.sheet.events
  nothing-fits = ([], inl refl, sym (append-nil old.sheet.events))

  -- there was no memory before the request was asked
  pub turn-starves : StopsTurn old old (length (requests_in old.sheet.events) + 1) asks OutOfMemory
  turn-starves = StopsIn-starved (FitsTurn old.terms old.sheet.events (length (requests_in old.sheet.events) + 1) asks) old between.sound nothing-fits

  -- the asking was refused
  pub turn-halts : (new : Core) (fault : CoreFault) → Refuses old new (event 0 (Asked (length (requests_in old.sheet.events) + 1) asks)) fault → KeepsFixed old new
      → StopsTurn old new (length (requests_in old.sheet.events) + 1) asks fault
  turn-halts new fault refuses keeps =
      StopsIn-refused (FitsTurn old.terms old.sheet.events (length (requests_in old.sheet.events) + 1) asks) old new (event 0 (Asked (length (requests_in old.sheet.events) + 1) asks)) fault between.sound refl nothing-fits asking-fits refuses keeps (inl refl)

  -- the asking, with the number that was handed out and the copy that was asked
  module _ (a : Core) (id : ℕ) (copied : Request) (next : id ≡ length (requests_in old.sheet.events) + 1) (same : copied ≡ asks) (step : IsStep old a (event 0 (Asked id copied))) where
    asking : IsStep old a (event 0 (Asked (length (requests_in old.sheet.events) + 1) asks))
    asking = subst (λ r. IsStep old a (event 0 (Asked (length (requests_in old.sheet.events) + 1) r))) same (subst (λ n. IsStep old a (event 0 (Asked n copied))) next step)

    -- the request was just asked
    pub just-asked : is_replied a.sheet.events id ≡ false → is_opened a.sheet.events id ≡ false → IsJustAsked a id asks
    just-asked unreplied unopened =
        let e = event 0 (Asked (length (requests_in old.sheet.events) + 1) asks) in
        let count : length (requests_in a.sheet.events) ≡ length (requests_in old.sheet.events) + 1 =
        ap (λ es. length (requests_in es)) asking.events ∙ ap length (requests_in-push old.sheet.events e) ∙ length_push (requests_in old.sheet.events) asks in
        record {
          sound = step.sound;
          may_reply = record { numbered = omega (arith, next); asked_before = omega (arith, count, next); unreplied = unreplied };
          last = next ∙ sym count;
          found = ap (λ es. request_at es id) asking.events ∙ ap (request_at (old.sheet.events ++ e ∷ [])) next ∙ request_at-new old.sheet.events 0 (length (requests_in old.sheet.events) + 1) asks;
          replied = λ earlier some below. ap (λ es. is_replied es earlier) asking.events ∙ is_replied-push old.sheet.events e earlier ∙ rw (between.replied earlier some (omega (arith, below, next))) refl;
          unopened = unopened;
          waits = λ other tree waits. ⊎_elim (λ before. absurd (between.all_opened other tree before)) (λ new. new.0 ∙ sym next)
              (Waits-before old.terms old.sheet.events e other tree
              (subst (λ es. Waits old.terms es other tree) asking.events (subst (λ (t : Terms). Waits t a.sheet.events other tree) step.remains.told.terms waits)));
          idle = record {
            back = ap out asking.events ∙ ap (λ (f : Filings). f.out) (filings-push old.sheet.events e) ∙ between.back;
            goes_on = ap is_over asking.events ∙ is_over-push old.sheet.events e;
          };
        }

    pub turn-serves : (new : Core) → IsJustAsked a id asks → ServesSteps a new id asks → out new.sheet.events ≡ [] → room_left a < room_left old → ServesTurn old new (length (requests_in old.sheet.events) + 1) asks
    turn-serves new just steps back less =
        let serves = subst (λ n. ServesSteps a new n asks) next steps in
        let e = event 0 (Asked (length (requests_in old.sheet.events) + 1) asks) in
        record {
          events = e ∷ serves.steps;
          turn = record {
            steps = serves.steps;
            made = subst (λ es. AreSteps old.terms es (length (requests_in old.sheet.events) + 1) asks serves.steps) asking.events
                (subst (λ (t : Terms). AreSteps t a.sheet.events (length (requests_in old.sheet.events) + 1) asks serves.steps) step.remains.told.terms serves.made);
            events_are = refl;
          };
          events_are = serves.events ∙ ap (λ es. es ++ serves.steps) asking.events ∙ append_assoc old.sheet.events (e ∷ []) serves.steps;
          remains = Remains-trans old a new step.remains serves.remains;
          between = between-steps a new id asks just steps back;
          grows = omega (arith, less, less-behind a new serves.steps serves.events serves.remains.limit);
        }

    pub turn-stops : (new : Core) (fault : CoreFault) → StopsSteps a new id asks fault → StopsTurn old new (length (requests_in old.sheet.events) + 1) asks fault
    turn-stops new fault steps =
        let e = event 0 (Asked (length (requests_in old.sheet.events) + 1) asks) in
        let stops = subst (λ n. StopsSteps a new n asks fault) next steps in
        StopsIn-map (FitsSteps a.terms a.sheet.events (length (requests_in old.sheet.events) + 1) asks) (FitsTurn old.terms old.sheet.events (length (requests_in old.sheet.events) + 1) asks)
        (λ journal fits. (
          e ∷ fits.0,
          inr (
            fits.0,
            subst (λ es. AreFirst old.terms es (length (requests_in old.sheet.events) + 1) asks fits.0) asking.events
                (subst (λ (t : Terms). AreFirst t a.sheet.events (length (requests_in old.sheet.events) + 1) asks fits.0) step.remains.told.terms fits.1),
            refl,
          ),
          fits.2 ∙ ap (λ es. es ++ fits.0) asking.events ∙ append_assoc old.sheet.events (e ∷ []) fits.0,
        ))
        old a new fault step.remains stops
