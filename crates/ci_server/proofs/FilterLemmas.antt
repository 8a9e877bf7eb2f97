-- The request `filter`: its steps, its reply, and where it stops.
use Rattle.std.proofs.Common.{arith, ◌≡◌, ◌==◌, ℕ, Bool, true, false, List, [], ◌∷◌, ◌++◌, length, inl, refl, ap, sym, subst}
use Rattle.std.specs.List.{list_any}
use Rattle.std.proofs.lemmas.List.{take_all}
use Rattle.ci_journal.specs.declared.event.Event.{Event}
use Rattle.ci_journal.specs.declared.event.Happened.{Happened}
use Rattle.ci_journal.specs.declared.event.Happened.TheVariants.{Said}
use Rattle.ci_journal.specs.declared.reply.Reply.{Reply}
use Rattle.ci_journal.specs.declared.reply.Reply.TheVariants as reply
use Rattle.ci_journal.specs.declared.request.Request.TheVariants as request
use Rattle.ci_journal.specs.Pending.{unfiltered}
use Rattle.ci_journal.specs.Step.{MaySay}
use Rattle.ci_journal.specs.Tells.{event}
use Rattle.ci_journal.specs.Terms.{Terms}
use Rattle.ci_book.specs.declared.core_fault.CoreFault.{CoreFault}
use Rattle.ci_book.specs.declared.core_fault.CoreFault.TheVariants.{OutOfMemory}
use Rattle.ci_holdings.specs.Core.{Core}
use Rattle.ci_server.specs.Right.{IsFilterReply}
use Rattle.ci_server.specs.Served.{FitsSteps, StopsSteps}
use Rattle.ci_server.specs.Turns.{AreFirst, AreSteps, Front}
use Rattle.ci_server.specs.Turns.Front.{Begins, Goes}
use Rattle.ci_worker.specs.Filtering.{Filtering, Filters, FitsFiltering, StopsFiltering}
use Rattle.ci_worker.specs.Filtering.Filtering.{Begins as begins, Goes as goes}
use Rattle.ci_worker.specs.Way.{IsFiltered}
use Rattle.ci_worker.proofs.StepLemmas.{Remains-refl}
use Rattle.ci_worker.proofs.StopLemmas.{StopsIn-map}
use Rattle.ci_server.proofs.FrontLemmas.{front-adds, whole-replied}
use Rattle.ci_server.proofs.StepsLemmas.{MaySay-at, steps-starve}

-- the steps of a filtering are those of the request
front-filtering : (terms : Terms) (journal : List Event) (id : ℕ) (steps : List Happened) (events : List Event) → Filtering terms 0 journal steps events → Front terms journal id request.Filter steps events
front-filtering terms journal id _ _ begins = Begins
front-filtering terms journal id _ _ (goes steps events what made next) = Goes steps events what (front-filtering terms journal id steps events made) next

module _ (old : Core) (id : ℕ) where
  -- a step was refused
  pub filter-stops : (new : Core) (fault : CoreFault) → StopsFiltering 0 old new fault → StopsSteps old new id request.Filter fault
  filter-stops new fault stops =
      StopsIn-map (FitsFiltering old.terms 0 old.sheet.events) (FitsSteps old.terms old.sheet.events id request.Filter)
      (λ journal fits. (fits.1, inl (fits.0, front-filtering old.terms old.sheet.events id fits.0 fits.1 fits.2), fits.3)) old old new fault (Remains-refl old) stops

  module _ (now : Core) (whole : Bool) (filters : Filters 0 old now whole) where
    abbrev made : List Event
    made = filters.goes.events

    front : Front old.terms old.sheet.events id request.Filter filters.goes.steps filters.goes.events
    front = front-filtering old.terms old.sheet.events id filters.goes.steps filters.goes.events filters.goes.made

    pub first-filter : AreFirst old.terms old.sheet.events id request.Filter filters.goes.events
    first-filter = inl (filters.goes.steps, front)

    -- there was no memory behind them
    pub filter-starves : StopsSteps old now id request.Filter OutOfMemory
    filter-starves = steps-starve old id request.Filter now filters.goes.events filters.goes.at first-filter

    pub filter-may_say : MaySay old.sheet.events id → MaySay now.sheet.events id
    filter-may_say may =
        let adds = front-adds old.terms old.sheet.events id request.Filter filters.goes.steps filters.goes.events front in
        MaySay-at old now filters.goes.events id filters.goes.at adds.requests (ap (λ rs. list_any (λ r. r == id) rs) adds.replies) may

    whole-with : (said : Reply) → IsFilterReply now.terms now.sheet.events filters.goes.events said → AreSteps old.terms old.sheet.events id request.Filter (filters.goes.events ++ event 0 (Said id said) ∷ [])
    whole-with said right =
        whole-replied old.terms old.sheet.events id request.Filter filters.goes.steps filters.goes.events said front
        (subst (λ es. IsFilterReply old.terms es filters.goes.events said) filters.goes.at.events
        (subst (λ (t : Terms). IsFilterReply t now.sheet.events filters.goes.events said) filters.goes.at.remains.told.terms right))

  -- all was filtered
  pub whole-filtered : (now : Core) (filters : Filters 0 old now true) (said : Reply) → said ≡ reply.Filtered (length (unfiltered now.terms now.sheet.events))
      → AreSteps old.terms old.sheet.events id request.Filter (filters.goes.events ++ event 0 (Said id said) ∷ [])
  whole-filtered now filters said is =
      subst (λ (s : Reply). AreSteps old.terms old.sheet.events id request.Filter (filters.goes.events ++ event 0 (Said id s) ∷ [])) (sym is)
      (whole-with now true filters (reply.Filtered (length (unfiltered now.terms now.sheet.events)))
      (refl, length now.sheet.events, omega arith, subst (IsFiltered now.terms) (sym (take_all (length now.sheet.events) now.sheet.events (omega arith))) filters.through))

  -- or no daemon can be had
  pub whole-denied : (now : Core) (filters : Filters 0 old now false) → AreSteps old.terms old.sheet.events id request.Filter (filters.goes.events ++ event 0 (Said id reply.NoDaemon) ∷ [])
  whole-denied now filters = whole-with now false filters reply.NoDaemon filters.through
