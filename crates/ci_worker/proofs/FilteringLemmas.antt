-- The filtering goes on, step by step, and stops.
use Rattle.std.proofs.Common.{◌≡◌, ◌∙◌, ℕ, List, [], ◌∷◌, ◌++◌, None, inl, refl, ap, sym, subst, append-nil, append_assoc}
use Rattle.ci_journal.specs.declared.event.Event.{Event}
use Rattle.ci_journal.specs.declared.event.Happened.{Happened}
use Rattle.ci_journal.specs.Step.{step_of}
use Rattle.ci_journal.specs.Tells.{event, tells}
use Rattle.ci_journal.specs.Terms.{Terms}
use Rattle.ci_book.specs.declared.core_fault.CoreFault.{CoreFault}
use Rattle.ci_book.specs.declared.core_fault.CoreFault.TheVariants.{OutOfMemory}
use Rattle.ci_holdings.specs.Core.{Core}
use Rattle.ci_core.specs.Fixed.{KeepsFixed}
use Rattle.ci_holdings.specs.Refusals.{Refuses}
use Rattle.ci_worker.specs.Filtering.{Filtering, FitsFiltering, GoesOn, StopsFiltering}
use Rattle.ci_worker.specs.Filtering.Filtering.{Begins, Goes}
use Rattle.ci_worker.specs.Stops.{IsAt, IsSound}
use Rattle.ci_worker.specs.Way.{IsNextOf}
use Rattle.ci_worker.proofs.StepLemmas.{IsAt-none, IsAt-then}
use Rattle.ci_worker.proofs.StopLemmas.{StopsIn-halted, StopsIn-map, StopsIn-starved}

-- some steps, and then some more
pub Filtering-then : (terms : Terms) (by : ℕ) (journal : List Event) (steps : List Happened) (events : List Event) (more_steps : List Happened) (more : List Event)
    → Filtering terms by journal steps events → Filtering terms by (journal ++ events) more_steps more → Filtering terms by journal (steps ++ more_steps) (events ++ more)
Filtering-then terms by journal steps events _ _ first Begins =
    subst (λ es. Filtering terms by journal (steps ++ []) es) (sym (append-nil events)) (subst (λ ss. Filtering terms by journal ss events) (sym (append-nil steps)) first)
Filtering-then terms by journal steps events _ _ first (Goes more_steps more what made next) =
    let parts : (journal ++ events) ++ more ≡ journal ++ (events ++ more) = append_assoc journal events more in
    let all = Filtering-then terms by journal steps events more_steps more first made in
    let one = Goes (steps ++ more_steps) (events ++ more) what all (subst (λ es. IsNextOf terms by es what) parts next) in
    subst (λ ss. Filtering terms by journal ss (events ++ (more ++ step_of terms ((journal ++ events) ++ more) by what))) (append_assoc steps more_steps (what ∷ []))
    (subst (λ es. Filtering terms by journal ((steps ++ more_steps) ++ what ∷ []) es) (append_assoc events more (step_of terms ((journal ++ events) ++ more) by what))
    (subst (λ es. Filtering terms by journal ((steps ++ more_steps) ++ what ∷ []) ((events ++ more) ++ step_of terms es by what)) (sym parts) one))

-- one step
pub Filtering-one : (terms : Terms) (by : ℕ) (journal : List Event) (what : Happened) → IsNextOf terms by journal what → Filtering terms by journal (what ∷ []) (step_of terms journal by what)
Filtering-one terms by journal what next =
    subst (λ es. Filtering terms by journal (what ∷ []) (step_of terms es by what)) (append-nil journal)
    (Goes [] [] what Begins (subst (λ es. IsNextOf terms by es what) (sym (append-nil journal)) next))

module _ (by : ℕ) where
  abbrev pub GoesOn-none : (core : Core) → IsSound core → GoesOn by core core
  GoesOn-none core sound = record { steps = []; events = []; made = Begins; at = IsAt-none core sound }

  -- which was no step of the catalogue either
  abbrev pub GoesOn-rests : (old new : Core) → IsAt old new [] → GoesOn by old new
  GoesOn-rests old new at = record { steps = []; events = []; made = Begins; at = at }

  abbrev pub GoesOn-one : (old new : Core) (what : Happened) → IsNextOf old.terms by old.sheet.events what → IsAt old new (step_of old.terms old.sheet.events by what) → GoesOn by old new
  GoesOn-one old new what next at = record {
    steps = what ∷ [];
    events = step_of old.terms old.sheet.events by what;
    made = Filtering-one old.terms by old.sheet.events what next;
    at = at;
  }

  -- what was made behind some steps, as seen from before them
  pub seen_before : (old mid : Core) (goes : GoesOn by old mid) (steps : List Happened) (events : List Event) → Filtering mid.terms by mid.sheet.events steps events
      → Filtering old.terms by old.sheet.events (goes.steps ++ steps) (goes.events ++ events)
  seen_before old mid goes steps events made =
      Filtering-then old.terms by old.sheet.events goes.steps goes.events steps events goes.made
      (subst (λ es. Filtering old.terms by es steps events) goes.at.events (subst (λ (t : Terms). Filtering t by mid.sheet.events steps events) goes.at.remains.told.terms made))

  abbrev pub GoesOn-then : (old mid new : Core) → GoesOn by old mid → GoesOn by mid new → GoesOn by old new
  GoesOn-then old mid new goes more = record {
    steps = goes.steps ++ more.steps;
    events = goes.events ++ more.events;
    made = seen_before old mid goes more.steps more.events more.made;
    at = IsAt-then old mid new goes.events more.events goes.at more.at;
  }

  -- ---- where it stops

  -- there was no memory for what the next step needs
  pub filtering-starves : (core : Core) → IsSound core → StopsFiltering by core core OutOfMemory
  filtering-starves core sound = StopsIn-starved (FitsFiltering core.terms by core.sheet.events) core sound ([], [], Begins, sym (append-nil core.sheet.events))

  -- the next step was refused
  pub filtering-halts : (old new : Core) (what : Happened) (fault : CoreFault) → IsSound old → (tells what).notice ≡ None → IsNextOf old.terms by old.sheet.events what → Refuses old new (event by what) fault
      → KeepsFixed old new → StopsFiltering by old new fault
  filtering-halts old new what fault sound no_notice next refuses keeps =
      StopsIn-halted (FitsFiltering old.terms by old.sheet.events) old new (event by what) fault sound ([], [], Begins, sym (append-nil old.sheet.events))
      (what ∷ [], step_of old.terms old.sheet.events by what, Filtering-one old.terms by old.sheet.events what next, refl) refuses keeps (inl no_notice)

  -- behind some steps
  pub filtering-later : (old mid new : Core) (fault : CoreFault) → GoesOn by old mid → StopsFiltering by mid new fault → StopsFiltering by old new fault
  filtering-later old mid new fault goes stops =
      StopsIn-map (FitsFiltering mid.terms by mid.sheet.events) (FitsFiltering old.terms by old.sheet.events)
      (λ journal fits. (
        goes.steps ++ fits.0,
        goes.events ++ fits.1,
        seen_before old mid goes fits.0 fits.1 fits.2,
        fits.3 ∙ ap (λ es. es ++ fits.1) goes.at.events ∙ append_assoc old.sheet.events goes.events fits.1,
      )) old mid new fault goes.at.remains stops
