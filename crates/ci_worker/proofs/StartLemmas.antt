-- A daemon is started, or can't be.
use Rattle.std.proofs.Common.{◌≡◌, ◌+◌, ◌∙◌, ◌==◌, ℕ, Bool, true, false, cond, List, [], ◌∷◌, ◌++◌, Contains, Option, None, Some, is_some, refl, ap, sym, subst, append_assoc, inl, inr, ⊎_elim}
use Rattle.ci_keys.proofs.OneForm.{Contains-first, Contains-later}
use Rattle.ci_journal.specs.declared.event.Event.{Event}
use Rattle.ci_journal.specs.declared.event.Happened.TheVariants.{DaemonLost, StartFailed, Started}
use Rattle.ci_journal.specs.Daemon.{failures, holds_link, is_lost, most_failures}
use Rattle.ci_journal.specs.Filings.{out}
use Rattle.ci_journal.specs.Pending.{free}
use Rattle.ci_journal.specs.Step.{step_of}
use Rattle.ci_journal.specs.Tells.{event}
use Rattle.ci_journal.specs.Tells.Start.{Came}
use Rattle.ci_journal.specs.Terms.{Terms}
use Rattle.ci_book.specs.declared.core_fault.CoreFault.{CoreFault}
use Rattle.ci_core.specs.Fixed.{KeepsFixed}
use Rattle.ci_holdings.specs.Core.{Core}
use Rattle.ci_holdings.specs.Refusals.{Refuses}
use Rattle.ci_holdings.specs.Steps.{IsUnrefused, Makes, numbered_behind}
use Rattle.ci_link.specs.Line.{Speaking}
use Rattle.ci_worker.specs.Filtering.{Filters, GoesOn, IsDenied, IsHeldFor, StopsFiltering}
use Rattle.ci_worker.specs.Stops.{AreBelowNext, IsAt, IsSound}
use Rattle.ci_worker.specs.Way.{IsWanted, MayStart}
use Rattle.ci_worker.specs.Working.{Holds, Working, is_held}
use Rattle.ci_worker.proofs.FilteringLemmas.{GoesOn-none, GoesOn-one, GoesOn-then, filtering-halts}
use Rattle.ci_worker.proofs.HoldsLemmas.{holds-linked, lost-kept}
use Rattle.ci_worker.proofs.StepLemmas.{at-silent, below-quiet, step-quiet}
use Rattle.ci_worker.proofs.WayLemmas.{deletions-same, free-same, is_over-push, out-same}

pub some_held : (held : Option Speaking) → is_some held ≡ true → is_held held ≡ true
some_held None is = absurd (cc)
some_held (Some link) is = refl

pub none_held : (held : Option Speaking) → is_some held ≡ false → held ≡ None
none_held None is = refl
none_held (Some link) is = absurd (cc)

-- ---- no start is needed, or none is tried

module _ (by : ℕ) (core : Core) (sound : IsSound core) (wanted : IsWanted core.terms core.sheet.events) where
  pub held-already : holds_link core.sheet.events by ≡ true → IsHeldFor by core core
  held-already linked = record { goes = GoesOn-none by core sound; wanted = wanted; linked = linked }

  pub denied-already : is_lost core.sheet.events ≡ true → IsDenied by core core
  denied-already lost = record { goes = GoesOn-none by core sound; hopeless = record { some = wanted.some; why = inr lost }; back = wanted.idle.back }

Contains-behind : {X : Type 0} (xs ys : List X) (x : X) → Contains ys x → Contains (xs ++ ys) x
Contains-behind [] ys x here = here
Contains-behind (y ∷ xs) ys x here = Contains-later y (xs ++ ys) x (Contains-behind xs ys x here)

-- behind some steps no daemon can be had
pub denied-behind : (by : ℕ) (old mid new : Core) → GoesOn by old mid → IsDenied by mid new → Filters by old new false
denied-behind by old mid new goes denied = record {
  goes = GoesOn-then by old mid new goes denied.goes;
  through = record {
    some = denied.hopeless.some;
    why = ⊎_elim (λ failed. inl (failed.0, Contains-behind goes.events denied.goes.events (event failed.0 StartFailed) failed.1)) (λ lost. inr lost) denied.hopeless.why;
  };
  back = denied.back;
}

module _ (by : ℕ) (old : Core) (sound : IsSound old) (may : MayStart old.terms old.sheet.events by) (new : Core) (keeps : KeepsFixed old new) where
  -- ---- it was started

  module _ (makes : Makes old new (event by Started)) (unrefused : IsUnrefused old new) where
    started_at : IsAt old new (event by Started ∷ [])
    started_at = step-quiet old new (event by Started) sound refl makes unrefused keeps refl refl

    pub started-held : IsHeldFor by old new
    started-held =
        let e = event by Started in
        let at = started_at in
        let J = old.sheet.events in
        record {
          goes = GoesOn-one by old new Started may at;
          wanted = subst (λ (t : Terms). IsWanted t new.sheet.events) (sym at.remains.told.terms) (subst (IsWanted old.terms) (sym at.events) (record {
            idle = record { back = out-same old.terms J e refl refl ∙ may.wanted.idle.back; goes_on = is_over-push J e };
            erased = deletions-same old.terms J e refl refl ∙ may.wanted.erased;
            some = λ none. may.wanted.some (sym (free-same old.terms J e refl refl) ∙ none);
          }));
          linked = ap (λ es. holds_link es by) at.events ∙ holds-linked J e true refl;
        }

    pub started-holds : (worker now : Working) → is_held now.held ≡ true → now.lost ≡ worker.lost → Holds worker old.sheet.events by → Holds now new.sheet.events by
    started-holds worker now held lost holds = subst (λ es. Holds now es by) (sym started_at.events) (record {
      held = held ∙ sym (holds-linked old.sheet.events (event by Started) true refl);
      lost = lost ∙ holds.lost ∙ sym (lost-kept old.sheet.events (event by Started) Came refl refl);
    })

    pub started-events : new.sheet.events ≡ old.sheet.events ++ event by Started ∷ []
    started-events = started_at.events

  pub starting-stops : (fault : CoreFault) → Refuses old new (event by Started) fault → StopsFiltering by old new fault
  starting-stops fault refuses = filtering-halts by old new Started fault sound refl may refuses keeps

  -- ---- it could not be started

  module _ (makes : Makes old new (event by StartFailed)) (unrefused : IsUnrefused old new) where
    failure : List Event
    failure = step_of old.terms old.sheet.events by StartFailed

    numbers-none : numbered_behind old.numbered (step_of old.terms old.sheet.events by StartFailed) ≡ old.numbered
    numbers-none = of (failures old.sheet.events + 1 == most_failures)
      where
        of : (last : Bool) → numbered_behind old.numbered (event by StartFailed ∷ cond last (event by DaemonLost ∷ []) []) ≡ old.numbered
        of true = refl
        of false = refl

    -- it changes nothing that is pending
    module _ (P : List Event → Type 0) (keeps_on : (journal : List Event) → P journal → P (journal ++ event by StartFailed ∷ [])) (keeps_lost : (journal : List Event) → P journal → P (journal ++ event by DaemonLost ∷ [])) where
      through : P old.sheet.events → P (old.sheet.events ++ step_of old.terms old.sheet.events by StartFailed)
      through holds = of (failures old.sheet.events + 1 == most_failures)
        where
          one : P (old.sheet.events ++ event by StartFailed ∷ [])
          one = keeps_on old.sheet.events holds

          of : (last : Bool) → P (old.sheet.events ++ event by StartFailed ∷ cond last (event by DaemonLost ∷ []) [])
          of true = subst P (append_assoc old.sheet.events (event by StartFailed ∷ []) (event by DaemonLost ∷ [])) (keeps_lost (old.sheet.events ++ event by StartFailed ∷ []) one)
          of false = one

    failed_at : IsAt old new (step_of old.terms old.sheet.events by StartFailed)
    failed_at =
        at-silent old new (step_of old.terms old.sheet.events by StartFailed) sound makes.adds.events makes.adds.limit makes.told makes.numbered unrefused.after keeps numbers-none
        (through (AreBelowNext old.terms) (λ es below. below-quiet old.terms es (event by StartFailed) refl refl below) (λ es below. below-quiet old.terms es (event by DaemonLost) refl refl below) sound.below)

    pub failed-denied : IsDenied by old new
    failed-denied =
        let at = failed_at in
        let same = through (λ es. free old.terms es ≡ free old.terms old.sheet.events) (λ es is. free-same old.terms es (event by StartFailed) refl refl ∙ is) (λ es is. free-same old.terms es (event by DaemonLost) refl refl ∙ is) refl in
        record {
          goes = GoesOn-one by old new StartFailed may at;
          hopeless = record {
            some = λ none. may.wanted.some (sym same ∙ ap (free old.terms) (sym at.events) ∙ ap (λ (t : Terms). free t new.sheet.events) (sym at.remains.told.terms) ∙ none);
            why = inl (by, Contains-first (event by StartFailed) _);
          };
          back = ap out at.events ∙ through (λ es. out es ≡ []) (λ es none. out-same old.terms es (event by StartFailed) refl refl ∙ none) (λ es none. out-same old.terms es (event by DaemonLost) refl refl ∙ none) may.wanted.idle.back;
        }

    pub failed-events : new.sheet.events ≡ old.sheet.events ++ step_of old.terms old.sheet.events by StartFailed
    failed-events = failed_at.events

  pub failing-stops : (fault : CoreFault) → Refuses old new (event by StartFailed) fault → StopsFiltering by old new fault
  failing-stops fault refuses = filtering-halts by old new StartFailed fault sound refl may refuses keeps
