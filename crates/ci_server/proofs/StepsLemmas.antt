-- The steps of a request, as far as they come.
use Rattle.std.proofs.Common.{arith, ◌≡◌, ◌∙◌, ◌==◌, ℕ, ◌||◌, false, List, [], ◌∷◌, ◌++◌, length, slice_get, zero, suc, refl, ap, append-nil, append_assoc}
use Rattle.std.proofs.lemmas.List.Folds.{list_any-append}
use Rattle.std.specs.List.{list_any}
use Rattle.ci_journal.specs.declared.event.Event.{Event}
use Rattle.ci_journal.specs.declared.request.Request.{Request}
use Rattle.ci_journal.specs.Folds.{requests_in, request_at, is_opened, is_replied, openings, reply_numbers}
use Rattle.ci_journal.specs.Step.{MaySay}
use Rattle.ci_journal.specs.Tells.{Tells}
use Rattle.ci_journal.proofs.TellsLemmas.{tellings-append}
use Rattle.ci_book.specs.declared.core_fault.CoreFault.{CoreFault}
use Rattle.ci_book.specs.declared.core_fault.CoreFault.TheVariants.{OutOfMemory}
use Rattle.ci_holdings.specs.Core.{Core}
use Rattle.ci_core.specs.Fixed.{KeepsFixed}
use Rattle.ci_holdings.specs.Refusals.{Refuses}
use Rattle.ci_holdings.proofs.HaltsLemmas.{is_failed}
use Rattle.ci_server.specs.Served.{FitsSteps, ServesSteps, StopsSteps}
use Rattle.ci_worker.specs.Stops.{IsAt}
use Rattle.ci_server.specs.Turns.{AreSteps, AreFirst}
use Rattle.ci_worker.proofs.StepLemmas.{IsAt-then, IsStep}
use Rattle.ci_worker.proofs.StopLemmas.{NotesInRoom, StopsIn-map, StopsIn-refused, StopsIn-starved}

pub IsAt-step : (old a b : Core) (steps : List Event) (e : Event) → IsAt old a steps → IsStep a b e → IsAt old b (steps ++ e ∷ [])
IsAt-step old a b steps e at step = IsAt-then old a b steps (e ∷ []) at step

pub requests_in-append : (xs ys : List Event) → requests_in (xs ++ ys) ≡ requests_in xs ++ requests_in ys
requests_in-append xs ys = tellings-append (λ (t : Tells). t.request) xs ys

pub is_replied-append : (xs ys : List Event) (id : ℕ) → is_replied (xs ++ ys) id ≡ (is_replied xs id || is_replied ys id)
is_replied-append xs ys id =
    ap (λ rs. list_any (λ r. r == id) rs) (tellings-append (λ (t : Tells). t.reply) xs ys) ∙ list_any-append (λ r. r == id) (reply_numbers xs) (reply_numbers ys)

pub is_opened-append : (xs ys : List Event) (id : ℕ) → is_opened (xs ++ ys) id ≡ (is_opened xs id || is_opened ys id)
is_opened-append xs ys id =
    ap (λ os. list_any (λ o. o == id) os) (tellings-append (λ (t : Tells). t.opening) xs ys) ∙ list_any-append (λ o. o == id) (openings xs) (openings ys)

-- steps that ask nothing leave the requests as they are
pub request_at-append : (xs ys : List Event) → requests_in ys ≡ [] → (id : ℕ) → request_at (xs ++ ys) id ≡ request_at xs id
request_at-append xs ys none zero = refl
request_at-append xs ys none (suc k) = ap (λ rs. slice_get rs k) (requests_in-append xs ys ∙ ap (λ rs. requests_in xs ++ rs) none ∙ append-nil (requests_in xs))

-- behind steps that neither ask nor reply, a request may be replied to as before
pub MaySay-at : (old now : Core) (steps : List Event) (id : ℕ) → IsAt old now steps → requests_in steps ≡ [] → is_replied steps id ≡ false → MaySay old.sheet.events id → MaySay now.sheet.events id
MaySay-at old now steps id at none_asked none_replied may =
    let same : requests_in now.sheet.events ≡ requests_in old.sheet.events = ap requests_in at.events ∙ requests_in-append old.sheet.events steps ∙ rw none_asked (append-nil _) in
    record {
      numbered = may.numbered;
      asked_before = omega (arith, may.asked_before, ap length same);
      unreplied = ap (λ es. is_replied es id) at.events ∙ is_replied-append old.sheet.events steps id ∙ rw (may.unreplied, none_replied) refl;
    }

module _ (old : Core) (id : ℕ) (request : Request) where
  -- the next of the steps was refused
  pub steps-stop : (now new : Core) (steps : List Event) (e : Event) (fault : CoreFault) → is_failed e.what ≡ false → IsAt old now steps → AreFirst old.terms old.sheet.events id request steps
      → AreFirst old.terms old.sheet.events id request (steps ++ e ∷ []) → Refuses now new e fault → KeepsFixed now new → NotesInRoom now e fault → StopsSteps old new id request fault
  steps-stop now new steps e fault other at first with_next refuses keeps room =
      let F = FitsSteps old.terms old.sheet.events id request in
      StopsIn-map F F (λ _ fits. fits) old now new fault at.remains
      (StopsIn-refused F now new e fault at.sound other (steps, first, at.events)
      (steps ++ e ∷ [], with_next, ap (λ es. es ++ e ∷ []) at.events ∙ append_assoc old.sheet.events steps (e ∷ [])) refuses keeps room)

  -- there was no memory for what the next step needs
  pub steps-starve : (now : Core) (steps : List Event) → IsAt old now steps → AreFirst old.terms old.sheet.events id request steps → StopsSteps old now id request OutOfMemory
  steps-starve now steps at first =
      let F = FitsSteps old.terms old.sheet.events id request in
      StopsIn-map F F (λ _ fits. fits) old now now OutOfMemory at.remains (StopsIn-starved F now at.sound (steps, first, at.events))

  -- all steps were made
  pub steps-serve : (now new : Core) (steps : List Event) (e : Event) → IsAt old now steps → IsStep now new e → AreSteps old.terms old.sheet.events id request (steps ++ e ∷ []) → ServesSteps old new id request
  steps-serve now new steps e at step made =
      let all = IsAt-step old now new steps e at step in
      record { steps = steps ++ e ∷ []; made = made; events = all.events; remains = all.remains; sound = all.sound }
