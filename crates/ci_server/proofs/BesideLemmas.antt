-- The steps of a request that isn't a filtering stand beside the filtering: they begin and end no batch, and start nothing.
use Rattle.std.proofs.Common.{◌≡◌, ◌∙◌, ◌==◌, ◌&&◌, ℕ, Bool, true, false, cond, List, [], ◌∷◌, ◌++◌, None, Some, Result, Ok, Err, OnOk, IfErr, refl, ap, sym, subst, append-nil, append_assoc, ⊎_elim}
use Rattle.std.specs.List.{AllByRecursion}
use Rattle.ci_base.specs.declared.numbers.Seq.{Seq}
use Rattle.ci_change.specs.declared.notice.What.{What}
use Rattle.ci_chunk.specs.declared.piece.Piece.{Piece}
use Rattle.ci_journal.specs.declared.event.Event.{Event}
use Rattle.ci_journal.specs.declared.event.Happened.{Happened}
use Rattle.ci_journal.specs.declared.event.Happened.TheVariants.{Asked, Erased, Put, Shadowed}
use Rattle.ci_journal.specs.declared.request.Request.{Request}
use Rattle.ci_journal.specs.declared.request.Request.TheVariants as request
use Rattle.ci_journal.specs.Filings.{Filings, filings, out}
use Rattle.ci_journal.specs.Shape.{lists, most_lists}
use Rattle.ci_journal.specs.Step.{step_of}
use Rattle.ci_journal.specs.Tells.{event, tells}
use Rattle.ci_journal.specs.Tells.Filed.{One, Begins, Ends}
use Rattle.ci_journal.specs.Terms.{Terms}
use Rattle.ci_journal.proofs.FoldsLemmas.{file_where, filings-push}
use Rattle.ci_book.specs.declared.core_fault.CoreFault.{CoreFault}
use Rattle.ci_book.specs.declared.core_fault.CoreFault.TheVariants.{TooManyDocuments, JournalFull, OutOfMemory, WriteFault, Ended}
use Rattle.ci_holdings.specs.Core.{Core}
use Rattle.ci_holdings.specs.Refusals.{IsStep, Refuses, Stops}
use Rattle.ci_holdings.specs.Steps.{Makes, step_in}
use Rattle.ci_server.specs.Requests.{is_filter}
use Rattle.ci_server.specs.Served.{FitsSteps, ServesSteps, StopsSteps}
use Rattle.ci_server.specs.Turns.{AreFirst, AreSteps, Front, IsNextStep, IsNoting}
use Rattle.ci_server.specs.Turns.Front.{Begins as none, Goes}
use Rattle.ci_worker.specs.Filtering.{GoesBeside, IsBeside, is_of_batch}
use Rattle.ci_worker.proofs.StopLemmas.{Fits-stops}
use Rattle.ci_server.proofs.FrontLemmas.{All-append}

-- ---- what stands beside leaves the batches that are out as they are

out-push : (journal : List Event) (e : Event) → IsBeside e → out (journal ++ e ∷ []) ≡ out journal
out-push journal e beside = of (tells e.what).filed (filings-push journal e) beside.unbatched
  where
    of : (o : _) → filings (journal ++ e ∷ []) ≡ file_where (filings journal) o → is_of_batch o ≡ false → out (journal ++ e ∷ []) ≡ out journal
    of None is other = ap (λ (f : Filings). f.out) is
    of (Some (One filing)) is other = ap (λ (f : Filings). f.out) is
    of (Some (Begins batch)) is other = absurd (cc)
    of (Some (Ends number ending)) is other = absurd (cc)

out-behind : (journal events : List Event) → AllByRecursion IsBeside events → out (journal ++ events) ≡ out journal
out-behind journal [] each = ap out (append-nil journal)
out-behind journal (e ∷ events) each =
    ap out (sym (append_assoc journal (e ∷ []) events)) ∙ out-behind (journal ++ e ∷ []) events each.1 ∙ out-push journal e each.0

pub out-beside : (before now : List Event) → GoesBeside before now → out now ≡ out before
out-beside before now beside = ap out beside.whole ∙ out-behind before beside.events beside.each

-- ---- a step that tells of an event that stands beside

module _ (old new : Core) (e : Event) (beside : IsBeside e) where
  none_added : new.sheet.events ≡ old.sheet.events → GoesBeside old.sheet.events new.sheet.events
  none_added same = record { events = []; whole = same ∙ sym (append-nil old.sheet.events); each = tt }

  one_added : new.sheet.events ≡ old.sheet.events ++ e ∷ [] → GoesBeside old.sheet.events new.sheet.events
  one_added added = record { events = e ∷ []; whole = added; each = (beside, tt) }

  stopped_beside : (fault : CoreFault) → Stops old new e fault → GoesBeside old.sheet.events new.sheet.events
  stopped_beside TooManyDocuments stops = none_added stops.1.events
  stopped_beside (JournalFull used more) stops = none_added stops.0.stays.events
  stopped_beside OutOfMemory stops = none_added stops.stays.events
  stopped_beside WriteFault stops = one_added stops.0.events
  stopped_beside Ended stops = absurd stops

  -- it was made
  pub made-beside : step_in old e ≡ e ∷ [] → Makes old new e → GoesBeside old.sheet.events new.sheet.events
  made-beside alone makes = one_added (makes.adds.events ∙ ap (λ es. old.sheet.events ++ es) alone)

  -- or refused
  pub refused-beside : (fault : CoreFault) → Refuses old new e fault → GoesBeside old.sheet.events new.sheet.events
  refused-beside fault refuses =
      ⊎_elim (λ over. none_added (ap (λ (c : Core). c.sheet.events) over.same)) (λ refused. stopped_beside fault refused.halts.1) refuses

  pub tried-beside : {T : Type 0} (result : Result T CoreFault) → step_in old e ≡ e ∷ [] → IsStep old new e result → GoesBeside old.sheet.events new.sheet.events
  tried-beside (Ok answer) alone step = made-beside alone step.ok
  tried-beside (Err fault) alone step = refused-beside fault step.refused

-- a request was asked
pub asked-beside : (old new : Core) (number : ℕ) (asks : Request) → Makes old new (event 0 (Asked number asks)) → GoesBeside old.sheet.events new.sheet.events
asked-beside old new number asks makes = made-beside old new (event 0 (Asked number asks)) (record { unbatched = refl; unstarted = refl; unlinked = refl }) refl makes

-- ---- the steps

shadow_beside : IsBeside (event 0 Shadowed)
shadow_beside = record { unbatched = refl; unstarted = refl; unlinked = refl }

put-beside : (path : List ℕ) (seq : Seq) (pieces : List Piece) (b : Bool) → AllByRecursion IsBeside (cond b (event 0 Shadowed ∷ []) [] ++ event 0 (Put path seq pieces) ∷ [])
put-beside path seq pieces true = (shadow_beside, (record { unbatched = refl; unstarted = refl; unlinked = refl }, tt))
put-beside path seq pieces false = (record { unbatched = refl; unstarted = refl; unlinked = refl }, tt)

erased-beside : (path : List ℕ) (seq : Seq) (b : Bool) → AllByRecursion IsBeside (cond b (event 0 Shadowed ∷ []) [] ++ event 0 (Erased path seq) ∷ [])
erased-beside path seq true = (shadow_beside, (record { unbatched = refl; unstarted = refl; unlinked = refl }, tt))
erased-beside path seq false = (record { unbatched = refl; unstarted = refl; unlinked = refl }, tt)

module _ (terms : Terms) (journal : List Event) where
  noting-beside : (path : List ℕ) (kind : What) (steps : List Happened) (what : Happened) → IsNoting path kind steps what → AllByRecursion IsBeside (step_of terms journal 0 what)
  noting-beside path kind steps what next =
      subst (λ w. AllByRecursion IsBeside (step_of terms journal 0 w)) (sym next.2) (record { unbatched = refl; unstarted = refl; unlinked = refl }, tt)

  step-beside : (id : ℕ) (asks : Request) (steps : List Happened) (what : Happened) → is_filter asks ≡ false → IsNextStep terms journal id asks steps what → AllByRecursion IsBeside (step_of terms journal 0 what)
  step-beside id (request.Changed path) steps what other next = noting-beside path _ steps what next
  step-beside id (request.Deleted path) steps what other next =
      ⊎_elim (λ noting. noting-beside path _ steps what noting)
      (λ gone. subst (λ w. AllByRecursion IsBeside (step_of terms journal 0 w)) (sym gone.2) (erased-beside path gone.0 (terms.in_lists && lists journal == most_lists))) next
  step-beside id (request.Put path text) steps what other next =
      ⊎_elim (λ noting. noting-beside path _ steps what noting)
      (λ put. subst (λ w. AllByRecursion IsBeside (step_of terms journal 0 w)) (sym put.2) (put-beside path put.0 _ (terms.in_lists && lists journal == most_lists))) next
  step-beside id (request.Query text) steps what other next =
      subst (λ w. AllByRecursion IsBeside (step_of terms journal 0 w)) (sym next.1) (record { unbatched = refl; unstarted = refl; unlinked = refl }, tt)
  step-beside id request.Filter steps what other next = absurd (cc)
  step-beside id request.Shadow steps what other next = absurd next
  step-beside id request.Master steps what other next = absurd next
  step-beside id request.Step steps what other next = absurd next
  step-beside id request.Scan steps what other next = absurd next
  step-beside id request.Pending steps what other next = absurd next
  step-beside id request.Unfiltered steps what other next = absurd next
  step-beside id request.Status steps what other next = absurd next
  step-beside id (request.Load seed count) steps what other next = absurd next
  step-beside id request.Wait steps what other next = absurd next
  step-beside id request.Quit steps what other next = absurd next
  step-beside id request.Bad steps what other next = absurd next
  step-beside id request.Long steps what other next = absurd next

front-beside : (terms : Terms) (journal : List Event) (id : ℕ) (asks : Request) (steps : List Happened) (events : List Event) → is_filter asks ≡ false → Front terms journal id asks steps events → AllByRecursion IsBeside events
front-beside terms journal id asks _ _ other none = tt
front-beside terms journal id asks _ _ other (Goes steps events what front next) =
    All-append IsBeside events (step_of terms (journal ++ events) 0 what) (front-beside terms journal id asks steps events other front) (step-beside terms (journal ++ events) id asks steps what other next)

module _ (terms : Terms) (journal : List Event) (id : ℕ) (asks : Request) (other : is_filter asks ≡ false) where
  steps-beside : (all : List Event) → AreSteps terms journal id asks all → AllByRecursion IsBeside all
  steps-beside all made =
      subst (AllByRecursion IsBeside) (sym made.events_are)
      (All-append IsBeside made.events (event 0 made.last ∷ []) (front-beside terms journal id asks made.steps made.events other made.front)
      (⊎_elim (λ replied. subst (λ w. AllByRecursion IsBeside (event 0 w ∷ [])) (sym replied.1) (record { unbatched = refl; unstarted = refl; unlinked = refl }, tt))
      (λ answered. subst (λ w. AllByRecursion IsBeside (event 0 w ∷ [])) (sym answered.3) (record { unbatched = refl; unstarted = refl; unlinked = refl }, tt)) made.ends))

  first-beside : (events : List Event) → AreFirst terms journal id asks events → AllByRecursion IsBeside events
  first-beside events first = ⊎_elim (λ front. front-beside terms journal id asks front.0 events other front.1) (λ made. steps-beside events made) first

-- whether they were all made or one was refused
pub serves-beside : {T : Type 0} (old new : Core) (id : ℕ) (asks : Request) (result : Result T CoreFault) → is_filter asks ≡ false → OnOk result (ServesSteps old new id asks) → IfErr result (StopsSteps old new id asks)
    → GoesBeside old.sheet.events new.sheet.events
serves-beside old new id asks (Ok answer) other serves stops =
    record { events = serves.steps; whole = serves.events; each = steps-beside old.terms old.sheet.events id asks other serves.steps serves.made }
serves-beside old new id asks (Err fault) other serves stops =
    let fits = Fits-stops (FitsSteps old.terms old.sheet.events id asks) old new fault stops in
    record { events = fits.0; whole = fits.2; each = first-beside old.terms old.sheet.events id asks other fits.0 fits.1 }

-- ---- the one request that has a filtering made

pub filter-asked : (asks : Request) → is_filter asks ≡ true → asks ≡ request.Filter
filter-asked request.Filter is = refl
filter-asked (request.Changed path) is = absurd (cc)
filter-asked (request.Deleted path) is = absurd (cc)
filter-asked (request.Put path text) is = absurd (cc)
filter-asked (request.Query text) is = absurd (cc)
filter-asked request.Shadow is = absurd (cc)
filter-asked request.Master is = absurd (cc)
filter-asked request.Step is = absurd (cc)
filter-asked request.Scan is = absurd (cc)
filter-asked request.Pending is = absurd (cc)
filter-asked request.Unfiltered is = absurd (cc)
filter-asked request.Status is = absurd (cc)
filter-asked (request.Load seed count) is = absurd (cc)
filter-asked request.Wait is = absurd (cc)
filter-asked request.Quit is = absurd (cc)
filter-asked request.Bad is = absurd (cc)
filter-asked request.Long is = absurd (cc)

-- ---- what holds whether a call succeeds or not

pub OnOk-given : {T P : Type 0} (result : Result T CoreFault) → P → OnOk result P
OnOk-given (Ok answer) holds = holds
OnOk-given (Err fault) holds = tt
