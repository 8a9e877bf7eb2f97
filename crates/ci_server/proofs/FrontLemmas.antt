-- The steps of a request: what they add to a journal.
use Rattle.std.proofs.Common.{◌≡◌, ◌∙◌, ◌+◌, ◌==◌, ◌&&◌, ℕ, Bool, true, false, cond, List, [], ◌∷◌, ◌++◌, option_to_list, filter_map, inl, ⊎_elim, refl, ap, sym, subst, append-nil}
use Rattle.std.specs.List.{AllByRecursion}
use Rattle.ci_base.specs.declared.numbers.Seq.{Seq}
use Rattle.ci_change.specs.declared.notice.Notice.{Notice}
use Rattle.ci_change.specs.declared.notice.What.{What}
use Rattle.ci_chunk.specs.declared.piece.Piece.{Piece}
use Rattle.ci_journal.specs.declared.event.Event.{Event}
use Rattle.ci_journal.specs.declared.event.Happened.{Happened}
use Rattle.ci_journal.specs.declared.event.Happened.TheVariants.{Asked, Noted, Put, Erased, Started, StartFailed, DaemonLost, Begun, BatchDone, BatchDied, Returned, Shadowed, MasterBegun, MasterStep, MasterEnded, Opened, Answered, Said}
use Rattle.ci_journal.specs.declared.reply.Reply.{Reply}
use Rattle.ci_journal.specs.declared.request.Request.{Request}
use Rattle.ci_journal.specs.declared.request.Request.TheVariants as request
use Rattle.ci_journal.specs.Daemon.{failures, most_failures}
use Rattle.ci_journal.specs.Folds.{requests_in, openings, reply_numbers}
use Rattle.ci_journal.specs.Shape.{lists, most_lists}
use Rattle.ci_journal.specs.Step.{step_of}
use Rattle.ci_journal.specs.Tells.{Tells, event, tells}
use Rattle.ci_journal.specs.Terms.{Terms}
use Rattle.ci_journal.proofs.TellsLemmas.{filter_map-push, tellings-append}
use Rattle.ci_server.specs.Right.{IsRight}
use Rattle.ci_worker.specs.Way.{IsNextOf}
use Rattle.ci_server.specs.Turns.{AreSteps, Front, IsNextStep, IsNoting}
use Rattle.ci_server.specs.Turns.Front.{Begins, Goes}

-- the event is no reply
abbrev pub IsSilent : Event → Type 0
IsSilent e = (id : ℕ) (said : Reply) → e.what ≡ Said id said → ⊥

-- the events of a step ask nothing and reply to nothing, and open what it tells
pub record AddsQuietly (what : Happened) (events : List Event) : Type 0 where
  pub requests : requests_in events ≡ []
  pub opening : openings events ≡ option_to_list (tells what).opening
  pub replies : reply_numbers events ≡ []
  pub silent : AllByRecursion IsSilent events

shadow_silent : IsSilent (event 0 Shadowed)
shadow_silent id said is = absurd (cc)

quiet-put : (path : List ℕ) (seq : Seq) (pieces : List Piece) (b : Bool) → AddsQuietly (Put path seq pieces) (cond b (event 0 Shadowed ∷ []) [] ++ event 0 (Put path seq pieces) ∷ [])
quiet-put path seq pieces true = record { requests = refl; opening = refl; replies = refl; silent = (shadow_silent, (λ id said is. absurd (cc), tt)) }
quiet-put path seq pieces false = record { requests = refl; opening = refl; replies = refl; silent = (λ id said is. absurd (cc), tt) }

quiet-erased : (path : List ℕ) (seq : Seq) (b : Bool) → AddsQuietly (Erased path seq) (cond b (event 0 Shadowed ∷ []) [] ++ event 0 (Erased path seq) ∷ [])
quiet-erased path seq true = record { requests = refl; opening = refl; replies = refl; silent = (shadow_silent, (λ id said is. absurd (cc), tt)) }
quiet-erased path seq false = record { requests = refl; opening = refl; replies = refl; silent = (λ id said is. absurd (cc), tt) }

quiet-noted : (notice : Notice) → AddsQuietly (Noted notice) (event 0 (Noted notice) ∷ [])
quiet-noted notice = record { requests = refl; opening = refl; replies = refl; silent = (λ id said is. absurd (cc), tt) }

quiet-opened : (id : ℕ) → AddsQuietly (Opened id) (event 0 (Opened id) ∷ [])
quiet-opened number = record { requests = refl; opening = refl; replies = refl; silent = (λ id said is. absurd (cc), tt) }

module _ (terms : Terms) (journal : List Event) where
  quiet-noting : (path : List ℕ) (kind : What) (steps : List Happened) (what : Happened) → IsNoting path kind steps what → AddsQuietly what (step_of terms journal 0 what)
  quiet-noting path kind steps what next =
      subst (λ w. AddsQuietly w (step_of terms journal 0 w)) (sym next.2) (quiet-noted (record { path = path; seq = next.1; what = kind }))

  -- the steps of a filtering
  quiet-filtering : (what : Happened) → IsNextOf terms 0 journal what → AddsQuietly what (step_of terms journal 0 what)
  quiet-filtering (Erased path seq) next = quiet-erased path seq (terms.in_lists && lists journal == most_lists)
  quiet-filtering Started next = record { requests = refl; opening = refl; replies = refl; silent = (λ id said is. absurd (cc), tt) }
  quiet-filtering StartFailed next = of (failures journal + 1 == most_failures)
    where
      of : (last : Bool) → AddsQuietly StartFailed (event 0 StartFailed ∷ cond last (event 0 DaemonLost ∷ []) [])
      of true = record { requests = refl; opening = refl; replies = refl; silent = (λ id said is. absurd (cc), (λ id said is. absurd (cc), tt)) }
      of false = record { requests = refl; opening = refl; replies = refl; silent = (λ id said is. absurd (cc), tt) }
  quiet-filtering (Begun batch) next = record { requests = refl; opening = refl; replies = refl; silent = (λ id said is. absurd (cc), tt) }
  quiet-filtering (BatchDone number outcomes) next = of (terms.in_lists && lists journal == most_lists)
    where
      of : (full : Bool) → AddsQuietly (BatchDone number outcomes) (cond full (event 0 Shadowed ∷ []) [] ++ event 0 (BatchDone number outcomes) ∷ [])
      of true = record { requests = refl; opening = refl; replies = refl; silent = (shadow_silent, (λ id said is. absurd (cc), tt)) }
      of false = record { requests = refl; opening = refl; replies = refl; silent = (λ id said is. absurd (cc), tt) }
  quiet-filtering (BatchDied number charged) next = record { requests = refl; opening = refl; replies = refl; silent = (λ id said is. absurd (cc), tt) }
  quiet-filtering (Returned number) next = record { requests = refl; opening = refl; replies = refl; silent = (λ id said is. absurd (cc), tt) }
  quiet-filtering (Asked id request) next = absurd next
  quiet-filtering (Noted notice) next = absurd next
  quiet-filtering (Put path seq pieces) next = absurd next
  quiet-filtering DaemonLost next = absurd next
  quiet-filtering Shadowed next = absurd next
  quiet-filtering MasterBegun next = absurd next
  quiet-filtering (MasterStep split) next = absurd next
  quiet-filtering MasterEnded next = absurd next
  quiet-filtering (Opened id) next = absurd next
  quiet-filtering (Answered id at paths) next = absurd next
  quiet-filtering (Said id reply) next = absurd next

  quiet : (id : ℕ) (request : Request) (steps : List Happened) (what : Happened) → IsNextStep terms journal id request steps what → AddsQuietly what (step_of terms journal 0 what)
  quiet id (request.Changed path) steps what next = quiet-noting path _ steps what next
  quiet id (request.Deleted path) steps what next =
      ⊎_elim (λ noting. quiet-noting path _ steps what noting)
      (λ gone. subst (λ w. AddsQuietly w (step_of terms journal 0 w)) (sym gone.2) (quiet-erased path gone.0 (terms.in_lists && lists journal == most_lists))) next
  quiet id (request.Put path text) steps what next =
      ⊎_elim (λ noting. quiet-noting path _ steps what noting)
      (λ put. subst (λ w. AddsQuietly w (step_of terms journal 0 w)) (sym put.2) (quiet-put path put.0 _ (terms.in_lists && lists journal == most_lists))) next
  quiet id (request.Query text) steps what next = subst (λ w. AddsQuietly w (step_of terms journal 0 w)) (sym next.1) (quiet-opened id)
  quiet id request.Filter steps what next = quiet-filtering what next
  quiet id request.Shadow steps what next = absurd next
  quiet id request.Master steps what next = absurd next
  quiet id request.Step steps what next = absurd next
  quiet id request.Scan steps what next = absurd next
  quiet id request.Pending steps what next = absurd next
  quiet id request.Unfiltered steps what next = absurd next
  quiet id request.Status steps what next = absurd next
  quiet id (request.Load seed count) steps what next = absurd next
  quiet id request.Wait steps what next = absurd next
  quiet id request.Quit steps what next = absurd next
  quiet id request.Bad steps what next = absurd next
  quiet id request.Long steps what next = absurd next

pub All-append : {X : Type 0} (P : X → Type 0) (xs ys : List X) → AllByRecursion P xs → AllByRecursion P ys → AllByRecursion P (xs ++ ys)
All-append P [] ys one other = other
All-append P (x ∷ xs) ys one other = (one.0, All-append P xs ys one.1 other)

-- the numbers of the queries that some steps open
abbrev pub openings_of : List Happened → List ℕ
openings_of steps = filter_map (λ s. (tells s).opening) steps

-- so do the events of all steps so far
pub record FrontAdds (steps : List Happened) (events : List Event) : Type 0 where
  pub requests : requests_in events ≡ []
  pub opening : openings events ≡ openings_of steps
  pub replies : reply_numbers events ≡ []
  pub silent : AllByRecursion IsSilent events

pub front-adds : (terms : Terms) (journal : List Event) (id : ℕ) (request : Request) (steps : List Happened) (events : List Event) → Front terms journal id request steps events → FrontAdds steps events
front-adds terms journal id request _ _ Begins = record { requests = refl; opening = refl; replies = refl; silent = tt }
front-adds terms journal id request _ _ (Goes steps events what front next) =
    let before = front-adds terms journal id request steps events front in
    let adds = quiet terms (journal ++ events) id request steps what next in
    let more = step_of terms (journal ++ events) 0 what in
    record {
      requests = tellings-append (λ (t : Tells). t.request) events more ∙ ap (λ rs. rs ++ requests_in more) before.requests ∙ adds.requests;
      opening = tellings-append (λ (t : Tells). t.opening) events more ∙ ap (λ os. os ++ openings more) before.opening ∙ ap (λ os. openings_of steps ++ os) adds.opening
          ∙ sym (filter_map-push (λ (s : Happened). (tells s).opening) steps what);
      replies = tellings-append (λ (t : Tells). t.reply) events more ∙ ap (λ rs. rs ++ reply_numbers more) before.replies ∙ adds.replies;
      silent = All-append IsSilent events more before.silent adds.silent;
    }

module _ (terms : Terms) (journal : List Event) (id : ℕ) (request : Request) where
  -- the first step
  pub front-one : (what : Happened) → IsNextStep terms (journal ++ []) id request [] what → Front terms journal id request (what ∷ []) (step_of terms (journal ++ []) 0 what)
  front-one what next = Goes [] [] what Begins next

  -- the turn ends with a right reply
  pub whole-replied : (steps : List Happened) (events : List Event) (said : Reply) → Front terms journal id request steps events → IsRight terms (journal ++ events) events id request said
      → AreSteps terms journal id request (events ++ event 0 (Said id said) ∷ [])
  whole-replied steps events said front right = record { steps = steps; events = events; front = front; last = Said id said; ends = inl (said, refl, right); events_are = refl }

  -- which is all of it
  pub whole-alone : (said : Reply) → IsRight terms journal [] id request said → AreSteps terms journal id request (event 0 (Said id said) ∷ [])
  whole-alone said right = whole-replied [] [] said Begins (subst (λ es. IsRight terms es [] id request said) (sym (append-nil journal)) right)
